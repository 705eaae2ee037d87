-- Legal lists of each length: a list that has each event once a turn, and the first parts of it.
use Rattle.std.proofs.Common.{◌≡◌, ◌∙◌, ℕ, zero, suc, ◌+◌, ◌*◌, ◌<◌, ◌≤◌, List, [], ◌∷◌, length, take, inl, inr, refl, arith, ap₂, sym, subst}
use Rattle.std.proofs.Math.Nat.{suc-mul, zero-mul}
use Rattle.std.proofs.lemmas.Bool.{cases_eq}
use Rattle.std.proofs.lemmas.List.{length-take-le, take_all}
use Rattle.ds_marked.specs.Graph.{Graph, IsConsistent, IsLegal, IsLegalFrom, IsLive, counted, counts_after}
use Rattle.ds_marked.proofs.CountLemmas.{counted-same, counted-other}
use Rattle.ds_marked.proofs.Progress.{reachability}
use Rattle.ds_marked.specs.Progress.{HasFiredAll}
use Rattle.ds_table_laws.specs.Firings.{LegalListsExist}

-- how often the first events have fired together
total : (ℕ → ℕ) → ℕ → ℕ
total count zero = 0
total count (suc n) = total count n + count n

-- a firing of none of them
total_past : (v n : ℕ) (count : ℕ → ℕ) → n ≤ v → total (counted v count) n ≡ total count n
unfolding total
total_past v zero count past = refl
total_past v (suc n) count past =
    let other : counted v count n ≡ count n = counted-other v n count (λ e. omega (arith, e)) in
    ap₂ (λ (a b : ℕ). a + b) (total_past v n count (omega arith)) other

-- a firing of one of them
total_one : (v n : ℕ) (count : ℕ → ℕ) → v < n → total (counted v count) n ≡ total count n + 1
unfolding total
total_one v zero count inside = absurd (omega arith)
total_one v (suc n) count inside = elim (cases_eq v n) [
  | inl e ↦
      (let before : total (counted v count) n ≡ total count n = total_past v n count (omega arith) in
      let here : counted v count n ≡ count n + 1 = counted-same v n count (sym e) in
      ap₂ (λ (a b : ℕ). a + b) before here ∙ (let e : total count n + (count n + 1) ≡ total count n + count n + 1 = omega arith in e))
  | inr ne ↦
      (let before : total (counted v count) n ≡ total count n + 1 = total_one v n count (omega arith) in
      let other : counted v count n ≡ count n = counted-other v n count (λ e. ne (sym e)) in
      ap₂ (λ (a b : ℕ). a + b) before other ∙ (let e : total count n + 1 + count n ≡ total count n + count n + 1 = omega arith in e))
]

-- firings of a list
total_after : (g : Graph) (limit : ℕ) (events : List ℕ) (count : ℕ → ℕ) → IsLegalFrom g limit count events
    → total (counts_after count events) (length g.events) ≡ total count (length g.events) + length events
total_after g limit [] count legal = omega arith
total_after g limit (v ∷ events) count (enabled, legal) =
    let rest : total (counts_after (counted v count) events) (length g.events) ≡ total (counted v count) (length g.events) + length events =
    total_after g limit events (counted v count) legal in
    let one : total (counted v count) (length g.events) ≡ total count (length g.events) + 1 = total_one v (length g.events) count enabled.event in
    omega (arith, rest, one)

-- each as often as the others
total_each : (count : ℕ → ℕ) (turns n : ℕ) → ((v : ℕ) → v < n → count v ≡ turns) → total count n ≡ n * turns
unfolding total
total_each count turns zero each = sym (zero-mul turns)
total_each count turns (suc n) each =
    let before : total count n ≡ n * turns = total_each count turns n (λ v below. each v (omega arith)) in
    let here : count n ≡ turns = each n (omega arith) in
    ap₂ (λ (a b : ℕ). a + b) before here ∙ sym (suc-mul n turns)

total_none : (n : ℕ) → total (λ _. 0) n ≡ 0
unfolding total
total_none zero = refl
total_none (suc n) = (let before : total (λ _. 0) n ≡ 0 = total_none n in let e : total (λ _. 0) n + 0 ≡ 0 = omega (arith, before) in e)

-- a list that has each event once a turn is as long as it may be
pub whole_long : (g : Graph) (turns : ℕ) (events : List ℕ) → IsLegal g turns events → HasFiredAll g turns (counts_after (λ _. 0) events)
    → length events ≡ length g.events * turns
whole_long g turns events legal all =
    let after : total (counts_after (λ _. 0) events) (length g.events) ≡ total (λ _. 0) (length g.events) + length events =
    total_after g turns events (λ _. 0) legal in
    let each : total (counts_after (λ _. 0) events) (length g.events) ≡ length g.events * turns =
    total_each (counts_after (λ _. 0) events) turns (length g.events) all in
    let none : total (λ _. 0) (length g.events) ≡ 0 = total_none (length g.events) in
    let sum : total (λ _. 0) (length g.events) + length events ≡ length events = omega (arith, none) in
    sym sum ∙ (sym after ∙ each)

-- a first part of a legal list is one
pub legal_take : (g : Graph) (limit : ℕ) (many : ℕ) (events : List ℕ) (count : ℕ → ℕ) → IsLegalFrom g limit count events → IsLegalFrom g limit count (take many events)
legal_take g limit zero events count legal = tt
legal_take g limit (suc many) [] count legal = tt
legal_take g limit (suc many) (v ∷ events) count (enabled, legal) = (enabled, legal_take g limit many events (counted v count) legal)

-- counts of one a turn each are consistent
each_once : (g : Graph) (turns : ℕ) → IsConsistent g turns (λ _. turns)
each_once g turns = record { agrees = λ j d inside. omega arith; within = λ v inside. omega arith }

-- a live graph has a legal list with each event once a turn
pub whole_list : (g : Graph) → IsLive g → (turns : ℕ) → (events : List ℕ) × IsLegal g turns events × HasFiredAll g turns (counts_after (λ _. 0) events)
whole_list g live turns = reachability g live turns (λ _. turns) (each_once g turns)

-- and its first parts are legal lists of each length
pub legal_lists_exist : LegalListsExist
legal_lists_exist g live turns many few =
    let (all, legal, fired) = whole_list g live turns in
    let long : length all ≡ length g.events * turns = whole_long g turns all legal fired in (
      take many all,
      record {
        legal = legal_take g turns many all (λ _. 0) legal;
        many_are = length-take-le many all (subst (λ (n : ℕ). many ≤ n) (sym long) few);
        whole = λ is. subst (λ (events : List ℕ). HasFiredAll g turns (counts_after (λ _. 0) events)) (sym (take_all many all (subst (λ (n : ℕ). length all ≤ n) (long ∙ sym is) (omega arith)))) fired;
      },
    )
