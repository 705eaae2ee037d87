-- The arcs into an event: how they are chained from the last one down, and walks along them.
use Rattle.std.proofs.Common.{◌≡◌, ℕ, ◌+◌, ◌<◌, ◌≤◌, List, length, get_or, set, replicate, sym, ap, ◌∙◌, subst, arith, inl, inr, length-set, get_or-set_same, get_or-set_other, None, Some, Option, MatchOption, ◌-◌}
use Rattle.std.specs.Option.{unwrap_or}
use Rattle.std.specs.Prelude.{⊤}
use Rattle.std.specs.List.{HoldsAt}
use Rattle.std.proofs.lemmas.Bool.{cases_eq, cases_lt}
use Rattle.std.proofs.lemmas.List.{length-replicate, get_or-replicate}
use Rattle.ds_marked.specs.Into.{Enters, NoneEnters, IsNextInto, IsNextPlace, AreChains}
use Rattle.ds_marked.specs.declared.marked.Arc.{Arc}

-- no arc enters an event behind the last one
past : (arcs : List Arc) (v : ℕ) → IsNextPlace arcs v (length arcs) (length arcs)
past arcs v = record {
  low = omega arith;
  high = omega arith;
  enters = λ k. absurd (omega arith);
  between = λ k d from to. absurd (omega arith);
}

pub chained_none : (events : ℕ) (arcs : List Arc) (first next : List ℕ) → first ≡ replicate events (length arcs) → next ≡ replicate (length arcs) (length arcs)
    → AreChains events arcs (length arcs) first next
chained_none events arcs first next first_is next_is = record {
  one_each = ap (λ (xs : List ℕ). length xs) first_is ∙ length-replicate events (length arcs);
  one_an_arc = ap (λ (xs : List ℕ). length xs) next_is ∙ length-replicate (length arcs) (length arcs);
  firsts = λ v inside. subst (IsNextPlace arcs v (length arcs)) (sym (ap (λ (xs : List ℕ). get_or xs v 0) first_is ∙ get_or-replicate events v (length arcs) 0 inside)) (past arcs v);
  nexts = λ v k from enters. (let inside : k < length arcs = enters.0 in absurd (omega arith));
}

-- the chains from an arc on, of those from the next one on
module _ (events : ℕ) (arcs : List Arc) (i t : ℕ) (first next : List ℕ) (inside : i < length arcs) (is : HoldsAt (λ arc. arc.target ≡ t) arcs i)
    (near : t < events) (chains : AreChains events arcs (i + 1) first next) where
  here : IsNextPlace arcs t i i
  here = record {
    low = omega arith;
    high = omega arith;
    enters = λ k. (inside, is);
    between = λ k d from to. absurd (omega arith);
  }

  firsts : (v : ℕ) → v < events → IsNextPlace arcs v i (get_or (set first t i) v 0)
  firsts v low = elim (cases_eq v t) [
    | inl e ↦ subst (λ (v : ℕ). IsNextPlace arcs v i (get_or (set first t i) v 0)) (sym e)
        (subst (IsNextPlace arcs t i) (sym (get_or-set_same first t i 0 (omega (arith, chains.one_each)))) here)
    | inr ne ↦
        (let old : IsNextPlace arcs v (i + 1) (get_or first v 0) = chains.firsts v low in
        let above : i + 1 ≤ get_or first v 0 = old.low in
        subst (IsNextPlace arcs v i) (sym (get_or-set_other first t v i 0 ne)) (record {
          low = omega arith;
          high = old.high;
          enters = old.enters;
          between = λ k d from to. elim (cases_eq k i) [
            | inl same ↦ (λ at. ne (sym at ∙ (ap (λ (k : ℕ). (get_or arcs k d).target) same ∙ is d)))
            | inr other ↦ old.between k d (omega arith) to
          ];
        }))
  ]

  nexts : (v k : ℕ) → i ≤ k → Enters arcs v k → IsNextPlace arcs v (k + 1) (get_or (set next i (get_or first t 0)) k 0)
  nexts v k low enters = elim (cases_eq k i) [
    | inl e ↦
        (let d : Arc = record { source = 0; target = 0; tokens = 0 } in
        let same : t ≡ v = sym (is d) ∙ (sym (ap (λ (k : ℕ). (get_or arcs k d).target) e) ∙ enters.1 d) in
        let value : get_or (set next i (get_or first t 0)) k 0 ≡ get_or first t 0 =
        ap (λ (k : ℕ). get_or (set next i (get_or first t 0)) k 0) e ∙ get_or-set_same next i (get_or first t 0) 0 (omega (arith, chains.one_an_arc)) in
        subst (IsNextPlace arcs v (k + 1)) (sym value) (subst (λ (k : ℕ). IsNextPlace arcs v (k + 1) (get_or first t 0)) (sym e)
        (subst (λ (v : ℕ). IsNextPlace arcs v (i + 1) (get_or first t 0)) same (chains.firsts t near))))
    | inr ne ↦ subst (IsNextPlace arcs v (k + 1)) (sym (get_or-set_other next i k (get_or first t 0) 0 ne)) (chains.nexts v k (omega arith) enters)
  ]

  pub chained_more : AreChains events arcs i (set first t i) (set next i (get_or first t 0))
  chained_more = record {
    one_each = length-set first t i ∙ chains.one_each;
    one_an_arc = length-set next i (get_or first t 0) ∙ chains.one_an_arc;
    firsts = firsts;
    nexts = nexts;
  }

-- what is kept at a place is the next arc
pub next_into : (arcs : List Arc) (n place v from : ℕ) (next : Option ℕ) → n ≡ length arcs → IsNextPlace arcs v from place
    → MatchOption next (n ≤ place) (λ k. (k ≡ place) × (place < n)) → IsNextInto arcs v from next
next_into arcs n place v from None is at past = λ k d low high. at.between k d low (omega arith)
next_into arcs n place v from (Some k) is at (e, low) =
    subst (λ (k : ℕ). (from ≤ k) × Enters arcs v k × NoneEnters arcs v from k) (sym e) (at.low, at.enters (omega arith), at.between)

-- the arc before which a walk has come to all others into the event
abbrev pub Before : Option ℕ → ℕ → Type 0
Before None k = ⊤
Before (Some next) k = k < next

-- a walk over the arcs into an event has come to this one, or to the end: each one before it has P
pub record IsWalked (P : Arc → Type 0) (arcs : List Arc) (v : ℕ) (next : Option ℕ) : Type 0 where
  pub here : MatchOption next ⊤ (Enters arcs v)
  pub done : (k : ℕ) (d : Arc) → k < length arcs → Before next k → (get_or arcs k d).target ≡ v → P (get_or arcs k d)

module _ (P : Arc → Type 0) (arcs : List Arc) (v : ℕ) where
  -- on from the arcs before a place, all of which are done
  on_from : (from : ℕ) (next : Option ℕ) → ((k : ℕ) (d : Arc) → k < from → k < length arcs → (get_or arcs k d).target ≡ v → P (get_or arcs k d))
      → IsNextInto arcs v from next → IsWalked P arcs v next
  on_from from None before is = record {
    here = tt;
    done = λ k d inside low at. elim (cases_lt k from) [ inl under ↦ before k d under inside at | inr above ↦ absurd (is k d above inside at) ];
  }
  on_from from (Some next) before is = record {
    here = is.1;
    done = λ k d inside low at. elim (cases_lt k from) [ inl under ↦ before k d under inside at | inr above ↦ absurd (is.2 k d above low at) ];
  }

  -- and goes on from one that has P
  pub walk_next : (arc : ℕ) (next : Option ℕ) → IsWalked P arcs v (Some arc) → ((d : Arc) → P (get_or arcs arc d)) → IsNextInto arcs v (arc + 1) next → IsWalked P arcs v next
  walk_next arc next walked has is = on_from (arc + 1) next (λ k d low inside at. elim (cases_eq k arc) [
    | inl e ↦ subst (λ (k : ℕ). P (get_or arcs k d)) (sym e) (has d)
    | inr ne ↦ walked.done k d inside (omega arith) at
  ]) is

-- how many arcs a walk may still come to
abbrev pub left : List Arc → Option ℕ → ℕ
left arcs next = length arcs - unwrap_or next (length arcs)

pub left_falls : (arcs : List Arc) (v arc : ℕ) (next : Option ℕ) → Enters arcs v arc → IsNextInto arcs v (arc + 1) next → left arcs next < left arcs (Some arc)
left_falls arcs v arc None enters is = let inside : arc < length arcs = enters.0 in omega arith
left_falls arcs v arc (Some next) enters is = let inside : next < length arcs = is.1.0 in let up : arc + 1 ≤ next = is.0 in omega arith
