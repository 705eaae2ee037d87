-- Counts of events in logs, and tickets.
use Rattle.std.proofs.Common.{◌≡◌, ℕ, zero, suc, ◌+◌, ◌*◌, ◌<◌, ◌≤◌, ◌≢◌, ◌⊎◌, inl, inr, ⊎_elim}
use Rattle.std.proofs.Common.{cond}
use Rattle.std.proofs.Common.{List, [], ◌∷◌, ◌++◌, length, sym, refl, ap, ◌∙◌, subst, arith, eq-eqb}
use Rattle.std.proofs.Common.{ne_eqb}
use Rattle.std.proofs.Common.{length-append, suc-mul}
use mathlib.Core.Logic.{dite}
use mathlib.Core.Option.{some, some-ne-none}
use native.Mathlib.Decide.{ℕ_discrete}
use lib.ListN.{get_elem?}
use Rattle.atomic_table.proofs.Lists.{at_longer, at_last}
use Rattle.ds_rule.specs.Run.{Run, node_of, next, turns}
use Rattle.ds_rule.specs.Log.{count_in_log, tickets_in_log, node_count_in_log, IsLegalList, InTurn, firings}
use Rattle.ds_rule.proofs.GetElemLemmas.{at_end}
use Rattle.ds_rule.proofs.EventLaws.{turns-next, turns-other, turns-none, fired_most}

pub count_in_log-here : (e x : ℕ) (xs : List ℕ) → x ≡ e → count_in_log e (x ∷ xs) ≡ count_in_log e xs + 1
count_in_log-here e x xs is = ap (λ b. count_in_log e xs + cond b 1 0) (eq-eqb x e is)

pub count_in_log-else : (e x : ℕ) (xs : List ℕ) → x ≢ e → count_in_log e (x ∷ xs) ≡ count_in_log e xs
count_in_log-else e x xs n = ap (λ b. count_in_log e xs + cond b 1 0) (ne_eqb x e n) ∙ omega arith

pub node_count_in_log-here : (run : Run) (l x : ℕ) (xs : List ℕ) → node_of run x ≡ l
    → node_count_in_log run l (x ∷ xs) ≡ node_count_in_log run l xs + 1
node_count_in_log-here run l x xs is = ap (λ b. node_count_in_log run l xs + cond b 1 0) (eq-eqb (node_of run x) l is)

pub node_count_in_log-else : (run : Run) (l x : ℕ) (xs : List ℕ) → node_of run x ≢ l
    → node_count_in_log run l (x ∷ xs) ≡ node_count_in_log run l xs
node_count_in_log-else run l x xs n = ap (λ b. node_count_in_log run l xs + cond b 1 0) (ne_eqb (node_of run x) l n)
    ∙ omega arith

pub tickets_in_log-here : (e x : ℕ) (xs : List ℕ) → x ≡ e → tickets_in_log e (x ∷ xs) ≡ tickets_in_log e xs
    ++ length xs ∷ []
tickets_in_log-here e x xs is = ap (λ b. cond b (tickets_in_log e xs ++ length xs ∷ []) (tickets_in_log e xs))
    (eq-eqb x e is)

pub tickets_in_log-else : (e x : ℕ) (xs : List ℕ) → x ≢ e → tickets_in_log e (x ∷ xs) ≡ tickets_in_log e xs
tickets_in_log-else e x xs n = ap (λ b. cond b (tickets_in_log e xs ++ length xs ∷ []) (tickets_in_log e xs)) (ne_eqb x e n)

-- an event has as many tickets as it stands in the log
pub length-tickets_in_log : (e : ℕ) (xs : List ℕ) → length (tickets_in_log e xs) ≡ count_in_log e xs
length-tickets_in_log e [] = refl
length-tickets_in_log e (x ∷ xs) = dite (ℕ_discrete x e)
    (λ s. ap length (tickets_in_log-here e x xs s) ∙ (length-append (tickets_in_log e xs) (length xs ∷ [])
    ∙ omega (arith, length-tickets_in_log e xs, count_in_log-here e x xs s)))
    (λ n. ap length (tickets_in_log-else e x xs n) ∙ (length-tickets_in_log e xs ∙ sym (count_in_log-else e x xs n)))

-- an event stands in a log as often as the firings of its node say
pub count_in_log-turns : (run : Run) (e : ℕ) (xs : List ℕ) → InTurn run xs
    → count_in_log e xs ≡ turns run e (node_count_in_log run (node_of run e) xs)
count_in_log-turns run e [] h = sym (turns-none run e)
count_in_log-turns run e (x ∷ xs) h = let l : ℕ = node_of run e in let ih = count_in_log-turns run e xs h.0 in
    let f : ℕ = node_count_in_log run l xs in
    dite (ℕ_discrete x e)
    (λ s. let n : node_of run x ≡ l = ap (node_of run) s in
    let is : next run l f ≡ e = ap (λ (m : ℕ). next run m (node_count_in_log run m xs)) (sym n)
    ∙ (sym h.2 ∙ s) in
    let one : turns run e (f + 1) ≡ turns run e f + 1 =
    subst (λ (y : ℕ). turns run y (f + 1) ≡ turns run y f + 1) is (turns-next run l f) in
    omega (arith, count_in_log-here e x xs s, ap (turns run e) (node_count_in_log-here run l x xs n)))
    (λ s. dite (ℕ_discrete (node_of run x) l)
    (λ n. let is : next run l f ≡ x = ap (λ (m : ℕ). next run m (node_count_in_log run m xs)) (sym n)
    ∙ sym h.2 in
    let same : turns run e (f + 1) ≡ turns run e f =
    turns-other run e l f refl (λ z. s (sym is ∙ sym z)) in
    omega (arith, count_in_log-else e x xs s, ap (turns run e) (node_count_in_log-here run l x xs n)))
    (λ n. omega (arith, count_in_log-else e x xs s, ap (turns run e) (node_count_in_log-else run l x xs n))))

-- no node fires more than twice the limit in a legal log
visits_most : (run : Run) (l : ℕ) (xs : List ℕ) → IsLegalList run xs → InTurn run xs
    → node_count_in_log run l xs ≤ 2 * run.limit
visits_most run l [] h t = omega arith
visits_most run l (x ∷ xs) h t = dite (ℕ_discrete (node_of run x) l)
    (λ n. let f : ℕ = node_count_in_log run (node_of run x) xs in
    let below : turns run (next run (node_of run x) f) f < run.limit =
    omega (arith, h.1.below, count_in_log-turns run x xs t.0, ap (λ (y : ℕ). turns run y f) t.2) in
    omega (
      arith,
      node_count_in_log-here run l x xs n,
      fired_most run (node_of run x) f run.limit below,
      ap (λ (m : ℕ). node_count_in_log run m xs) n,
    ))
    (λ n. omega (arith, node_count_in_log-else run l x xs n, visits_most run l xs h.0 t.0))

-- f of each number below n, added up
sum_below : (ℕ → ℕ) → ℕ → ℕ
sum_below f zero = 0
sum_below f (suc n) = sum_below f n + f n

sum_same : (f g : ℕ → ℕ) (n : ℕ) → ((l : ℕ) → l < n → f l ≡ g l) → sum_below f n ≡ sum_below g n
unfolding sum_below
sum_same f g zero same = refl
sum_same f g (suc n) same = omega (
  arith,
  sum_same f g n (λ l u. same l (omega arith)),
  same n (omega arith),
)

sum_up : (f g : ℕ → ℕ) (n x : ℕ) → ((l : ℕ) → l ≢ x → f l ≡ g l) → f x ≡ g x + 1 → x < n
    → sum_below f n ≡ sum_below g n + 1
unfolding sum_below
sum_up f g zero x same more h = absurd (omega arith)
sum_up f g (suc n) x same more h = dite (ℕ_discrete x n)
    (λ e. let b = sum_same f g n (λ l u. same l (λ t. omega arith)) in
    let t : f n ≡ g n + 1 = subst (λ m. f m ≡ g m + 1) e more in omega (arith, b))
    (λ n'. omega (arith, sum_up f g n x same more (omega arith), same n (λ t. n' (sym t))))

sum_most : (f : ℕ → ℕ) (n m : ℕ) → ((l : ℕ) → f l ≤ m) → sum_below f n ≤ n * m
unfolding sum_below
sum_most f zero m h = omega arith
sum_most f (suc n) m h = omega (arith, sum_most f n m h, h n, suc-mul n m)

sum_none : (run : Run) (n : ℕ) → sum_below (λ l. node_count_in_log run l []) n ≡ 0
unfolding sum_below
sum_none run zero = refl
sum_none run (suc n) = omega (arith, sum_none run n)

-- a log is as long as its nodes fire in it
sum-node_count_in_log : (run : Run) (xs : List ℕ) → InTurn run xs
    → sum_below (λ l. node_count_in_log run l xs) run.nodes ≡ length xs
sum-node_count_in_log run [] h = sum_none run run.nodes
sum-node_count_in_log run (x ∷ xs) h = sum_up (λ l. node_count_in_log run l (x ∷ xs)) (λ l. node_count_in_log run l xs) run.nodes
    (node_of run x)
    (λ l n. node_count_in_log-else run l x xs (λ e. n (sym e))) (node_count_in_log-here run (node_of run x) x xs refl) h.1
    ∙ omega (arith, sum-node_count_in_log run xs h.0)

pub log_most : (run : Run) (xs : List ℕ) → IsLegalList run xs → InTurn run xs
    → length xs ≤ run.nodes * (2 * run.limit)
log_most run xs h t = omega (
  arith,
  sum-node_count_in_log run xs t,
  sum_most (λ l. node_count_in_log run l xs) run.nodes (2 * run.limit) (λ l. visits_most run l xs h t),
)

-- each event of a log is of one of the nodes
pub node_inside : (run : Run) (xs : List ℕ) (e : ℕ) → InTurn run xs → 0 < count_in_log e xs
    → node_of run e < run.nodes
node_inside run [] e h some-there = absurd (omega arith)
node_inside run (x ∷ xs) e h some-there = dite (ℕ_discrete x e)
    (λ is. subst (λ (y : ℕ). node_of run y < run.nodes) is h.1)
    (λ n. node_inside run xs e h.0 (omega (arith, count_in_log-else e x xs n)))

pub length-firings : (xs : List ℕ) → length (firings xs) ≡ length xs
length-firings [] = refl
length-firings (x ∷ xs) = length-append (firings xs) (x ∷ []) ∙ omega (arith, length-firings xs)

-- the tickets of an event in a longer log: those that it had, or the new one
either : (e x : ℕ) (xs : List ℕ) (k t : ℕ) → get_elem? (tickets_in_log e (x ∷ xs)) k ≡ some t
    → (get_elem? (tickets_in_log e xs) k ≡ some t) ⊎ ((x ≡ e) × (k ≡ count_in_log e xs) × (t ≡ length xs))
either e x xs k t at = dite (ℕ_discrete x e)
    (λ same. ⊎_elim (λ old. inl old) (λ new. inr (same, new.0 ∙ length-tickets_in_log e xs, sym new.1))
    (at_end (tickets_in_log e xs) (length xs) t k (subst (λ ps. get_elem? ps k ≡ some t)
    (tickets_in_log-here e x xs same) at)))
    (λ far. inl (subst (λ ps. get_elem? ps k ≡ some t) (tickets_in_log-else e x xs far) at))

pub ticket_below : (e : ℕ) (xs : List ℕ) (k t : ℕ) → get_elem? (tickets_in_log e xs) k ≡ some t
    → t < length xs
ticket_below e [] k t at = absurd (some-ne-none t (sym at))
ticket_below e (x ∷ xs) k t at = ⊎_elim (λ old. omega (arith, ticket_below e xs k t old))
    (λ new. omega (arith, new.2)) (either e x xs k t at)

-- each number below the length is the ticket of some firing
pub ticket_of_some : (xs : List ℕ) (t : ℕ) → t < length xs → (e : ℕ) × (k : ℕ)
    × (get_elem? (tickets_in_log e xs) k ≡ some t)
ticket_of_some [] t h = absurd (omega arith)
ticket_of_some (x ∷ xs) t h = dite (ℕ_discrete t (length xs))
    (λ e. (
      x,
      length (tickets_in_log x xs),
      subst (λ ps. get_elem? ps (length (tickets_in_log x xs)) ≡ some t)
          (sym (tickets_in_log-here x x xs refl)) (at_last (tickets_in_log x xs) (length xs)
          (length (tickets_in_log x xs)) refl ∙ ap some (sym e)),
    ))
    (λ n. let r = ticket_of_some xs t (omega arith) in (
      r.0,
      r.1,
      dite (ℕ_discrete x r.0)
          (λ same. subst (λ ps. get_elem? ps r.1 ≡ some t) (sym (tickets_in_log-here r.0 x xs same))
          (at_longer (tickets_in_log r.0 xs) (length xs ∷ []) r.1 t r.2))
          (λ far. subst (λ ps. get_elem? ps r.1 ≡ some t) (sym (tickets_in_log-else r.0 x xs far)) r.2),
    ))

-- and of one firing only
pub ticket_of_one : (xs : List ℕ) (d e j k t : ℕ) → get_elem? (tickets_in_log d xs) j ≡ some t
    → get_elem? (tickets_in_log e xs) k ≡ some t → (d ≡ e) × (j ≡ k)
ticket_of_one [] d e j k t p q = absurd (some-ne-none t (sym p))
ticket_of_one (x ∷ xs) d e j k t p q = ⊎_elim
    (λ old. ⊎_elim (λ old'. ticket_of_one xs d e j k t old old')
    (λ new'. absurd (omega (arith, ticket_below d xs j t old, new'.2))) (either e x xs k t q))
    (λ new. ⊎_elim (λ old'. absurd (omega (arith, ticket_below e xs k t old', new.2)))
    (λ new'. (sym new.0 ∙ new'.0, new.1 ∙ (ap (λ y. count_in_log y xs) (sym new.0 ∙ new'.0) ∙ sym new'.1)))
    (either e x xs k t q))
    (either d x xs j t p)

-- the firing with the ticket t stands at place t of the list of firings
pub stands_at : (xs : List ℕ) (e k t : ℕ) → get_elem? (tickets_in_log e xs) k ≡ some t
    → get_elem? (firings xs) t ≡ some e
stands_at [] e k t at = absurd (some-ne-none t (sym at))
stands_at (x ∷ xs) e k t at = ⊎_elim
    (λ old. at_longer (firings xs) (x ∷ []) t e (stands_at xs e k t old))
    (λ new. at_last (firings xs) x t (length-firings xs ∙ sym new.2) ∙ ap some new.0)
    (either e x xs k t at)
