-- Arcs in order: what they are sorted to.
use Rattle.std.proofs.Common.{◌≡◌, ◌≢◌, ◌⊎◌, ℕ, suc, ◌+◌, ◌<◌, ◌≤◌, Bool, true, false, List, [], ◌∷◌, get_or, refl, sym, ◌∙◌, ap, subst, arith, inl, inr, AllPairs, All, ◌&&◌, ◌||◌, ◌==◌, nat_lt, nat_le, ltb-true, ltb-false, leb-true, leb-false, if◌then◌else◌}
use Rattle.std.specs.List.{sum_by}
use Rattle.std.specs.List.Sorted.{IsPermutation}
use Rattle.std.proofs.lemmas.Bool.{cases_Bool, eqb-true, eqb-false}
use Rattle.std.proofs.lemmas.List.Sums.{sum_by-cons}
use Rattle.std.proofs.lemmas.List.Kept.{AllPairs-cons}
use Rattle.std.proofs.lemmas.List.Elements.{All-cons}
use Rattle.std.proofs.lemmas.List.Sorted.{sum_by-IsPermutation}
use Rattle.ds_marked.specs.Graph.{StandsBefore}
use Rattle.ds_marked.specs.declared.marked.Arc.{Arc}
use Rattle.ds_astg.specs.Read.{stands_before, with_arc, in_order}

from_true : (p q r s t : Bool) → (p || (q && (r || (s && t)))) ≡ true → (p ≡ true) ⊎ ((q ≡ true) × ((r ≡ true) ⊎ ((s ≡ true) × (t ≡ true))))
from_true true q r s t e = inl refl
from_true false true true s t e = inr (refl, inl refl)
from_true false true false true true e = inr (refl, inr (refl, refl))
from_true false true false true false e = absurd (cc)
from_true false true false false t e = absurd (cc)
from_true false false r s t e = absurd (cc)

from_false : (p q r s t : Bool) → (p || (q && (r || (s && t)))) ≡ false → (p ≡ false) × ((q ≡ false) ⊎ ((r ≡ false) × ((s ≡ false) ⊎ (t ≡ false))))
from_false true q r s t e = absurd (cc)
from_false false false r s t e = (refl, inl refl)
from_false false true true s t e = absurd (cc)
from_false false true false false t e = (refl, inr (refl, inl refl))
from_false false true false true false e = (refl, inr (refl, inr refl))
from_false false true false true true e = absurd (cc)

stands : (a b : Arc) → stands_before a b ≡ true → StandsBefore a b
stands a b e = elim (from_true (nat_lt a.source b.source) (a.source == b.source) (nat_lt a.target b.target) (a.target == b.target) (nat_le a.tokens b.tokens) e) [
  | inl less ↦ inl (ltb-true _ _ less)
  | inr rest ↦ inr (
    eqb-true _ _ rest.0,
    elim rest.1 [
      | inl less ↦ inl (ltb-true _ _ less)
      | inr last ↦ inr (eqb-true _ _ last.0, leb-true _ _ last.1)
    ],
  )
]

behind_source : (m n : ℕ) {P : Type 0} → nat_lt m n ≡ false → (m ≡ n → P) → (n < m) ⊎ ((n ≡ m) × P)
behind_source m n {P} less same = elim (cases_Bool (m == n)) [
  | inl e ↦ (let h : m ≡ n = eqb-true m n e in inr (sym h, same h))
  | inr ne ↦ (let h : n ≤ m = ltb-false m n less in let d : m ≢ n = eqb-false m n ne in inl (omega (arith, h, d)))
]

stands_not : (a b : Arc) → stands_before a b ≡ false → StandsBefore b a
stands_not a b e =
    let tests = from_false (nat_lt a.source b.source) (a.source == b.source) (nat_lt a.target b.target) (a.target == b.target) (nat_le a.tokens b.tokens) e in
    behind_source a.source b.source tests.0 (λ same. elim tests.1 [
      | inl ne ↦ absurd (eqb-false _ _ ne same)
      | inr rest ↦ behind_source a.target b.target rest.0 (λ also. elim rest.1 [
        | inl ne ↦ absurd (eqb-false _ _ ne also)
        | inr more ↦ (let h : b.tokens < a.tokens = leb-false _ _ more in omega (arith, h))
      ])
    ])

itself : (a : Arc) → StandsBefore a a
itself a = inr (refl, inr (refl, omega arith))

through : (a b c : Arc) → StandsBefore a b → StandsBefore b c → StandsBefore a c
through a b c (inl s) (inl t) = inl (omega arith)
through a b c (inl s) (inr (e, t)) = inl (omega arith)
through a b c (inr (e, s)) (inl t) = inl (omega arith)
through a b c (inr (e, inl s)) (inr (f, inl t)) = inr (omega arith, inl (omega arith))
through a b c (inr (e, inl s)) (inr (f, inr (g, t))) = inr (omega arith, inl (omega arith))
through a b c (inr (e, inr (g, s))) (inr (f, inl t)) = inr (omega arith, inl (omega arith))
through a b c (inr (e, inr (g, s))) (inr (f, inr (h, t))) = inr (omega arith, inr (omega arith, omega arith))

one_arc : (a b : Arc) → a.source ≡ b.source → a.target ≡ b.target → a.tokens ≡ b.tokens → a ≡ b
one_arc a b e f g =
    ap (λ (n : ℕ). record { source = n; target = a.target; tokens = a.tokens }) e
    ∙ (ap (λ (n : ℕ). record { source = b.source; target = n; tokens = a.tokens }) f
    ∙ ap (λ (n : ℕ). record { source = b.source; target = b.target; tokens = n }) g)

both_ways : (a b : Arc) → StandsBefore a b → StandsBefore b a → a ≡ b
both_ways a b (inl s) (inl t) = absurd (omega arith)
both_ways a b (inl s) (inr (f, t)) = absurd (omega arith)
both_ways a b (inr (e, s)) (inl t) = absurd (omega arith)
both_ways a b (inr (e, inl s)) (inr (f, inl t)) = absurd (omega arith)
both_ways a b (inr (e, inl s)) (inr (f, inr (h, t))) = absurd (omega arith)
both_ways a b (inr (e, inr (g, s))) (inr (f, inl t)) = absurd (omega arith)
both_ways a b (inr (e, inr (g, s))) (inr (f, inr (h, t))) = one_arc a b e g (omega arith)

-- the tail of arcs in order
tail_pairs : (a : Arc) (arcs : List Arc) → AllPairs StandsBefore (a ∷ arcs) → AllPairs StandsBefore arcs
tail_pairs a arcs all i j d below inside = all (suc i) (suc j) d (omega arith) (omega arith)

head_pairs : (a : Arc) (arcs : List Arc) → AllPairs StandsBefore (a ∷ arcs) → All (StandsBefore a) arcs
head_pairs a arcs all k d inside = all 0 (suc k) d (omega arith) (omega arith)

all_with : (P : Arc → Type 0) (a : Arc) (arcs : List Arc) → P a → All P arcs → All P (with_arc a arcs)
all_with P a [] here all = All-cons P a [] here all
all_with P a (other ∷ arcs) here all = elim (cases_Bool (stands_before a other)) [
  | inl e ↦ rw e (All-cons P a (other ∷ arcs) here all)
  | inr e ↦ rw e (All-cons P other (with_arc a arcs) (all 0 other (omega arith)) (all_with P a arcs here (λ k d inside. all (suc k) d (omega arith))))
]

pairs_with : (a : Arc) (arcs : List Arc) → AllPairs StandsBefore arcs → AllPairs StandsBefore (with_arc a arcs)
pairs_with a [] all = λ i j d below inside. absurd (omega arith)
pairs_with a (other ∷ arcs) all = elim (cases_Bool (stands_before a other)) [
  | inl e ↦ rw e (AllPairs-cons StandsBefore a (other ∷ arcs)
      (All-cons (StandsBefore a) other arcs (stands a other e) (λ k d inside. through a other (get_or arcs k d) (stands a other e) (head_pairs other arcs all k d inside))) all)
  | inr e ↦ rw e (AllPairs-cons StandsBefore other (with_arc a arcs)
      (all_with (StandsBefore other) a arcs (stands_not a other e) (head_pairs other arcs all)) (pairs_with a arcs (tail_pairs other arcs all)))
]

pub pairs_in_order : (arcs : List Arc) → AllPairs StandsBefore (in_order arcs)
pairs_in_order [] = λ i j d below inside. absurd (omega arith)
pairs_in_order (a ∷ arcs) = pairs_with a (in_order arcs) (pairs_in_order arcs)

-- sums stay
sum_with : (f : Arc → ℕ) (a : Arc) (arcs : List Arc) → sum_by f (with_arc a arcs) ≡ f a + sum_by f arcs
sum_with f a [] = sum_by-cons f a []
sum_with f a (other ∷ arcs) = elim (cases_Bool (stands_before a other)) [
  | inl e ↦ rw e (sum_by-cons f a (other ∷ arcs))
  | inr e ↦ rw e (let h = sum_by-cons f other (with_arc a arcs) in let g = sum_with f a arcs in let k = sum_by-cons f other arcs in omega (arith, h, g, k))
]

pub sum_in_order : (f : Arc → ℕ) (arcs : List Arc) → sum_by f (in_order arcs) ≡ sum_by f arcs
sum_in_order f [] = refl
sum_in_order f (a ∷ arcs) = let h = sum_with f a (in_order arcs) in let g = sum_in_order f arcs in let k = sum_by-cons f a arcs in omega (arith, h, g, k)

-- one where an arc is this one, else zero
same_arc : Arc → Arc → Bool
same_arc a b = (a.source == b.source) && ((a.target == b.target) && (a.tokens == b.tokens))

sees_itself : (a : Arc) → same_arc a a ≡ true
unfolding same_arc
sees_itself a = rw (eqb-same a.source, eqb-same a.target, eqb-same a.tokens) refl
  where
    eqb-same : (n : ℕ) → (n == n) ≡ true
    eqb-same n = elim (cases_Bool (n == n)) [
      | inl e ↦ e
      | inr ne ↦ absurd (eqb-false n n ne refl)
    ]

and_true : (p q r : Bool) → (p && (q && r)) ≡ true → (p ≡ true) × (q ≡ true) × (r ≡ true)
and_true true true true e = (refl, refl, refl)
and_true true true false e = absurd (cc)
and_true true false r e = absurd (cc)
and_true false q r e = absurd (cc)

same_is : (a b : Arc) → same_arc a b ≡ true → a ≡ b
unfolding same_arc
same_is a b e =
    let t = and_true (a.source == b.source) (a.target == b.target) (a.tokens == b.tokens) e in
    one_arc a b (eqb-true _ _ t.0) (eqb-true _ _ t.1) (eqb-true _ _ t.2)

count : Arc → Arc → ℕ
count a b = if same_arc a b then 1 else 0

count-self : (a : Arc) → count a a ≡ 1
unfolding count
count-self a = rw (sees_itself a) refl

zero_count : (b other : Arc) → same_arc b other ≡ false → count b other ≡ 0
unfolding count
zero_count b other ne = rw ne refl

-- an arc that is counted stands behind what all stand behind
counted : (a b : Arc) (arcs : List Arc) → All (StandsBefore a) arcs → 0 < sum_by (count b) arcs → StandsBefore a b
counted a b [] all some = absurd (omega (arith, some))
counted a b (other ∷ arcs) all some = elim (cases_Bool (same_arc b other)) [
  | inl e ↦ subst (StandsBefore a) (sym (same_is b other e)) (all 0 other (omega arith))
  | inr ne ↦ counted a b arcs (λ k d inside. all (suc k) d (omega arith))
      (let h = sum_by-cons (count b) other arcs in let z : count b other ≡ 0 = zero_count b other ne in omega (arith, h, z, some))
]

-- arcs in order are told by their sums
same_order : (one other : List Arc) → AllPairs StandsBefore one → AllPairs StandsBefore other
    → ((f : Arc → ℕ) → sum_by f one ≡ sum_by f other) → one ≡ other
same_order [] [] p q sums = refl
same_order [] (b ∷ other) p q sums = absurd (let h = sums (λ _. 1) in let k = sum_by-cons (λ _. 1) b other in omega (arith, h, k))
same_order (a ∷ one) [] p q sums = absurd (let h = sums (λ _. 1) in let k = sum_by-cons (λ _. 1) a one in omega (arith, h, k))
same_order (a ∷ one) (b ∷ other) p q sums =
    let a_first : StandsBefore a b = counted a b (a ∷ one) (All-cons (StandsBefore a) a one (itself a) (head_pairs a one p))
    (let h = sums (count b) in let k = sum_by-cons (count b) b other in let s = count-self b in omega (arith, h, k, s)) in
    let b_first : StandsBefore b a = counted b a (b ∷ other) (All-cons (StandsBefore b) b other (itself b) (head_pairs b other q))
    (let h = sums (count a) in let k = sum_by-cons (count a) a one in let s = count-self a in omega (arith, h, k, s)) in
    let heads : a ≡ b = both_ways a b a_first b_first in
    let tails : one ≡ other = same_order one other (tail_pairs a one p) (tail_pairs b other q)
    (λ f. let h = sums f in let k = sum_by-cons f a one in let l = sum_by-cons f b other in let e : f a ≡ f b = ap f heads in omega (arith, h, k, l, e)) in
    ap (λ (x : Arc). x ∷ one) heads ∙ ap (λ (xs : List Arc). b ∷ xs) tails

-- arcs that are sorted are those in order
pub sorted_is : (arcs sorted : List Arc) → IsPermutation arcs sorted → AllPairs StandsBefore sorted → sorted ≡ in_order arcs
sorted_is arcs sorted moved stand = same_order sorted (in_order arcs) stand (pairs_in_order arcs)
    (λ f. sum_by-IsPermutation f arcs sorted moved ∙ sym (sum_in_order f arcs))
