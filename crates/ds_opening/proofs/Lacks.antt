-- How many cones lack a table, cone by cone.
use Rattle.std.proofs.Common.{◌≡◌, ◌∙◌, ℕ, ◌+◌, ◌-◌, ◌<◌, ◌≤◌, Bool, true, false, not, cond}
use Rattle.std.proofs.Common.{List, [], ◌∷◌, ◌++◌, length, get_or, map, take, sym, ap, subst, arith}
use Rattle.std.proofs.Common.{inl, inr, ◌==◌, refl}
use Rattle.std.specs.Prelude.{All, Contains, count_by}
use Rattle.std.specs.List.{list_any}
use Rattle.std.specs.List.Sorted.{IsNonDecreasingBy, IsPermutation}
use Rattle.std.proofs.Math.ListN.{set}
use Rattle.std.proofs.lemmas.Bool.{false≢true}
use Rattle.std.proofs.lemmas.Bool.Decides.{eqb_tells}
use Rattle.std.proofs.lemmas.List.{get_or-map, get_or-set_other, get_or-set_same, length-map, length-set}
use Rattle.std.proofs.lemmas.List.{map-id}
use Rattle.std.proofs.lemmas.List.Elements.{All-cons, All-contains, All-head, All-map, All-tail, Contains-append_left}
use Rattle.std.proofs.lemmas.List.Elements.{Contains-get_or, Contains-push, Contains-push_cases}
use Rattle.std.proofs.lemmas.List.Folds.{list_any-from_Any, list_any_none}
use Rattle.std.proofs.lemmas.List.Sorted.{All-permutation, IsPermutation-map}
use Rattle.std.proofs.lemmas.List.Sums.{count_by_more_no, count_by_more_yes, sum_by-cons}
use Rattle.std.proofs.lemmas.Simd.{map-map}
use Rattle.ds_base.proofs.ListLemmas.{cases_Contains}
use Rattle.ds_settle.specs.Cone.{Parts as Cone}
use Rattle.ds_opening.specs.Classes.{AreClasses, HaveSame}
use Rattle.ds_opening.specs.Lacking.{AreByLacking, AreLacking, AreLackingSoFar, AreTaken, IsByLacking, cones_without}
use Rattle.ds_opening.specs.Numbers.{AreRenumbered}
use Rattle.ds_opening.specs.Ranked.{AreSortedByRank}

is_same : (g : ℕ) → (g == g) ≡ true
is_same g = elim (eqb_tells g g) [ inl (is, e) ↦ is | inr (is, ne) ↦ absurd (ne refl) ]

pub has_true : (list : List ℕ) (g : ℕ) → Contains list g → list_any (λ k. k == g) list ≡ true
has_true list g (k, inside, is) = list_any-from_Any (λ k. k == g) list (k, g, inside, is, is_same g)

pub lacks_false : (list : List ℕ) (g : ℕ) → ¬ Contains list g → list_any (λ k. k == g) list ≡ false
lacks_false list g free = list_any_none (λ k. k == g) list (λ k d inside.
    elim (eqb_tells (get_or list k d) g) [
      | inl (is, e) ↦ absurd (free (subst (Contains list) e (Contains-get_or list k d inside)))
      | inr (is, ne) ↦ is
    ])

-- one number more is taken
pub taken_more : (list old new : List ℕ) (g : ℕ) → AreTaken list old new → ¬ Contains list g
    → g < length old → 0 < get_or old g 0
    → AreTaken (list ++ g ∷ []) old (set new g (get_or new g 0 - 1))
taken_more list old new g are fresh inside some =
    let before : get_or new g 0 ≡ get_or old g 0 = are.others g fresh in
    let size : length new ≡ length old = are.one_each in
    let here : get_or (set new g (get_or new g 0 - 1)) g 0 ≡ get_or new g 0 - 1 =
    get_or-set_same new g (get_or new g 0 - 1) 0 (omega (inside, size, arith)) in
    let one : get_or (set new g (get_or new g 0 - 1)) g 0 + 1 ≡ get_or old g 0 = omega (here, before, some, arith) in
    record {
      one_each = length-set new g (get_or new g 0 - 1) ∙ are.one_each;
      these = λ k has. elim (Contains-push_cases list g k has) [
        | inl early ↦
            ap (λ (n : ℕ). n + 1) (get_or-set_other new g k (get_or new g 0 - 1) 0
            (λ e. fresh (subst (Contains list) e early))) ∙ are.these k early
        | inr e ↦
            subst (λ (n : ℕ). get_or (set new g (get_or new g 0 - 1)) n 0 + 1 ≡ get_or old n 0) e one
      ];
      others = λ k free.
          get_or-set_other new g k (get_or new g 0 - 1) 0
          (λ e. free (subst (Contains (list ++ g ∷ [])) (sym e) (Contains-push list g)))
          ∙ are.others k (λ has. free (Contains-append_left list (g ∷ []) k has));
    }

-- one cone more
pub lacking_more : (cones : List Cone) (n count : ℕ) (old new : List ℕ) (cone : Cone)
    → n < length cones → cone ≡ get_or cones n cone → AreLackingSoFar cones n count old
    → AreTaken cone.tables old new → AreLackingSoFar cones (n + 1) count new
lacking_more cones n count old new cone inside is so_far taken = record {
  one_each = taken.one_each ∙ so_far.one_each;
  each = λ g low.
      let before : get_or old g 0 + n ≡ cones_without (take n cones) g + length cones = so_far.each g low in
      let test = λ (c : Cone). not (list_any (λ k. k == g) c.tables) in
      elim (cases_Contains cone.tables g) [
        | inl has ↦
            (let f : not (list_any (λ k. k == g) (get_or cones n cone).tables) ≡ false =
            ap test (sym is) ∙ ap not (has_true cone.tables g has) in
            let c : cones_without (take (n + 1) cones) g ≡ cones_without (take n cones) g =
            count_by_more_no test cones n cone inside f in
            let t : get_or new g 0 + 1 ≡ get_or old g 0 = taken.these g has in
            omega (c, t, before, arith))
        | inr free ↦
            (let f : not (list_any (λ k. k == g) (get_or cones n cone).tables) ≡ true =
            ap test (sym is) ∙ ap not (lacks_false cone.tables g free) in
            let c : cones_without (take (n + 1) cones) g ≡ cones_without (take n cones) g + 1 =
            count_by_more_yes test cones n cone inside f in
            let t : get_or new g 0 ≡ get_or old g 0 = taken.others g free in
            omega (c, t, before, arith))
      ];
}

-- all cones that are left are counted as lacking a table
pub some_lack : (cones : List Cone) (n count : ℕ) (counts tables : List ℕ) → n < length cones
    → AreLackingSoFar cones n count counts → All (λ k. k < count) tables → All (λ k. 0 < get_or counts k 0) tables
some_lack cones n count counts tables inside so_far within i d low =
    (let is : get_or counts (get_or tables i d) 0 + n ≡ cones_without (take n cones) (get_or tables i d) + length cones =
    so_far.each (get_or tables i d) (within i d low) in
    omega (is, inside, arith))

-- tables sorted by how many cones lack them
pub lacked_from : (cones : List Cone) (count : ℕ) (counts order sorted : List ℕ)
    → AreLacking cones count counts → All (λ k. k < count) order
    → AreSortedByRank counts order sorted → IsByLacking cones order sorted
lacked_from cones count counts order sorted are within is =
    let near : All (λ k. k < count) sorted = All-permutation (λ k. k < count) order sorted is.permuted within in
    record {
      permuted = is.permuted;
      rising = λ i j d below inside.
          let up : get_or counts (get_or sorted i d) 0 ≤ get_or counts (get_or sorted j d) 0 = is.rising i j d below inside in
          let one : get_or counts (get_or sorted i d) 0 ≡ cones_without cones (get_or sorted i d) =
          are.each (get_or sorted i d) (near i d (omega (below, inside, arith))) in
          let two : get_or counts (get_or sorted j d) 0 ≡ cones_without cones (get_or sorted j d) = are.each (get_or sorted j d) (near j d inside) in
          omega (up, one, two, arith);
    }

module _ {X : Type 0} (p q : X → Bool) where
  -- fewer pass a test that asks for more
  pub count_less : (xs : List X) → All (λ x. q x ≡ true → p x ≡ true) xs → count_by q xs ≤ count_by p xs
  count_less [] so = omega arith
  count_less (x ∷ xs) so =
      let rest : count_by q xs ≤ count_by p xs = count_less xs (All-tail (λ x. q x ≡ true → p x ≡ true) x xs so) in
      let sum_p : count_by p (x ∷ xs) ≡ cond (p x) 1 0 + count_by p xs = sum_by-cons (λ x. cond (p x) 1 0) x xs in
      let sum_q : count_by q (x ∷ xs) ≡ cond (q x) 1 0 + count_by q xs = sum_by-cons (λ x. cond (q x) 1 0) x xs in
      let less : cond (q x) 1 0 + count_by q xs ≤ cond (p x) 1 0 + count_by p xs =
      one (p x) (q x) (All-head (λ x. q x ≡ true → p x ≡ true) x xs so) (count_by p xs) (count_by q xs) rest in
      omega (sum_p, sum_q, less, arith)
    where
      one : (a b : Bool) → (b ≡ true → a ≡ true) → (m n : ℕ) → n ≤ m → cond b 1 0 + n ≤ cond a 1 0 + m
      one true true so m n low = omega (low, arith)
      one true false so m n low = omega (low, arith)
      one false true so m n low = absurd (false≢true (so refl))
      one false false so m n low = omega (low, arith)

  -- and where as many pass it, the same do
  pub count_same : (xs : List X) → All (λ x. q x ≡ true → p x ≡ true) xs → count_by p xs ≤ count_by q xs
      → All (λ x. p x ≡ true → q x ≡ true) xs
  count_same [] so most = λ k d inside. absurd (let h : k < 0 = inside in omega (h, arith))
  count_same (x ∷ xs) so most =
      let tail = All-tail (λ x. q x ≡ true → p x ≡ true) x xs so in
      let rest : count_by q xs ≤ count_by p xs = count_less xs tail in
      let sum_p : count_by p (x ∷ xs) ≡ cond (p x) 1 0 + count_by p xs = sum_by-cons (λ x. cond (p x) 1 0) x xs in
      let sum_q : count_by q (x ∷ xs) ≡ cond (q x) 1 0 + count_by q xs = sum_by-cons (λ x. cond (q x) 1 0) x xs in
      let up : cond (p x) 1 0 + count_by p xs ≤ cond (q x) 1 0 + count_by q xs = omega (sum_p, sum_q, most, arith) in
      let both = one (p x) (q x) (All-head (λ x. q x ≡ true → p x ≡ true) x xs so) (count_by p xs) (count_by q xs) rest up in
      All-cons (λ x. p x ≡ true → q x ≡ true) x xs both.0 (count_same xs tail both.1)
    where
      one : (a b : Bool) → (b ≡ true → a ≡ true) → (m n : ℕ) → n ≤ m → cond a 1 0 + m ≤ cond b 1 0 + n
          → (a ≡ true → b ≡ true) × (m ≤ n)
      one true true so m n low most = (λ e. refl, omega (most, arith))
      one true false so m n low most = absurd (let h : 1 + m ≤ 0 + n = most in omega (h, low, arith))
      one false true so m n low most = absurd (false≢true (so refl))
      one false false so m n low most = (λ e. absurd (false≢true e), omega (most, arith))

-- as many cones lack tables of one class
fewer : (cones : List Cone) (a b : ℕ) → HaveSame cones a b → cones_without cones b ≤ cones_without cones a
fewer cones a b same =
    count_less (λ (c : Cone). not (list_any (λ k. k == a) c.tables)) (λ (c : Cone). not (list_any (λ k. k == b) c.tables)) cones
    (λ i d inside is. elim (cases_Contains (get_or cones i d).tables a) [
      | inl has ↦
          absurd (false≢true (sym (ap not (has_true (get_or cones i d).tables b ((same i d inside).0 has))) ∙ is))
      | inr free ↦ ap not (lacks_false (get_or cones i d).tables a free)
    ])

pub same_lacking : (cones : List Cone) (a b : ℕ) → HaveSame cones a b → cones_without cones a ≡ cones_without cones b
same_lacking cones a b same =
    let up : cones_without cones b ≤ cones_without cones a = fewer cones a b same in
    let down : cones_without cones a ≤ cones_without cones b =
    fewer cones b a (λ i d inside. let (to, back) = same i d inside in (back, to)) in
    omega (up, down, arith)

-- numbers that rise with the classes of tables by how many cones lack them
pub by_lacking_from : (cones : List Cone) (count most : ℕ) (sorted classes numbers : List ℕ) → AreClasses cones count classes
    → AreRenumbered sorted classes most numbers → IsNonDecreasingBy (cones_without cones) sorted → All (λ k. k < count) sorted
    → ((k : ℕ) → k < count → Contains sorted k) → AreByLacking cones numbers
by_lacking_from cones count most sorted classes numbers are numbered up within all a b low_a low_b low =
    let size : length numbers ≡ length classes = numbered.one_each in
    let long : length classes ≡ count = are.one_each in
    numbered.rising (cones_without cones) up
    (λ x y has_x has_y e. same_lacking cones x y ((are.same x y (All-contains (λ k. k < count) sorted x within has_x) (All-contains (λ k. k < count) sorted y within has_y)).0 e))
    a b (all a (omega (low_a, size, long, arith))) (all b (omega (low_b, size, long, arith))) low
