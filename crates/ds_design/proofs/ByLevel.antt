-- Tables sorted by the level of what they drive.
use Rattle.std.proofs.Common.{◌≡◌, ◌∙◌, ℕ, ◌+◌, ◌<◌, ◌≤◌, List, [], ◌∷◌, length, get_or, map, refl, sym, ap, arith, inl, inr, subst}
use Rattle.std.specs.Prelude.{◌≢◌, All, AllPairs, Contains}
use Rattle.std.specs.List.{slice_index}
use Rattle.std.specs.List.Sorted.{IsNonDecreasingBy, IsPermutation}
use Rattle.std.proofs.lemmas.List.{get_or-map, length-map, map-id}
use Rattle.std.proofs.lemmas.List.Elements.{All-map}
use Rattle.std.proofs.lemmas.List.Sorted.{All-permutation, IsPermutation-map}
use Rattle.std.proofs.lemmas.Bool.Decides.{Decides-eqb, eqb_tells}
use Rattle.std.proofs.lemmas.Map.Keys.{IsDistinct-IsPermutation}
use Rattle.std.proofs.lemmas.Map.Made.{AllPairs-from_IsDistinct, IsDistinct-from_AllPairs}
use Rattle.std.proofs.Math.Dec.{eqb}
use Rattle.std.proofs.lemmas.Simd.{map-map}
use Rattle.ds_base.specs.Greatest.{greatest}
use Rattle.ds_base.proofs.ListLemmas.{Contains-split}
use Rattle.ds_design.specs.Circuit.{Circuit}
use Rattle.ds_design.specs.Levels.{AreLevels, IsSortedByLevel, level_of_table}
use Rattle.ds_design.specs.Placed.{placed_table}
use Rattle.ds_design.specs.declared.order.Placed.{Placed}
use Rattle.ds_design.specs.declared.design.Gate.{Gate}

module _ (tables : List Gate) (levels : List ℕ) where
  -- a place that has its level
  abbrev HasLevel : Placed → Type 0
  HasLevel p = p.level ≡ level_of_table tables levels p.place

  pub sorted_from : (places : List ℕ) (all : List Placed) → IsPermutation (map (placed_table tables levels) places) all → IsNonDecreasingBy (λ p. p.level) all
      → IsSortedByLevel tables levels places (map (λ (p : Placed). p.place) all)
  sorted_from places all permuted rising =
      let have : All HasLevel all = All-permutation HasLevel (map (placed_table tables levels) places) all permuted (All-map HasLevel (placed_table tables levels) places (λ k d inside. refl)) in
      let back : map (λ (p : Placed). p.place) (map (placed_table tables levels) places) ≡ places = map-map (λ (p : Placed). p.place) (placed_table tables levels) places ∙ map-id places in
      let long : length (map (λ (p : Placed). p.place) all) ≡ length all = length-map all (λ (p : Placed). p.place) in
      let first : Placed = placed_table tables levels 0 in
      let level_is : (i d : ℕ) → i < length all → (get_or all i first).level ≡ level_of_table tables levels (get_or (map (λ (p : Placed). p.place) all) i d) =
      λ i d inside. have i first inside ∙ ap (level_of_table tables levels) (sym (get_or-map (λ (p : Placed). p.place) all i first d inside)) in
      record {
        permuted = subst (λ (xs : List ℕ). IsPermutation xs (map (λ (p : Placed). p.place) all)) back (IsPermutation-map (λ (p : Placed). p.place) (map (placed_table tables levels) places) all permuted);
        rising = λ i j d below inside.
            let up : (get_or all i first).level ≤ (get_or all j first).level = rising i j first below (omega arith) in
            let one = level_is i d (omega arith) in
            let two = level_is j d (omega arith) in
            omega arith;
      }

-- no level is above the greatest
pub le_greatest : (f : ℕ → ℕ) (xs : List ℕ) (x : ℕ) → Contains xs x → f x ≤ greatest (map f xs)
le_greatest f [] x (k, inside, is) = absurd (omega arith)
le_greatest f (y ∷ xs) x c = elim (Contains-split y xs x c) [
  | inl e ↦ let same : f y ≡ f x = ap f e in omega arith
  | inr d ↦ let rest = le_greatest f xs x d in omega arith
]

-- a table does not read what one of its level, or of a higher one, drives
pub not_read : (c : Circuit) (levels : List ℕ) → AreLevels c levels → (j k : ℕ) (d : Gate) → j < length c.tables → k < length c.tables
    → level_of_table c.tables levels j ≤ level_of_table c.tables levels k → ¬ Contains (get_or c.tables j d).table.inputs (get_or c.tables k d).output
not_read c levels are j k d inside within up reads =
    let out_j : level_of_table c.tables levels j ≡ slice_index levels (get_or c.tables j d).output = ap (slice_index levels) (get_or-map (λ (t : Gate). t.output) c.tables j d 0 inside) in
    let out_k : level_of_table c.tables levels k ≡ slice_index levels (get_or c.tables k d).output = ap (slice_index levels) (get_or-map (λ (t : Gate). t.output) c.tables k d 0 within) in
    let driven : slice_index levels (get_or c.tables j d).output ≡ greatest (map (slice_index levels) (get_or c.tables j d).table.inputs) + 1 = are.driven j d inside in
    let most : slice_index levels (get_or c.tables k d).output ≤ greatest (map (slice_index levels) (get_or c.tables j d).table.inputs) =
    le_greatest (slice_index levels) (get_or c.tables j d).table.inputs (get_or c.tables k d).output reads in
    omega arith

-- numbers that differ still do when they change places
pub differ_sorted : (xs ys : List ℕ) → IsPermutation xs ys → AllPairs (λ a b. a ≢ b) xs → AllPairs (λ a b. a ≢ b) ys
differ_sorted xs ys permuted differ = AllPairs-from_IsDistinct Decides-eqb ys (IsDistinct-IsPermutation eqb flips xs ys permuted (IsDistinct-from_AllPairs Decides-eqb xs differ))
  where
    flips : (x y : ℕ) → eqb x y ≡ eqb y x
    flips x y = elim (eqb_tells x y) [
      | inl (is, e) ↦ elim (eqb_tells y x) [ inl (at, f) ↦ is ∙ sym at | inr (at, ne) ↦ absurd (ne (sym e)) ]
      | inr (is, ne) ↦ elim (eqb_tells y x) [ inl (at, f) ↦ absurd (ne (sym f)) | inr (at, other) ↦ is ∙ sym at ]
    ]
