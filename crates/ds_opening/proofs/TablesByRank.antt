-- Tables sorted by ranks.
use Rattle.std.proofs.Common.{◌≡◌, ◌∙◌, ℕ, ◌<◌, ◌≤◌, List, length, get_or, map, refl, sym, ap, subst, arith}
use Rattle.std.specs.Prelude.{All}
use Rattle.std.specs.List.Sorted.{IsNonDecreasingBy, IsPermutation}
use Rattle.std.proofs.lemmas.List.{get_or-map, length-map, map-id}
use Rattle.std.proofs.lemmas.List.Elements.{All-map}
use Rattle.std.proofs.lemmas.List.Sorted.{All-permutation, IsPermutation-map}
use Rattle.std.proofs.lemmas.Simd.{map-map}
use Rattle.ds_opening.specs.Ranked.{AreSortedByRank, ranked_of}
use Rattle.ds_opening.specs.declared.ranked.TableRank.{TableRank}

-- tables sorted with their ranks
pub ranked_from : (ranks order : List ℕ) (all : List TableRank)
    → IsPermutation (map (ranked_of ranks) order) all → IsNonDecreasingBy (λ r. r.rank) all
    → AreSortedByRank ranks order (map (λ (r : TableRank). r.table) all)
ranked_from ranks order all permuted rising =
    let have : All (λ (r : TableRank). r.rank ≡ get_or ranks r.table 0) all =
    All-permutation (λ (r : TableRank). r.rank ≡ get_or ranks r.table 0) (map (ranked_of ranks) order) all permuted
    (All-map (λ (r : TableRank). r.rank ≡ get_or ranks r.table 0) (ranked_of ranks) order (λ k d inside. refl)) in
    let back : map (λ (r : TableRank). r.table) (map (ranked_of ranks) order) ≡ order =
    map-map (λ (r : TableRank). r.table) (ranked_of ranks) order ∙ map-id order in
    let long : length (map (λ (r : TableRank). r.table) all) ≡ length all = length-map all (λ (r : TableRank). r.table) in
    let first : TableRank = ranked_of ranks 0 in
    let rank_at : (i d : ℕ) → i < length all
    → (get_or all i first).rank ≡ get_or ranks (get_or (map (λ (r : TableRank). r.table) all) i d) 0 =
    λ i d inside. have i first inside
    ∙ ap (λ (n : ℕ). get_or ranks n 0) (sym (get_or-map (λ (r : TableRank). r.table) all i first d inside)) in
    record {
      permuted = subst (λ (xs : List ℕ). IsPermutation xs (map (λ (r : TableRank). r.table) all)) back
          (IsPermutation-map (λ (r : TableRank). r.table) (map (ranked_of ranks) order) all permuted);
      rising = λ i j d below inside.
          let up : (get_or all i first).rank ≤ (get_or all j first).rank =
          rising i j first below (omega (inside, long, arith)) in
          let one = rank_at i d (omega (below, inside, long, arith)) in
          let two = rank_at j d (omega (inside, long, arith)) in
          omega (up, one, two, arith);
    }
