-- All tables, sorted by level, are an order of the tables.
use Rattle.std.proofs.Common.{◌≡◌, ◌≢◌, ℕ, ◌<◌, List, length, arith}
use Rattle.std.specs.Prelude.{All, AllPairs, Contains}
use Rattle.std.specs.List.{range_with_len}
use Rattle.std.proofs.lemmas.List.FromFn.{length-range_with_len, get_or-range_with_len}
use Rattle.std.proofs.lemmas.List.Sorted.{All-permutation, Contains-permutation}
use Rattle.ds_design.specs.Levels.{IsSortedByLevel}
use Rattle.ds_design.specs.declared.design.Gate.{Gate}
use Rattle.ds_design.proofs.ByLevel.{differ_sorted}

-- the numbers of a range differ
range_differs : (n : ℕ) → AllPairs (λ a b. a ≢ b) (range_with_len 0 n)
range_differs n i j d below inside e =
    let long : length (range_with_len 0 n) ≡ n = length-range_with_len 0 n in
    let one = get_or-range_with_len 0 n i d (omega arith) in
    let two = get_or-range_with_len 0 n j d (omega arith) in
    omega arith

-- they are below its end
pub range_below : (n : ℕ) → All (λ k. k < n) (range_with_len 0 n)
range_below n i d inside =
    let long : length (range_with_len 0 n) ≡ n = length-range_with_len 0 n in
    let one = get_or-range_with_len 0 n i d (omega arith) in
    omega arith

module _ (tables : List Gate) (levels order : List ℕ) (h : IsSortedByLevel tables levels (range_with_len 0 (length tables)) order) where
  pub places_lem : All (λ k. k < length tables) order
  places_lem = All-permutation (λ k. k < length tables) (range_with_len 0 (length tables)) order h.permuted (range_below (length tables))

  pub once_lem : AllPairs (λ j k. j ≢ k) order
  once_lem = differ_sorted (range_with_len 0 (length tables)) order h.permuted (range_differs (length tables))

  pub all_lem : (k : ℕ) → k < length tables → Contains order k
  all_lem k low =
      let long : length (range_with_len 0 (length tables)) ≡ length tables = length-range_with_len 0 (length tables) in
      let at = get_or-range_with_len 0 (length tables) k k low in
      Contains-permutation (range_with_len 0 (length tables)) order k h.permuted (k, omega arith, omega arith)
