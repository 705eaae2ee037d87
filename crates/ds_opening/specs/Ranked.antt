-- Tables by ranks.
use Rattle.std.specs.Prelude.{ℕ, List, slice_index}
use Rattle.std.specs.List.Sorted.{IsNonDecreasingBy, IsPermutation}
use Rattle.ds_opening.specs.declared.ranked.TableRank.{TableRank}

-- a table with its rank
abbrev pub ranked_of : List ℕ → ℕ → TableRank
ranked_of ranks k = record { rank = slice_index ranks k; table = k }

-- the same tables, along which the ranks do not fall
pub record AreSortedByRank (ranks order sorted : List ℕ) : Type 0 where
  pub permuted : IsPermutation order sorted
  pub rising : IsNonDecreasingBy (slice_index ranks) sorted
