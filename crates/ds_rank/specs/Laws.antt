-- What follows of the definitions alone.
use Rattle.std.specs.Prelude.{◌≡◌, ℕ, List}
use Rattle.ds_marked.specs.Graph.{Graph}
use Rattle.ds_rank.specs.Rank.{AreRanks}

-- a graph has one list of ranks at most
abbrev pub OneListOfRanks : Type 0
OneListOfRanks = (g : Graph) (one other : List ℕ) → AreRanks g one → AreRanks g other → one ≡ other
