-- Some tables of a bank in several lists, each list set by runs of its own.
use Rattle.std.specs.Prelude.{ℕ, ◌+◌, ◌<◌, ◌≤◌, List, [], ◌∷◌, length, All, slice_index}
use Rattle.ds_cover.specs.Bank.{Driven}
use Rattle.ds_cover.specs.Series.{IsRunOfTables, numbers_of}
use Rattle.ds_cover.specs.Small.{Shelved, part_of}
use Rattle.ds_cover.specs.declared.run.Run.{Run}

-- packed tables by their numbers, and lists of some of these, in the order in which they are set
pub record Selected : Type 0 where
  pub tables : List Driven
  pub lists : List (List ℕ)

-- the lists whose runs begin and end at these places
abbrev pub lists_between : List ℕ → List Run → List ℕ → List (List ℕ)
lists_between order runs [] = []
lists_between order runs (first ∷ []) = []
lists_between order runs (first ∷ end ∷ bounds) =
    numbers_of order (part_of first end runs) ∷ lists_between order runs (end ∷ bounds)

-- runs of these tables, and places among them, none before the one that it follows
pub record AreBounded (shelves : List Shelved) (tables : List Driven) (runs : List Run)
    (bounds : List ℕ) : Type 0 where
  pub each : All (IsRunOfTables shelves tables) runs
  pub some : 0 < length bounds
  pub inside : All (λ bound. bound ≤ length runs) bounds
  pub rising : (i : ℕ) → i + 1 < length bounds → slice_index bounds i ≤ slice_index bounds (i + 1)
