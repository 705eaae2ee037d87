-- What computes the rows of a run from its plan.
use Rattle.std.specs.Prelude.{◌≡◌, ℕ, Bool, List, length, map, true, All}
use Rattle.std.specs.List.{range_with_len}
use Rattle.ds_base.specs.Values.{AreKnown, Row}
use Rattle.ds_cover.specs.Cover.{values_at}
use Rattle.ds_marked.specs.Graph.{Graph}
use Rattle.ds_design.specs.Circuit.{columns}
use Rattle.ds_design.specs.InRange.{IsInRange}
use Rattle.ds_design.specs.Levels.{IsTableOrder}
use Rattle.ds_latch.specs.Node.{Split}
use Rattle.ds_latch.specs.Plan.{IsSplit}
use Rattle.ds_design.specs.Rows.{Rows}
use Rattle.ds_opening.specs.Groups.{Grouping}
use Rattle.ds_base.specs.Scratch.{Memory}
use Rattle.ds_opening.specs.Foreseen.{nets_in}
use Rattle.ds_opening.specs.Noted.{AreConeGroups, slots_of}
use Rattle.ds_rule.specs.Run.{Run}
use Rattle.ds_rule.specs.Sound.{IsSound}
use Rattle.ds_run.specs.RunOfPlan.{IsRunOf}

-- what a clause sees: the run, what a scratch remembers of it, and how many groups there are, whose
-- slots are the first
pub record RunWithMemory : Type 0 where
  pub run : Run
  pub memory : Memory
  pub groups : ℕ

-- what a scratch remembers: the nets of each group, of IN and of each slave, with their values in
-- each turn of the clocked run, which an order of the tables gives
abbrev pub memory_of : Split → Grouping → List ℕ → List Row → Memory
memory_of s g order vectors = record {
  nets = length s.circuit.nets;
  slots = slots_of s g;
  rows = map (nets_in s.circuit order s.initial vectors) (range_with_len 0 (length vectors));
}

-- a split design has these groups of the cones of its nodes, whatever its initial values
abbrev pub HasConeGroups : Split → Grouping → Type 0
HasConeGroups s groups = AreConeGroups s groups

-- groups and first rows of slaves belong to a run of this split design on these vectors
pub record AreOpenings (s : Split) (vectors : Rows) (run : Run) (groups : Grouping)
    (order : List ℕ) (starts : List Row) : Type 0 where
  pub range : IsInRange s.circuit
  pub split : IsSplit s
  pub width : vectors.width ≡ length (columns s.circuit)
  pub one_width : All (λ row. length row ≡ vectors.width) vectors.rows
  pub ordered : IsTableOrder s.circuit order
  pub graph : Graph
  pub planned : IsRunOf (record { split = s; graph = graph }) vectors.rows run
  pub sound : IsSound run
  pub groups_are : AreConeGroups s groups
  pub starts_are : starts ≡ map (values_at s.initial) s.clusters

-- the same, and where it is said that all is known, so it is
pub record AreOpeningsWith (s : Split) (vectors : Rows) (run : Run) (groups : Grouping)
    (order : List ℕ) (starts : List Row) (told : Bool) : Type 0 where
  pub openings : AreOpenings s vectors run groups order starts
  pub known : told ≡ true → AreKnown s.initial × All AreKnown vectors.rows
