-- What follows of what files stand for.
use Rattle.std.specs.Prelude.{◌≡◌, ◌≢◌, ℕ, List, Option, Some, All, length}
use Rattle.ds_base.specs.declared.number.Mode.{Mode}
use Rattle.ds_outside.specs.Held.{Held, untold}
use Rattle.ds_design.specs.Circuit.{Circuit, columns}
use Rattle.ds_design.specs.InRange.{IsInRange}
use Rattle.ds_design.specs.Rows.{Rows}
use Rattle.ds_latch.specs.Plan.{Planned}
use Rattle.ds_replay.specs.Printed.{HasOwnWords}
use Rattle.ds_stage.specs.Stages.{netlist_stage, vectors_stage}
use Rattle.ds_stage.specs.PlanStage.{planned_stage}

-- each number in the netlist of a file names what is there, whatever lines the file has
abbrev pub NetlistsAreInRange : Type 0
NetlistsAreInRange = (held : List ℕ → Held) (net : List ℕ) (c : Circuit)
    → (netlist_stage held net).means c → IsInRange c

-- the vectors of a file are as wide as the columns, whatever lines the file has
abbrev pub VectorsHaveColumns : Type 0
VectorsHaveColumns = (held : List ℕ → Held) (vec : List ℕ) (c : Circuit) (vectors : Rows)
    → (vectors_stage held vec c).means vectors
    → All (λ vector. length vector ≡ length (columns c)) vectors.rows

-- each event of a plan is written as a word of its own, whatever clusters, groups and slack are,
-- with the controller graph or with that of a file that tells what it holds
abbrev pub PlansHaveOwnWords : Type 0
PlansHaveOwnWords = (held : List ℕ → Held) (net : List ℕ) (graph groups : Option (List ℕ))
    (mode : Mode) (slack : ℕ) → ((file : List ℕ) → graph ≡ Some file → held file ≢ untold)
    → (c : Circuit) (p : Planned) → (planned_stage held net graph groups mode slack c).means p
    → HasOwnWords p.graph
