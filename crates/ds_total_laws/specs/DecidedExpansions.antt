-- The graphs of a split design are there, by their definitions alone.
use Rattle.std.specs.Prelude.{◌≢◌, ◌⊎◌, ℕ, Bool, List, AllPairs}
use Rattle.ds_base.specs.declared.number.Limit.{Limit}
use Rattle.ds_marked.specs.Graph.{Graph, IsKept}
use Rattle.ds_latch.specs.Node.{Split}
use Rattle.ds_latch.specs.Latches.{HasEdges}
use Rattle.ds_latch.specs.declared.latches.Edge.{Edge}
use Rattle.ds_split.specs.Split.{HasTooManyOrders}
use Rattle.ds_shake.specs.Expansion.{IsExpansion, IsShakeFault}
use Rattle.ds_shake.specs.declared.fault.ShakeFault.TheVariants.{TooMany}
use Rattle.ds_stage.specs.GraphStage.{controller_stage}

-- where the data edges are listed, each once, the expansion is there, or a limit is passed
abbrev pub ExpansionsAreDecided : Type 0
ExpansionsAreDecided = (s : Split) (edges : List Edge) → HasEdges s edges
    → AllPairs (λ a b. a ≢ b) edges
    → ((g : Graph) × IsKept g × IsExpansion s g)
    ⊎ ((limit : Limit) × IsShakeFault s (TooMany limit))

-- where besides the required orders are not too many, the graph that is wanted has a text, or a
-- line refuses it
abbrev pub ControllersAreDecided : Type 0
ControllersAreDecided = (file : List ℕ) (shake : Bool) (s : Split) (edges : List Edge)
    → HasEdges s edges → AllPairs (λ a b. a ≢ b) edges → ¬ HasTooManyOrders s
    → ((text : List ℕ) × (controller_stage file shake s).means text)
    ⊎ ((line : List ℕ) × (controller_stage file shake s).refused line)
