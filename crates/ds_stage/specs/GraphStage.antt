-- The text of the controller graph of a split design, or of its expansion.
use Rattle.std.specs.Prelude.{◌≡◌, ℕ, Bool, true, false, List}
use Rattle.ds_base.specs.declared.number.Limit.{Limit}
use Rattle.ds_marked.specs.Graph.{Graph, IsKept}
use Rattle.ds_latch.specs.Node.{Split, nodes}
use Rattle.ds_latch.specs.Plan.{split_events}
use Rattle.ds_control.specs.Control.{AreOrders, IsSimple}
use Rattle.ds_shake.specs.Expansion.{IsExpansion, IsShakeFault}
use Rattle.ds_shake.specs.declared.fault.ShakeFault.TheVariants.{TooMany}
use Rattle.ds_astg.specs.Text.{graph_text}
use Rattle.ds_stage.specs.FaultText.{file_line, too_many_text}
use Rattle.ds_stage.specs.Stage.{Stage, giving, judging, then_stage}

-- the graph of a split design: its events are those of the nodes, its arcs exactly the required
-- orders, in order and none twice
pub record IsGraphOf (s : Split) (g : Graph) : Type 0 where
  pub kept : IsKept g
  pub events : g.events ≡ split_events s
  pub orders : AreOrders s g
  pub simple : IsSimple g

-- the four-phase expansion of that graph, its arcs in order
pub record IsExpansionOf (s : Split) (g : Graph) : Type 0 where
  pub kept : IsKept g
  pub expansion : IsExpansion s g

-- a limit is passed by the expansion
abbrev pub IsShakeLine : List ℕ → Split → List ℕ → Type 0
IsShakeLine file s line = (limit : Limit) × IsShakeFault s (TooMany limit)
    × (line ≡ file_line file (too_many_text limit))

-- the graph that is wanted: of the required orders, or its expansion, which a limit may refuse
abbrev pub wanted_stage : List ℕ → Bool → Split → Stage Graph
wanted_stage file false s = giving (IsGraphOf s)
wanted_stage file true s = judging (IsExpansionOf s) (IsShakeLine file s)

-- the text of a graph under the name of the main model: the signals of the nodes are its own
abbrev pub drawn_stage : Split → Graph → Stage (List ℕ)
drawn_stage s g = giving (λ text. text ≡ graph_text s.circuit.name (nodes s) g)

-- the text of the graph that is wanted
abbrev pub controller_stage : List ℕ → Bool → Split → Stage (List ℕ)
controller_stage file shake s = then_stage (wanted_stage file shake s) (drawn_stage s)
