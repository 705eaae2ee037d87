-- The plan of a job: that of its controller graph, or that of a graph in a file.
use Rattle.std.specs.Prelude.{◌≡◌, ℕ, List, Option, None, Some}
use Rattle.ds_base.specs.declared.number.Mode.{Mode}
use Rattle.ds_outside.specs.Held.{Held}
use Rattle.ds_outside.specs.declared.files.Which.TheVariants as which
use Rattle.ds_lines.specs.Line.{Line}
use Rattle.ds_marked.specs.Graph.{Graph, IsKept}
use Rattle.ds_design.specs.Circuit.{Circuit}
use Rattle.ds_latch.specs.Node.{Split, slackened}
use Rattle.ds_latch.specs.Plan.{Planned}
use Rattle.ds_astg.specs.Read.{graph_of_lines}
use Rattle.ds_accept.specs.Accept.{IsAcceptable, IsPlanOf}
use Rattle.ds_accept.specs.Fault.{IsAcceptFault}
use Rattle.ds_accept.specs.declared.fault.AcceptFault.{AcceptFault}
use Rattle.ds_stage.specs.FaultText.{file_line}
use Rattle.ds_stage.specs.GraphText.{IsAcceptText, astg_text}
use Rattle.ds_stage.specs.Stage.{Stage, giving, judging, then_stage}
use Rattle.ds_stage.specs.Stages.{lines_stage, read_or_line, result_stage}
use Rattle.ds_stage.specs.SplitStage.{split_stage}
use Rattle.ds_stage.specs.GraphStage.{IsGraphOf}

-- a plan that has a split design and its controller graph
pub record IsOwnPlan (s : Split) (p : Planned) : Type 0 where
  pub split : p.split ≡ s
  pub graph : IsGraphOf s p.graph

-- a graph that is acceptable for a split design, and its plan
pub record IsNamedPlan (s : Split) (g : Graph) (p : Planned) : Type 0 where
  pub acceptable : IsAcceptable s g
  pub plan : IsPlanOf s g p
  pub graph_kept : IsKept g
  pub plan_kept : IsKept p.graph

-- the plan of a graph that is acceptable, or the line of its first fault; where that is a cycle, of
-- any cycle
abbrev pub acceptable_stage : List ℕ → Split → Graph → Stage Planned
acceptable_stage file s g = judging (IsNamedPlan s g)
    (λ line. (fault : AcceptFault) × (text : List ℕ) × IsAcceptFault s g fault
    × IsAcceptText g fault text × (line ≡ file_line file text))

-- the plan of the graph of lines
abbrev pub marked_stage : List ℕ → Split → List Line → Stage Planned
marked_stage file s lines =
    then_stage (result_stage (read_or_line file astg_text (graph_of_lines lines)))
    (acceptable_stage file s)

-- the plan of the graph of a file
abbrev pub named_stage : (List ℕ → Held) → List ℕ → Split → Stage Planned
named_stage held file s = then_stage (lines_stage held which.Graph file) (marked_stage file s)

-- the plan of a split design, with the graph of a file where one is named
abbrev pub plan_stage : (List ℕ → Held) → Option (List ℕ) → Split → Stage Planned
plan_stage held None s = giving (IsOwnPlan s)
plan_stage held (Some file) s = named_stage held file s

-- the plan of a netlist, once it is read: of its split design with slack; first the graph's file is
-- named, then that of groups, each where there is one
abbrev pub planned_stage : (List ℕ → Held) → List ℕ → Option (List ℕ) → Option (List ℕ) → Mode → ℕ
    → Circuit → Stage Planned
planned_stage held net graph groups mode slack c =
    then_stage (split_stage held net groups mode c) (λ s. plan_stage held graph (slackened s slack))
