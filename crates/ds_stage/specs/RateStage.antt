-- The graph of a file of which a period is asked.
use Rattle.std.specs.Prelude.{◌≡◌, ◌⊎◌, ℕ, List, codes}
use Rattle.ds_outside.specs.Held.{Held}
use Rattle.ds_outside.specs.declared.files.Which.TheVariants as which
use Rattle.ds_lines.specs.Line.{Line}
use Rattle.ds_marked.specs.Graph.{Graph}
use Rattle.ds_rank.specs.Order.{IsCycle}
use Rattle.ds_rank.specs.Rank.{HasFreeArc}
use Rattle.ds_period.specs.Controller.{HasPeriod}
use Rattle.ds_period.specs.Timing.{HasCycle}
use Rattle.ds_astg.specs.Read.{graph_of_lines}
use Rattle.ds_accept.specs.declared.fault.AcceptFault.TheVariants.{TokenFreeCycle}
use Rattle.ds_stage.specs.FaultText.{file_line}
use Rattle.ds_stage.specs.GraphText.{IsAcceptText, astg_text}
use Rattle.ds_stage.specs.Stage.{Stage, judging, then_stage}
use Rattle.ds_stage.specs.Stages.{lines_stage, read_or_line, result_stage}

-- arcs without tokens lead in a circle, which the line names as for a graph that is not accepted
abbrev pub IsFreeLine : List ℕ → Graph → List ℕ → Type 0
IsFreeLine file g line = (events text : List ℕ) × IsCycle (HasFreeArc g) events
    × IsAcceptText g (TokenFreeCycle events) text × (line ≡ file_line file text)

-- no walk along arcs ends where it begins
abbrev pub IsAcyclicLine : List ℕ → Graph → List ℕ → Type 0
IsAcyclicLine file g line = (¬ HasCycle g) × (line ≡ file_line file (codes "no cycle"))

-- a graph in which each cycle has a token and some cycle is there, or the line that refuses it
abbrev pub cyclic_stage : List ℕ → Graph → Stage Graph
cyclic_stage file g = judging (λ h. (h ≡ g) × HasPeriod g)
    (λ line. IsFreeLine file g line ⊎ IsAcyclicLine file g line)

-- such a graph of lines
abbrev pub bare_stage : List ℕ → List Line → Stage Graph
bare_stage file lines =
    then_stage (result_stage (read_or_line file astg_text (graph_of_lines lines)))
    (cyclic_stage file)

-- such a graph of a file
abbrev pub bare_graph_stage : (List ℕ → Held) → List ℕ → Stage Graph
bare_graph_stage held file = then_stage (lines_stage held which.Graph file) (bare_stage file)
