-- What follows of the definition of a run.
use Rattle.std.specs.Prelude.{◌≡◌, ℕ, ◌+◌, ◌*◌, ◌^◌, ◌<◌, ◌≤◌, Bool, List, ◌++◌, length, All}
use Rattle.std.specs.Prelude.{Option}
use Rattle.ds_base.specs.Values.{Row}
use Rattle.ds_design.specs.Circuit.{columns, initial_row}
use Rattle.ds_latch.specs.Node.{nodes}
use Rattle.ds_latch.specs.Plan.{IsPlan, Planned}
use Rattle.ds_rule.specs.Run.{Run}
use Rattle.ds_rule.specs.Sound.{IsSound}
use Rattle.ds_rule.specs.Progress.{IsRunAccepted}
use Rattle.ds_rule.specs.Laws.{IsGraphOfRun}
use Rattle.ds_run.specs.RunOfPlan.{IsRunOf}
use Rattle.std.specs.List.{flat_map}
use Rattle.ds_design.specs.Trace.{AreLines}
use Rattle.ds_marked.specs.Graph.{Graph, IsLive}
use Rattle.ds_run.specs.RunText.{IsRunText}
use Rattle.ds_run.specs.Logged.{IsLogOf, Listed, LogGrows}
use Rattle.ds_run.specs.WindowedText.{AreWindows, IsRunEnd, WrittenWindow}

-- the numbers of a run of a plan: each vector has a value a column, and nothing is past its limit
pub record IsRunWithin (p : Planned) (vectors : List Row) (run : Run) : Type 0 where
  pub one_width : All (λ vector. length vector ≡ length (columns p.split.circuit)) vectors
  pub few_vectors : length vectors ≤ 65536
  pub few_edges : 2 * nodes p.split + 2 * length run.edges ≤ 1048576
  pub low : p.split.slack ≤ 15
  pub few_events : run.nodes + run.design_nodes < 2 ^ 32
  pub few_arcs : length p.graph.arcs < 2 ^ 32

-- the run of a plan is sound
abbrev pub RunsAreSound : Type 0
RunsAreSound = (p : Planned) (vectors : List Row) (run : Run) → IsRunOf p vectors run
    → IsPlan p.split p.graph → IsRunWithin p vectors run → IsSound run

-- in the run of a plan something can always fire
abbrev pub RunsAreAccepted : Type 0
RunsAreAccepted = (p : Planned) (vectors : List Row) (run : Run) → IsRunOf p vectors run
    → IsPlan p.split p.graph → IsRunAccepted run

-- the graph of a plan is that of its run, also with extra events
abbrev pub RunsHaveGraphs : Type 0
RunsHaveGraphs = (p : Planned) (vectors : List Row) (run : Run) → IsRunOf p vectors run
    → IsPlan p.split p.graph → IsGraphOfRun p.graph run

-- a log that takes a window of so many turns more is the log of all of them
abbrev pub LogsGoOn : Type 0
LogsGoOn = (g : Graph) → IsLive g → (wanted : Bool) (turns more : ℕ) (old new : Option Listed)
    → IsLogOf wanted g turns old → LogGrows g more old new → IsLogOf wanted g (turns + more) new

-- the lines of all turns, and the end behind them, are the text of the run
abbrev pub EndSpellsRun : Type 0
EndSpellsRun = (p : Planned) (wanted : Bool) (vectors : List Row) (lines : List ℕ) (last : Row)
    (log : Option Listed) (text : List ℕ)
    → AreLines p.split.circuit 0 (initial_row p.split.circuit) vectors lines last
    → IsLogOf wanted p.graph (length vectors) log → IsRunEnd p.graph log last text
    → IsRunText wanted p vectors (lines ++ text)

-- and so are the lines of windows, one after another
abbrev pub WindowsSpellRun : Type 0
WindowsSpellRun = (p : Planned) (wanted : Bool) (windows : List WrittenWindow) (last : Row)
    (log : Option Listed) (text : List ℕ)
    → AreWindows p.split.circuit 0 (initial_row p.split.circuit) windows last
    → IsLogOf wanted p.graph (length (flat_map (λ w. w.vectors) windows)) log
    → IsRunEnd p.graph log last text
    → IsRunText wanted p (flat_map (λ w. w.vectors) windows)
    (flat_map (λ w. w.lines) windows ++ text)
