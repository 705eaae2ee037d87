-- A run in windows: each a run of the plan, begun with a row, on vectors of its own.
use Rattle.std.specs.Prelude.{ℕ, List, length, All}
use Rattle.std.specs.List.{flat_map}
use Rattle.ds_base.specs.Values.{Row}
use Rattle.ds_marked.specs.Window.{IsWindow}
use Rattle.ds_latch.specs.Node.{begun}
use Rattle.ds_latch.specs.Plan.{IsPlan, Planned}
use Rattle.ds_rule.specs.Rule.{tickets}
use Rattle.ds_fabric.specs.Showing.{IsFiredInOrder, Recorder}
use Rattle.ds_run.specs.Finished.{IsFinished}

-- a plan, begun with these registers
abbrev pub begun_plan : Planned → Row → Planned
begun_plan p row = record { split = begun p.split row; graph = p.graph }

-- the vectors of a window, the registers before it, the record of its run, and its firings
pub record PlayedWindow : Type 0 where
  pub vectors : List Row
  pub start : Row
  pub recorder : Recorder
  pub firings : List ℕ

-- the plan, begun with the window's registers, was run on its vectors to the end, and these are
-- the firings of that run, the first one first
pub record IsPlayedWindow (p : Planned) (w : PlayedWindow) : Type 0 where
  pub finished_run : IsFinished (begun_plan p w.start) w.vectors w.recorder
  pub fired : IsFiredInOrder w.recorder.shown.view.run (tickets w.recorder.shown.view) w.firings

-- the firings of windows, one after another, are a legal list of the plan's graph that has each
-- event once a vector of all windows
abbrev pub FiringsInWindows : Type 0
FiringsInWindows = (p : Planned) → IsPlan p.split p.graph → (windows : List PlayedWindow)
    → All (IsPlayedWindow p) windows
    → IsWindow p.graph (record {
      turns = length (flat_map (λ w. w.vectors) windows);
      firings = flat_map (λ w. w.firings) windows;
    })
