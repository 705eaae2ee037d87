-- Graphs in which something can always fire.
use Rattle.std.specs.Prelude.{ℕ, ◌<◌}
use Rattle.ds_marked.specs.Graph.{IsLive}
use Rattle.ds_rule.specs.Run.{Run, graph, next, opening, closing, IsEnabledInRun}
use Rattle.ds_rule.specs.Sound.{HasOrder}

-- a latch closes after it opens, and the graph of the run is live
pub record IsRunAccepted (run : Run) : Type 0 where
  pub closes : (l : ℕ) → l < run.design_nodes → HasOrder run (opening l) (closing l) 0
  pub live : IsLive (graph run)

-- the next event of the node may not fire
abbrev pub Stuck : Run → (ℕ → ℕ) → ℕ → Type 0
Stuck run fired l = ¬ IsEnabledInRun run fired (next run l (fired l))
