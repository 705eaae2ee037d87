-- What the answer of a step of a pass says of all events of its node.
use Rattle.std.specs.Prelude.{◌≡◌, ℕ, ◌<◌, ◌≤◌}
use Rattle.ds_rule.specs.Run.{Run, node_of, turns}
use Rattle.ds_rule.specs.Rule.{seen}
use Rattle.ds_rule.specs.declared.view.View.{View}
use Rattle.ds_fabric.specs.declared.step.Step.TheVariants.{NotYet, Done}
use Rattle.ds_fabric.specs.Stepped.{Stepped}

-- a step says that all is done where each event of the node has fired as often as it may
abbrev pub DoneIsWhole : Type 0
DoneIsWhole = (run : Run) (v w : View) (l : ℕ) → Stepped run v l Done w
    → (e : ℕ) → node_of run e ≡ l → run.limit ≤ turns run e (seen v l)

-- and that there is nothing to fire yet where some event of the node has not
abbrev pub NotYetIsPart : Type 0
NotYetIsPart = (run : Run) (v w : View) (l arc n : ℕ) → Stepped run v l (NotYet arc n) w
    → (e : ℕ) × (node_of run e ≡ l) × (turns run e (seen v l) < run.limit)
