-- The text of a log that is replayed: what each register has stored, and how many firings there
-- were; where it is wanted, what open latches show.
use Rattle.std.specs.Prelude.{◌≡◌, ℕ, List, ◌++◌, length, Bool, true, false}
use Rattle.ds_base.specs.Values.{Row}
use Rattle.ds_latch.specs.declared.node.Node.{Node}
use Rattle.ds_latch.specs.Plan.{Planned}
use Rattle.ds_latch.specs.Transparent.{IsShowing}
use Rattle.ds_rows.specs.StateText.{IsStateText}
use Rattle.ds_replay.specs.OpenLines.{open_lines}

-- the text of a state, and behind it a line for each node that is open there, with what it shows
pub record IsOpenText (planned : Planned) (vectors : List Row) (events text : List ℕ) :
    Type 0 where
  pub stored : List ℕ
  pub is_stored : IsStateText planned vectors events stored
  pub shown : Node → Row
  pub showing : IsShowing planned.split vectors is_stored.now shown
  pub spelt : text
      ≡ stored ++ open_lines is_stored.now.count shown (length planned.split.clusters)

-- the text of a log that is replayed, with or without what open latches show
abbrev pub IsReplayText : Bool → Planned → List Row → List ℕ → List ℕ → Type 0
IsReplayText false planned vectors events text = IsStateText planned vectors events text
IsReplayText true planned vectors events text = IsOpenText planned vectors events text
