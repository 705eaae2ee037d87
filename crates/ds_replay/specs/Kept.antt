-- What a call keeps of a log, and the text that it writes of that.
use Rattle.std.specs.Prelude.{◌≡◌, ℕ, Bool, List, [], ◌++◌, length, slice_index_or}
use Rattle.std.specs.Prelude.{if◌then◌else◌}
use Rattle.std.specs.List.{flat_map, range_with_len}
use Rattle.ds_base.specs.Values.{Row}
use Rattle.ds_latch.specs.Node.{members}
use Rattle.ds_latch.specs.declared.node.Node.TheVariants.{Slave}
use Rattle.ds_latch.specs.Plan.{Planned}
use Rattle.ds_fire.specs.Snapshot.{Snapshot, split_of, stored_values, count_of, held_row}
use Rattle.ds_rows.specs.Homes.{no_home}
use Rattle.ds_rows.specs.Log.{joined_at_place, fired_line, stored_text}
use Rattle.ds_rows.specs.Nets.{register_of}
use Rattle.ds_rows.specs.declared.homes.Home.{Home}
use Rattle.ds_replay.specs.Replayed.{IsReplayed}
use Rattle.ds_replay.specs.OpenLines.{open_lines}
use Rattle.ds_replay.specs.ReplayText.{IsReplayText}

-- these firings lead to what is kept, and so many they are
pub record IsAfterLog (planned : Planned) (vectors : List Row) (events : List ℕ) (kept : Snapshot)
    (fired : ℕ) : Type 0 where
  pub state : IsReplayed planned vectors events kept
  pub count : fired ≡ length events

-- whatever log led to what is kept, this is its text
pub record IsKeptText (transparent : Bool) (kept : Snapshot) (fired : ℕ) (text : List ℕ) :
    Type 0 where
  pub is : (planned : Planned) (vectors : List Row) (events : List ℕ)
      → IsAfterLog planned vectors events kept fired
      → IsReplayText transparent planned vectors events text

-- the line of a register, by where the registers stand
abbrev pub register_line : Snapshot → List Home → ℕ → List ℕ
register_line kept homes r = stored_text (register_of (split_of kept).circuit r)
    (joined_at_place (length (members (split_of kept) (slice_index_or homes r no_home).cluster))
    (slice_index_or homes r no_home).place
    (stored_values kept (Slave (slice_index_or homes r no_home).cluster)))

-- the lines of all registers, by where they stand, and the line of the firings
abbrev pub state_text : Snapshot → List Home → ℕ → ℕ → List ℕ
state_text kept homes fired most =
    flat_map (register_line kept homes) (range_with_len 0 (length homes)) ++ fired_line fired most

-- the lines of the open nodes, where they are wanted
abbrev pub open_part : Bool → Snapshot → List ℕ
open_part transparent kept = if transparent
    then open_lines (count_of kept) (held_row kept) (length (split_of kept).clusters) else []
