-- What the parts of a state have to do with each other.
use Rattle.std.specs.Prelude.{◌≡◌, ℕ, ◌*◌, ◌≤◌, List, length, slice_index}
use Rattle.ds_design.specs.Circuit.{columns}
use Rattle.ds_latch.specs.Node.{IsNode, number_of}
use Rattle.ds_latch.specs.declared.node.Node.{Node}
use Rattle.ds_latch.specs.Plan.{Planned}
use Rattle.ds_design.specs.Rows.{Rows}
use Rattle.ds_fire.specs.Snapshot.{Snapshot, split_of, limit_of, width_of}
use Rattle.ds_fire.specs.Fired.{IsReached, IsSnapshotSound}
use Rattle.ds_fire.specs.Feeds.{AreFeeds}
use Rattle.ds_fire.specs.Turn.{rooms_of, values_of}
use Rattle.ds_fire.specs.declared.feeds.Feeds.{Feeds}
use Rattle.ds_fire.specs.declared.kept.Kept.{Kept}

-- what is seen of the parts
abbrev pub snapshot_seen : Planned → Rows → List ℕ → Kept → Snapshot
snapshot_seen planned vectors counts kept = record {
  planned = planned;
  vectors = vectors.rows;
  counts = counts;
  rows = kept.rows.items;
  stored = values_of kept.stored.items;
}

-- each node has room for as many rows as there are vectors
abbrev pub HaveRoom : Snapshot → Kept → Type 0
HaveRoom snapshot kept = (n : Node) → IsNode (split_of snapshot) n
    → limit_of snapshot * width_of snapshot n ≤ slice_index (rooms_of kept.stored.items)
    (number_of n)

-- the parts stand for what is seen
pub record IsRunning (snapshot : Snapshot) (vectors : Rows) (kept : Kept)
    (feeds : Feeds) : Type 0 where
  pub sound : IsSnapshotSound snapshot
  pub reached : IsReached snapshot
  pub width : vectors.width ≡ length (columns (split_of snapshot).circuit)
  pub low : (split_of snapshot).slack ≤ 15
  pub few : limit_of snapshot ≤ 65536
  pub room : HaveRoom snapshot kept
  pub nets : length kept.nets ≡ length (split_of snapshot).circuit.nets
  pub fed : AreFeeds (split_of snapshot) feeds
