use Rattle.std.proofs.Common.{◌<◌, ◌+◌, ◌*◌, length, subst, arith}
use Rattle.ds_fire.specs.Fired.{IsSnapshotSound}
use Rattle.ds_fire.specs.Snapshot.{graph_of}
use Rattle.ds_fire.proofs.OpenNodesHold.{events_there}
use Rattle.ds_fire.proofs.state.State.vector_shown.Goals as goal

pub count-requires : goal.count-requires
count-requires c =
    let sound : IsSnapshotSound c.args.self.now = subst IsSnapshotSound c.self.view_is c.self.invariant.sound in
    let there : 2 * 0 + 1 < length (graph_of c.args.self.now).events = events_there c.args.self.now sound 0 (omega arith) in
    omega (arith, c.new.ensures)
