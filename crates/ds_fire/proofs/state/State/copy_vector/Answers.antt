use Rattle.std.proofs.Common.{◌<◌, ℕ, sym, subst}
use Rattle.ds_latch.specs.Node.{closing}
use Rattle.ds_latch.specs.declared.node.Node.TheVariants.{In}
use Rattle.ds_fire.specs.Fired.{IsReached, IsSnapshotSound}
use Rattle.ds_fire.specs.Snapshot.{Snapshot, limit_of, count_of}
use Rattle.ds_fire.proofs.OpenNodesHold.{vector_there}
use Rattle.ds_fire.proofs.state.State.copy_vector.Goals as goal

pub row-requires : goal.row-requires
row-requires c =
    let sound : IsSnapshotSound c.args.self.now = subst IsSnapshotSound c.self.view_is c.self.invariant.sound in
    let reached : IsReached c.args.self.now = subst IsReached c.self.view_is c.self.invariant.reached in
    let below : count_of c.args.self.now (closing In) < limit_of c.args.self.now = vector_there c.args.self.now sound reached c.requires.opened in
    subst (λ (k : Snapshot). c.vector_shown.result < limit_of k) (sym c.self.view_is)
    (subst (λ (k : ℕ). k < limit_of c.args.self.now) (sym c.vector_shown.ensures) below)
