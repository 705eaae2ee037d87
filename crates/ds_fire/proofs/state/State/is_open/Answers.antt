use Rattle.std.proofs.Common.{◌≡◌, ◌∙◌, ◌<◌, ◌≤◌, ◌+◌, ◌*◌, ◌^◌, ℕ, length, ap, subst, arith}
use Rattle.ds_fire.specs.Fired.{IsReached, IsSnapshotSound}
use Rattle.ds_fire.specs.Snapshot.{Snapshot, graph_of, limit_of, count_of}
use Rattle.ds_fire.proofs.OpenNodesHold.{events_there}
use Rattle.ds_fire.proofs.Turning.{count_low}
use Rattle.ds_fire.proofs.state.State.is_open.Goals as goal

pub overflow_mul-number : goal.overflow_mul-number
overflow_mul-number c =
    let sound : IsSnapshotSound c.args.self.now = subst IsSnapshotSound c.self.view_is c.self.invariant.sound in
    let there : 2 * c.args.latch + 1 < length (graph_of c.args.self.now).events = events_there c.args.self.now sound c.args.latch c.requires in
    let few : length (graph_of c.args.self.now).events < 2 ^ 32 = sound.few in
    let is : c.number.result ≡ c.args.latch = c.number.ensures in
    omega arith

pub count-opened-requires : goal.count-opened-requires
count-opened-requires c =
    let sound : IsSnapshotSound c.args.self.now = subst IsSnapshotSound c.self.view_is c.self.invariant.sound in
    let there : 2 * c.args.latch + 1 < length (graph_of c.args.self.now).events = events_there c.args.self.now sound c.args.latch c.requires in
    let is : c.new.result ≡ 2 * c.args.latch = c.new.ensures ∙ ap (λ (k : ℕ). 2 * k) c.number.ensures in
    omega arith

pub count-closed-requires : goal.count-closed-requires
count-closed-requires c =
    let sound : IsSnapshotSound c.args.self.now = subst IsSnapshotSound c.self.view_is c.self.invariant.sound in
    let there : 2 * c.args.latch + 1 < length (graph_of c.args.self.now).events = events_there c.args.self.now sound c.args.latch c.requires in
    let is : c.new-2.result ≡ 2 * c.args.latch + 1 = c.new-2.ensures ∙ ap (λ (k : ℕ). 2 * k + 1) c.number-2.ensures in
    omega arith

pub overflow_add-result : goal.overflow_add-result
overflow_add-result c =
    let sound : IsSnapshotSound c.args.self.now = subst IsSnapshotSound c.self.view_is c.self.invariant.sound in
    let reached : IsReached c.args.self.now = subst IsReached c.self.view_is c.self.invariant.reached in
    let there : 2 * c.args.latch + 1 < length (graph_of c.args.self.now).events = events_there c.args.self.now sound c.args.latch c.requires in
    let is : c.new-2.result ≡ 2 * c.args.latch + 1 = c.new-2.ensures ∙ ap (λ (k : ℕ). 2 * k + 1) c.number-2.ensures in
    let low : count_of c.args.self.now c.new-2.result ≤ limit_of c.args.self.now = count_low c.args.self.now reached c.new-2.result (omega arith) in
    let most : limit_of c.args.self.now ≤ 65536 = subst (λ (k : Snapshot). limit_of k ≤ 65536) c.self.view_is c.self.invariant.few in
    let count : c.count-closed.result ≡ count_of c.args.self.now c.new-2.result = c.count-closed.ensures in
    omega arith
