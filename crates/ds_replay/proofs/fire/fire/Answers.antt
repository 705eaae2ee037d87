use Rattle.std.proofs.Common.{◌≡◌, ◌∙◌, ◌+◌, Some, refl, arith, ap, sym}
use Rattle.ds_fire.specs.Snapshot.{graph_of, limit_of, count_of}
use Rattle.ds_replay.specs.declared.fault.ReplayKind.{ReplayKind}
use Rattle.ds_replay.proofs.Blocking.{blocked_is, enabled_is}
use Rattle.ds_replay.proofs.fire.fire.Goals as goal

pub returns-in-Ok : goal.returns-in-Ok
returns-in-Ok c =
    let now = c.args.state.now in
    let next : c.args.turn ≡ count_of c.args.state.now c.args.event + 1 = omega (arith, c.if-turn-eq0.false, c.if-turn-count.false, c.count.ensures) in
    (enabled_is (graph_of now) (limit_of now) (count_of now) c.args.event c.args.turn next c.in-Ok.ensures.ok.enabled, c.in-Ok.ensures.ok)

pub returns-in-Err : goal.returns-in-Err
returns-in-Err c =
    let now = c.args.state.now in
    let next : c.args.turn ≡ count_of c.args.state.now c.args.event + 1 = omega (arith, c.if-turn-eq0.false, c.if-turn-count.false, c.count.ensures) in
    blocked_is (graph_of now) (limit_of now) (count_of now) c.args.event c.args.turn next c.in-Err.blocked ((c.in-Err.ensures.fault c.in-Err.blocked).0 refl)
    ∙ ap (λ (kind : ReplayKind). Some kind) (sym c.kind_of.ensures)
