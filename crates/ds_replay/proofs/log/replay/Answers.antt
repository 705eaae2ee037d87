use Rattle.std.proofs.Common.{map, Err, arith, subst, sym}
use Rattle.ds_replay.specs.Replayed.{Replays}
use Rattle.ds_base.specs.declared.refusal.Refusal.{Refusal}
use Rattle.ds_lines.specs.declared.at.At.{At}
use Rattle.ds_replay.proofs.Replaying.{fired_all, fired_none, refused, steps_more}
use Rattle.ds_replay.proofs.log.replay.Goals as goal
use Rattle.ds_replay.specs.declared.fault.ReplayKind.{ReplayKind}

pub loop-i-init : goal.loop-i-init
loop-i-init c = fired_none c.args.plan.now c.args.vectors.now.rows c.args.lines.now c.start-i.result c.in_ok-state.state c.start-i.ensures.value c.in_ok-state.ensures

pub returns : goal.returns
returns c = fired_all c.args.plan.now c.args.vectors.now.rows c.args.lines.now c.loop-i.i c.loop-i.state (omega arith) c.reached.ensures.sound c.reached.ensures.reached c.loop-i.invariant

pub returns-in-Err : goal.returns-in-Err
returns-in-Err c =
    subst (λ (why : Refusal (At ReplayKind)). Replays c.args.plan.now c.args.vectors.now.rows c.args.lines.now (Err why)) (sym c.on_line.ensures)
    (refused c.args.plan.now c.args.vectors.now.rows c.args.lines.now c.loop-i.i c.loop-i.state c.step.new.state (map (λ w. w.now) c.line.result.now) c.in-Err.why c.number.result (omega arith) c.line.ensures.value c.number.ensures c.in-Err.ensures c.loop-i.invariant)

pub loop-i-preserved : goal.loop-i-preserved
loop-i-preserved c =
    steps_more c.args.plan.now c.args.vectors.now.rows c.args.lines.now c.loop-i.i c.loop-i.state c.step.new.state (map (λ w. w.now) c.line.result.now) (omega arith) c.line.ensures.value c.in-Ok.ensures c.loop-i.invariant
