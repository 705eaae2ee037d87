use Rattle.std.proofs.Common.{map, arith, subst, sym}
use Rattle.ds_base.specs.Refusal.{RefusesAs}
use Rattle.ds_period.specs.Read.{delays_of}
use Rattle.ds_base.specs.declared.refusal.Refusal.{Refusal}
use Rattle.ds_lines.specs.declared.at.At.{At}
use Rattle.ds_period.proofs.DelayLines.{refused, taken_all, taken_more, taken_none}
use Rattle.ds_period.proofs.reader.take_lines.Goals as goal
use Rattle.ds_period.specs.declared.fault.DelayKind.{DelayKind}

pub loop-i-init : goal.loop-i-init
loop-i-init c = taken_none c.args.graph.now c.args.lines.now c.args.reading.now c.requires.none

pub step-requires-clause-one_each : goal.step-requires-clause-one_each
step-requires-clause-one_each c = c.loop-i.invariant.sizes

pub returns-in-Err-clause-fault : goal.returns-in-Err-clause-fault
returns-in-Err-clause-fault c =
    subst (λ (why : Refusal (At DelayKind)). RefusesAs why (delays_of c.args.graph.now c.args.lines.now)) (sym c.on_line.ensures)
    (refused c.args.graph.now c.args.lines.now c.loop-i.i c.loop-i.reading c.step.new.reading (map (λ w. w.now) c.line.result.now) c.in-Err.why c.number.result
    (omega arith) c.line.ensures.value c.number.ensures c.in-Err.ensures c.loop-i.invariant)

pub loop-i-preserved : goal.loop-i-preserved
loop-i-preserved c =
    taken_more c.args.graph.now c.args.lines.now c.loop-i.i c.loop-i.reading c.step.new.reading (map (λ w. w.now) c.line.result.now)
    (omega arith) c.line.ensures.value c.in-Ok.ensures c.loop-i.invariant

pub returns-clause-value : goal.returns-clause-value
returns-clause-value c = taken_all c.args.graph.now c.args.lines.now c.loop-i.i c.loop-i.reading (omega arith) c.loop-i.invariant

pub returns-clause-one_each : goal.returns-clause-one_each
returns-clause-one_each c = c.loop-i.invariant.sizes
