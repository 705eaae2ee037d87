use Rattle.std.proofs.Common.{◌+◌, ◌∙◌, ap, arith, refl}
use Rattle.ds_rule.specs.Run.{Run}
use Rattle.ds_fabric.specs.Begun.{first_word_of}
use Rattle.ds_fabric.proofs.FirstPass.{first_small, first_next}
use Rattle.ds_fabric.proofs.build.step_of.Goals as goal

pub loop-node-init : goal.loop-node-init
loop-node-init g c = refl

pub overflow_add-step : goal.overflow_add-step
overflow_add-step g c = let run : Run = c.args.run.now in omega (
  arith,
  c.loop-node.invariant,
  c.stride_of-step.ensures,
  first_next run c.loop-node.node,
  first_small run (c.loop-node.node + 1) c.requires (omega (
    arith,
    c.loop-node-test.true,
    c.loop-node.auto.node-end,
    c.nodes-node-end.ensures,
  )),
)

pub loop-node-preserved : goal.loop-node-preserved
loop-node-preserved g c = omega (
  arith,
  c.loop-node.invariant,
  c.stride_of-step.ensures,
  first_next c.args.run.now c.loop-node.node,
)

pub returns : goal.returns
returns g c = c.loop-node.invariant ∙ ap (first_word_of c.args.run.now) (omega (
  arith,
  c.loop-node-test.false,
  c.loop-node.auto.node-end,
  c.nodes-node-end.ensures,
))
