use Rattle.std.proofs.Common.{◌∙◌, ap, arith, sym}
use mathlib.Core.Logic.{dite}
use native.Mathlib.Decide.{ℕ_discrete}
use Rattle.ds_rule.specs.Run.{Run}
use Rattle.ds_rule.specs.Rule.{seen}
use Rattle.ds_runner.proofs.in_order.is_unfired.Goals as goal

pub overflow_cast-node : goal.overflow_cast-node
overflow_cast-node g c = omega (
  arith,
  c.looking-test.true,
  c.looking.auto.node-end,
  c.nodes-node-end.ensures,
  c.requires.sound.few,
)

pub fired-fired-requires : goal.fired-fired-requires
fired-fired-requires g c = c.requires.all c.new.result (omega arith) (omega (
  arith,
  c.new.ensures,
  c.looking-test.true,
  c.looking.auto.node-end,
  c.nodes-node-end.ensures,
  ap (λ (r : Run). r.nodes) c.requires.run,
))

pub looking-preserved : goal.looking-preserved
looking-preserved g c n low = dite (ℕ_discrete n c.looking.node)
    (λ e. omega (
      arith,
      c.if-fired-gt0.false,
      c.fired-fired.ensures.value,
      ap (seen c.args.pass.now.view) (e ∙ sym c.new.ensures),
    ))
    (λ apart. c.looking.invariant n (omega arith))

pub returns : goal.returns
returns g c so l near = c.looking.invariant l
    (omega (arith, near, c.looking-test.false, c.looking.auto.node-end, c.nodes-node-end.ensures))
