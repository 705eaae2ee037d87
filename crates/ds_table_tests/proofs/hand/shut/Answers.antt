use Rattle.std.proofs.Common.{ap, arith}
use Rattle.ds_runner.specs.declared.turn_view.TurnView.{TurnView}
use Rattle.ds_table_tests.proofs.TestTurnstile.{back}
use Rattle.ds_table_tests.proofs.hand.shut.Goals as goal

pub all_fired-requires : goal.all_fired-requires
all_fired-requires c = back c.args.fabric.now c.args.stile c.join.new.turn.view.made
    c.close.new.into.items c.requires.stile c.close.ensures

pub returns-clause-back : goal.returns-clause-back
returns-clause-back c = back c.args.fabric.now c.args.stile c.join.new.turn.view.made
    c.close.new.into.items c.requires.stile c.close.ensures

pub returns-clause-made : goal.returns-clause-made
returns-clause-made c = omega (
  arith,
  c.all_fired.ensures,
  c.close.ensures.sum,
  ap (λ (v : TurnView). v.made) c.join.ensures.view,
  c.requires.stile.unfired,
)
