use Rattle.ds_flat.proofs.NetNumberLemmas.{latch_none_at, latch_some_at}
use Rattle.ds_flat.proofs.design_draft.latch_numbers.Goals as goal

pub returns-in-None-clause-ok : goal.returns-in-None-clause-ok
returns-in-None-clause-ok c = latch_none_at c.args.scope.now c.args.nets.now c.args.text.now _ _ _ _
    c.in-Ok.ensures.number c.in-Ok.ensures.ok c.in-Ok-number.ensures.number
    c.in-Ok-number.ensures.ok c.in-None.is

pub returns-in-Ok-number-2-clause-ok : goal.returns-in-Ok-number-2-clause-ok
returns-in-Ok-number-2-clause-ok c =
    latch_some_at c.args.scope.now c.args.nets.now c.args.text.now c.in-Some.name _ _ _ _ _ _
    c.in-Ok.ensures.number c.in-Ok.ensures.ok c.in-Ok-number.ensures.number
    c.in-Ok-number.ensures.ok c.in-Ok-number-2.ensures.number c.in-Ok-number-2.ensures.ok c.in-Some.is
