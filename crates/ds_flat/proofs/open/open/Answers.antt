use Rattle.ds_flat.proofs.PassedLimits.{grown_is, limit_fault}
use Rattle.ds_flat.proofs.open.open.Goals as goal

pub returns-in-Ok-clause-value : goal.returns-in-Ok-clause-value
returns-in-Ok-clause-value c = λ path.
    limit_fault path c.args.top.now.scope c.args.call.now c.args.found.model.now c.args.copies
    c.args.draft.now _ c.args.line c.in-Some.limit c.too_many.result
    (grown_is c.args.top.now.scope c.draft.inside.name.now c.draft.inside.nets
    c.draft.inside.inputs c.draft.inside.outputs c.draft.inside.clocks c.draft.inside.tables.items
    c.draft.inside.registers.items c.args.draft.now c.connect.new.nets _ _ c.draft.view_is
    c.as_slice.ensures c.in-Ok.ensures.ok)
    c.in-Some.ensures c.too_many.ensures
