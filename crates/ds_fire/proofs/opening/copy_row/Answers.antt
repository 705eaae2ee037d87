use Rattle.std.proofs.Common.{◌≡◌, ◌∙◌, List, [], get_or, ap, arith}
use Rattle.std.proofs.lemmas.List.{get_or-take, get_or_default}
use Rattle.ds_base.specs.Values.{Row}
use Rattle.ds_fire.proofs.RowsAfterOpening.{copy_is}
use Rattle.ds_fire.proofs.opening.copy_row.Goals as goal

pub returns : goal.returns
returns c =
    let rows : List Row = c.args.rows.now in
    let read : Row = c.index-before-from.result in
    let taken : get_or c.split_at_mut-before.result.0.now c.args.from read ≡ get_or rows c.args.from read =
    ap (λ (rs : List Row). get_or rs c.args.from read) c.split_at_mut-before.ensures.front ∙ get_or-take c.args.to rows c.args.from read c.requires.order in
    copy_is rows c.split_at_mut-before.result.0.now c.split_at_mut-before.result.1.now c.args.from c.args.to c.copy_from.new.self
    c.split_at_mut-before.ensures.front c.split_at_mut-before.ensures.back
    (c.copy_from.ensures ∙ (taken ∙ get_or_default rows c.args.from read [] (omega arith)))
