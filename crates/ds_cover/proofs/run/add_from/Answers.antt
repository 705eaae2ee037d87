use Rattle.std.proofs.Common.{◌≡◌, ℕ, get_or, length, arith}
use Rattle.std.proofs.lemmas.List.{get_or_default}
use Rattle.ds_cover.specs.Series.{shelves_of}
use Rattle.ds_cover.proofs.SetLater.{more_made}
use Rattle.ds_cover.proofs.run.add_from.Goals as goal

pub loop-at-preserved : goal.loop-at-preserved
loop-at-preserved c =
    let table : ℕ = get_or c.args.order.now c.loop-at.at 0 in
    let size : c.len-others.result ≡ length c.args.runs.now.items = omega (c.len-others.ensures, c.args.runs.now.ok.0, arith) in
    more_made c.quick.result.now c.args.bank.now c.args.order.now c.loop-at.at (get_or c.args.order.now c.loop-at.at 0) c.len-others.result c.args.start
    (shelves_of c.args.lists.now) (shelves_of c.loop-at.lists) (shelves_of c.add.new.self) c.in_ok-run.run' c.args.runs.now.items
    c.loop-at.runs.items c.push_run.new.runs.items c.loop-at-test.true (get_or_default c.args.order.now c.loop-at.at 0 table c.loop-at-test.true) size
    c.in_ok-run.ensures c.quick.ensures.drives c.quick.ensures.quick c.loop-at.invariant c.in_ok-push_run.ensures
