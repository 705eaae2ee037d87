use Rattle.std.proofs.Common.{arith}
use Rattle.ds_cover.specs.Series.{shelves_of}
use Rattle.ds_cover.proofs.RunBounds.{count_is}
use Rattle.ds_cover.proofs.selections.Selections.count.Goals as goal

pub returns-clause-value : goal.returns-clause-value
returns-clause-value c = let (_, bounded) = c.self.invariant in
    let size = count_is (shelves_of c.self.inside.lists) c.self.inside.bank.now c.self.inside.order.items c.self.inside.runs.items c.self.inside.bounds.items bounded c.args.self.now c.self.view_is in
    omega (size, c.len.ensures, c.self.inside.bounds.ok.0, arith)
