use Rattle.std.proofs.Common.{sym}
use Rattle.ds_run.specs.declared.sums.Sums.{Sums}
use Rattle.ds_run.proofs.Summed.{summed}
use Rattle.ds_run.proofs.sums.sum_run.Goals as goal

pub sum_turns-requires-clause-stored : goal.sum_turns-requires-clause-stored
sum_turns-requires-clause-stored g c =
    (c.args.vectors.now.rows, (c.in_ok-recorded.ensures.ok, sym c.count.ensures.value))

pub returns : goal.returns
returns g c =
    let sums : Sums = record { ones = c.in_ok-ones.ones; fold = c.sum.result } in
    summed c.args.plan.now c.args.vectors.now.rows sums c.sum_turns.new.line.registers
    c.sum_turns.new.fold c.add_end.new.fold c.requires.start
    (c.in_ok-ones.ensures c.args.vectors.now.rows (c.in_ok-recorded.ensures.ok, sym c.count.ensures.value))
    c.in_ok-add_end.ensures c.sum.ensures
