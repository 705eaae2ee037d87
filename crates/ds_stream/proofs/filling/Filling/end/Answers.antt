use Rattle.std.proofs.Common.{◌≤◌, subst, ◌+◌}
use Rattle.ds_stream.specs.Filling.{TakesLine, Filled}
use Rattle.ds_stream.proofs.TakenLine.{ended}
use Rattle.ds_stream.proofs.filling.Filling.end.Goals as goal

pub returns-clause-ends : goal.returns-clause-ends
returns-clause-ends c =
    let short : c.args.self.now.place ≤ 281474976710656 = subst (λ (f : Filled). f.place ≤ 281474976710656) c.self.view_is c.self.invariant.1 in
    ended c.take_line.result c.args.self.now c.take_line.new.self short
    (subst (λ (f : Filled). TakesLine c.take_line.result (record f { lines = f.lines + 1 }) c.take_line.new.self) c.self.view_is c.take_line.ensures.takes)
