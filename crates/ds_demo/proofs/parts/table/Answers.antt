use Rattle.std.proofs.Common.{rules}
use Rattle.ds_demo.proofs.DemoInRange.{rows-fit}
use Rattle.ds_demo.proofs.parts.table.Goals as goal

pub of-requires : goal.of-requires
of-requires c = search (rules, rows-fit)
