use Rattle.std.proofs.Common.{inl, refl}
use Rattle.ds_stage.specs.Report.{report_text}
use Rattle.ds_stage.proofs.report.write_report.Goals as goal

pub returns-in-Ok-clause-value : goal.returns-in-Ok-clause-value
returns-in-Ok-clause-value g c =
    let (depth, is, writes) = c.in-Ok.ensures in
    (report_text c.args.netlist.now depth, (depth, is, refl), writes.ok)

pub returns-in-Ok-clause-same_writes : goal.returns-in-Ok-clause-same_writes
returns-in-Ok-clause-same_writes g c = let (depth, is, writes) = c.in-Ok.ensures in writes.ok_same

pub returns-in-Err-clause-value : goal.returns-in-Err-clause-value
returns-in-Err-clause-value g c =
    let (depth, is, writes) = c.in-Err.ensures in (
      report_text c.args.netlist.now depth,
      inl (depth, is, refl),
      writes.err,
      writes.cause,
    )
