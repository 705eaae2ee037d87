use Rattle.std.proofs.Common.{rules, ap}
use Rattle.std.specs.Prelude.{codes}
use Rattle.ds_outside.proofs.Pens.{finished, puts_on, with_put}
use Rattle.ds_stage.specs.Report.{count_line}
use Rattle.ds_stage.proofs.report.write_counts.Goals as goal

pub returns : goal.returns
returns g c =
    let done = finished c.new-pen.ensures.begun (puts_on (puts_on (puts_on
    (with_put (ap (count_line (codes "nets")) c.nets.ensures.value) c.put_count.ensures)
    (with_put (ap (count_line (codes "tables")) c.tables.ensures.value) c.put_count-2.ensures))
    (with_put (ap (count_line (codes "registers")) c.registers.ensures.value) c.put_count-3.ensures))
    c.put_count-4.ensures) c.finish.ensures in
    (c.levels.result, c.levels.ensures.value, search rules)
