use Rattle.std.proofs.Common.{◌≡◌, ◌∙◌, ap, length, subst, sym}
use Rattle.ds_latch.specs.Node.{Split}
use Rattle.ds_run.proofs.WindowTexts.{row_long}
use Rattle.ds_run.proofs.window.write_window.Goals as goal

pub returns-clause-ok_row : goal.returns-clause-ok_row
returns-clause-ok_row g c =
    let (has, starts) = c.in-Ok.ensures in
    let s : Split = c.args.window.now.plan.now.split in
    let long : length c.args.window.now.plan.now.split.initial
    ≡ length c.args.window.now.plan.now.split.circuit.registers =
    subst (λ (t : Split). length t.initial ≡ length t.circuit.registers) c.latches.ensures
    (ap length (sym starts) ∙ has.registers) in
    row_long c.write_lines.result s.circuit c.args.window.now.first s.initial
    c.args.window.now.vectors.now.rows (g.O.Sink.written c.args.out.now)
    (g.O.Sink.written c.write_lines.new.out) long c.write_lines.ensures.ok
