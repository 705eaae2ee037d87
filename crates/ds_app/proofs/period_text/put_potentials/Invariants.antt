use Rattle.std.proofs.Common.{◌≡◌, ◌++◌}
use Rattle.ds_stage.specs.PeriodStage.{potential_lines}
use Rattle.ds_app.proofs.period_text.put_potentials.Given as goal

-- the lines of the events so far are there
abbrev pub invariant-loop-v : goal.invariant-loop-v
invariant-loop-v l =
    l.text.items ≡ l.initial.text.items ++ potential_lines l.graph l.potentials l.v
