use Rattle.std.proofs.Common.{◌≡◌, ℕ}
use Rattle.ds_outside.specs.Pen.{Puts}
use Rattle.ds_times.specs.Schedule.{IsSchedule}
use Rattle.ds_stage.specs.TimesStage.{time_lines}
use Rattle.ds_app.proofs.times_text.put_turns.Given as goal

-- so many turns are written, and the schedule has come to the last of them
abbrev pub invariant-loop-k : goal.invariant-loop-k
invariant-loop-k g l = record {
  same : (g.P.Pen.writing l.pen).name ≡ (g.P.Pen.writing l.initial.pen).name;
  arcs : l.schedule.arcs ≡ l.initial.schedule.arcs;
  events : l.schedule.events ≡ l.initial.schedule.events;
  turn : l.schedule.turn ≡ l.k;
  written : (time : ℕ → ℕ → ℕ) → IsSchedule l.initial.schedule.arcs l.turns time
      → Puts (g.P.Pen.writing l.initial.pen) (g.P.Pen.writing l.pen)
      (time_lines l.plan.graph time l.order l.k);
}
