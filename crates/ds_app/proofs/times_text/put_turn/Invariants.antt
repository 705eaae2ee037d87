use Rattle.std.proofs.Common.{◌≡◌, ◌≤◌, ℕ, take}
use Rattle.std.specs.List.{flat_map}
use Rattle.ds_outside.specs.Pen.{Puts}
use Rattle.ds_times.specs.Order.{firings_in}
use Rattle.ds_times.specs.Schedule.{IsSchedule}
use Rattle.ds_stage.specs.TimesStage.{time_line}
use Rattle.ds_app.proofs.times_text.put_turn.Given as goal

abbrev pub invariant-loop-i : goal.invariant-loop-i
invariant-loop-i g l = record {
  same : (g.P.Pen.writing l.pen).name ≡ (g.P.Pen.writing l.initial.pen).name;
  written : (turns : ℕ) (time : ℕ → ℕ → ℕ) → l.turn ≤ turns → IsSchedule l.schedule.arcs turns time
      → Puts (g.P.Pen.writing l.initial.pen) (g.P.Pen.writing l.pen)
      (flat_map (time_line l.plan.graph time) (firings_in (take l.i l.order) l.turn));
}
