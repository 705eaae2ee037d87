-- What a run with its log writes is fired to its end.
use Rattle.std.proofs.Common.{◌∙◌, ◌<◌, ◌^◌, ℕ, true, List, length, arith, ap}
use Rattle.ds_base.specs.Values.{Row}
use Rattle.ds_lines.specs.Line.{lines_of}
use Rattle.ds_latch.specs.Plan.{Planned}
use Rattle.ds_replay.specs.Replay.{replay_of}
use Rattle.ds_replay.specs.Printed.{HasOwnWords, IsFront}
use Rattle.ds_replay.proofs.PrintedLogs.{printed_behind, trace_is_front}
use Rattle.ds_run.specs.RunText.{IsRunText}
use Rattle.ds_laws.specs.Logs.{IsFiredWhole}

pub logged_is_fired : (p : Planned) → HasOwnWords p.graph → (vectors : List Row) → length vectors < 10 ^ 10
    → (text : List ℕ) → IsRunText true p vectors text → IsFiredWhole p (length vectors) text
logged_is_fired p has vectors low text is =
    let front : IsFront is.trace = trace_is_front p.split.circuit vectors is.trace (omega arith) is.traced in
    record {
      events = is.events;
      legal = is.legal;
      all = is.all;
      fires = ap (λ (t : List ℕ). replay_of p.graph (length vectors) (lines_of t)) is.spelt
          ∙ printed_behind p.graph has (length vectors) low is.events is.log is.legal is.logged is.trace front;
    }
