-- The delays of a graph's arcs, and the text of its period.
use Rattle.std.specs.Prelude.{◌≡◌, ℕ, List, ◌++◌, codes, decimal, length, map}
use Rattle.std.specs.Prelude.{slice_index}
use Rattle.std.specs.List.{flat_map, range_with_len}
use Rattle.ds_outside.specs.Held.{Held}
use Rattle.ds_outside.specs.declared.files.Which.TheVariants.{Delays}
use Rattle.ds_lines.specs.Line.{Line}
use Rattle.ds_marked.specs.Graph.{Graph}
use Rattle.ds_marked.specs.Log.{text_of_event}
use Rattle.ds_period.specs.Period.{IsPeriod}
use Rattle.ds_period.specs.Read.{delays_of}
use Rattle.ds_period.specs.Timing.{timed_arcs}
use Rattle.ds_period.specs.declared.fault.DelayKind.{DelayKind}
use Rattle.ds_period.specs.declared.fault.DelayKind.TheVariants.{BadWord, UnknownOrder}
use Rattle.ds_period.specs.declared.fault.DelayKind.TheVariants.{RepeatedOrder}
use Rattle.ds_stage.specs.FaultText.{with_blanks}
use Rattle.ds_stage.specs.Stage.{Stage, giving, then_stage}
use Rattle.ds_stage.specs.Stages.{lines_stage, read_or_line, result_stage}

-- the fault of a line of delays
abbrev pub delay_text : DelayKind → List ℕ
delay_text BadWord = codes "bad word"
delay_text (UnknownOrder from to) = codes "unknown order " ++ from ++ codes " to " ++ to
delay_text (RepeatedOrder from to) = codes "repeated order " ++ from ++ codes " to " ++ to

-- the delays that lines give the arcs of a graph
abbrev pub given_stage : List ℕ → Graph → List Line → Stage (List ℕ)
given_stage file g lines = result_stage (read_or_line file delay_text (delays_of g lines))

-- the delays of a file
abbrev pub delays_stage : (List ℕ → Held) → List ℕ → Graph → Stage (List ℕ)
delays_stage held file g = then_stage (lines_stage held Delays file) (given_stage file g)

-- the line of the ratio, delay by tokens
abbrev pub ratio_line : ℕ → ℕ → List ℕ
ratio_line p q = codes "period " ++ decimal p ++ codes "/" ++ decimal q ++ codes "\n"

-- the line of the cycle, from its least event on
abbrev pub cycle_line : Graph → List ℕ → List ℕ
cycle_line g cycle = codes "cycle" ++ with_blanks (map (text_of_event g) cycle) ++ codes "\n"

-- the line of an event's potential
abbrev pub potential_line : Graph → ℕ → ℕ → List ℕ
potential_line g v potential =
    codes "potential " ++ text_of_event g v ++ codes " " ++ decimal potential ++ codes "\n"

-- the lines of the first events, in order
abbrev pub potential_lines : Graph → List ℕ → ℕ → List ℕ
potential_lines g potentials count =
    flat_map (λ v. potential_line g v (slice_index potentials v)) (range_with_len 0 count)

-- the ratio, the cycle, and the potentials of all events
abbrev pub period_text : Graph → ℕ → ℕ → List ℕ → List ℕ → List ℕ
period_text g p q cycle potentials =
    ratio_line p q ++ cycle_line g cycle ++ potential_lines g potentials (length g.events)

-- a text of the period of a graph with a delay an arc; which of several slowest cycles it shows is
-- free
pub record IsPeriodText (g : Graph) (delays text : List ℕ) : Type 0 where
  pub p : ℕ
  pub q : ℕ
  pub cycle : List ℕ
  pub potentials : List ℕ
  pub period : IsPeriod (timed_arcs g.arcs delays) (length g.events) p q cycle potentials
  pub spelt : text ≡ period_text g p q cycle potentials

-- the text of the period of a graph, with the delays of a file
abbrev pub timed_stage : (List ℕ → Held) → List ℕ → Graph → Stage (List ℕ)
timed_stage held file g =
    then_stage (delays_stage held file g) (λ delays. giving (IsPeriodText g delays))
