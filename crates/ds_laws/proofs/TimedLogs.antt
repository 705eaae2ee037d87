-- The lines of `times` are those of a log, with a time behind.
use Rattle.std.proofs.Common.{◌≡◌, ◌∙◌, ◌<◌, ◌≤◌, ◌^◌, ◌++◌, ℕ, List, [], ◌∷◌, Option, length, map, take, append_assoc, arith, refl, ap, sym, subst}
use Rattle.std.specs.Prelude.{codes, decimal, slice_index, IsSomeAnd}
use Rattle.std.specs.List.{AllByRecursion, flat_map}
use Rattle.std.specs.Option.{option_map_or}
use Rattle.std.proofs.lemmas.Fmt.{decimal_is_IsNumeral, length-decimal-le}
use Rattle.std.proofs.lemmas.Option.{slice_get-get_or}
use Rattle.ds_lines.specs.Print.{line_text, text_of}
use Rattle.ds_marked.specs.Graph.{Graph, IsLegalFrom, counted}
use Rattle.ds_marked.specs.Log.{IsEventText, IsLegalLogFrom, event_text, text_of_event}
use Rattle.ds_marked.specs.declared.marked.Event.{Event}
use Rattle.ds_replay.proofs.LineFaults.{any_event}
use Rattle.ds_times.specs.Order.{AreAllFirings, Firing, IsListedBefore, fired_events, firings_from}
use Rattle.ds_graph_laws.specs.Listed.{HaveNextTurns}
use Rattle.ds_graph_laws.proofs.Legality.{listed_are_legal, listed_are_numbered}
use Rattle.ds_graph_laws.proofs.TurnListing.{turns_are_listed}
use Rattle.ds_stage.specs.TimesStage.{time_line}
use Rattle.ds_laws.specs.TimedLogs.{TimesAreLogs}

-- an event is written as it is written
own_text : (g : Graph) (v : ℕ) → v < length g.events → IsEventText g v (text_of_event g v)
own_text g v inside =
    subst (λ (o : Option Event). IsSomeAnd o (λ e. option_map_or event_text o [] ≡ event_text e)) (sym (slice_get-get_or g.events v any_event inside)) refl

module _ (g : Graph) (time : ℕ → ℕ → ℕ) where
  -- the words of a firing's line
  abbrev words : Firing → List (List ℕ)
  words f = text_of_event g f.event ∷ decimal f.turn ∷ decimal (time f.event f.turn) ∷ []

  -- its line
  line_is : (name turn at rest : List ℕ) → (name ++ codes " " ++ turn ++ codes " " ++ at ++ codes "\n") ++ rest ≡ line_text (name ∷ turn ∷ at ∷ []) ++ 10 ∷ rest
  line_is name turn at rest =
      let before : List ℕ = (name ++ (32 ∷ [])) ++ turn in
      let named : before ≡ name ++ 32 ∷ turn = append_assoc name (32 ∷ []) turn in
      let timed : (before ++ (32 ∷ [])) ++ at ≡ name ++ 32 ∷ (turn ++ 32 ∷ at) =
      append_assoc before (32 ∷ []) at ∙ (ap (λ (t : List ℕ). t ++ 32 ∷ at) named ∙ append_assoc name (32 ∷ turn) (32 ∷ at)) in
      append_assoc ((before ++ (32 ∷ [])) ++ at) (10 ∷ []) rest ∙ ap (λ (t : List ℕ). t ++ 10 ∷ rest) timed

  lines_are : (firings : List Firing) → flat_map (time_line g time) firings ≡ text_of (map words firings)
  lines_are [] = refl
  lines_are (f ∷ firings) =
      ap (λ (t : List ℕ). time_line g time f ++ t) (lines_are firings)
      ∙ line_is (text_of_event g f.event) (decimal f.turn) (decimal (time f.event f.turn)) (text_of (map words firings))

  three_words : (firings : List Firing) → AllByRecursion (λ ws. length ws ≡ 3) (map words firings)
  three_words [] = tt
  three_words (f ∷ firings) = (refl, three_words firings)

  module _ (turns : ℕ) (low : turns < 10 ^ 10) where
    log_from : (count : ℕ → ℕ) (firings : List Firing) → IsLegalFrom g turns count (fired_events firings) → HaveNextTurns count firings
        → IsLegalLogFrom g turns count (map (take 2) (map words firings)) (fired_events firings)
    log_from count [] legal next = tt
    log_from count (f ∷ firings) (enabled, legal) (turn, next) =
        let below : count f.event < turns = enabled.below in
        let small : f.turn < 2 ^ 64 = omega (arith, turn) in
        let (numeral, same) = decimal_is_IsNumeral f.turn small in
        let short : length (decimal f.turn) ≤ 10 = length-decimal-le 10 f.turn (omega arith) (omega (arith, turn)) small in (
          record {
            name = text_of_event g f.event;
            turn = decimal f.turn;
            two_words = refl;
            is_number = (numeral.0, short, numeral.1);
            is_event = own_text g f.event enabled.event;
            next = same ∙ turn;
            enabled = enabled;
          },
          log_from (counted f.event count) firings legal next,
        )

pub times_are_logs : TimesAreLogs
times_are_logs p plan delays turns low text is =
    let firings : List Firing = firings_from is.order 1 turns in
    let all : AreAllFirings (IsListedBefore (slice_index is.ranks)) (length p.graph.events) turns (firings_from is.order 1 turns) =
    turns_are_listed (slice_index is.ranks) (length p.graph.events) turns is.order is.by_rank in
    let legal = listed_are_legal p.graph is.ranks plan.live.ends is.are_ranks turns firings all in
    record {
      lines = map (words p.graph is.time) firings;
      spelt = is.spelt ∙ lines_are p.graph is.time firings;
      three = three_words p.graph is.time firings;
      events = fired_events firings;
      log = log_from p.graph is.time turns low (λ _. 0) firings legal.legal (listed_are_numbered p.graph is.ranks plan.live.ends is.are_ranks turns firings all);
      all = legal.full;
    }
