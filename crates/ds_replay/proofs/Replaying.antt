-- The lines that are fired so far.
use Rattle.std.proofs.Common.{◌≡◌, ◌∙◌, ℕ, suc, ◌+◌, ◌<◌, ◌≤◌, List, [], ◌∷◌, ◌++◌, length, drop, Option, None, Some, Result, Ok, Err, refl, add-one, ap, sym, subst}
use Rattle.std.proofs.Math.Path.{fun_ext}
use Rattle.std.proofs.Math.Seq.{drop-cons}
use Rattle.std.proofs.lemmas.List.{append-nil, append_assoc, drop_all}
use Rattle.ds_lines.specs.Words.{first_word}
use Rattle.ds_base.specs.Values.{Row}
use Rattle.ds_lines.specs.Line.{Line, line_or_none}
use Rattle.ds_marked.specs.Graph.{Graph, IsEnabled, IsLegal, IsLegalFrom, counted, counts_after}
use Rattle.ds_latch.specs.Plan.{Planned}
use Rattle.ds_latch.specs.Firing.{State, first_state}
use Rattle.ds_fire.specs.Snapshot.{Snapshot, IsFirst, Shows, split_of, graph_of, limit_of, count_of}
use Rattle.ds_fire.specs.Fired.{IsAfter, IsFired, IsReached, IsSnapshotSound}
use Rattle.ds_fire.proofs.OneFiringMore.{fired_after, kept_counts}
use Rattle.ds_rows.specs.Texts.{event_by_text}
use Rattle.ds_replay.specs.Replayed.{IsReplayed, Replays}
use Rattle.ds_replay.specs.Step.{StepsTo}
use Rattle.ds_base.specs.declared.refusal.Refusal.{Refusal}
use Rattle.ds_base.specs.declared.refusal.Refusal.TheVariants.{Memory, Fault}
use Rattle.ds_lines.specs.First.{refusal_on}
use Rattle.ds_replay.specs.Replay.{fault_of_firing, log_fault_or, replay_from, replay_of, start_of, with_first}
use Rattle.ds_lines.specs.declared.at.At.{At}
use Rattle.ds_replay.specs.declared.fault.ReplayKind.{ReplayKind}

-- events, and then what the lines behind them give
abbrev pub onto : List ℕ → Result (List ℕ) (At ReplayKind) → Result (List ℕ) (At ReplayKind)
onto events (Ok more) = Ok (events ++ more)
onto events (Err fault) = Err fault

onto_nil : (rest : Result (List ℕ) (At ReplayKind)) → rest ≡ onto [] rest
onto_nil (Ok more) = refl
onto_nil (Err fault) = refl

onto_first : (events : List ℕ) (v : ℕ) (rest : Result (List ℕ) (At ReplayKind)) → onto events (with_first v rest) ≡ onto (events ++ v ∷ []) rest
onto_first events v (Ok more) = ap Ok (sym (append_assoc events (v ∷ []) more))
onto_first events v (Err fault) = refl

counts_push : (events : List ℕ) (count : ℕ → ℕ) (v : ℕ) → counts_after count (events ++ v ∷ []) ≡ counted v (counts_after count events)
counts_push [] count v = refl
counts_push (e ∷ events) count v = counts_push events (counted e count) v

legal_push : (g : Graph) (limit : ℕ) (events : List ℕ) (count : ℕ → ℕ) (v : ℕ) → IsLegalFrom g limit count events → IsEnabled g limit (counts_after count events) v → IsLegalFrom g limit count (events ++ v ∷ [])
legal_push g limit [] count v legal enabled = (enabled, tt)
legal_push g limit (e ∷ events) count v (one, rest) enabled = (one, legal_push g limit events (counted e count) v rest enabled)

-- so many lines are fired: the state is after these events, and all lines give them and then what the rest gives
pub record IsFiredTo (planned : Planned) (vectors : List Row) (lines : List Line) (i : ℕ) (kept : Snapshot) : Type 0 where
  pub planned_is : kept.planned ≡ planned
  pub vectors_are : kept.vectors ≡ vectors
  pub events : List ℕ
  pub legal : IsLegal (graph_of kept) (limit_of kept) events
  pub after : IsAfter kept events
  pub rest : replay_of (graph_of kept) (limit_of kept) lines ≡ onto events (replay_from (graph_of kept) (limit_of kept) (count_of kept) (drop i lines))

-- how often events have fired after a list
counts_are : (kept : Snapshot) (events : List ℕ) → IsAfter kept events → counts_after (λ _. 0) events ≡ count_of kept
counts_are kept events (now, all, shows) = fun_ext (λ u. kept_counts kept events now all shows u)

-- nothing is fired
pub fired_none : (planned : Planned) (vectors : List Row) (lines : List Line) (i : ℕ) (kept : Snapshot) → i ≡ start_of lines → IsFirst planned vectors kept → IsFiredTo planned vectors lines i kept
fired_none planned vectors lines i kept at first =
    let now : State = first_state (split_of kept) in
    let shows : Shows kept now = subst (λ (p : Planned). Shows kept (first_state p.split)) (sym first.planned_is) first.shows in
    let after : IsAfter kept [] = (now, refl, shows) in
    record {
      planned_is = first.planned_is;
      vectors_are = first.vectors_are;
      events = [];
      legal = tt;
      after = after;
      rest = onto_nil (replay_of (graph_of kept) (limit_of kept) lines)
          ∙ (ap (λ (count : ℕ → ℕ). onto [] (replay_from (graph_of kept) (limit_of kept) count (drop (start_of lines) lines))) (counts_are kept [] after)
          ∙ ap (λ (k : ℕ). onto [] (replay_from (graph_of kept) (limit_of kept) (count_of kept) (drop k lines))) (sym at));
    }

-- a line more, which has no fault
rest_more : (g : Graph) (limit : ℕ) (count : ℕ → ℕ) (lines : List Line) (i : ℕ) (events : List ℕ) (all : Result (List ℕ) (At ReplayKind)) → i < length lines
    → fault_of_firing g limit count (line_or_none lines i).words ≡ None
    → all ≡ onto events (replay_from g limit count (drop i lines))
    → all ≡ onto (events ++ event_by_text g (first_word (line_or_none lines i).words) ∷ []) (replay_from g limit (counted (event_by_text g (first_word (line_or_none lines i).words)) count) (drop (i + 1) lines))
rest_more g limit count lines i events all inside clean is =
    let line : Line = line_or_none lines i in
    let v : ℕ = event_by_text g (first_word line.words) in
    let rest : Result (List ℕ) (At ReplayKind) = replay_from g limit (counted v count) (drop (i + 1) lines) in
    is
    ∙ (ap (λ (ls : List Line). onto events (replay_from g limit count ls)) (drop-cons lines i (line_or_none [] 0) inside ∙ ap (λ (n : ℕ). line ∷ drop n lines) (sym (add-one i)))
    ∙ (ap (λ (kind : Option ReplayKind). onto events (log_fault_or kind line.number (with_first v rest))) clean
    ∙ onto_first events v rest))

pub fired_more : (planned : Planned) (vectors : List Row) (lines : List Line) (i : ℕ) (old new : Snapshot) → i < length lines
    → fault_of_firing (graph_of old) (limit_of old) (count_of old) (line_or_none lines i).words ≡ None
    → IsFired old (event_by_text (graph_of old) (first_word (line_or_none lines i).words)) new
    → IsFiredTo planned vectors lines i old → IsFiredTo planned vectors lines (i + 1) new
fired_more planned vectors lines i old new inside clean fired before =
    let v : ℕ = event_by_text (graph_of old) (first_word (line_or_none lines i).words) in
    let events : List ℕ = before.events ++ v ∷ [] in
    let old_counts : counts_after (λ _. 0) before.events ≡ count_of old = counts_are old before.events before.after in
    let enabled : IsEnabled (graph_of old) (limit_of old) (counts_after (λ _. 0) before.events) v =
    subst (λ (count : ℕ → ℕ). IsEnabled (graph_of old) (limit_of old) count v) (sym old_counts) fired.enabled in
    let legal : IsLegal (graph_of old) (limit_of old) events = legal_push (graph_of old) (limit_of old) before.events (λ _. 0) v before.legal enabled in
    let after : IsAfter new events = fired_after old new v before.events fired before.after in
    let counts : counted v (count_of old) ≡ count_of new = ap (counted v) (sym old_counts) ∙ (sym (counts_push before.events (λ _. 0) v) ∙ counts_are new events after) in
    let rest : replay_of (graph_of old) (limit_of old) lines ≡ onto events (replay_from (graph_of old) (limit_of old) (count_of new) (drop (i + 1) lines)) =
    rest_more (graph_of old) (limit_of old) (count_of old) lines i before.events (replay_of (graph_of old) (limit_of old) lines) inside clean before.rest
    ∙ ap (λ (count : ℕ → ℕ). onto events (replay_from (graph_of old) (limit_of old) count (drop (i + 1) lines))) counts in
    record {
      planned_is = fired.planned ∙ before.planned_is;
      vectors_are = fired.vectors ∙ before.vectors_are;
      events = events;
      legal = subst (λ (p : Planned). IsLegal p.graph (limit_of new) events) (sym fired.planned)
          (subst (λ (vs : List Row). IsLegal (graph_of old) (length vs) events) (sym fired.vectors) legal);
      after = after;
      rest = subst (λ (p : Planned). replay_of p.graph (limit_of new) lines ≡ onto events (replay_from p.graph (limit_of new) (count_of new) (drop (i + 1) lines))) (sym fired.planned)
          (subst (λ (vs : List Row). replay_of (graph_of old) (length vs) lines ≡ onto events (replay_from (graph_of old) (length vs) (count_of new) (drop (i + 1) lines))) (sym fired.vectors) rest);
    }

-- all lines are fired
pub fired_all : (planned : Planned) (vectors : List Row) (lines : List Line) (i : ℕ) (kept : Snapshot) → length lines ≤ i → IsSnapshotSound kept → IsReached kept → IsFiredTo planned vectors lines i kept
    → (events : List ℕ) × (replay_of planned.graph (length vectors) lines ≡ Ok events) × IsReplayed planned vectors events kept
fired_all planned vectors lines i kept past sound reached fired =
    let rest : replay_of (graph_of kept) (limit_of kept) lines ≡ Ok fired.events =
    fired.rest
    ∙ (ap (λ (ls : List Line). onto fired.events (replay_from (graph_of kept) (limit_of kept) (count_of kept) ls)) (drop_all i lines past)
    ∙ ap Ok (append-nil fired.events)) in (
      fired.events,
      subst (λ (p : Planned). replay_of p.graph (length vectors) lines ≡ Ok fired.events) fired.planned_is
          (subst (λ (vs : List Row). replay_of (graph_of kept) (length vs) lines ≡ Ok fired.events) fired.vectors_are rest),
      record {
        planned_is = fired.planned_is;
        vectors_are = fired.vectors_are;
        legal = subst (λ (p : Planned). IsLegal p.graph (length vectors) fired.events) fired.planned_is
            (subst (λ (vs : List Row). IsLegal (graph_of kept) (length vs) fired.events) fired.vectors_are fired.legal);
        after = fired.after;
        sound = sound;
        reached = reached;
      },
    )

-- a line with a fault
pub fired_not : (planned : Planned) (vectors : List Row) (lines : List Line) (i : ℕ) (kept : Snapshot) (kind : ReplayKind) (line : ℕ) → i < length lines
    → fault_of_firing (graph_of kept) (limit_of kept) (count_of kept) (line_or_none lines i).words ≡ Some kind → line ≡ (line_or_none lines i).number
    → IsFiredTo planned vectors lines i kept
    → replay_of planned.graph (length vectors) lines ≡ Err (record { line = line; kind = kind })
fired_not planned vectors lines i kept kind line inside is number fired =
    let here : Line = line_or_none lines i in
    let v : ℕ = event_by_text (graph_of kept) (first_word here.words) in
    let rest : replay_of (graph_of kept) (limit_of kept) lines ≡ Err (record { line = line; kind = kind }) =
    fired.rest
    ∙ (ap (λ (ls : List Line). onto fired.events (replay_from (graph_of kept) (limit_of kept) (count_of kept) ls)) (drop-cons lines i (line_or_none [] 0) inside)
    ∙ (ap (λ (k : Option ReplayKind). onto fired.events (log_fault_or k here.number (with_first v (replay_from (graph_of kept) (limit_of kept) (counted v (count_of kept)) (drop (suc i) lines))))) is
    ∙ ap (λ (n : ℕ). onto fired.events (Err (record { line = n; kind = kind }))) (sym number))) in
    subst (λ (p : Planned). replay_of p.graph (length vectors) lines ≡ Err (record { line = line; kind = kind })) fired.planned_is
    (subst (λ (vs : List Row). replay_of (graph_of kept) (length vs) lines ≡ Err (record { line = line; kind = kind })) fired.vectors_are rest)

-- what a line's answer gives
pub steps_more : (planned : Planned) (vectors : List Row) (lines : List Line) (i : ℕ) (old new : Snapshot) (words : List (List ℕ)) → i < length lines → words ≡ (line_or_none lines i).words
    → (fault_of_firing (graph_of old) (limit_of old) (count_of old) words ≡ None) × IsFired old (event_by_text (graph_of old) (first_word words)) new
    → IsFiredTo planned vectors lines i old → IsFiredTo planned vectors lines (i + 1) new
steps_more planned vectors lines i old new words inside are (clean, fired) before =
    fired_more planned vectors lines i old new inside
    (subst (λ (ws : List (List ℕ)). fault_of_firing (graph_of old) (limit_of old) (count_of old) ws ≡ None) are clean)
    (subst (λ (ws : List (List ℕ)). IsFired old (event_by_text (graph_of old) (first_word ws)) new) are fired)
    before

pub refused : (planned : Planned) (vectors : List Row) (lines : List Line) (i : ℕ) (old new : Snapshot) (words : List (List ℕ)) (why : Refusal ReplayKind) (line : ℕ) → i < length lines → words ≡ (line_or_none lines i).words
    → line ≡ (line_or_none lines i).number → StepsTo old words new (Err why)
    → IsFiredTo planned vectors lines i old → Replays planned vectors lines (Err (refusal_on line why))
refused planned vectors lines i old new words Memory line inside are number step before = tt
refused planned vectors lines i old new words (Fault kind) line inside are number step before =
    fired_not planned vectors lines i old kind line inside (subst (λ (ws : List (List ℕ)). fault_of_firing (graph_of old) (limit_of old) (count_of old) ws ≡ Some kind) are step) number before
