-- The text of a timed run, turn by turn and line by line.
use Rattle.std.proofs.Common.{◌≡◌, ◌∙◌, ◌+◌, ◌++◌, ◌<◌, ℕ, zero, suc, List, [], ◌∷◌, length, take, Option, Result, Ok, Err, add-one, refl, arith, ap, ap₂, inl, sym}
use Rattle.std.specs.Prelude.{codes, decimal, slice_index}
use Rattle.std.specs.List.{flat_map}
use Rattle.std.proofs.lemmas.List.{append-nil, append_assoc, take_more}
use Rattle.std.proofs.lemmas.List.Concat.{flat_map-append}
use Rattle.ds_marked.specs.Graph.{Graph}
use Rattle.ds_marked.specs.Log.{text_of_event}
use Rattle.ds_outside.specs.Writes.{Writes}
use Rattle.ds_outside.specs.declared.sink.WriteFault.{WriteFault}
use Rattle.ds_rank.specs.Rank.{AreRanks}
use Rattle.ds_period.specs.Timing.{timed_arcs}
use Rattle.ds_times.specs.Order.{Firing, IsByRank, firings_from, firings_in}
use Rattle.ds_times.specs.Schedule.{IsSchedule}
use Rattle.ds_stage.specs.declared.stop.Stop.{Stop}
use Rattle.ds_stage.specs.declared.stop.Stop.TheVariants.{Unwritten}
use Rattle.ds_stage.specs.Ends.{Ends, Never, Output}
use Rattle.ds_stage.specs.Stage.{giving}
use Rattle.ds_stage.specs.TimesStage.{IsTimesText, time_line, time_lines}

-- one turn more
turns_more : (order : List ℕ) (k turns : ℕ) → firings_from order k (suc turns) ≡ firings_from order k turns ++ firings_in order (k + turns)
turns_more order k zero = append-nil (firings_in order k) ∙ ap (firings_in order) (let e : k ≡ k + 0 = omega arith in e)
turns_more order k (suc turns) =
    ap (λ (fs : List Firing). firings_in order k ++ fs)
    (turns_more order (k + 1) turns ∙ ap (λ (n : ℕ). firings_from order (k + 1) turns ++ firings_in order n) (let e : k + 1 + turns ≡ k + suc turns = omega arith in e))
    ∙ sym (append_assoc (firings_in order k) (firings_from order (k + 1) turns) (firings_in order (k + suc turns)))

-- the lines of one turn more
pub turn_more : (g : Graph) (time : ℕ → ℕ → ℕ) (order : List ℕ) (k : ℕ)
    → time_lines g time order (k + 1) ≡ time_lines g time order k ++ flat_map (time_line g time) (firings_in order (k + 1))
turn_more g time order k =
    ap (λ (n : ℕ). flat_map (time_line g time) (firings_from order 1 n)) (add-one k)
    ∙ (ap (flat_map (time_line g time)) (turns_more order 1 k)
    ∙ (flat_map-append (time_line g time) (firings_from order 1 k) (firings_in order (1 + k))
    ∙ ap (λ (n : ℕ). time_lines g time order k ++ flat_map (time_line g time) (firings_in order n)) (let e : 1 + k ≡ k + 1 = omega arith in e)))

firings_join : (xs ys : List ℕ) (k : ℕ) → firings_in (xs ++ ys) k ≡ firings_in xs k ++ firings_in ys k
firings_join [] ys k = refl
firings_join (x ∷ xs) ys k = ap (λ (fs : List Firing). record { event = x; turn = k } ∷ fs) (firings_join xs ys k)

-- the line of one event more in a turn
pub event_more : (g : Graph) (time : ℕ → ℕ → ℕ) (order : List ℕ) (k i v : ℕ) (at : ℕ) → i < length order → take (i + 1) order ≡ take i order ++ v ∷ [] → at ≡ time v k
    → flat_map (time_line g time) (firings_in (take i order) k)
    ++ (text_of_event g v ++ codes " " ++ decimal k ++ codes " " ++ decimal at ++ codes "\n")
    ≡ flat_map (time_line g time) (firings_in (take (i + 1) order) k)
event_more g time order k i v at inside more is =
    ap (λ (t : ℕ). flat_map (time_line g time) (firings_in (take i order) k) ++ (text_of_event g v ++ codes " " ++ decimal k ++ codes " " ++ decimal t ++ codes "\n")) is
    ∙ (ap (λ (text : List ℕ). flat_map (time_line g time) (firings_in (take i order) k) ++ text)
    (sym (append-nil (time_line g time (record { event = v; turn = k }))))
    ∙ (sym (flat_map-append (time_line g time) (firings_in (take i order) k) (firings_in (v ∷ []) k))
    ∙ ap (flat_map (time_line g time)) (sym (firings_join (take i order) (v ∷ []) k) ∙ ap (λ (vs : List ℕ). firings_in vs k) (sym more))))

-- a last stage whose text was written
pub ends_written : {T : Type 0} (P : List ℕ → Type 0) (text : List ℕ) → P text → (done : T) (out : Output)
    → Writes {T = T} {E = WriteFault} (Ok done) out.old out.new out.before out.now text → Ends {A = Unit {0}} (giving P) Never out (Ok tt)
ends_written P text is done out written = (text, is, written.ok)

-- or in part
pub ends_unwritten : {T : Type 0} (P : List ℕ → Type 0) (text : List ℕ) → P text → (why : WriteFault) (out : Output)
    → Writes {T = T} {E = WriteFault} (Err why) out.old out.new out.before out.now text → Ends {A = Unit {0}} (giving P) Never out (Err Unwritten)
ends_unwritten P text is why out written = (text, inl is, written.err, written.cause)

-- the lines of the times of a schedule
pub is_times : (g : Graph) (delays ranks order listed : List ℕ) (turns : ℕ) (time : ℕ → ℕ → ℕ) → AreRanks g ranks
    → IsByRank (slice_index ranks) (length g.events) order → listed ≡ order → IsSchedule (timed_arcs g.arcs delays) turns time
    → IsTimesText g delays turns (time_lines g time listed turns)
is_times g delays ranks order listed turns time are by_rank same schedule = record {
  ranks = ranks;
  are_ranks = are;
  order = order;
  by_rank = by_rank;
  time = time;
  schedule = schedule;
  spelt = ap (λ (vs : List ℕ). time_lines g time vs turns) same;
}
