-- What a line gives, by its tests, and the lines that are taken so far.
use Rattle.std.proofs.Common.{◌≡◌, ◌∙◌, ℕ, ◌+◌, ◌<◌, ◌≤◌, Bool, true, false, List, [], ◌∷◌, length, drop, not, None, Some, Result, Ok, Err, refl, arith, ap, ap₂, sym, subst, inl, inr, if◌then◌else◌, length-set, add-one}
use Rattle.std.specs.Prelude.{nat_lt}
use Rattle.std.proofs.Math.Seq.{drop-cons}
use Rattle.std.proofs.lemmas.Option.{none-some, same_Some}
use Rattle.std.proofs.lemmas.Bool.{cases_Bool, false≢true, lt-ltb, le-ltb}
use Rattle.std.proofs.lemmas.List.{drop_all, length-map, length-replicate}
use Rattle.ds_base.specs.Refusal.{RefusesAs}
use Rattle.ds_lines.specs.Names.{place_of_name}
use Rattle.ds_marked.specs.Log.{event_text}
use Rattle.ds_lines.specs.Line.{Line, line_or_none}
use Rattle.ds_marked.specs.Graph.{Graph}
use Rattle.ds_rows.specs.Texts.{event_by_text, event_texts}
use Rattle.ds_lines.specs.Words.{word_at}
use Rattle.ds_period.specs.Word.{delay_on, has_delay, written_delay}
use Rattle.ds_period.specs.Read.{Given, HasOneEach, arc_between, arc_by_texts, arc_named, delays_from, delays_of, is_given, after_line, none_given, source_named, target_named, with_delay, given_with}
use Rattle.ds_period.specs.Step.{IsTaken}
use Rattle.ds_base.specs.declared.refusal.Refusal.{Refusal}
use Rattle.ds_base.specs.declared.refusal.Refusal.TheVariants.{Memory, Fault}
use Rattle.ds_lines.specs.First.{behind_line, refusal_on}
use Rattle.ds_period.specs.declared.fault.DelayKind.{DelayKind}
use Rattle.ds_period.specs.declared.fault.DelayKind.TheVariants.{BadWord, UnknownOrder, RepeatedOrder}
use Rattle.ds_period.proofs.ParallelArcs.{length-delays_with}

-- what is known where a line has a delay
pub delay_is : (words : List (List ℕ)) (delay : ℕ) → delay_on words ≡ Some delay → (has_delay words ≡ true) × (written_delay words ≡ delay)
delay_is words delay e = elim (cases_Bool (has_delay words)) [
  | inl has ↦ (has, same_Some _ _ (sym (ap (λ (b : Bool). if b then Some (written_delay words) else None) has) ∙ e))
  | inr not_so ↦ absurd (none-some delay (sym (ap (λ (b : Bool). if b then Some (written_delay words) else None) not_so) ∙ e))
]

module _ (g : Graph) (so_far : Given) (words : List (List ℕ)) where
  pub unknown : has_delay words ≡ true → length g.arcs ≤ arc_named g words
      → after_line g so_far words ≡ Err (UnknownOrder (word_at words 0) (word_at words 1))
  unknown has past = let none : nat_lt (arc_named g words) (length g.arcs) ≡ false = le-ltb (arc_named g words) (length g.arcs) past in rw (has, none) refl

  pub repeated : has_delay words ≡ true → arc_named g words < length g.arcs → is_given so_far (arc_named g words) ≡ true
      → after_line g so_far words ≡ Err (RepeatedOrder (word_at words 0) (word_at words 1))
  repeated has inside again = let some : nat_lt (arc_named g words) (length g.arcs) ≡ true = lt-ltb (arc_named g words) (length g.arcs) inside in rw (has, some, again) refl

  pub taken : has_delay words ≡ true → arc_named g words < length g.arcs → is_given so_far (arc_named g words) ≡ false
      → after_line g so_far words ≡ Ok (given_with g so_far words)
  taken has inside fresh = let some : nat_lt (arc_named g words) (length g.arcs) ≡ true = lt-ltb (arc_named g words) (length g.arcs) inside in rw (has, some, fresh) refl

-- the arc by the words of a line
found_is : (g : Graph) (words : List (List ℕ)) (a b : List ℕ) → a ≡ word_at words 0 → b ≡ word_at words 1
    → arc_by_texts g a b ≡ arc_named g words
found_is g words a b source target = ap₂ (λ (s t : List ℕ). arc_by_texts g s t) source target

pub unknown_at : (g : Graph) (so_far : Given) (words : List (List ℕ)) (delay : ℕ) (a b : List ℕ) (kind : DelayKind) → delay_on words ≡ Some delay
    → a ≡ word_at words 0 → b ≡ word_at words 1 → kind ≡ UnknownOrder (word_at words 0) (word_at words 1)
    → length g.arcs ≤ arc_by_texts g a b → after_line g so_far words ≡ Err kind
unknown_at g so_far words delay a b kind has source target is past =
    let same : arc_by_texts g a b ≡ arc_named g words = found_is g words a b source target in
    unknown g so_far words (delay_is words delay has).0 (omega arith) ∙ ap (λ (k : DelayKind). Err k) (sym is)

pub repeated_at : (g : Graph) (so_far : Given) (words : List (List ℕ)) (delay arc : ℕ) (a b : List ℕ) (kind : DelayKind) → delay_on words ≡ Some delay
    → a ≡ word_at words 0 → b ≡ word_at words 1 → kind ≡ RepeatedOrder (word_at words 0) (word_at words 1)
    → arc ≡ arc_by_texts g a b → arc < length g.arcs → false ≡ not (is_given so_far arc)
    → after_line g so_far words ≡ Err kind
repeated_at g so_far words delay arc a b kind has source target is at inside fresh =
    let same : arc ≡ arc_named g words = at ∙ found_is g words a b source target in
    repeated g so_far words (delay_is words delay has).0 (omega arith)
    (ap (λ (k : ℕ). is_given so_far k) (sym same) ∙ not_false (is_given so_far arc) fresh)
    ∙ ap (λ (k : DelayKind). Err k) (sym is)
  where
    not_false : (x : Bool) → false ≡ not x → x ≡ true
    not_false true e = refl
    not_false false e = absurd (false≢true e)

pub taken_at : (g : Graph) (so_far new : Given) (words : List (List ℕ)) (delay arc : ℕ) (a b : List ℕ) → delay_on words ≡ Some delay
    → a ≡ word_at words 0 → b ≡ word_at words 1
    → arc ≡ arc_by_texts g a b → arc < length g.arcs → true ≡ not (is_given so_far arc)
    → ((u v : ℕ) → arc ≡ arc_between g u v → new ≡ with_delay g so_far u v delay)
    → after_line g so_far words ≡ Ok new
taken_at g so_far new words delay arc a b has source target at inside fresh is =
    let same : arc ≡ arc_named g words = at ∙ found_is g words a b source target in
    let (some, value) = delay_is words delay has in
    taken g so_far words some (omega arith)
    (ap (λ (k : ℕ). is_given so_far k) (sym same) ∙ not_true (is_given so_far arc) fresh)
    ∙ ap (λ (d : ℕ). Ok (with_delay g so_far (source_named g words) (target_named g words) d)) value
    ∙ ap Ok (sym (is (source_named g words) (target_named g words) same))
  where
    not_true : (x : Bool) → true ≡ not x → x ≡ false
    not_true true e = absurd (false≢true (sym e))
    not_true false e = refl

-- a word that no event is written as
pub no_event : (g : Graph) (texts : List (List ℕ)) (word : List ℕ) → texts ≡ event_texts g
    → length texts ≤ place_of_name texts word → length g.events ≤ event_by_text g word
no_event g texts word are past =
    let same : place_of_name texts word ≡ event_by_text g word = ap (λ (ts : List (List ℕ)). place_of_name ts word) are in
    let size : length texts ≡ length g.events = ap (λ (ts : List (List ℕ)). length ts) are ∙ length-map g.events event_text in
    omega arith

-- a word that an event is written as
pub event_is : (g : Graph) (texts : List (List ℕ)) (word : List ℕ) (v : ℕ) → texts ≡ event_texts g → v ≡ place_of_name texts word
    → v ≡ event_by_text g word
event_is g texts word v are at = at ∙ ap (λ (ts : List (List ℕ)). place_of_name ts word) are

-- what is given where nothing is refused
choose : (a b c : Bool) (one two three : DelayKind) (given new : Given)
    → (let r : Result Given DelayKind = if a then Err one else if b then Err two else if c then Err three else Ok given in r ≡ Ok new) → given ≡ new
choose true b c one two three given new e = absurd cc
choose false true c one two three given new e = absurd cc
choose false false true one two three given new e = absurd cc
choose false false false one two three given new e = cc

-- a line leaves as many delays as there are arcs
pub one_each : (g : Graph) (old new : Given) (words : List (List ℕ)) → HasOneEach g old → after_line g old words ≡ Ok new → HasOneEach g new
one_each g old new words sizes e =
    let same : given_with g old words ≡ new = choose (not (has_delay words)) (not (nat_lt (arc_named g words) (length g.arcs))) (is_given old (arc_named g words))
    BadWord (UnknownOrder (word_at words 0) (word_at words 1)) (RepeatedOrder (word_at words 0) (word_at words 1)) (given_with g old words) new e in
    subst (λ (r : Given). HasOneEach g r) same (
      length-delays_with (source_named g words) (target_named g words) (written_delay words) g.arcs old.delays sizes.0 ∙ sizes.0,
      length-set old.given (arc_named g words) true ∙ sizes.1,
    )

-- so many lines are taken
pub record AreTaken (g : Graph) (lines : List Line) (i : ℕ) (so_far : Given) : Type 0 where
  pub sizes : HasOneEach g so_far
  pub rest : delays_of g lines ≡ delays_from g so_far (drop i lines)

pub taken_none : (g : Graph) (lines : List Line) (so_far : Given) → so_far ≡ none_given g → AreTaken g lines 0 so_far
taken_none g lines so_far e = subst (λ (r : Given). AreTaken g lines 0 r) (sym e) (record {
  sizes = (length-replicate (length g.arcs) 0, length-replicate (length g.arcs) false);
  rest = refl;
})

-- the lines from one on
from_here : (g : Graph) (lines : List Line) (i : ℕ) (so_far : Given) → i < length lines
    → delays_from g so_far (drop i lines)
    ≡ behind_line (line_or_none lines i).number (after_line g so_far (line_or_none lines i).words) (λ next. delays_from g next (drop (i + 1) lines))
from_here g lines i so_far inside =
    ap (λ (ls : List Line). delays_from g so_far ls)
    (drop-cons lines i (line_or_none [] 0) inside ∙ ap (λ (n : ℕ). line_or_none lines i ∷ drop n lines) (sym (add-one i)))

pub taken_more : (g : Graph) (lines : List Line) (i : ℕ) (old new : Given) (words : List (List ℕ)) → i < length lines
    → words ≡ (line_or_none lines i).words → after_line g old words ≡ Ok new → AreTaken g lines i old → AreTaken g lines (i + 1) new
taken_more g lines i old new words inside are e before = record {
  sizes = one_each g old new words before.sizes e;
  rest = before.rest ∙ from_here g lines i old inside
      ∙ ap (λ (ws : List (List ℕ)). behind_line (line_or_none lines i).number (after_line g old ws) (λ next. delays_from g next (drop (i + 1) lines))) (sym are)
      ∙ ap (λ (r : Result Given DelayKind). behind_line (line_or_none lines i).number r (λ next. delays_from g next (drop (i + 1) lines))) e;
}

pub taken_all : (g : Graph) (lines : List Line) (i : ℕ) (so_far : Given) → length lines ≤ i → AreTaken g lines i so_far
    → delays_of g lines ≡ Ok so_far.delays
taken_all g lines i so_far past are = are.rest ∙ ap (λ (ls : List Line). delays_from g so_far ls) (drop_all i lines past)

pub refused : (g : Graph) (lines : List Line) (i : ℕ) (old new : Given) (words : List (List ℕ)) (why : Refusal DelayKind) (line : ℕ) → i < length lines
    → words ≡ (line_or_none lines i).words → line ≡ (line_or_none lines i).number
    → IsTaken g old words new (Err why) → AreTaken g lines i old → RefusesAs (refusal_on line why) (delays_of g lines)
refused g lines i old new words Memory line inside are number takes before = tt
refused g lines i old new words (Fault kind) line inside are number takes before =
    before.rest ∙ from_here g lines i old inside
    ∙ ap (λ (ws : List (List ℕ)). behind_line (line_or_none lines i).number (after_line g old ws) (λ next. delays_from g next (drop (i + 1) lines))) (sym are)
    ∙ ap (λ (r : Result Given DelayKind). behind_line (line_or_none lines i).number r (λ next. delays_from g next (drop (i + 1) lines))) takes
    ∙ ap (λ (n : ℕ). Err (record { line = n; kind = kind })) (sym number)
