-- The delays that lines give the arcs of a graph, or the first fault of the lines.
use Rattle.std.specs.Prelude.{◌≡◌, ℕ, Bool, true, false, not, List, [], ◌∷◌, length}
use Rattle.std.specs.Prelude.{replicate, slice_index_or, slice_set, Result, Ok, Err, nat_lt, ◌==◌}
use Rattle.std.specs.Prelude.{◌&&◌, if◌then◌else◌}
use Rattle.std.specs.List.{position_or_len}
use Rattle.ds_lines.specs.Line.{Line}
use Rattle.ds_marked.specs.Graph.{Graph}
use Rattle.ds_marked.specs.declared.marked.Arc.{Arc}
use Rattle.ds_rows.specs.Texts.{event_by_text}
use Rattle.ds_lines.specs.Words.{word_at}
use Rattle.ds_period.specs.Word.{has_delay, written_delay}
use Rattle.ds_lines.specs.declared.at.At.{At}
use Rattle.ds_period.specs.declared.fault.DelayKind.{DelayKind}
use Rattle.ds_period.specs.declared.fault.DelayKind.TheVariants.{BadWord, UnknownOrder}
use Rattle.ds_period.specs.declared.fault.DelayKind.TheVariants.{RepeatedOrder}
use Rattle.ds_lines.specs.First.{behind_line}

-- an arc leads from u to v
abbrev pub is_from_to : ℕ → ℕ → Arc → Bool
is_from_to u v arc = (arc.source == u) && (arc.target == v)

-- the first arc from u to v; past the arcs where there is none
abbrev pub arc_between : Graph → ℕ → ℕ → ℕ
arc_between g u v = position_or_len (is_from_to u v) g.arcs

-- the first arc between the events that are written so
abbrev pub arc_by_texts : Graph → List ℕ → List ℕ → ℕ
arc_by_texts g source target = arc_between g (event_by_text g source) (event_by_text g target)

-- the event that a line names first
abbrev pub source_named : Graph → List (List ℕ) → ℕ
source_named g words = event_by_text g (word_at words 0)

-- the event that a line names next
abbrev pub target_named : Graph → List (List ℕ) → ℕ
target_named g words = event_by_text g (word_at words 1)

-- the first arc between the events that a line names
abbrev pub arc_named : Graph → List (List ℕ) → ℕ
arc_named g words = arc_between g (source_named g words) (target_named g words)

-- the delays with this one for each arc from u to v
abbrev pub delays_with : ℕ → ℕ → ℕ → List Arc → List ℕ → List ℕ
delays_with u v delay [] delays = []
delays_with u v delay (arc ∷ arcs) [] = []
delays_with u v delay (arc ∷ arcs) (old ∷ delays) =
    (if is_from_to u v arc then delay else old) ∷ delays_with u v delay arcs delays

-- the delays of the arcs so far, 0 where none is given; and at the first arc between two events
-- whether a line has given one to the arcs between them
pub record Given : Type 0 where
  pub delays : List ℕ
  pub given : List Bool

-- no delay is given
abbrev pub none_given : Graph → Given
none_given g = record {
  delays = replicate (length g.arcs) 0;
  given = replicate (length g.arcs) false;
}

-- as many as there are arcs
abbrev pub HasOneEach : Graph → Given → Type 0
HasOneEach g so_far = (length so_far.delays ≡ length g.arcs)
    × (length so_far.given ≡ length g.arcs)

-- the arcs that begin here have a delay already
abbrev pub is_given : Given → ℕ → Bool
is_given so_far arc = slice_index_or so_far.given arc false

-- a delay more, for each arc from u to v
abbrev pub with_delay : Graph → Given → ℕ → ℕ → ℕ → Given
with_delay g so_far u v delay = record {
  delays = delays_with u v delay g.arcs so_far.delays;
  given = slice_set so_far.given (arc_between g u v) true;
}

-- the delay that a line gives, for each arc between the events that it names
abbrev pub given_with : Graph → Given → List (List ℕ) → Given
given_with g so_far words =
    with_delay g so_far (source_named g words) (target_named g words) (written_delay words)

-- no arc has the ends that a line names
abbrev pub unknown_order : List (List ℕ) → DelayKind
unknown_order words = UnknownOrder (word_at words 0) (word_at words 1)

-- an earlier line has these ends
abbrev pub repeated_order : List (List ℕ) → DelayKind
repeated_order words = RepeatedOrder (word_at words 0) (word_at words 1)

-- what a line gives, or what is wrong with it: the first of the kinds that hold
abbrev pub after_line : Graph → Given → List (List ℕ) → Result Given DelayKind
after_line g so_far words =
    if not (has_delay words) then Err BadWord
    else if not (nat_lt (arc_named g words) (length g.arcs)) then Err (unknown_order words)
    else if is_given so_far (arc_named g words) then Err (repeated_order words)
    else Ok (given_with g so_far words)

-- the delays of the arcs after these lines, or the first fault
abbrev pub delays_from : Graph → Given → List Line → Result (List ℕ) (At DelayKind)
delays_from g so_far [] = Ok so_far.delays
delays_from g so_far (line ∷ lines) =
    behind_line line.number (after_line g so_far line.words) (λ next. delays_from g next lines)

-- the delays that lines give, or the first fault
abbrev pub delays_of : Graph → List Line → Result (List ℕ) (At DelayKind)
delays_of g lines = delays_from g (none_given g) lines
