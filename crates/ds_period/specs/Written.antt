-- What the delays that lines give are, line by line.
use Rattle.std.specs.Prelude.{◌≡◌, ◌<◌, ℕ, true, List, length, slice_index, Ok, AllPairs}
use Rattle.std.specs.List.{All, HoldsAt}
use Rattle.ds_lines.specs.Line.{Line}
use Rattle.ds_marked.specs.Graph.{Graph}
use Rattle.ds_period.specs.Word.{has_delay, written_delay}
use Rattle.ds_period.specs.Read.{arc_named, delays_of, source_named, target_named}

-- an arc leads between the events that a line names
abbrev pub NamesArc : Graph → ℕ → Line → Type 0
NamesArc g k line = HoldsAt (λ arc. (arc.source ≡ source_named g line.words)
    × (arc.target ≡ target_named g line.words)) g.arcs k

-- an arc leads between the events that the line names, and each such arc has the delay that is
-- written there
pub record GivesDelay (g : Graph) (delays : List ℕ) (line : Line) : Type 0 where
  pub form : has_delay line.words ≡ true
  pub some : arc_named g line.words < length g.arcs
  pub each : (k : ℕ) → k < length g.arcs → NamesArc g k line
      → slice_index delays k ≡ written_delay line.words

-- two lines name the same events
abbrev pub NameSameEnds : Graph → Line → Line → Type 0
NameSameEnds g a b = (source_named g a.words ≡ source_named g b.words)
    × (target_named g a.words ≡ target_named g b.words)

-- there is a delay for each arc: that of the one line that names its ends, and 0 where none does
pub record AreWritten (g : Graph) (lines : List Line) (delays : List ℕ) : Type 0 where
  pub one_each : length delays ≡ length g.arcs
  pub given : All (GivesDelay g delays) lines
  pub once : AllPairs (λ a b. ¬ NameSameEnds g a b) lines
  pub others : (k : ℕ) → k < length g.arcs → All (λ line. ¬ NamesArc g k line) lines
      → slice_index delays k ≡ 0

-- the delays that lines give are such
abbrev pub DelaysAreWritten : Type 0
DelaysAreWritten = (g : Graph) (lines : List Line) (delays : List ℕ)
    → delays_of g lines ≡ Ok delays → AreWritten g lines delays
