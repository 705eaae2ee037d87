-- A short text stands for the same vectors in windows and whole.
use Rattle.std.proofs.Common.{◌≡◌, ◌∙◌, ℕ, ◌+◌, ◌≤◌, ◌<◌, Bool, false, List, [], ◌∷◌, ◌++◌, Option, None, Some, Result, Ok, Err, map, length, refl, ap, arith, inl, inr}
use Rattle.std.specs.Prelude.{nat_lt, if◌then◌else◌}
use Rattle.std.proofs.lemmas.Bool.{cases_Bool, ltb-true}
use Rattle.ds_lines.specs.First.{unless_fault}
use Rattle.ds_base.specs.Values.{Row}
use Rattle.ds_design.specs.Rows.{Rows}
use Rattle.ds_lines.specs.Line.{Line, is_newline, joins, lines_of, words_in}
use Rattle.ds_rows.specs.Vector.{first_vector_fault, has_bits, has_width, row_of, rows_of_lines, vectors_of}
use Rattle.ds_stream.specs.Bounded.{fault_under, first_fault_under, told_kind, told_whole, vectors_under}
use Rattle.ds_stream.specs.Stream.{Behind, Placed, stop_of, longest, placed_in, placed_lines, placed_of, stream_from, stream_of}
use Rattle.ds_stream.specs.StreamLaws.{as_next, result_of}
use Rattle.ds_stream.specs.declared.fault.NextFault.{NextFault}
use Rattle.ds_stream.specs.declared.fault.NextFault.TheVariants.{TooLong}
use Rattle.ds_lines.specs.declared.at.At.{At}
use Rattle.ds_stream.proofs.StreamLines.{are_lines}
use Rattle.ds_stream.proofs.WindowLaws.{cases_Option}
use Rattle.ds_rows.specs.declared.fault.VectorKind.{VectorKind}
use Rattle.ds_stream.specs.declared.fault.StreamKind.{StreamKind}

-- each line ends at a place or before
abbrev pub AreWithin : ℕ → List Placed → Type 0
AreWithin most [] = Unit {0}
AreWithin most (p ∷ ps) = (p.behind.place ≤ most) × AreWithin most ps

placed_of_within : (most first : ℕ) (words : List (List ℕ)) (behind : Behind) (ps : List Placed) → behind.place ≤ most → AreWithin most ps → AreWithin most (placed_of first words behind ++ ps)
placed_of_within most first [] behind ps here are = are
placed_of_within most first (word ∷ words) behind ps here are = (here, are)

last_within : (most first : ℕ) (words : List (List ℕ)) (behind : Behind) → behind.place ≤ most → AreWithin most (placed_of first words behind)
last_within most first [] behind here = tt
last_within most first (word ∷ words) behind here = (here, tt)

pub are_within : (most first : ℕ) (words : List (List ℕ)) (line : List ℕ) (place lines : ℕ) (text : List ℕ) → place + length text ≤ most
    → AreWithin most (placed_in first words line place lines text)
are_within most first words line place lines [] few = last_within most first (words ++ words_in line) (record { place = place; lines = lines + 1 }) (omega (arith, few))
are_within most first words line place lines (byte ∷ text) few = elim (cases_Bool (is_newline byte)) [
  | inr other ↦ rw other (are_within most first words (line ++ byte ∷ []) (place + 1) lines text (omega (arith, few)))
  | inl newline ↦ rw newline (elim (cases_Bool (joins line)) [
    | inl yes_joins ↦ rw yes_joins (are_within most first (words ++ words_in line) [] (place + 1) (lines + 1) text (omega (arith, few)))
    | inr ends ↦ rw ends (placed_of_within most first (words ++ words_in line) (record { place = place + 1; lines = lines + 1 })
        (placed_in (lines + 2) [] [] (place + 1) (lines + 1) text) (omega (arith, few))
        (are_within most (lines + 2) [] [] (place + 1) (lines + 1) text (omega (arith, few))))
  ])
]

-- a place that is no later than the longest text
pub is_short : (place : ℕ) → place ≤ 281474976710656 → nat_lt longest place ≡ false
is_short place few = elim (cases_Bool (nat_lt longest place)) [
  | inr short ↦ short
  | inl long ↦ absurd (let e : 281474976710656 < place = ltb-true 281474976710656 place long in omega (arith, e, few))
]

-- why a text ends, by whether it is too long
abbrev ended : Bool → Option NextFault
ended long = if long then Some TooLong else None

-- the rows of an answer
abbrev rows_in : Result Rows NextFault → List Row
rows_in (Ok rows) = rows.rows
rows_in (Err why) = []

-- a row before those of an answer
row_before : (width : ℕ) (row : Row) (stop : Option NextFault) (rows more : List Row) (fault : Option (At StreamKind))
    → result_of width stop rows ≡ as_next (unless_fault fault (record { width = width; rows = more }))
    → result_of width stop (row ∷ rows) ≡ as_next (unless_fault fault (record { width = width; rows = row ∷ more }))
row_before width row None rows more None is =
    ap (λ (r : List Row). Ok (record { width = width; rows = row ∷ r })) (ap rows_in is)
row_before width row None rows more (Some fault) is = cc
row_before width row (Some why) rows more None is = cc
row_before width row (Some why) rows more (Some fault) is = is

short_from : (width most size seen : ℕ) (ps : List Placed) → stop_of size ≡ None → AreWithin 281474976710656 ps
    → let s = stream_from width most size seen ps in
    result_of width s.stop s.rows ≡ as_next (unless_fault (first_fault_under most width seen (map (λ p. p.line) ps)) (record { width = width; rows = rows_of_lines width (map (λ p. p.line) ps) }))
short_from width most size seen [] ends are = rw ends refl
short_from width most size seen (p ∷ ps) ends are =
    let short : nat_lt longest p.behind.place ≡ false = is_short p.behind.place are.0 in
    rw short (elim (cases_Option (fault_under most width seen p.line.words)) [
      | inr some ↦ (let (kind, is) = some in rw is refl)
      | inl none ↦ rw none (row_before width (row_of width p.line.words) (stream_from width most size (seen + 1) ps).stop (stream_from width most size (seen + 1) ps).rows
          (rows_of_lines width (map (λ q. q.line) ps)) (first_fault_under most width (seen + 1) (map (λ q. q.line) ps)) (short_from width most size (seen + 1) ps ends are.1))
    ])

pub short_is_read : (width most : ℕ) (text : List ℕ) → length text ≤ 16777216
    → result_of width (stream_of width most text).stop (stream_of width most text).rows ≡ as_next (vectors_under most width (lines_of text))
short_is_read width most text few =
    short_from width most (length text) 0 (placed_lines text) (ap (λ (b : Bool). ended b) (is_short (length text) (omega (arith, few))))
    (are_within 281474976710656 1 [] [] 0 0 text (omega (arith, few)))
    ∙ ap (λ (ls : List Line). as_next (vectors_under most width ls)) (are_lines text)

-- the first fault of vectors that are read whole, with the number for the limit
abbrev told_fault : Option (At VectorKind) → Option (At StreamKind)
told_fault None = None
told_fault (Some fault) = Some (record { line = fault.line; kind = told_kind fault.kind })

first_fault_of_limit : (width seen : ℕ) (lines : List Line) → first_fault_under 65536 width seen lines ≡ told_fault (first_vector_fault width seen lines)
first_fault_of_limit width seen [] = refl
first_fault_of_limit width seen (line ∷ lines) = elim (cases_Bool (nat_lt seen 65536)) [
  | inr many ↦ rw many refl
  | inl few ↦ rw few (elim (cases_Bool (has_width width line.words)) [
    | inr other ↦ rw other refl
    | inl same ↦ rw same (elim (cases_Bool (has_bits width line.words)) [
      | inr some ↦ rw some refl
      | inl all ↦ rw all (first_fault_of_limit width (seen + 1) lines)
    ])
  ])
]

told_unless : (fault : Option (At VectorKind)) (rows : Rows) → unless_fault (told_fault fault) rows ≡ told_whole (unless_fault fault rows)
told_unless None rows = refl
told_unless (Some fault) rows = refl

pub of_the_limit : (width : ℕ) (lines : List Line) → vectors_under 65536 width lines ≡ told_whole (vectors_of width lines)
of_the_limit width lines =
    let rows : Rows = record { width = width; rows = rows_of_lines width lines } in
    ap (λ (f : Option (At StreamKind)). unless_fault f rows) (first_fault_of_limit width 0 lines) ∙ told_unless (first_vector_fault width 0 lines) rows

pub is_read_whole : (width : ℕ) (text : List ℕ) → length text ≤ 16777216
    → result_of width (stream_of width 65536 text).stop (stream_of width 65536 text).rows ≡ as_next (told_whole (vectors_of width (lines_of text)))
is_read_whole width text few = short_is_read width 65536 text few ∙ ap as_next (of_the_limit width (lines_of text))
