-- What the lines of files mean: a netlist whose numbers name what is there, and vectors as wide as its columns.
use Rattle.std.proofs.Common.{◌≡◌, ◌∙◌, ◌==◌, ◌&&◌, ℕ, ◌+◌, ◌<◌, ◌≤◌, zero, suc, Bool, true, false, not, List, [], ◌∷◌, length, Option, None, Some, Result, Ok, Err, inl, inr, refl, sym, arith, subst}
use Rattle.std.specs.Prelude.{All, nat_lt, if◌then◌else◌}
use Rattle.std.proofs.lemmas.Bool.{cases_Bool, eqb-true}
use Rattle.std.proofs.lemmas.Bool.Decides.{Decides-ltb}
use Rattle.std.proofs.lemmas.List.{length-map}
use Rattle.ds_lines.specs.First.{where_true, first_of, unless_fault, fault_or}
use Rattle.ds_lines.specs.Words.{first_word}
use Rattle.ds_outside.specs.Held.{Held}
use Rattle.ds_lines.specs.Line.{Line}
use Rattle.ds_blif.specs.Text.{models_of_text}
use Rattle.ds_lines.specs.declared.at.At.{At}
use Rattle.ds_blif.proofs.WellFormed.{read_well_formed}
use Rattle.ds_design.specs.Circuit.{Circuit, columns}
use Rattle.ds_design.specs.InRange.{IsInRange}
use Rattle.ds_design.specs.Rows.{Rows}
use Rattle.ds_flat.specs.Copies.{flat_of}
use Rattle.ds_flat.proofs.FlatRange.{flat_in_range}
use Rattle.ds_rows.specs.Vector.{fault_of_vector, first_vector_fault, has_bits, has_width, row_of, rows_of_lines, value_of_character, vectors_of}
use Rattle.ds_rows.specs.declared.fault.VectorKind.{VectorKind}
use Rattle.ds_base.specs.Values.{Row}
use Rattle.ds_stream.specs.Bounded.{fault_under}
use Rattle.ds_stream.specs.Stream.{Placed, longest, placed_lines, stream_from, stream_of}
use Rattle.ds_stream.specs.declared.fault.StreamKind.{StreamKind}
use Rattle.ds_stream.specs.declared.fault.StreamKind.TheVariants.{TooMany, BadWidth, BadBit}
use Rattle.ds_stream.proofs.WindowLaws.{cases_Option}
use Rattle.ds_stage.specs.FaultText.{blif_text, flat_text, vector_text}
use Rattle.ds_stage.specs.Stages.{netlist_stage, read_or_line, vectors_stage}

-- what is read comes of no fault
pub read_meant : {A K : Type 0} (file : List ℕ) (text : K → List ℕ) (r : Result A (At K)) (read : A) → read_or_line file text r ≡ Ok read → r ≡ Ok read
read_meant file text (Ok given) read is = cc
read_meant file text (Err fault) read is = cc

-- each number in the netlist of a file names what is there, whatever lines the file has
pub netlist_in_range : (held : List ℕ → Held) (net : List ℕ) (c : Circuit) → (netlist_stage held net).means c → IsInRange c
netlist_in_range held net c (flat, (lines, are, (models, read, is_flat)), (is, accepted)) =
    let parts = (read_well_formed lines models (read_meant net blif_text (models_of_text lines) models read)).parts in
    let range : IsInRange flat = flat_in_range models parts flat (read_meant net flat_text (flat_of models) flat is_flat) in
    rw is range

-- where none of three kinds holds, the test of the second does
second_holds : (one two three : VectorKind) (a b c : Bool)
    → first_of (where_true (not a) one ∷ where_true (not b) two ∷ where_true (not c) three ∷ []) ≡ None → b ≡ true
second_holds one two three true true c e = refl
second_holds one two three true false c e = cc
second_holds one two three false b c e = cc

-- and that of the first
first_holds : (one two three : VectorKind) (a b c : Bool)
    → first_of (where_true (not a) one ∷ where_true (not b) two ∷ where_true (not c) three ∷ []) ≡ None → a ≡ true
first_holds one two three true b c e = refl
first_holds one two three false b c e = cc

-- of two tests that hold, the second
both_hold : (a b : Bool) → (a && b) ≡ true → b ≡ true
both_hold true b e = e
both_hold false b e = cc

-- a line with a word of the width has a row of the width
pub row_wide : (width : ℕ) (words : List (List ℕ)) → has_width width words ≡ true → length (row_of width words) ≡ width
unfolding has_width row_of
row_wide zero words e = refl
row_wide (suc w) words e =
    let some : (suc w == 0) ≡ false = grind arith in
    let wide : (length (first_word words) == suc w) ≡ true = both_hold (length words == 1) _ (rw some at e) in
    rw some (length-map (first_word words) value_of_character ∙ eqb-true _ _ wide)

-- neither a line nor those behind it have a fault
neither : (kind : Option VectorKind) (number : ℕ) (rest : Option (At VectorKind)) → fault_or kind number rest ≡ None → (kind ≡ None) × (rest ≡ None)
neither None number rest e = (refl, e)
neither (Some kind) number rest e = cc

-- the rows of lines without a fault have the width
rows_wide : (width seen : ℕ) (lines : List Line) → first_vector_fault width seen lines ≡ None → All (λ row. length row ≡ width) (rows_of_lines width lines)
rows_wide width seen [] none k d inside = absurd (omega arith)
rows_wide width seen (line ∷ lines) none zero d inside =
    let (clean, rest) = neither (fault_of_vector width seen line.words) line.number (first_vector_fault width (seen + 1) lines) none in
    row_wide width line.words (second_holds _ _ _ _ (has_width width line.words) _ clean)
rows_wide width seen (line ∷ lines) none (suc k) d inside =
    let (clean, rest) = neither (fault_of_vector width seen line.words) line.number (first_vector_fault width (seen + 1) lines) none in
    rows_wide width (seen + 1) lines rest k d (omega arith)

-- lines without a fault are few
rows_few : (width seen : ℕ) (lines : List Line) → seen ≤ 65536 → first_vector_fault width seen lines ≡ None → seen + length lines ≤ 65536
rows_few width seen [] low none = omega (arith, low)
rows_few width seen (line ∷ lines) low none =
    let (clean, rest) = neither (fault_of_vector width seen line.words) line.number (first_vector_fault width (seen + 1) lines) none in
    let here : nat_lt seen 65536 ≡ true = first_holds _ _ _ (nat_lt seen 65536) _ _ clean in
    let below : seen < 65536 = (Decides-ltb seen 65536).0 here in
    let more : seen + 1 + length lines ≤ 65536 = rows_few width (seen + 1) lines (omega (arith, below)) rest in
    omega (arith, more)

-- what is given unless there is a fault
given_none : (fault : Option (At VectorKind)) (given rows : Rows) → unless_fault fault given ≡ Ok rows → (fault ≡ None) × (rows ≡ given)
given_none None given rows e = (refl, (cc))
given_none (Some fault) given rows e = cc

-- the vectors of a file are as wide as the columns, whatever lines the file has
pub vectors_wide : (held : List ℕ → Held) (vec : List ℕ) (c : Circuit) (vectors : Rows) → (vectors_stage held vec c).means vectors
    → All (λ vector. length vector ≡ length (columns c)) vectors.rows
vectors_wide held vec c vectors (lines, are, read) =
    let width : ℕ = length (columns c) in
    let given : Rows = record { width = width; rows = rows_of_lines width lines } in
    let (none, is) = given_none (first_vector_fault width 0 lines) given vectors (read_meant vec vector_text (vectors_of width lines) vectors read) in
    subst (λ (rows : Rows). All (λ vector. length vector ≡ width) rows.rows) (sym is) (rows_wide width 0 lines none)

-- there are no more of them than the limit
pub vectors_few : (held : List ℕ → Held) (vec : List ℕ) (c : Circuit) (vectors : Rows) → (vectors_stage held vec c).means vectors
    → length vectors.rows ≤ 65536
vectors_few held vec c vectors (lines, are, read) =
    let width : ℕ = length (columns c) in
    let given : Rows = record { width = width; rows = rows_of_lines width lines } in
    let (none, is) = given_none (first_vector_fault width 0 lines) given vectors (read_meant vec vector_text (vectors_of width lines) vectors read) in
    let few : 0 + length lines ≤ 65536 = rows_few width 0 lines (omega arith) none in
    let long : length (rows_of_lines width lines) ≡ length lines = length-map lines (λ line. row_of width line.words) in
    subst (λ (rows : Rows). length rows.rows ≤ 65536) (sym is) (omega (arith, few, long))

-- no rows have any width
no_rows : (width : ℕ) → All (λ (row : Row). length row ≡ width) []
no_rows width = λ k d inside. absurd (omega arith)

-- a row more
one_row : (width : ℕ) (row : Row) (rows : List Row) → length row ≡ width → All (λ (r : Row). length r ≡ width) rows → All (λ (r : Row). length r ≡ width) (row ∷ rows)
one_row width row rows wide all zero d inside = wide
one_row width row rows wide all (suc k) d inside = all k d (omega arith)

-- a line without a fault has the width
width_holds : (one two three : StreamKind) (a b c : Bool) → (if not a then Some one else (if not b then Some two else (if not c then Some three else None))) ≡ None → b ≡ true
width_holds one two three true true c e = refl
width_holds one two three true false c e = cc
width_holds one two three false b c e = cc

-- the rows of a stream have the width
stream_from_wide : (width most size seen : ℕ) (ps : List Placed) → All (λ row. length row ≡ width) (stream_from width most size seen ps).rows
stream_from_wide width most size seen [] = no_rows width
stream_from_wide width most size seen (p ∷ ps) = elim (cases_Bool (nat_lt longest p.behind.place)) [
  | inl long ↦ rw long (no_rows width)
  | inr short ↦ rw short (elim (cases_Option (fault_under most width seen p.line.words)) [
    | inr some ↦ (let (kind, is) = some in rw is (no_rows width))
    | inl none ↦ rw none (one_row width (row_of width p.line.words) (stream_from width most size (seen + 1) ps).rows
        (row_wide width p.line.words (width_holds (TooMany most) BadWidth BadBit (nat_lt seen most) (has_width width p.line.words) (has_bits width p.line.words) none))
        (stream_from_wide width most size (seen + 1) ps))
  ])
]

pub stream_wide : (width most : ℕ) (text : List ℕ) → All (λ row. length row ≡ width) (stream_of width most text).rows
stream_wide width most text = stream_from_wide width most (length text) 0 (placed_lines text)
