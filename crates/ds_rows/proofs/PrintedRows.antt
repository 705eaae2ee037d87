-- What prints rows of values is read as these rows.
use Rattle.std.proofs.Common.{◌≡◌, ◌==◌, ℕ, ◌+◌, ◌<◌, ◌≤◌, true, false, suc, List, [], ◌∷◌, None, Ok, length, map, arith, ap₂, refl, subst}
use Rattle.std.specs.Prelude.{nat_lt}
use Rattle.std.specs.List.{All, AllByRecursion, list_all}
use Rattle.std.proofs.lemmas.Bool.{eq-eqb, lt-ltb}
use Rattle.std.proofs.lemmas.List.{length-map}
use Rattle.std.proofs.lemmas.List.Elements.{All-head, All-tail}
use Rattle.ds_base.specs.Values.{Row}
use Rattle.ds_base.specs.declared.value.Value.{Value}
use Rattle.ds_base.specs.declared.value.Value.TheVariants.{Zero, One, Unknown}
use Rattle.ds_design.specs.Rows.{AreVectors, Rows}
use Rattle.ds_design.specs.Trace.{value_text, values_text}
use Rattle.ds_lines.specs.Line.{lines_of}
use Rattle.ds_lines.specs.Print.{HasNo, IsPlain, numbered_lines, text_of}
use Rattle.ds_lines.proofs.ByteClasses.{lacks_cons}
use Rattle.ds_lines.proofs.PrintedLines.{lines_of-text_of}
use Rattle.ds_lines.proofs.UncutWords.{IsClean, clean_line, is_cut}
use Rattle.ds_rows.specs.Print.{row_words}
use Rattle.ds_rows.specs.Vector.{fault_of_vector, first_vector_fault, has_bits, has_width, is_bit, row_of, rows_of_lines, value_of_character, vectors_of}
use Rattle.ds_rows.proofs.RowText.{value_chars}

-- values as they are printed are a word of which nothing is cut
clean_value : (v : Value) → is_cut (value_text v) ≡ false
clean_value Zero = refl
clean_value One = refl
clean_value Unknown = refl

none_cut : (row : Row) → HasNo is_cut (value_chars row)
none_cut [] = refl
none_cut (value ∷ row) = lacks_cons is_cut (value_text value) (value_chars row) (clean_value value) (none_cut row)

pub clean_values : (row : Row) → IsClean (values_text row)
clean_values [] = record { some = refl; none = refl }
clean_values (value ∷ row) = record { some = refl; none = none_cut (value ∷ row) }

all_plain : (rows : List Row) → AllByRecursion IsPlain (row_words rows)
all_plain [] = tt
all_plain (row ∷ rows) = (clean_line (values_text row) [] (clean_values row, tt), all_plain rows)

-- a value is printed as a character of a vector, and this character is the value
printed_value : (v : Value) → (is_bit (value_text v) ≡ true) × (value_of_character (value_text v) ≡ v)
printed_value Zero = (refl, refl)
printed_value One = (refl, refl)
printed_value Unknown = (refl, refl)

printed_values : (row : Row) → (list_all is_bit (value_chars row) ≡ true) × (map value_of_character (value_chars row) ≡ row)
printed_values [] = (refl, refl)
printed_values (value ∷ row) =
    let first = printed_value value in
    let rest = printed_values row in
    (rw (first.0) rest.0, ap₂ (λ (v : Value) (r : Row). v ∷ r) first.1 rest.1)

-- the line of a row stands for it
record Stands (row : Row) : Type 0 where
  wide : has_width (length row) (values_text row ∷ []) ≡ true
  bits : has_bits (length row) (values_text row ∷ []) ≡ true
  same : row_of (length row) (values_text row ∷ []) ≡ row

stands : (row : Row) → Stands row
unfolding has_width has_bits row_of
stands [] = record { wide = refl; bits = refl; same = refl }
stands (value ∷ row) =
    let some : (suc (length row) == 0) ≡ false = grind arith in
    let bits = printed_values (value ∷ row) in
    record {
      wide = rw some (eq-eqb _ _ (length-map (value ∷ row) value_text));
      bits = rw some bits.0;
      same = rw some bits.1;
    }

-- a line that stands for a row has no fault
clean : (width seen : ℕ) (words : List (List ℕ)) → seen < 65536 → has_width width words ≡ true → has_bits width words ≡ true → fault_of_vector width seen words ≡ None
clean width seen words few wide bits = let below : nat_lt seen 65536 ≡ true = lt-ltb seen 65536 few in rw (below, wide, bits) refl

-- the lines of rows, numbered from n, have no fault
none_faulty : (width n seen : ℕ) (rows : List Row) → seen + length rows ≤ 65536 → All (λ row. length row ≡ width) rows
    → first_vector_fault width seen (numbered_lines n (row_words rows)) ≡ None
none_faulty width n seen [] few wide = refl
none_faulty width n seen (row ∷ rows) few wide =
    let same : length row ≡ width = All-head (λ row. length row ≡ width) row rows wide in
    let line = stands row in
    let is_clean : fault_of_vector width seen (values_text row ∷ []) ≡ None =
    subst (λ (w : ℕ). fault_of_vector w seen (values_text row ∷ []) ≡ None) same (clean (length row) seen (values_text row ∷ []) (omega arith) line.wide line.bits) in
    rw is_clean (none_faulty width (n + 1) (seen + 1) rows (omega arith) (All-tail (λ row. length row ≡ width) row rows wide))

-- and stand for these rows
same_rows : (width n : ℕ) (rows : List Row) → All (λ row. length row ≡ width) rows → rows_of_lines width (numbered_lines n (row_words rows)) ≡ rows
same_rows width n [] wide = refl
same_rows width n (row ∷ rows) wide =
    let same : length row ≡ width = All-head (λ row. length row ≡ width) row rows wide in
    let line = stands row in
    let is_row : row_of width (values_text row ∷ []) ≡ row = subst (λ (w : ℕ). row_of w (values_text row ∷ []) ≡ row) same line.same in
    ap₂ (λ (r : Row) (rs : List Row). r ∷ rs) is_row (same_rows width (n + 1) rows (All-tail (λ row. length row ≡ width) row rows wide))

pub printed : (vectors : Rows) → AreVectors vectors → vectors_of vectors.width (lines_of (text_of (row_words vectors.rows))) ≡ Ok vectors
printed vectors are =
    rw (lines_of-text_of (row_words vectors.rows) (all_plain vectors.rows))
    (rw (none_faulty vectors.width 1 0 vectors.rows (omega (arith, are.few)) are.one_width)
    (rw (same_rows vectors.width 1 vectors.rows are.one_width) refl))
