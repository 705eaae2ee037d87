-- The lines that are read so far.
use Rattle.std.proofs.Common.{◌≡◌, ◌∙◌, ◌==◌, ◌&&◌, ℕ, ◌+◌, ◌<◌, ◌≤◌, Bool, true, false, not, zero, suc, List, [], ◌∷◌, ◌++◌, None, length, take, drop, arith, add-one, ap, sym, refl}
use Rattle.std.specs.Prelude.{nat_lt}
use Rattle.std.specs.List.{All}
use Rattle.std.proofs.lemmas.Bool.{eqb-true, ltb-true}
use Rattle.std.proofs.lemmas.List.{length-map, map_more}
use Rattle.std.proofs.lemmas.List.Elements.{All-push}
use Rattle.std.proofs.Math.Seq.{drop-cons}
use Rattle.ds_lines.specs.First.{where_true, first_of}
use Rattle.ds_lines.specs.Words.{first_word}
use Rattle.ds_base.specs.Values.{Row}
use Rattle.ds_lines.specs.Line.{Line, line_or_none}
use Rattle.ds_rows.specs.Vector.{fault_of_vector, first_vector_fault, has_bits, has_width, row_of, rows_of_lines, value_of_character}
use Rattle.ds_rows.specs.declared.fault.VectorKind.{VectorKind}

-- where no kind holds each test does
passed : (one two three : VectorKind) (a b c : Bool)
    → first_of (where_true (not a) one ∷ where_true (not b) two ∷ where_true (not c) three ∷ []) ≡ None
    → (a ≡ true) × (b ≡ true)
passed one two three true true c e = (refl, refl)
passed one two three true false c e = cc
passed one two three false b c e = cc

-- the second of two tests
second : (a b : Bool) → (a && b) ≡ true → b ≡ true
second true b e = e
second false b e = cc

-- a line of the width has a row of this width
pub length-row_of : (width : ℕ) (words : List (List ℕ)) → has_width width words ≡ true → length (row_of width words) ≡ width
unfolding has_width row_of
length-row_of zero words e = refl
length-row_of (suc w) words e =
    let some : (suc w == 0) ≡ false = grind arith in
    let wide : (length (first_word words) == suc w) ≡ true = second (length words == 1) _ (rw some at e) in
    rw some (length-map (first_word words) value_of_character ∙ eqb-true _ _ wide)

-- so many lines are read: these are their rows, and the first fault of all is that of the rest
pub record IsRead (width i : ℕ) (lines : List Line) (rows : List Row) : Type 0 where
  pub rows_are : rows ≡ rows_of_lines width (take i lines)
  pub fault_is : first_vector_fault width 0 lines ≡ first_vector_fault width i (drop i lines)
  pub one_width : All (λ row. length row ≡ width) rows
  pub few : i ≤ 65536

-- one line more, which has no fault
pub read_more : (width i : ℕ) (lines : List Line) (rows : List Row) (row : Row) → i < length lines → IsRead width i lines rows
    → fault_of_vector width i (line_or_none lines i).words ≡ None → row ≡ row_of width (line_or_none lines i).words
    → IsRead width (i + 1) lines (rows ++ row ∷ [])
read_more width i lines rows row inside read clean is =
    let words = (line_or_none lines i).words in
    let tests = passed _ _ _ (nat_lt i 65536) (has_width width words) (has_bits width words) clean in
    let below : i < 65536 = ltb-true i 65536 tests.0 in
    record {
      rows_are = ap (λ (r : List Row). r ++ row ∷ []) read.rows_are
          ∙ (ap (λ (r : Row). rows_of_lines width (take i lines) ++ r ∷ []) is
          ∙ sym (map_more (λ (line : Line). row_of width line.words) lines i (line_or_none [] 0) inside));
      fault_is = read.fault_is ∙ (ap (first_vector_fault width i) (drop-cons lines i (line_or_none [] 0) inside)
          ∙ rw clean (ap (λ (n : ℕ). first_vector_fault width (i + 1) (drop n lines)) (sym (add-one i))));
      one_width = All-push (λ (r : Row). length r ≡ width) rows row read.one_width (ap length is ∙ length-row_of width words tests.1);
      few = omega arith;
    }
