-- A line that is taken.
use Rattle.std.proofs.Common.{◌≡◌, ◌∙◌, ℕ, suc, ◌+◌, ◌-◌, ◌≤◌, ◌<◌, not, Bool, true, false, List, [], ◌∷◌, ◌++◌, None, Some, Result, Ok, Err, length, refl, ap, sym, subst, arith, append_assoc}
use Rattle.std.specs.Prelude.{nat_lt, if◌then◌else◌}
use Rattle.std.proofs.lemmas.List.{append-nil}
use Rattle.ds_base.specs.Values.{Row}
use Rattle.ds_lines.specs.Line.{is_some, words_in}
use Rattle.ds_rows.specs.Vector.{has_bits, has_width, row_of}
use Rattle.ds_stream.specs.declared.fault.StreamKind.{StreamKind}
use Rattle.ds_stream.specs.Bounded.{fault_under}
use Rattle.ds_stream.specs.Stream.{Behind, Placed, stop_of, longest, placed_of, window}
use Rattle.ds_stream.specs.Filling.{TakesLine, EndsHere, Filled, TellsWhy, last_line, with_front, on_lines}
use Rattle.ds_stream.specs.declared.fault.NextFault.{NextFault}
use Rattle.ds_stream.specs.declared.fault.NextFault.TheVariants.{Memory, Read, TooLong, Vector}
use Rattle.ds_stream.specs.declared.fault.StreamKind.TheVariants.{BadBit, BadWidth, TooMany}
use Rattle.ds_stream.specs.Word.{GivesRow}
use Rattle.ds_rows.proofs.RowsSoFar.{length-row_of}
use Rattle.ds_stream.proofs.Short.{is_short}
use Rattle.ds_stream.proofs.WindowLaws.{window-none}

-- a line that gives a row
pub takes_row : (width most size count : ℕ) (behind : Behind) (seen first : ℕ) (rows : List Row) (row : Row) (words : List (List ℕ)) (here : Behind) (lines : List Placed)
    → is_some words ≡ true → fault_under most width seen words ≡ None → row ≡ row_of width words → here.place ≤ 281474976710656
    → with_front (rows ++ row ∷ []) (window width most size count here (seen + 1) lines)
    ≡ with_front rows (window width most size (suc count) behind seen (placed_of first words here ++ lines))
takes_row width most size count behind seen first rows row words here lines some none is short =
    let near : nat_lt longest here.place ≡ false = is_short here.place short in
    let rest = window width most size count here (seen + 1) lines in
    ap (λ (rs : List Row). record { rows = rs; behind = rest.behind; stop = rest.stop }) (append_assoc rows (row ∷ []) rest.rows
    ∙ ap (λ (r : Row). rows ++ r ∷ rest.rows) is)
    ∙ rw (some, near, none) refl

-- the same of what is being read
pub takes_with : (f : Filled) (row : Row) (size : ℕ) (lines : List Placed) → 0 < f.missing → f.place ≤ 281474976710656
    → is_some (words_in f.line) ≡ true → fault_under f.most f.width f.seen (words_in f.line) ≡ None → row ≡ row_of f.width (words_in f.line)
    → with_front (f.rows ++ row ∷ []) (window f.width f.most size (f.missing - 1) (record { place = f.place; lines = f.lines }) (f.seen + 1) lines)
    ≡ on_lines f size (last_line f ++ lines)
takes_with f row size lines missing short some none is =
    let one : suc (f.missing - 1) ≡ f.missing = omega (arith, missing) in
    takes_row f.width f.most size (f.missing - 1) f.behind f.seen f.first f.rows row (words_in f.line) (record { place = f.place; lines = f.lines }) lines some none is short
    ∙ ap (λ (n : ℕ). with_front f.rows (window f.width f.most size n f.behind f.seen (last_line f ++ lines))) one

-- a line that has a fault
pub takes_fault : (f : Filled) (kind : StreamKind) (size : ℕ) (lines : List Placed) → 0 < f.missing → f.place ≤ 281474976710656
    → is_some (words_in f.line) ≡ true → fault_under f.most f.width f.seen (words_in f.line) ≡ Some kind
    → (on_lines f size (last_line f ++ lines)).stop ≡ Some (Vector (record { line = f.first; kind = kind }))
takes_fault f kind size lines missing short some is =
    let near : nat_lt longest f.place ≡ false = is_short f.place short in
    let one : f.missing ≡ suc (f.missing - 1) = omega (arith, missing) in
    rw (one, some, near, is) refl

pub takes_err : (f : Filled) (why : NextFault) (size : ℕ) (lines : List Placed) → 0 < f.missing → f.place ≤ 281474976710656
    → GivesRow f.most f.width f.seen f.first (words_in f.line) (Err why) → TellsWhy why (on_lines f size (last_line f ++ lines)).stop
takes_err f Memory size lines missing short gives = tt
takes_err f Read size lines missing short gives = absurd gives
takes_err f TooLong size lines missing short gives = absurd gives
takes_err f (Vector fault) size lines missing short gives =
    takes_fault f fault.kind size lines missing short gives.0 gives.2
    ∙ ap (λ (n : ℕ). Some (Vector (record { line = n; kind = fault.kind }))) (sym gives.1)

-- where no kind holds each test does
pub passed : (one two three : StreamKind) (a b c : Bool)
    → (if not a then Some one else (if not b then Some two else (if not c then Some three else None))) ≡ None
    → (a ≡ true) × (b ≡ true)
passed one two three true true c e = (refl, refl)
passed one two three true false c e = cc
passed one two three false b c e = cc

-- a row has the width
pub row-width : (most width seen : ℕ) (words : List (List ℕ)) (row : Row) → fault_under most width seen words ≡ None → row ≡ row_of width words → length row ≡ width
row-width most width seen words row none is =
    let tests = passed (TooMany most) BadWidth BadBit (nat_lt seen most) (has_width width words) (has_bits width words) none in
    ap length is ∙ length-row_of width words tests.1

-- what is behind the last line: nothing
no_more : (f : Filled) (size : ℕ) → stop_of size ≡ None → on_lines f size [] ≡ record { rows = f.rows; behind = f.behind; stop = None }
no_more f size ends = ap (with_front f.rows) (window-none f.width f.most size f.missing f.behind f.seen ends)
    ∙ ap (λ (rs : List Row). record { rows = rs; behind = f.behind; stop = None }) (append-nil f.rows)

-- the line that ends with the text
pub ended : (r : Result (Unit {0}) NextFault) (f h : Filled) → f.place ≤ 281474976710656
    → TakesLine r (record f { lines = f.lines + 1 }) h → EndsHere r f h
ended (Ok done) f h short takes =
    let none : stop_of f.place ≡ None = let near : nat_lt longest f.place ≡ false = is_short f.place short in rw near refl in
    let last = last_line (record f { lines = f.lines + 1 }) in
    ap (on_lines f f.place) (sym (append-nil last)) ∙ (sym (takes f.place []) ∙ no_more h f.place none)
ended (Err why) f h short takes =
    let last = last_line (record f { lines = f.lines + 1 }) in
    subst (λ (ps : List Placed). TellsWhy why (on_lines f f.place ps).stop) (append-nil last) (takes f.place [])
