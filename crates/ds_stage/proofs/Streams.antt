-- Windows of a stream: each gives what comes next of it, and stops where it stops.
use Rattle.std.proofs.Common.{◌≡◌, ◌∙◌, ◌==◌, ◌++◌, ◌+◌, ◌*◌, ◌<◌, ◌≤◌, ℕ, zero, suc, Bool, true, false, List, [], ◌∷◌, Option, None, Some, length, take, drop, min, length-append, refl, ap, sym, subst, arith, inl, inr}
use Rattle.std.specs.Prelude.{nat_lt}
use Rattle.std.proofs.lemmas.Bool.{cases_Bool, cases_eq, eqb-true}
use Rattle.std.proofs.lemmas.List.{drop-take, length-take, length-drop, take_all, take-take, take-append-drop}
use Rattle.ds_base.specs.Values.{Row}
use Rattle.ds_rows.specs.Vector.{row_of}
use Rattle.ds_stream.specs.Bounded.{fault_under}
use Rattle.ds_stream.specs.Stream.{Behind, FitsText, Placed, RowWindow, Shown, Stream, beginning, first_window, longest, next_window, onto, placed_lines, stop_of, stopped, stream_from, stream_of, window}
use Rattle.ds_stream.specs.declared.fault.NextFault.{NextFault}
use Rattle.ds_stream.specs.declared.fault.NextFault.TheVariants.{TooLong, Vector}
use Rattle.ds_stream.proofs.WindowLaws.{cases_Option}

-- a window has the first rows of a stream: so many, or all where it stops
pub record IsFront (count : ℕ) (w : RowWindow) (s : Stream) : Type 0 where
  pub rows : w.rows ≡ take count s.rows
  pub stops : (why : NextFault) → w.stop ≡ Some why → (s.stop ≡ Some why) × (length s.rows < count)
  pub ends : w.stop ≡ None → length w.rows < count → (s.stop ≡ None) × (w.rows ≡ s.rows)

front_stopped : (count : ℕ) (behind : Behind) (stop : Option NextFault) → IsFront (suc count) (stopped behind stop) (record { rows = []; stop = stop })
front_stopped count behind stop = record {
  rows = refl;
  stops = λ why is. (is, omega arith);
  ends = λ is few. (is, refl);
}

front_onto : (count : ℕ) (row : Row) (w : RowWindow) (s : Stream) → IsFront count w s → IsFront (suc count) (onto row w) (record { rows = row ∷ s.rows; stop = s.stop })
front_onto count row w s is = record {
  rows = ap (λ (rows : List Row). row ∷ rows) is.rows;
  stops = λ why stopped. let (also, few) = is.stops why stopped in (also, omega (arith, few));
  ends = λ goes few. let (also, same) = is.ends goes (omega (arith, few)) in (also, ap (λ (rows : List Row). row ∷ rows) same);
}

-- a window is the front of the stream from there on
pub window_front : (width most size count : ℕ) (behind : Behind) (seen : ℕ) (ps : List Placed)
    → IsFront count (window width most size count behind seen ps) (stream_from width most size seen ps)
window_front width most size zero behind seen ps = record {
  rows = refl;
  stops = λ why is. cc;
  ends = λ is few. absurd (omega arith);
}
window_front width most size (suc count) behind seen [] = front_stopped count behind (stop_of size)
window_front width most size (suc count) behind seen (p ∷ ps) = elim (cases_Bool (nat_lt longest p.behind.place)) [
  | inl long ↦ rw long (front_stopped count behind (Some TooLong))
  | inr short ↦ rw short (elim (cases_Option (fault_under most width seen p.line.words)) [
    | inr some ↦ (let (kind, is) = some in rw is (front_stopped count behind (Some (Vector (record { line = p.line.number; kind = kind })))))
    | inl none ↦ rw none (front_onto count (row_of width p.line.words) (window width most size count p.behind (seen + 1) ps) (stream_from width most size (seen + 1) ps)
        (window_front width most size count p.behind (seen + 1) ps))
  ])
]

-- so many rows, and the stream that goes on behind them
pub record GoesOnBy (count : ℕ) (rows : List Row) (s rest : Stream) : Type 0 where
  pub rows_are : s.rows ≡ rows ++ rest.rows
  pub same_stop : s.stop ≡ rest.stop

-- behind a window with all its vectors the stream goes on
pub stream_behind : (width most size count : ℕ) (behind : Behind) (seen : ℕ) (ps : List Placed)
    → length (window width most size count behind seen ps).rows ≡ count
    → GoesOnBy count (window width most size count behind seen ps).rows (stream_from width most size seen ps) (stream_from width most size (seen + count) (drop count ps))
stream_behind width most size zero behind seen ps whole =
    let same : seen + 0 ≡ seen = omega arith in
    rw same (record { rows_are = refl; same_stop = refl })
stream_behind width most size (suc count) behind seen [] whole = absurd (omega (arith, whole))
stream_behind width most size (suc count) behind seen (p ∷ ps) whole = elim (cases_Bool (nat_lt longest p.behind.place)) [
  | inl long ↦ absurd (let e : 0 ≡ suc count = rw long at whole in omega (arith, e))
  | inr short ↦ elim (cases_Option (fault_under most width seen p.line.words)) [
    | inr some ↦ absurd (let (kind, is) = some in let e : 0 ≡ suc count = rw (short, is) at whole in omega (arith, e))
    | inl none ↦ (
        let e : suc (length (window width most size count p.behind (seen + 1) ps).rows) ≡ suc count = rw (short, none) at whole in
        let later : seen + suc count ≡ seen + 1 + count = omega arith in
        let on = stream_behind width most size count p.behind (seen + 1) ps (omega (arith, e)) in
        rw (short, none, later) (record {
          rows_are = ap (λ (rows : List Row). row_of width p.line.words ∷ rows) on.rows_are;
          same_stop = on.same_stop;
        }))
  ]
]

-- the next window behind what was given of a text, by its stream
pub record IsNextOf (given count : ℕ) (w : RowWindow) (s : Stream) : Type 0 where
  pub few : given ≤ length s.rows
  pub rows : w.rows ≡ take count (drop given s.rows)
  pub stops : (why : NextFault) → w.stop ≡ Some why → (s.stop ≡ Some why) × (length s.rows < given + count)
  pub ends : w.stop ≡ None → length w.rows < count → (s.stop ≡ None) × (length s.rows ≡ given + length w.rows)

drop_front : (given : ℕ) (front rest : List Row) → length front ≡ given → drop given (front ++ rest) ≡ rest
drop_front zero [] rest is = refl
drop_front zero (row ∷ front) rest is = absurd (omega (arith, is))
drop_front (suc given) [] rest is = absurd (omega (arith, is))
drop_front (suc given) (row ∷ front) rest is = drop_front given front rest (omega (arith, is))

pub next_of : (shown : Shown) (text : List ℕ) (count : ℕ) → FitsText shown text
    → IsNextOf shown.given count (next_window shown text count) (stream_of shown.width shown.most text)
next_of shown text count fits =
    let ps = placed_lines text in
    let size = length text in
    let s : Stream = stream_of shown.width shown.most text in
    let front : List Row = (first_window shown.width shown.most text shown.given).rows in
    let rest : Stream = stream_from shown.width shown.most size shown.given (drop shown.given ps) in
    let none : 0 + shown.given ≡ shown.given = omega arith in
    let on : GoesOnBy shown.given front s rest =
    subst (λ (seen : ℕ). GoesOnBy shown.given front s (stream_from shown.width shown.most size seen (drop shown.given ps))) none
    (stream_behind shown.width shown.most size shown.given beginning 0 ps fits.given) in
    let next = window_front shown.width shown.most size count shown.behind shown.given (drop shown.given ps) in
    let long : length s.rows ≡ length front + length rest.rows = ap length on.rows_are ∙ length-append front rest.rows in
    let behind : drop shown.given s.rows ≡ rest.rows = ap (drop shown.given) on.rows_are ∙ drop_front shown.given front rest.rows fits.given in
    record {
      few = omega (arith, long, fits.given);
      rows = next.rows ∙ ap (take count) (sym behind);
      stops = λ why is. let (also, few) = next.stops why is in (on.same_stop ∙ also, omega (arith, few, long, fits.given));
      ends = λ is few. let (also, same) = next.ends is few in (on.same_stop ∙ also, let e = ap length same in omega (arith, e, long, fits.given));
    }

-- so many vectors of a stream have been given, a whole number of windows while there is more
pub record IsGiven (s : Stream) (given : ℕ) (more : Bool) (rows : List Row) : Type 0 where
  pub rows_are : rows ≡ take given s.rows
  pub few : given ≤ length s.rows
  pub windows : more ≡ true → (n : ℕ) × (given ≡ n * 4096)
  pub whole : more ≡ false → (s.stop ≡ None) × (given ≡ length s.rows)

pub none_given : (s : Stream) → IsGiven s 0 true []
none_given s = record {
  rows_are = refl;
  few = omega arith;
  windows = λ is. (0, refl);
  whole = λ is. cc;
}

take_two : (a b : ℕ) (rows : List Row) → take a rows ++ take b (drop a rows) ≡ take (a + b) rows
take_two a b rows =
    let both : List Row = take (a + b) rows in
    let front : take a both ≡ take a rows = take-take a (a + b) rows (omega arith) in
    let back : drop a both ≡ take b (drop a rows) = drop-take a b rows in
    ap (λ (these : List Row). these ++ take b (drop a rows)) (sym front)
    ∙ (ap (λ (these : List Row). take a both ++ these) (sym back) ∙ take-append-drop a both)

take_length : (n : ℕ) (rows : List Row) → take (length (take n rows)) rows ≡ take n rows
take_length zero rows = refl
take_length (suc n) [] = refl
take_length (suc n) (row ∷ rows) = ap (λ (more : List Row). row ∷ more) (take_length n rows)

is_whole : (n : ℕ) → (n == 4096) ≡ true → n ≡ 4096
is_whole n is = eqb-true n 4096 is

is_less : (n : ℕ) → n ≤ 4096 → (n == 4096) ≡ false → n < 4096
is_less n few is = elim (cases_eq n 4096) [
  | inl e ↦ absurd (let t : (n == 4096) ≡ true = rw e refl in let f : false ≡ true = sym is ∙ t in cc)
  | inr ne ↦ omega (arith, few, ne)
]

-- a window more has been given
pub more_given : (s : Stream) (given : ℕ) (rows : List Row) (w : RowWindow) → IsGiven s given true rows → IsNextOf given 4096 w s → w.stop ≡ None
    → IsGiven s (given + length w.rows) (length w.rows == 4096) (rows ++ w.rows)
more_given s given rows w is next goes =
    let (n, windows) = is.windows refl in
    let next_are : w.rows ≡ take (length w.rows) (drop given s.rows) =
    subst (λ (these : List Row). these ≡ take (length these) (drop given s.rows)) (sym next.rows) (sym (take_length 4096 (drop given s.rows))) in
    let long : length w.rows ≡ min 4096 (length (drop given s.rows)) = ap length next.rows ∙ length-take 4096 (drop given s.rows) in
    let left = length-drop given s.rows in
    let few : length w.rows ≤ 4096 = omega (arith, long) in
    record {
      rows_are = ap (λ (front : List Row). front ++ w.rows) is.rows_are
          ∙ (ap (λ (these : List Row). take given s.rows ++ these) next_are ∙ take_two given (length w.rows) s.rows);
      few = omega (arith, long, left, next.few);
      windows = λ whole. (n + 1, let e = is_whole (length w.rows) whole in omega (arith, e, windows));
      whole = λ less. let (none, all) = next.ends goes (is_less (length w.rows) few less) in (none, sym all);
    }

-- all rows of a stream that was given whole
pub all_given : (s : Stream) (given : ℕ) (rows : List Row) → IsGiven s given false rows → (s.stop ≡ None) × (rows ≡ s.rows)
all_given s given rows is =
    let (none, all) = is.whole refl in
    (none, is.rows_are ∙ take_all given s.rows (omega (arith, all)))

-- how many have been given
pub given_many : (s : Stream) (given : ℕ) (more : Bool) (rows : List Row) → IsGiven s given more rows → length rows ≡ given
given_many s given more rows is = let e = ap length is.rows_are ∙ length-take given s.rows in omega (arith, e, is.few)
