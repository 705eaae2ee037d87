-- Vectors that are being read: what has been given, and the current line.
use Rattle.std.specs.Prelude.{◌≡◌, ◌≤◌, ℕ, ◌+◌, List, [], ◌++◌, length, Option, None, Some}
use Rattle.std.specs.Prelude.{Result, Ok, Err, take, ◌<◌}
use Rattle.ds_base.specs.Values.{Row}
use Rattle.ds_lines.specs.Line.{words_in}
use Rattle.ds_stream.specs.Stream.{Behind, Placed, RowWindow, placed_in, placed_of, window}
use Rattle.ds_stream.specs.declared.fault.NextFault.{NextFault}
use Rattle.ds_stream.specs.declared.fault.NextFault.TheVariants.{Vector, TooLong, Read, Memory}

-- the rows of this window and where the last line ends that gave one; how many vectors are before
-- what comes, and how many are wanted; the number of the current line, bytes that mean what it has
-- so far, the place, and the physical lines before it
pub record Filled : Type 0 where
  pub width : ℕ
  pub most : ℕ
  pub seen : ℕ
  pub missing : ℕ
  pub rows : List Row
  pub behind : Behind
  pub first : ℕ
  pub line : List ℕ
  pub place : ℕ
  pub lines : ℕ

-- rows before those of a window
abbrev pub with_front : List Row → RowWindow → RowWindow
with_front rows w = record { rows = rows ++ w.rows; behind = w.behind; stop = w.stop }

-- the window where these lines come
abbrev pub on_lines : Filled → ℕ → List Placed → RowWindow
on_lines f size lines =
    with_front f.rows (window f.width f.most size f.missing f.behind f.seen lines)

-- the window of a text of so many bytes, where this is its rest
abbrev pub on_text : Filled → ℕ → List ℕ → RowWindow
on_text f size rest = on_lines f size (placed_in f.first [] f.line f.place f.lines rest)

-- a fault is why there are no more, unless memory was wanted
abbrev pub TellsWhy : NextFault → Option NextFault → Type 0
TellsWhy Memory stop = Unit {0}
TellsWhy Read stop = ⊥
TellsWhy TooLong stop = stop ≡ Some TooLong
TellsWhy (Vector fault) stop = stop ≡ Some (Vector fault)

-- bytes are taken, whatever follows; a fault is that of each text of the length
abbrev pub TakesBytes : Result (Unit {0}) NextFault → Filled → Filled → List ℕ → Type 0
TakesBytes (Ok done) old new bytes = (size : ℕ) (rest : List ℕ)
    → on_text new size rest ≡ on_text old size (bytes ++ rest)
TakesBytes (Err why) old new bytes = (size : ℕ) (rest : List ℕ)
    → size ≡ old.place + length bytes + length rest
    → TellsWhy why (on_text old size (bytes ++ rest)).stop

-- so many of these bytes are taken; a fault is that of all of them
abbrev pub TakesFront : Result ℕ NextFault → Filled → Filled → List ℕ → Type 0
TakesFront (Ok n) old new bytes = TakesBytes (Ok tt) old new (take n bytes)
TakesFront (Err why) old new bytes = TakesBytes (Err why) old new bytes

-- the current line, which ends where it stands
abbrev pub last_line : Filled → List Placed
last_line f = placed_of f.first (words_in f.line) (record { place = f.place; lines = f.lines })

-- the current line is taken, and ends where it stands
abbrev pub TakesLine : Result (Unit {0}) NextFault → Filled → Filled → Type 0
TakesLine (Ok done) old new = (size : ℕ) (lines : List Placed)
    → on_lines new size lines ≡ on_lines old size (last_line old ++ lines)
TakesLine (Err why) old new = (size : ℕ) (lines : List Placed)
    → TellsWhy why (on_lines old size (last_line old ++ lines)).stop

-- the text ends
abbrev pub EndsHere : Result (Unit {0}) NextFault → Filled → Filled → Type 0
EndsHere (Ok done) old new = on_text old old.place []
    ≡ record { rows = new.rows; behind = new.behind; stop = None }
EndsHere (Err why) old new = TellsWhy why (on_text old old.place []).stop

-- so many bytes that come next stand before the end of the last line of the window, where it has
-- all its vectors, whatever follows
abbrev pub AreBefore : Filled → ℕ → Type 0
AreBefore f n = (size : ℕ) (rest : List ℕ) → 0 < length rest
    → let w = on_text f size rest in
    length w.rows ≡ length f.rows + f.missing → f.place + n ≤ w.behind.place

-- what stays the same, and numbers that are within bounds
pub record IsLater (old new : Filled) : Type 0 where
  pub width : new.width ≡ old.width
  pub most : new.most ≡ old.most
  pub seen : new.seen + new.missing ≡ old.seen + old.missing
  pub grows : old.seen ≤ new.seen
  pub rows : new.seen + length old.rows ≡ old.seen + length new.rows
