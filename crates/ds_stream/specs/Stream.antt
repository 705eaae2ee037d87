-- Vectors without end: the lines of a text with the place behind each, and windows of vectors.
use Rattle.std.specs.Prelude.{◌≡◌, ℕ, zero, suc, ◌+◌, ◌^◌, List, [], ◌∷◌, ◌++◌, length, drop}
use Rattle.std.specs.Prelude.{Option, None, Some, nat_lt, if◌then◌else◌, ◌*◌, ◌-◌, max}
use Rattle.ds_base.specs.Values.{Row}
use Rattle.ds_lines.specs.Line.{Line, is_newline, is_some, joins, words_in}
use Rattle.ds_rows.specs.Vector.{row_of}
use Rattle.ds_stream.specs.Bounded.{fault_under}
use Rattle.ds_stream.specs.declared.fault.StreamKind.{StreamKind}
use Rattle.ds_stream.specs.declared.fault.NextFault.{NextFault}
use Rattle.ds_stream.specs.declared.fault.NextFault.TheVariants.{Vector, TooLong}

-- where a line ends: the place behind it, from 0, and how many physical lines stand before it
pub record Behind : Type 0 where
  pub place : ℕ
  pub lines : ℕ

-- a logical line, and where it ends
pub record Placed : Type 0 where
  pub line : Line
  pub behind : Behind

-- a line where there are words
abbrev pub placed_of : ℕ → List (List ℕ) → Behind → List Placed
placed_of first words behind =
    if is_some words
    then record { line = record { number = first; words = words }; behind = behind } ∷ []
    else []

-- The lines of a rest of a text from a place on, behind so many physical lines, where the
-- current line began at `first` and has these words so far, and its last physical line these bytes.
-- A physical line ends behind its newline, the last one at the end of the text.
abbrev pub placed_in : ℕ → List (List ℕ) → List ℕ → ℕ → ℕ → List ℕ → List Placed
placed_in first words line place lines [] = placed_of first (words ++ words_in line)
    (record { place = place; lines = lines + 1 })
placed_in first words line place lines (byte ∷ text) =
    if is_newline byte then
    (if joins line then placed_in first (words ++ words_in line) [] (place + 1) (lines + 1) text
    else placed_of first (words ++ words_in line) (record { place = place + 1; lines = lines + 1 })
    ++ placed_in (lines + 2) [] [] (place + 1) (lines + 1) text)
    else placed_in first words (line ++ byte ∷ []) (place + 1) lines text

-- the lines of a rest of a text that begins where a line ends
abbrev pub placed_behind : Behind → List ℕ → List Placed
placed_behind behind rest = placed_in (behind.lines + 1) [] [] behind.place behind.lines rest

-- the beginning of a text
abbrev pub beginning : Behind
beginning = record { place = 0; lines = 0 }

-- the lines of a text, each with where it ends
abbrev pub placed_lines : List ℕ → List Placed
placed_lines text = placed_behind beginning text

-- how many bytes a file of vectors may have
abbrev pub longest : ℕ
longest = 2 ^ 48

-- rows, where the line of the last of them ends, and why there are no more
pub record RowWindow : Type 0 where
  pub rows : List Row
  pub behind : Behind
  pub stop : Option NextFault

-- why there are no more, where a text of so many bytes ends
abbrev pub stop_of : ℕ → Option NextFault
stop_of size = if nat_lt longest size then Some TooLong else None

-- a row before those of a window
abbrev pub onto : Row → RowWindow → RowWindow
onto row w = record { rows = row ∷ w.rows; behind = w.behind; stop = w.stop }

-- no row, and why
abbrev pub stopped : Behind → Option NextFault → RowWindow
stopped behind stop = record { rows = []; behind = behind; stop = stop }

-- the row of a line before those of a window, unless the line has a fault
abbrev pub row_or : Option StreamKind → ℕ → Behind → Line → RowWindow → RowWindow
row_or None width behind line w = onto (row_of width line.words) w
row_or (Some kind) width behind line w = stopped behind
    (Some (Vector (record { line = line.number; kind = kind })))

-- So many next vectors of lines of a text of `size` bytes, where `seen` vectors stand before them
-- and the last of these ends at `behind`: fewer where there are no more. A line with an end past
-- the longest text is not looked at.
abbrev pub window : ℕ → ℕ → ℕ → ℕ → Behind → ℕ → List Placed → RowWindow
window width most size zero behind seen lines = stopped behind None
window width most size (suc count) behind seen [] = stopped behind (stop_of size)
window width most size (suc count) behind seen (next ∷ lines) =
    if nat_lt longest next.behind.place then stopped behind (Some TooLong)
    else row_or (fault_under most width seen next.line.words) width behind next.line
    (window width most size count next.behind (seen + 1) lines)

-- so many vectors of a width have at least so many bytes: each its characters, one where the width
-- is 0, and a newline, but for the last newline
abbrev pub least_bytes : ℕ → ℕ → ℕ
least_bytes width count = count * (max width 1 + 1) - 1

-- all rows, and why there are no more
pub record Stream : Type 0 where
  pub rows : List Row
  pub stop : Option NextFault

-- the row of a line before those of a stream, unless the line has a fault
abbrev pub row_of_stream : Option StreamKind → ℕ → Line → Stream → Stream
row_of_stream None width line s = record { rows = row_of width line.words ∷ s.rows; stop = s.stop }
row_of_stream (Some kind) width line s = record {
  rows = [];
  stop = Some (Vector (record { line = line.number; kind = kind }));
}

-- the rows of all lines up to the first fault, where so many vectors stand before them
abbrev pub stream_from : ℕ → ℕ → ℕ → ℕ → List Placed → Stream
stream_from width most size seen [] = record { rows = []; stop = stop_of size }
stream_from width most size seen (next ∷ lines) =
    if nat_lt longest next.behind.place then record { rows = []; stop = Some TooLong }
    else row_of_stream (fault_under most width seen next.line.words) width next.line
    (stream_from width most size (seen + 1) lines)

-- what a text stands for as vectors of a width, where there may be so many: its rows, or its first
-- fault and the rows before it
abbrev pub stream_of : ℕ → ℕ → List ℕ → Stream
stream_of width most text = stream_from width most (length text) 0 (placed_lines text)

-- what a reader shows: the width, the limit, how many vectors it has given, and where the last of
-- them ends
pub record Shown : Type 0 where
  pub width : ℕ
  pub most : ℕ
  pub given : ℕ
  pub behind : Behind

-- the first so many vectors of a text
abbrev pub first_window : ℕ → ℕ → List ℕ → ℕ → RowWindow
first_window width most text count =
    window width most (length text) count beginning 0 (placed_lines text)

-- so many vectors of a text, with no faulty line among them, end there
pub record FitsText (shown : Shown) (text : List ℕ) : Type 0 where
  pub given : length (first_window shown.width shown.most text shown.given).rows ≡ shown.given
  pub behind : (first_window shown.width shown.most text shown.given).behind ≡ shown.behind

-- the next so many vectors of a text behind those that were given
abbrev pub next_window : Shown → List ℕ → ℕ → RowWindow
next_window shown text count =
    window shown.width shown.most (length text) count shown.behind shown.given
    (drop shown.given (placed_lines text))
