-- What follows of the definitions of windows.
use Rattle.std.specs.Prelude.{◌≡◌, ◌<◌, ◌≤◌, ℕ, ◌+◌, List, [], ◌∷◌, ◌++◌, map, length, drop}
use Rattle.std.specs.Prelude.{Option, None, Some, Result, Ok, Err}
use Rattle.ds_base.specs.Limit.{most_of}
use Rattle.ds_base.specs.declared.number.Limit.TheVariants.{Bytes, Vectors as VectorLimit}
use Rattle.ds_base.specs.Values.{Row}
use Rattle.ds_design.specs.Rows.{Rows}
use Rattle.ds_lines.specs.Line.{Line, lines_of}
use Rattle.ds_rows.specs.Vector.{vectors_of}
use Rattle.ds_stream.specs.Bounded.{told_whole, vectors_under}
use Rattle.ds_stream.specs.Stream.{Behind, FitsText, Shown, RowWindow, beginning, first_window}
use Rattle.ds_stream.specs.Stream.{least_bytes, next_window, placed_behind, placed_lines, stream_of}
use Rattle.ds_stream.specs.declared.fault.NextFault.{NextFault}
use Rattle.ds_stream.specs.declared.fault.NextFault.TheVariants.{Vector}
use Rattle.ds_lines.specs.declared.at.At.{At}
use Rattle.ds_stream.specs.declared.fault.StreamKind.{StreamKind}

-- a window and the next one, by why the first one has no more
abbrev pub goes_on_from : Option NextFault → RowWindow → RowWindow → RowWindow
goes_on_from None front more =
    record { rows = front.rows ++ more.rows; behind = more.behind; stop = more.stop }
goes_on_from (Some why) front more = front

-- a window and the next one, unless the first one stopped
abbrev pub goes_on_with : RowWindow → RowWindow → RowWindow
goes_on_with front more = goes_on_from front.stop front more

-- windows of a text, one after another, each of so many vectors behind those before it, up to the
-- first that stops
abbrev pub windows : ℕ → ℕ → List ℕ → ℕ → Behind → List ℕ → RowWindow
windows width most text given behind [] = record { rows = []; behind = behind; stop = None }
windows width most text given behind (count ∷ counts) =
    let shown : Shown =
    record { width = width; most = most; given = given; behind = behind } in
    let next = next_window shown text count in
    goes_on_with next (windows width most text (given + count) next.behind counts)

-- so many together
abbrev pub total : List ℕ → ℕ
total [] = 0
total (count ∷ counts) = count + total counts

-- windows one after another are one window
abbrev pub WindowsAreOne : Type 0
WindowsAreOne = (width most : ℕ) (text counts : List ℕ)
    → windows width most text 0 beginning counts ≡ first_window width most text (total counts)

-- windows of more vectors than there are lines are all rows, and stop where they stop
abbrev pub WindowsAreTheStream : Type 0
WindowsAreTheStream = (width most : ℕ) (text counts : List ℕ)
    → length (placed_lines text) < total counts
    → let all = windows width most text 0 beginning counts in
    record { rows = all.rows; stop = all.stop } ≡ stream_of width most text

-- without where they end, these are the lines of the text
abbrev pub AreTheLines : Type 0
AreTheLines = (text : List ℕ) → map (λ p. p.line) (placed_lines text) ≡ lines_of text

-- the rows, or the fault
abbrev pub result_of : ℕ → Option NextFault → List Row → Result Rows NextFault
result_of width None rows = Ok (record { width = width; rows = rows })
result_of width (Some why) rows = Err why

-- a fault as that of a reader of windows
abbrev pub as_next : Result Rows (At StreamKind) → Result Rows NextFault
as_next (Ok rows) = Ok rows
as_next (Err fault) = Err (Vector fault)

-- where a text is short enough for its lines to be read, the stream is the vectors of these lines
abbrev pub ShortIsRead : Type 0
ShortIsRead = (width most : ℕ) (text : List ℕ) → length text ≤ most_of Bytes
    → let s = stream_of width most text in
    result_of width s.stop s.rows ≡ as_next (vectors_under most width (lines_of text))

-- behind the vectors that were given the lines are those of the rest of the text
abbrev pub GoesOnBehind : Type 0
GoesOnBehind = (shown : Shown) (text : List ℕ) → FitsText shown text
    → drop shown.given (placed_lines text)
    ≡ placed_behind shown.behind (drop shown.behind.place text)

-- a window of those vectors that fit, and the next one: the numbers behind both fit
abbrev pub FitsAgain : Type 0
FitsAgain = (shown : Shown) (text : List ℕ) (count : ℕ) → FitsText shown text
    → let next = next_window shown text count in
    next.stop ≡ None
    → FitsText (record {
      width = shown.width;
      most = shown.most;
      given = shown.given + length next.rows;
      behind = next.behind;
    }) text

-- a window that has all its vectors ends no sooner than they do at least
abbrev pub AreNoShorter : Type 0
AreNoShorter = (shown : Shown) (text : List ℕ) (count : ℕ) → FitsText shown text → 0 < count
    → let next = next_window shown text count in
    length next.rows ≡ count
    → shown.behind.place + least_bytes shown.width count ≤ next.behind.place

-- under the limit of vectors that are read whole, lines stand for what they do there
abbrev pub IsOfTheLimit : Type 0
IsOfTheLimit = (width : ℕ) (lines : List Line)
    → vectors_under (most_of VectorLimit) width lines ≡ told_whole (vectors_of width lines)

-- so the stream of a short text under that limit is what is read whole of its lines
abbrev pub IsReadWhole : Type 0
IsReadWhole = (width : ℕ) (text : List ℕ) → length text ≤ most_of Bytes
    → let s = stream_of width (most_of VectorLimit) text in
    result_of width s.stop s.rows ≡ as_next (told_whole (vectors_of width (lines_of text)))
