-- The vectors of a job that reads them window by window, and what it has written where it stops.
use Rattle.std.specs.Prelude.{◌≡◌, ℕ, ◌+◌, ◌*◌, ◌≤◌, ◌<◌, List, ◌++◌, length, take, codes, decimal}
use Rattle.std.specs.Prelude.{Bool, true, false, None, Some, All}
use Rattle.ds_outside.specs.Held.{Held, untold, absent, bytes}
use Rattle.ds_outside.specs.declared.files.Which.TheVariants.{Vectors}
use Rattle.ds_base.specs.Values.{Row}
use Rattle.ds_design.specs.Circuit.{Circuit, columns, initial_row}
use Rattle.ds_design.specs.Rows.{Rows}
use Rattle.ds_design.specs.Trace.{AreLines}
use Rattle.ds_stream.specs.Stream.{Stream, stream_of}
use Rattle.ds_stream.specs.declared.fault.NextFault.{NextFault}
use Rattle.ds_stream.specs.declared.fault.NextFault.TheVariants as why
use Rattle.ds_stream.specs.declared.fault.StreamKind.{StreamKind}
use Rattle.ds_stream.specs.declared.fault.StreamKind.TheVariants.{TooMany, BadWidth, BadBit}
use Rattle.ds_stage.specs.declared.stop.Stop.{Stop}
use Rattle.ds_stage.specs.declared.stop.Stop.TheVariants.{Refused, Unread, Unwritten, Memory}
use Rattle.ds_stage.specs.FaultText.{file_line, numbered_line, unread_line}
use Rattle.ds_stage.specs.Stage.{Stage, leaves_nothing}
use Rattle.ds_stage.specs.Stages.{OfBytes}

-- how many vectors there may be: a log keeps all firings, so with one there are fewer
abbrev pub most_vectors : Bool → ℕ
most_vectors false = 4294967295
most_vectors true = 65536

-- what is wrong with a line of vectors
abbrev pub stream_text : StreamKind → List ℕ
stream_text (TooMany most) = codes "too many vectors (limit " ++ decimal most ++ codes ")"
stream_text BadWidth = codes "bad width"
stream_text BadBit = codes "bad bit"

-- a file of vectors has too many bytes
abbrev pub past_longest_text : List ℕ
past_longest_text = codes "too long (limit 281474976710656)"

-- the line of why there are no more vectors, where that is a fault of the file
abbrev pub IsStreamLine : List ℕ → NextFault → List ℕ → Type 0
IsStreamLine file (why.Vector fault) line =
    line ≡ numbered_line file fault.line (stream_text fault.kind)
IsStreamLine file why.TooLong line = line ≡ file_line file past_longest_text
IsStreamLine file why.Read line = ⊥
IsStreamLine file why.Memory line = ⊥

-- the stream has a fault
abbrev pub HasStreamFault : Stream → Type 0
HasStreamFault s = (fault : NextFault) × (s.stop ≡ Some fault)

-- the trace lines of so many whole windows of 4,096 turns of the clocked run on these rows
pub record AreWindowLines (c : Circuit) (rows : List Row) (text : List ℕ) : Type 0 where
  pub windows : ℕ
  pub few : windows * 4096 ≤ length rows
  pub last : Row
  pub lines : AreLines c 0 (initial_row c) (take (windows * 4096) rows) text last

-- and there are no more whole windows
pub record AreAllWindowLines (c : Circuit) (rows : List Row) (text : List ℕ) : Type 0 where
  pub some : AreWindowLines c rows text
  pub all : length rows < (some.windows + 1) * 4096

-- what a stream leaves: where it has a fault, or that is why no more was written, the lines of all
-- whole windows before the fault; else those of some
abbrev pub leaves_windows : Circuit → Stream → Stop → List ℕ → Type 0
leaves_windows c s (Refused line) text = AreAllWindowLines c s.rows text
leaves_windows c s (Unread line) text = AreWindowLines c s.rows text
leaves_windows c s Unwritten text = HasStreamFault s × AreAllWindowLines c s.rows text
leaves_windows c s Memory text = AreWindowLines c s.rows text

-- the trace lines of whole windows of the clocked run on some rows of the width
pub record AreSomeWindowLines (c : Circuit) (text : List ℕ) : Type 0 where
  pub rows : List Row
  pub wide : All (λ row. length row ≡ length (columns c)) rows
  pub lines : AreWindowLines c rows text

-- the same of what is held, where that is told, else the lines of some whole windows; of a file
-- that is not there nothing was written
abbrev pub leaves_held : Held → Circuit → ℕ → Stop → List ℕ → Type 0
leaves_held untold c most stop text = AreSomeWindowLines c text
leaves_held absent c most stop text = leaves_nothing stop text
leaves_held (bytes text) c most stop left =
    leaves_windows c (stream_of (length (columns c)) most text) stop left

-- a stream without a fault is these rows
pub record AreRowsOf (width : ℕ) (s : Stream) (rows : Rows) : Type 0 where
  pub whole : s.stop ≡ None
  pub is : rows ≡ record { width = width; rows = s.rows }

-- the same of what is held, where that is told; else rows of the width
abbrev pub gives_held : Held → ℕ → ℕ → Rows → Type 0
gives_held untold width most rows = All (λ row. length row ≡ width) rows.rows
gives_held absent width most rows = ⊥
gives_held (bytes text) width most rows = AreRowsOf width (stream_of width most text) rows

-- a line is that of the fault of a stream
abbrev pub IsFaultLine : List ℕ → Stream → List ℕ → Type 0
IsFaultLine file s line = (fault : NextFault) × (s.stop ≡ Some fault) × IsStreamLine file fault line

-- the vectors of a file that is read window by window, for the columns of a netlist; before it
-- stops, whole windows of its trace may have been written
abbrev pub streamed_stage : (List ℕ → Held) → List ℕ → ℕ → Circuit → Stage Rows
streamed_stage held vec most c = record {
  means = gives_held (held vec) (length (columns c)) most;
  refused = λ line. OfBytes (held vec)
      (λ text. IsFaultLine vec (stream_of (length (columns c)) most text) line);
  unread = λ failed line. failed Vectors vec × (line ≡ unread_line vec);
  leaves = λ failed. leaves_held (held vec) c most;
}
