-- The vectors of a file with bytes read window by window are rows, or a line has a fault.
use Rattle.std.proofs.Common.{◌≡◌, ◌⊎◌, ◌+◌, ℕ, List, [], ◌∷◌, length, Option, None, Some, inl, inr, refl, sym, subst, nat_lt}
use Rattle.std.proofs.lemmas.Bool.{cases_Bool}
use Rattle.ds_outside.specs.Held.{Held, bytes}
use Rattle.ds_design.specs.Circuit.{Circuit, columns}
use Rattle.ds_design.specs.Rows.{Rows}
use Rattle.ds_stream.specs.Bounded.{fault_under}
use Rattle.ds_stream.specs.Stream.{Placed, Stream, longest, placed_lines, row_of_stream, stop_of, stream_from, stream_of}
use Rattle.ds_stream.specs.declared.fault.NextFault.{NextFault}
use Rattle.ds_stream.specs.declared.fault.NextFault.TheVariants as why
use Rattle.ds_stream.specs.declared.fault.StreamKind.{StreamKind}
use Rattle.ds_stage.specs.FaultText.{file_line, numbered_line}
use Rattle.ds_stage.specs.Stages.{OfBytes}
use Rattle.ds_stage.specs.StreamStage.{AreRowsOf, IsFaultLine, IsStreamLine, gives_held, past_longest_text, stream_text, streamed_stage}
use Rattle.ds_total_laws.specs.Decided.{IsDecided}
use Rattle.ds_total_laws.specs.FileBytes.{HasBytes}

module _ (file : List ℕ) where
  -- there is no stop, or one that a line names
  abbrev StopDecided : Option NextFault → Type 0
  StopDecided stop = (stop ≡ None) ⊎ ((fault : NextFault) × (stop ≡ Some fault) × ((line : List ℕ) × IsStreamLine file fault line))

  too_long : StopDecided (Some why.TooLong)
  too_long = inr (why.TooLong, refl, (file_line file past_longest_text, refl))

  -- where a text ends
  end_decided : (size : ℕ) → StopDecided (stop_of size)
  end_decided size = elim (cases_Bool (nat_lt longest size)) [
    | inl long ↦ rw long too_long
    | inr short ↦ rw short (inl refl)
  ]

  -- a line with a fault, or those behind it
  row_stops : (fault : Option StreamKind) (width : ℕ) (next : Placed) (s : Stream) → StopDecided s.stop
      → StopDecided (row_of_stream fault width next.line s).stop
  row_stops None width next s rest = rest
  row_stops (Some kind) width next s rest =
      inr (why.Vector (record { line = next.line.number; kind = kind }), refl, (numbered_line file next.line.number (stream_text kind), refl))

  lines_stop : (width most size seen : ℕ) (lines : List Placed) → StopDecided (stream_from width most size seen lines).stop
  lines_stop width most size seen [] = end_decided size
  lines_stop width most size seen (next ∷ lines) = elim (cases_Bool (nat_lt longest next.behind.place)) [
    | inl long ↦ rw long too_long
    | inr short ↦ rw short (row_stops (fault_under most width seen next.line.words) width next (stream_from width most size (seen + 1) lines) (lines_stop width most size (seen + 1) lines))
  ]

  -- the rows of a stream, or the line of its fault
  stream_gives : (width : ℕ) (s : Stream) → StopDecided s.stop → ((rows : Rows) × AreRowsOf width s rows) ⊎ ((line : List ℕ) × IsFaultLine file s line)
  stream_gives width s (inl none) = inl (record { width = width; rows = s.rows }, record { whole = none; is = refl })
  stream_gives width s (inr (fault, stops, (line, says))) = inr (line, (fault, stops, says))

  -- the same of what is held
  abbrev HeldStreams : ℕ → ℕ → Held → Type 0
  HeldStreams width most h = ((rows : Rows) × gives_held h width most rows)
      ⊎ ((line : List ℕ) × OfBytes h (λ text. IsFaultLine file (stream_of width most text) line))

  held_streams : (width most : ℕ) (text : List ℕ) → HeldStreams width most (bytes text)
  held_streams width most text =
      stream_gives width (stream_of width most text) (lines_stop width most (length text) 0 (placed_lines text))

-- a file with bytes gives rows, or the line of its fault
pub streamed_decided : (held : List ℕ → Held) (vec : List ℕ) (most : ℕ) (c : Circuit) → HasBytes (held vec) → IsDecided (streamed_stage held vec most c)
streamed_decided held vec most c (text, is) =
    subst (HeldStreams vec (length (columns c)) most) (sym is) (held_streams vec (length (columns c)) most text)
