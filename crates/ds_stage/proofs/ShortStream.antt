-- A stream of vectors that is short enough is what is read whole.
use Rattle.std.proofs.Common.{◌≡◌, ◌≢◌, ◌∙◌, ℕ, ◌≤◌, List, length, Ok, Err, Result, refl, sym, ap}
use Rattle.ds_base.specs.Limit.{most_of}
use Rattle.ds_base.specs.declared.number.Limit.TheVariants.{Bytes}
use Rattle.ds_outside.specs.Held.{Held, untold, absent, bytes}
use Rattle.ds_lines.specs.Line.{Line, lines_of}
use Rattle.ds_design.specs.Circuit.{Circuit, columns}
use Rattle.ds_design.specs.Rows.{Rows}
use Rattle.ds_rows.specs.Vector.{vectors_of}
use Rattle.ds_lines.specs.declared.at.At.{At}
use Rattle.ds_stream.specs.Bounded.{told_whole}
use Rattle.ds_stream.specs.Stream.{stream_of}
use Rattle.ds_stream.specs.StreamLaws.{as_next, result_of}
use Rattle.ds_stream.proofs.Short.{is_read_whole}
use Rattle.ds_stage.specs.FaultText.{vector_text}
use Rattle.ds_stage.specs.Stages.{OfBytes, read_or_line, vectors_stage}
use Rattle.ds_stage.specs.StreamStage.{gives_held, streamed_stage}
use Rattle.ds_rows.specs.declared.fault.VectorKind.{VectorKind}

-- what is told as these rows is these rows
rows_told : (r : Result Rows (At VectorKind)) (rows : Rows) → as_next (told_whole r) ≡ Ok rows → r ≡ Ok rows
rows_told (Ok given) rows is = cc
rows_told (Err fault) rows is = cc

-- the same of what is held
of_held : (held : Held) (width : ℕ) (vectors : Rows) → held ≢ untold → ((text : List ℕ) → held ≡ bytes text → length text ≤ most_of Bytes)
    → gives_held held width 65536 vectors
    → (lines : List Line) × OfBytes held (λ text. (length text ≤ most_of Bytes) × (lines ≡ lines_of text)) × (vectors_of width lines ≡ Ok vectors)
of_held untold width vectors told short means = absurd (told refl)
of_held absent width vectors told short means = absurd means
of_held (bytes text) width vectors told short means =
    let few : length text ≤ most_of Bytes = short text refl in
    let whole = is_read_whole width text few in
    let rows : result_of width (stream_of width 65536 text).stop (stream_of width 65536 text).rows ≡ Ok vectors =
    ap (λ stop. result_of width stop (stream_of width 65536 text).rows) means.whole ∙ ap Ok (sym means.is) in
    (lines_of text, (few, refl), rows_told (vectors_of width (lines_of text)) vectors (sym whole ∙ rows))

pub short_is_whole : (held : List ℕ → Held) (vec : List ℕ) (c : Circuit) (vectors : Rows) → held vec ≢ untold
    → ((text : List ℕ) → held vec ≡ bytes text → length text ≤ most_of Bytes)
    → (streamed_stage held vec 65536 c).means vectors → (vectors_stage held vec c).means vectors
short_is_whole held vec c vectors told short means =
    let (lines, are, read) = of_held (held vec) (length (columns c)) vectors told short means in
    (lines, are, ap (read_or_line vec vector_text) read)
