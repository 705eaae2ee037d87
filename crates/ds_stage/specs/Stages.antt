-- What the files of a job stand for, stage by stage.
use Rattle.std.specs.Prelude.{◌≡◌, ℕ, ◌<◌, ◌≤◌, List, length, Result, Ok, Err}
use Rattle.ds_base.specs.Limit.{most_of}
use Rattle.ds_base.specs.declared.number.Limit.TheVariants.{Bytes}
use Rattle.ds_outside.specs.Held.{Held, untold, absent, bytes}
use Rattle.ds_outside.specs.declared.files.Which.{Which}
use Rattle.ds_outside.specs.declared.files.Which.TheVariants.{Net, Vectors}
use Rattle.ds_lines.specs.Line.{Line, lines_of}
use Rattle.ds_design.specs.Circuit.{Circuit, columns}
use Rattle.ds_design.specs.Accepted.{IsAccepted}
use Rattle.ds_design.specs.Levels.{IsDepth}
use Rattle.ds_design.specs.Rows.{Rows}
use Rattle.ds_design.specs.Trace.{IsTrace}
use Rattle.ds_blif.specs.Text.{models_of_text}
use Rattle.ds_lines.specs.declared.at.At.{At}
use Rattle.ds_flat.specs.Copies.{flat_of}
use Rattle.ds_netlist.specs.Fault.{IsNetFault}
use Rattle.ds_netlist.specs.declared.fault.NetFault.{NetFault}
use Rattle.ds_rows.specs.Vector.{vectors_of}
use Rattle.ds_stage.specs.FaultText.{file_line, numbered_line, unread_line, too_long_text}
use Rattle.ds_stage.specs.FaultText.{blif_text, flat_text, IsNetFaultText, vector_text}
use Rattle.ds_stage.specs.Report.{report_text}
use Rattle.ds_stage.specs.Stage.{Stage, giving, judging, leaves_nothing, then_stage}

-- P of the bytes that are held, where they are told; no bytes have P where nothing is there
abbrev pub OfBytes : Held → (List ℕ → Type 0) → Type 0
OfBytes untold P = Unit {0}
OfBytes absent P = ⊥
OfBytes (bytes held) P = P held

-- the lines of a text that is short enough
abbrev pub text_stage : List ℕ → List ℕ → Stage (List Line)
text_stage file text = judging
    (λ lines. (length text ≤ most_of Bytes) × (lines ≡ lines_of text))
    (λ line. (most_of Bytes < length text) × (line ≡ file_line file too_long_text))

-- the lines of a file
abbrev pub lines_stage : (List ℕ → Held) → Which → List ℕ → Stage (List Line)
lines_stage held which name = record {
  means = λ lines. OfBytes (held name) (λ text. (text_stage name text).means lines);
  refused = λ line. OfBytes (held name) (λ text. (text_stage name text).refused line);
  unread = λ failed line. failed which name × (line ≡ unread_line name);
  leaves = λ _. leaves_nothing;
}

-- a value, or the line that refuses it
abbrev pub result_stage : {A : Type 0} → Result A (List ℕ) → Stage A
result_stage result = judging (λ a. result ≡ Ok a) (λ line. result ≡ Err line)

-- what was read of a file, or the line of its first fault, by the texts of its kinds
abbrev pub read_or_line : {A K : Type 0} → List ℕ → (K → List ℕ) → Result A (At K)
    → Result A (List ℕ)
read_or_line file text (Ok read) = Ok read
read_or_line file text (Err fault) = Err (numbered_line file fault.line (text fault.kind))

-- the flat design of a netlist's lines
abbrev pub design_stage : List ℕ → List Line → Stage Circuit
design_stage file lines =
    then_stage (result_stage (read_or_line file blif_text (models_of_text lines))) (λ models.
    result_stage (read_or_line file flat_text (flat_of models)))

-- a design that is accepted, or the line of its first fault; where that is a cycle, of any cycle
abbrev pub accepted_stage : List ℕ → Circuit → Stage Circuit
accepted_stage file c = judging (λ d. (d ≡ c) × IsAccepted c)
    (λ line. (fault : NetFault) × (text : List ℕ) × IsNetFault c fault
    × IsNetFaultText c fault text × (line ≡ file_line file text))

-- the flat design of a file
abbrev pub file_stage : (List ℕ → Held) → List ℕ → Stage Circuit
file_stage held net = then_stage (lines_stage held Net net) (design_stage net)

-- the netlist of a file
abbrev pub netlist_stage : (List ℕ → Held) → List ℕ → Stage Circuit
netlist_stage held net = then_stage (file_stage held net) (accepted_stage net)

-- the vectors of lines
abbrev pub rows_stage : List ℕ → ℕ → List Line → Stage Rows
rows_stage file width lines =
    result_stage (read_or_line file vector_text (vectors_of width lines))

-- the vectors of a file, for the columns of a netlist
abbrev pub vectors_stage : (List ℕ → Held) → List ℕ → Circuit → Stage Rows
vectors_stage held vec c =
    then_stage (lines_stage held Vectors vec) (rows_stage vec (length (columns c)))

-- the trace of a netlist
abbrev pub trace_stage : Circuit → Rows → Stage (List ℕ)
trace_stage c vectors = giving (IsTrace c vectors.rows)

-- the report on a netlist
abbrev pub report_stage : Circuit → Stage (List ℕ)
report_stage c = giving (λ text. (depth : ℕ) × IsDepth c depth × (text ≡ report_text c depth))
