-- Stages of files with bytes are decided: each gives something, or refuses with some line.
use Rattle.std.proofs.Common.{◌⊎◌, ℕ, List, length, Result, Ok, Err, inl, inr, refl, sym, subst}
use Rattle.std.proofs.lemmas.Bool.{cases_lt}
use Rattle.ds_base.specs.Limit.{most_of}
use Rattle.ds_base.specs.declared.number.Limit.TheVariants.{Bytes}
use Rattle.ds_outside.specs.Held.{Held}
use Rattle.ds_outside.specs.declared.files.Which.{Which}
use Rattle.ds_outside.specs.declared.files.Which.TheVariants.{Net, Vectors}
use Rattle.ds_lines.specs.Line.{Line, lines_of}
use Rattle.ds_blif.specs.Text.{models_of_text}
use Rattle.ds_flat.specs.Copies.{flat_of}
use Rattle.ds_design.specs.Circuit.{Circuit, columns}
use Rattle.ds_design.specs.declared.blif.BlifModel.{BlifModel}
use Rattle.ds_rows.specs.Vector.{vectors_of}
use Rattle.ds_stage.specs.FaultText.{blif_text, file_line, flat_text, too_long_text, vector_text}
use Rattle.ds_stage.specs.Stage.{Stage, then_stage}
use Rattle.ds_stage.specs.Stages.{OfBytes, design_stage, file_stage, lines_stage, read_or_line, result_stage, rows_stage, text_stage, vectors_stage}
use Rattle.ds_total_laws.specs.Decided.{IsDecided}
use Rattle.ds_total_laws.specs.FileBytes.{HasBytes}

-- stages one after another are decided, where the second is of what the first gives
pub then_decided : {A B : Type 0} (first : Stage A) (next : A → Stage B) → IsDecided first
    → ((a : A) → first.means a → IsDecided (next a)) → IsDecided (then_stage first next)
then_decided {A} {B} first next (inr (line, refused)) each = inr (line, inl refused)
then_decided {A} {B} first next (inl (a, is)) each = behind (each a is)
  where
    behind : IsDecided (next a) → IsDecided (then_stage first next)
    behind (inl (b, gives)) = inl (b, (a, is, gives))
    behind (inr (line, refused)) = inr (line, inr (a, is, refused))

-- a text is short enough, or too long
pub text_decided : (file text : List ℕ) → IsDecided (text_stage file text)
text_decided file text = elim (cases_lt (most_of Bytes) (length text)) [
  | inl long ↦ inr (file_line file too_long_text, (long, refl))
  | inr short ↦ inl (lines_of text, (short, refl))
]

-- the lines of what is held
abbrev HeldDecided : List ℕ → Held → Type 0
HeldDecided name h =
    ((lines : List Line) × OfBytes h (λ text. (text_stage name text).means lines))
    ⊎ ((line : List ℕ) × OfBytes h (λ text. (text_stage name text).refused line))

-- a file with bytes has lines, or is too long
pub lines_decided : (held : List ℕ → Held) (which : Which) (name : List ℕ) → HasBytes (held name) → IsDecided (lines_stage held which name)
lines_decided held which name (text, is) = subst (HeldDecided name) (sym is) (text_decided name text)

-- a result is a value or a line
pub result_decided : {A : Type 0} (r : Result A (List ℕ)) → IsDecided (result_stage r)
result_decided (Ok a) = inl (a, refl)
result_decided (Err line) = inr (line, refl)

-- the lines of a netlist have a flat design, or a fault
pub design_decided : (file : List ℕ) (lines : List Line) → IsDecided (design_stage file lines)
design_decided file lines =
    then_decided (result_stage (read_or_line file blif_text (models_of_text lines)))
    (λ (models : List BlifModel). result_stage (read_or_line file flat_text (flat_of models)))
    (result_decided (read_or_line file blif_text (models_of_text lines)))
    (λ models is. result_decided (read_or_line file flat_text (flat_of models)))

-- a file with bytes has a flat design, or a fault
pub file_decided : (held : List ℕ → Held) (net : List ℕ) → HasBytes (held net) → IsDecided (file_stage held net)
file_decided held net has_bytes =
    then_decided (lines_stage held Net net) (design_stage net) (lines_decided held Net net has_bytes) (λ lines is. design_decided net lines)

-- lines have vectors, or a fault
pub rows_decided : (file : List ℕ) (width : ℕ) (lines : List Line) → IsDecided (rows_stage file width lines)
rows_decided file width lines = result_decided (read_or_line file vector_text (vectors_of width lines))

-- a file with bytes has vectors, or a fault
pub vectors_decided : (held : List ℕ → Held) (vec : List ℕ) (c : Circuit) → HasBytes (held vec) → IsDecided (vectors_stage held vec c)
vectors_decided held vec c has_bytes =
    then_decided (lines_stage held Vectors vec) (rows_stage vec (length (columns c))) (lines_decided held Vectors vec has_bytes)
    (λ lines is. rows_decided vec (length (columns c)) lines)
