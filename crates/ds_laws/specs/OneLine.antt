-- The line that refuses a job is determined by its files, but for which cycle it names.
use Rattle.std.specs.Prelude.{◌≡◌, ◌⊎◌, ℕ, List, ◌++◌, codes}
use Rattle.ds_outside.specs.Held.{Held}
use Rattle.ds_cmd.specs.declared.job.Job.{Job}
use Rattle.ds_stage.specs.FaultText.{file_line, with_blanks}
use Rattle.ds_app.specs.Job.{stages_of}
use Rattle.ds_app.specs.Status.{AreTold}

-- a line names words of a file behind this text
abbrev pub NamesBehind : List ℕ → List ℕ → List ℕ → Type 0
NamesBehind file text line =
    (words : List (List ℕ)) × (line ≡ file_line file (text ++ with_blanks words))

-- a netlist has a cycle of tables, or a graph one of arcs without tokens
abbrev pub IsCycleText : List ℕ → Type 0
IsCycleText text = (text ≡ codes "combinational cycle:") ⊎ (text ≡ codes "token-free cycle:")

-- two lines begin as those of cycles do, of one file, in a netlist both or in a graph both
pub record NameCycles (line other : List ℕ) : Type 0 where
  pub file : List ℕ
  pub text : List ℕ
  pub of_cycle : IsCycleText text
  pub first : NamesBehind file text line
  pub second : NamesBehind file text other

-- two lines that refuse a job are one, or name cycles, where its files tell what they hold
abbrev pub JobsHaveOneLine : Type 0
JobsHaveOneLine = (held : List ℕ → Held) (job : Job) → AreTold held job → (line other : List ℕ)
    → (stages_of held job).refused line → (stages_of held job).refused other
    → (line ≡ other) ⊎ NameCycles line other
