-- The groups of a job's registers: those of a file, none where no file is named.
use Rattle.std.specs.Prelude.{◌≡◌, ℕ, List, [], ◌++◌, codes, Option, None, Some}
use Rattle.ds_outside.specs.Held.{Held}
use Rattle.ds_outside.specs.declared.files.Which.TheVariants as which
use Rattle.ds_lines.specs.Line.{Line}
use Rattle.ds_design.specs.Circuit.{Circuit}
use Rattle.ds_groups.specs.Names.{register_names}
use Rattle.ds_groups.specs.Read.{groups_of}
use Rattle.ds_groups.specs.declared.fault.GroupKind.{GroupKind}
use Rattle.ds_groups.specs.declared.fault.GroupKind.TheVariants.{UnknownRegister}
use Rattle.ds_groups.specs.declared.fault.GroupKind.TheVariants.{RepeatedRegister}
use Rattle.ds_stage.specs.Stage.{Stage, giving, then_stage}
use Rattle.ds_stage.specs.Stages.{lines_stage, read_or_line, result_stage}

-- the fault of a line of groups
abbrev pub group_text : GroupKind → List ℕ
group_text (UnknownRegister word) = codes "unknown register " ++ word
group_text (RepeatedRegister word) = codes "repeated register " ++ word

-- the groups of a circuit's registers that lines name
abbrev pub grouped_stage : List ℕ → Circuit → List Line → Stage (List (List ℕ))
grouped_stage file c lines =
    result_stage (read_or_line file group_text (groups_of (register_names c) lines))

-- the groups of a file
abbrev pub named_groups_stage : (List ℕ → Held) → List ℕ → Circuit → Stage (List (List ℕ))
named_groups_stage held file c =
    then_stage (lines_stage held which.Groups file) (grouped_stage file c)

-- the groups of a job, once the netlist is read
abbrev pub groups_stage : (List ℕ → Held) → Option (List ℕ) → Circuit → Stage (List (List ℕ))
groups_stage held None c = giving (λ groups. groups ≡ [])
groups_stage held (Some file) c = named_groups_stage held file c
