-- Which words are a command line, and what job they ask for.
use Rattle.std.specs.Prelude.{Bool, true, false, List, [], ◌∷◌, Option, Some, None, Result, Err}
use Rattle.std.specs.Prelude.{if◌then◌else◌}
use Rattle.std.specs.Str.{bytes_eq}
use Rattle.clap.specs.Words.{Kinds, Row, Text, fault_of, subcommand_of}
use Rattle.ds_cmd.specs.Commands.{Entry, commands, desync}
use Rattle.ds_cmd.specs.declared.job.Job.{Job}
use Rattle.ds_cmd.specs.declared.fault.UsageFault.{UsageFault}
use Rattle.ds_cmd.specs.declared.fault.UsageFault.TheVariants.{Line}

-- the job of the command of this name, with the values of its arguments
abbrev pub named_job : Text → List Row → List Entry → Result Job UsageFault
named_job name rows [] = Err Line
named_job name rows (entry ∷ entries) =
    if bytes_eq name entry.shape.name then entry.job rows else named_job name rows entries

-- the job of the command that the words name
abbrev pub job_in : Option (Text × List Row) → Result Job UsageFault
job_in None = Err Line
job_in (Some named) = named_job named.0 named.1 commands

-- no kind of error may come
abbrev pub is_none : Kinds → Bool
is_none [] = true
is_none (kind ∷ kinds) = false

-- the job of the words, the program's name first; no command line where `clap` has a fault of them
abbrev pub job_of : List Text → Result Job UsageFault
job_of words =
    if is_none (fault_of desync words) then job_in (subcommand_of desync words) else Err Line
