-- The count of faults of a text that is kept in memory.
use Rattle.std.specs.Prelude.{ℕ, ◌-◌, ◌^◌, Option, None, Some}
use Rattle.ds_base.specs.declared.memory.OutOfMemory.{OutOfMemory}

-- none, or once memory was refused the last that a count of faults has
abbrev pub faults_by : Option OutOfMemory → ℕ
faults_by None = 0
faults_by (Some refusal) = 2 ^ 64 - 1
