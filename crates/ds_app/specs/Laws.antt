-- What follows of the definition of a job.
use Rattle.std.specs.Prelude.{ℕ, List}
use Rattle.ds_outside.specs.Held.{Held}
use Rattle.ds_cmd.specs.declared.job.Job.{Job}
use Rattle.ds_app.specs.Job.{stages_of}
use Rattle.ds_app.specs.Status.{AreTold}

-- where all files of a job tell what they hold, no line refuses it beside a text that it means
abbrev pub JobsAreExclusive : Type 0
JobsAreExclusive = (held : List ℕ → Held) (job : Job) → AreTold held job → (text line : List ℕ)
    → (stages_of held job).means text → ¬ (stages_of held job).refused line
