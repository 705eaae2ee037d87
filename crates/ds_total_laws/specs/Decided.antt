-- Stages that are decided.
use Rattle.std.specs.Prelude.{◌⊎◌, ℕ, List}
use Rattle.ds_outside.specs.Held.{Held}
use Rattle.ds_cmd.specs.Allowed.{AreAllowed}
use Rattle.ds_cmd.specs.declared.job.Job.{Job}
use Rattle.ds_stage.specs.Stage.{Stage}
use Rattle.ds_app.specs.Job.{stages_of}
use Rattle.ds_total_laws.specs.FileBytes.{FilesHaveBytes}

-- a stage means something, or refuses with some line
abbrev pub IsDecided : {A : Type 0} → Stage A → Type 0
IsDecided {A} stage = ((a : A) × stage.means a) ⊎ ((line : List ℕ) × stage.refused line)

-- a job of allowed numbers, whose files are there and tell what they hold, has a text, or a line
-- that refuses it
abbrev pub JobsAreDecided : Type 0
JobsAreDecided = (held : List ℕ → Held) (job : Job) → AreAllowed job → FilesHaveBytes held job
    → IsDecided (stages_of held job)
