-- Lines that are written turn by turn.
use Rattle.std.specs.Prelude.{ℕ, ◌+◌, List, ◌++◌, drop}
use Rattle.ds_base.specs.Values.{Row}
use Rattle.ds_design.specs.Circuit.{Circuit}
use Rattle.ds_design.specs.Trace.{AreLines}

-- so many turns are done: what was written of them, with the lines of the rest behind it, is the
-- lines of all
pub record IsWrittenTo (c : Circuit) (first : ℕ) (start : Row) (vectors : List Row)
    (turns : ℕ) (state : Row) (IsWritten : List ℕ → Type 0) : Type 0 where
  pub text : List ℕ
  pub written : IsWritten text
  pub rest : (rest : List ℕ) (last : Row)
      → AreLines c (first + turns) state (drop turns vectors) rest last
      → AreLines c first start vectors (text ++ rest) last
