-- What a run sums up to.
use Rattle.std.specs.Prelude.{◌≡◌, ℕ, Bool, true, false, List, length, map, count_by}
use Rattle.std.specs.Prelude.{sum_by}
use Rattle.std.specs.List.{range_with_len}
use Rattle.ds_base.specs.Values.{Row}
use Rattle.ds_base.specs.declared.value.Value.{Value}
use Rattle.ds_base.specs.declared.value.Value.TheVariants.{Zero, One, Unknown}
use Rattle.ds_cover.specs.Cover.{values_at}
use Rattle.ds_design.specs.Circuit.{Circuit, initial_row}
use Rattle.ds_latch.specs.Plan.{Planned}
use Rattle.ds_design.specs.Run.{IsRun}
use Rattle.ds_design.specs.Trace.{AreLines, IsTrace}
use Rattle.ds_demo.specs.Fold.{Folded, nothing, fold_after, fold_of}
use Rattle.ds_run.specs.declared.sums.Sums.{Sums}

-- a value is 1
abbrev pub is_one : Value → Bool
is_one Zero = false
is_one One = true
is_one Unknown = false

-- how many values of a row are 1
abbrev pub ones_of : Row → ℕ
ones_of row = count_by is_one row

-- the output rows of so many turns
abbrev pub output_rows : Circuit → (ℕ → Row) → ℕ → List Row
output_rows c nets turns = map (λ k. values_at (nets k) c.outputs) (range_with_len 0 turns)

-- how many of their values are 1
abbrev pub ones_in : Circuit → (ℕ → Row) → ℕ → ℕ
ones_in c nets turns = sum_by ones_of (output_rows c nets turns)

-- the ones in the outputs of the clocked run, and the sum of its trace
pub record IsSummed (p : Planned) (vectors : List Row) (sums : Sums) : Type 0 where
  pub state : ℕ → Row
  pub nets : ℕ → Row
  pub run : IsRun p.split.circuit (initial_row p.split.circuit) vectors state nets
  pub ones : sums.ones ≡ ones_in p.split.circuit nets (length vectors)
  pub text : List ℕ
  pub traced : IsTrace p.split.circuit vectors text
  pub fold : sums.fold ≡ fold_of text

-- the same before the last line, from the registers that the plan begins with
pub record IsSummedTo (p : Planned) (vectors : List Row) (ones : ℕ) (last : Row) (fold : Folded) :
    Type 0 where
  pub state : ℕ → Row
  pub nets : ℕ → Row
  pub run : IsRun p.split.circuit p.split.initial vectors state nets
  pub ones_are : ones ≡ ones_in p.split.circuit nets (length vectors)
  pub lines : List ℕ
  pub are : AreLines p.split.circuit 0 p.split.initial vectors lines last
  pub folded : fold ≡ fold_after nothing lines
