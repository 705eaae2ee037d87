-- A split design that has an expansion is not refused, and its graph reads no file.
use Rattle.std.proofs.Common.{◌≢◌, ℕ, Bool, true, false, List, inl, inr}
use Rattle.ds_base.specs.declared.number.Limit.{Limit}
use Rattle.ds_latch.specs.Node.{Split}
use Rattle.ds_shake.specs.Laws.{ShakeFaultsAreRefused}
use Rattle.ds_shake.specs.declared.fault.ShakeFault.{ShakeFault}
use Rattle.ds_shake.specs.declared.fault.ShakeFault.TheVariants.{TooMany, Memory}
use Rattle.ds_stage.specs.GraphStage.{controller_stage, drawn_stage, wanted_stage}
use Rattle.ds_stage.specs.Stage.{OfFile}
use Rattle.ds_stage.proofs.StageReadFailures.{Says, then_says}

-- a limit is not memory
no_memory : (limit : Limit) → ◌≢◌ {A = ShakeFault} (TooMany limit) Memory
no_memory limit e = cc

module _ (file : List ℕ) where
  -- a graph that has a text is not refused
  pub controller_not_refused : ShakeFaultsAreRefused → (shake : Bool) (s : Split) (text line : List ℕ)
      → (controller_stage file shake s).means text → ¬ (controller_stage file shake s).refused line
  controller_not_refused law false s text line means (inl none) = none
  controller_not_refused law false s text line means (inr (g, is, none)) = none
  controller_not_refused law true s text line (g, is, drawn) (inl (limit, fault, spelt)) =
      law s g (TooMany limit) (no_memory limit) fault is.expansion
  controller_not_refused law true s text line means (inr (g, is, none)) = none

  wanted_says : (shake : Bool) (s : Split) (failed : OfFile) → Says (wanted_stage file shake s) failed
  wanted_says false s failed line none = absurd none
  wanted_says true s failed line none = absurd none

  -- no file is read
  pub controller_says : (shake : Bool) (failed : OfFile) (s : Split)
      → Says (controller_stage file shake s) failed
  controller_says shake failed s =
      then_says (wanted_stage file shake s) (drawn_stage s) failed (wanted_says shake s failed)
      (λ g line none. absurd none)
