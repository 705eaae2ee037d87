use Rattle.std.proofs.Common.{◌∙◌, ap, sym, Ok, Result, refl, subst}
use Rattle.ds_flat.specs.Turn.{GivesTurn}
use Rattle.ds_flat.specs.declared.step.StepOutcome.{StepOutcome}
use Rattle.ds_flat.specs.declared.step.StepOutcome.TheVariants.{Next, Done}
use Rattle.ds_lines.specs.declared.at.At.{At}
use Rattle.ds_flat.specs.Copies.{Flat, ◌>>=◌}
use Rattle.ds_flat.proofs.FrameSteps.{fault_same}
use Rattle.ds_flat.proofs.flat.all_taken.Goals as goal
use Rattle.ds_flat.specs.declared.fault.FlatKind.{FlatKind}

pub turns-init : goal.turns-init
turns-init c = record { kept = c.requires.kept; so_far = refl }

pub advance-requires-clause-kept : goal.advance-requires-clause-kept
advance-requires-clause-kept c = c.turns.invariant.kept

pub advance-requires-clause-parts : goal.advance-requires-clause-parts
advance-requires-clause-parts c = c.requires.parts

pub returns-in-Ok-Done : goal.returns-in-Ok-Done
returns-in-Ok-Done c =
    let ends : GivesTurn c.args.library.now (Done c.in-Ok-Done.draft) c.turns.state =
    subst (λ (t : StepOutcome). GivesTurn c.args.library.now t c.turns.state) c.in-Ok-Done.field-0-is
    c.in-Ok-Done.ensures in
    record {
      same = ap (λ (r : Result Flat (At FlatKind)). r >>= λ (flat : Flat). Ok flat.design)
          (sym c.turns.invariant.so_far ∙ ends.same);
      in_range = ends.in_range;
    }

pub returns-in-Err : goal.returns-in-Err
returns-in-Err c = fault_same c.in-Err.refusal _ _ c.turns.invariant.so_far c.in-Err.ensures

pub turns-preserved : goal.turns-preserved
turns-preserved c =
    let goes : GivesTurn c.args.library.now (Next c.in-Ok-Next.next) c.turns.state =
    subst (λ (t : StepOutcome). GivesTurn c.args.library.now t c.turns.state) c.in-Ok-Next.field-0-is
    c.in-Ok-Next.ensures in
    record {
      kept = goes.kept;
      so_far = goes.same ∙ c.turns.invariant.so_far;
    }

pub turns-smaller : goal.turns-smaller
turns-smaller c =
    let goes : GivesTurn c.args.library.now (Next c.in-Ok-Next.next) c.turns.state =
    subst (λ (t : StepOutcome). GivesTurn c.args.library.now t c.turns.state) c.in-Ok-Next.field-0-is
    c.in-Ok-Next.ensures in
    goes.less
