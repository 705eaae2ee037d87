-- A copy without commands is left.
use Rattle.std.proofs.Common.{◌≡◌, ℕ, List, [], ◌∙◌, ap, sym, subst, arith}
use Rattle.ds_design.specs.declared.blif.BlifModel.{BlifModel}
use Rattle.ds_design.specs.Circuit.{Circuit}
use Rattle.ds_design.specs.InRange.{IsInRange}
use Rattle.ds_flat.specs.declared.frame.Open.{Open}
use Rattle.ds_flat.specs.declared.step.StepOutcome.{StepOutcome}
use Rattle.ds_flat.specs.declared.step.StepOutcome.TheVariants.{Next, Done}
use Rattle.ds_flat.specs.Stack.{Stacked}
use Rattle.ds_flat.specs.Run.{Rest, IsRestKept}
use Rattle.ds_flat.specs.Turn.{most_turns, LeavesCopies, GivesTurn, CopyGoesOn}
use Rattle.ds_flat.proofs.RestInvariant.{rest_of, kept_below}
use Rattle.ds_flat.proofs.AfterUse.{turn_left, run-empty}
use Rattle.ds_flat.proofs.RemainingTurns.{turns_left}
use Rattle.ds_flat.proofs.Opens.{ended}

module _ (models : List BlifModel) (top : Open) (below : Stacked) (copies : ℕ) (design : Circuit)
    (rest : Rest) (view : rest_of top below copies design ≡ rest) (given : IsRestKept models rest)
    (none : top.commands.now ≡ []) where
  kept : IsRestKept models (rest_of top below copies design)
  kept = subst (λ (r : Rest). IsRestKept models r) (sym view) given

  -- what waits goes on
  waits : CopyGoesOn models (record {
    frames = below.frames;
    places = below.places;
    models = below.models;
    flat = record { copies = copies; design = design };
  }) rest
  waits = record {
    same = turn_left models top below copies design rest view none;
    kept = kept_below models top below copies design kept;
    less = (
        let less = turns_left models top below copies design in
        let same = ap (most_turns models) view in omega arith);
  }

  -- what is left gives a turn
  pub turn_given : (turn : StepOutcome) → LeavesCopies turn below copies design → GivesTurn models turn rest
  turn_given (Next next) leaves = subst (λ (r : Rest). CopyGoesOn models r rest) (sym leaves) waits
  turn_given (Done made) leaves = record {
    same = sym (turn_left models top below copies design rest view none)
        ∙ (run-empty models below.frames (record { copies = copies; design = design }) leaves.0
        ∙ (ap (λ (r : Rest). ended r design) view ∙ ap (ended rest) (sym leaves.1)));
    in_range = subst IsInRange (sym leaves.1) kept.in_range;
  }
