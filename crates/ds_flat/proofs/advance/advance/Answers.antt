use Rattle.std.proofs.Common.{◌∙◌, ◌∷◌, ap, sym, subst, arith}
use Rattle.ds_design.specs.declared.blif.Command.{Command}
use Rattle.ds_flat.specs.declared.frame.Open.{Open}
use Rattle.ds_flat.specs.Run.{Rest, IsRestKept}
use Rattle.ds_flat.specs.Turn.{most_turns}
use Rattle.ds_flat.proofs.RestInvariant.{first_part, kept_behind}
use Rattle.ds_flat.proofs.FinishedCopy.{turn_given}
use Rattle.ds_flat.proofs.FrameSteps.{fault_same}
use Rattle.ds_flat.proofs.AfterUse.{turn_taken}
use Rattle.ds_flat.proofs.RemainingTurns.{turns_behind}
use Rattle.ds_flat.proofs.Opens.{none_left}
use Rattle.ds_flat.proofs.advance.advance.Goals as goal

pub take-requires-clause-kept : goal.take-requires-clause-kept
take-requires-clause-kept c =
    let kept = subst (λ (r : Rest). IsRestKept c.args.library.now r) (sym c.state.view_is) c.requires.kept in
    kept_behind c.args.library.now c.state.inside.top c.state.inside.below c.state.inside.copies
    c.state.inside.draft kept c.get.result.now c.in-Some.rest.now c.with.result
    (c.in-Some.ensures.cases.0
    ∙ ap (λ (x : Command). x ∷ c.in-Some.rest.now) (sym c.get.ensures)) (ap (λ (o : Open). o.commands.now) c.with.ensures)
    (ap (λ (o : Open). o.model) c.with.ensures) (ap (λ (o : Open). o.name.now) c.with.ensures)

pub take-requires-clause-parts : goal.take-requires-clause-parts
take-requires-clause-parts c = c.requires.parts

pub take-requires-clause-part : goal.take-requires-clause-part
take-requires-clause-part c =
    let kept = subst (λ (r : Rest). IsRestKept c.args.library.now r) (sym c.state.view_is) c.requires.kept in
    first_part c.args.library.now c.state.inside.top c.state.inside.below c.state.inside.copies
    c.state.inside.draft kept c.get.result.now c.in-Some.rest.now (c.in-Some.ensures.cases.0
    ∙ ap (λ (x : Command). x ∷ c.in-Some.rest.now) (sym c.get.ensures))

pub returns-in-Ok : goal.returns-in-Ok
returns-in-Ok c = record {
  same = c.in-Ok.ensures.value
      ∙ turn_taken c.args.library.now c.state.inside.top c.with.result
      c.state.inside.below c.state.inside.copies c.state.inside.draft c.args.state
      c.get.result.now c.in-Some.rest.now c.state.view_is (c.in-Some.ensures.cases.0
      ∙ ap (λ (x : Command). x ∷ c.in-Some.rest.now) (sym c.get.ensures))
      (ap (λ (o : Open). o.commands.now) c.with.ensures)
      (ap (λ (o : Open). o.scope) c.with.ensures) (ap (λ (o : Open). o.name.now) c.with.ensures);
  kept = c.in-Ok.ensures.kept;
  less = (
      let taken = c.in-Ok.ensures.less in
      let behind = turns_behind c.args.library.now c.state.inside.top c.state.inside.below
      c.state.inside.copies c.state.inside.draft c.get.result.now c.in-Some.rest.now
      c.with.result (c.in-Some.ensures.cases.0
      ∙ ap (λ (x : Command). x ∷ c.in-Some.rest.now) (sym c.get.ensures)) (ap (λ (o : Open). o.commands.now) c.with.ensures) in
      let view = ap (most_turns c.args.library.now) c.state.view_is in
      omega arith);
}

pub returns-in-Some : goal.returns-in-Some
returns-in-Some c =
    fault_same c.in-Err.refusal _ _ (turn_taken c.args.library.now c.state.inside.top
    c.with.result c.state.inside.below c.state.inside.copies c.state.inside.draft c.args.state
    c.get.result.now c.in-Some.rest.now c.state.view_is (c.in-Some.ensures.cases.0
    ∙ ap (λ (x : Command). x ∷ c.in-Some.rest.now) (sym c.get.ensures))
    (ap (λ (o : Open). o.commands.now) c.with.ensures)
    (ap (λ (o : Open). o.scope) c.with.ensures) (ap (λ (o : Open). o.name.now) c.with.ensures))
    c.in-Err.ensures.value

pub returns : goal.returns
returns c =
    turn_given c.args.library.now c.state.inside.top c.state.inside.below c.state.inside.copies
    c.state.inside.draft c.args.state c.state.view_is c.requires.kept
    (none_left c.state.inside.top.commands.now c.in-None.ensures.cases) c.left.result c.left.ensures
