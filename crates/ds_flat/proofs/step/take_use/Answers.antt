use Rattle.std.proofs.Common.{sym, subst, ◌+◌, ◌≤◌, arith, ◌∷◌}
use Rattle.ds_flat.specs.Stack.{Stacked, put_on, path_of}
use Rattle.ds_flat.proofs.RestInvariant.{rest_of, kept_use}
use Rattle.ds_flat.specs.Run.{Rest, IsRestKept}
use Rattle.ds_flat.proofs.AfterUse.{use_refused, use_fault, use_value}
use Rattle.ds_flat.specs.Turn.{most_turns}
use Rattle.ds_flat.proofs.RemainingTurns.{turns_use}
use Rattle.ds_flat.proofs.step.take_use.Goals as goal

pub checked-requires : goal.checked-requires
checked-requires c =
    let kept = subst (λ (r : Rest). IsRestKept c.args.library.now r) (sym c.state.view_is) c.requires.kept in
    record { known = kept.known; same = kept.same; copies = kept.copies }

pub returns-in-Err-clause-value : goal.returns-in-Err-clause-value
returns-in-Err-clause-value c =
    use_refused c.args.library.now c.state.inside.top c.state.inside.below c.state.inside.copies
    c.state.inside.draft c.args.line c.args.call.now c.args.state c.state.view_is c.in-Err.refusal
    c.in-Err.ensures.fault

pub returns-in-Err-open-clause-value : goal.returns-in-Err-open-clause-value
returns-in-Err-open-clause-value c =
    use_fault c.args.library.now c.state.inside.top c.state.inside.below c.state.inside.copies
    c.state.inside.draft c.args.line c.args.call.now c.args.state c.state.view_is
    c.in-Ok.found.model.now c.in-Ok.ensures.ok c.in-Err-open.refusal
    (c.in-Err-open.ensures.value (c.state.inside.top.name.now ∷ path_of c.state.inside.below.frames))

pub pushed-requires-clause-known : goal.pushed-requires-clause-known
pushed-requires-clause-known c =
    let kept = subst (λ (r : Rest). IsRestKept c.args.library.now r) (sym c.state.view_is) c.requires.kept in
    kept.within.0

pub pushed-requires-clause-few : goal.pushed-requires-clause-few
pushed-requires-clause-few c =
    let kept = subst (λ (r : Rest). IsRestKept c.args.library.now r) (sym c.state.view_is) c.requires.kept in
    let a = kept.count in let b = kept.depth in let d = kept.copies in omega arith

pub returns-clause-value : goal.returns-clause-value
returns-clause-value c =
    use_value c.args.library.now c.state.inside.top c.state.inside.below c.state.inside.copies
    c.state.inside.draft c.args.line c.args.call.now c.args.state c.state.view_is
    c.in-Ok.found.model.now c.in-Ok.ensures.ok c.in-Ok-open.next c.in-Ok-pushed.below
    c.open.new.draft
    (c.in-Ok-open.ensures.value (c.state.inside.top.name.now ∷ path_of c.state.inside.below.frames))
    c.in-Ok-pushed.ensures

pub returns-clause-kept : goal.returns-clause-kept
returns-clause-kept c =
    let kept = subst (λ (r : Rest). IsRestKept c.args.library.now r) (sym c.state.view_is) c.requires.kept in
    subst (λ (s : Stacked). IsRestKept c.args.library.now (rest_of c.in-Ok-open.next s
    (c.state.inside.copies + 1) c.open.new.draft)) (sym c.in-Ok-pushed.ensures)
    (kept_use c.args.library.now c.state.inside.top c.state.inside.below c.state.inside.copies
    c.state.inside.draft kept c.args.line c.args.call.now c.in-Ok.found.model.now
    c.in-Ok.found.place c.in-Ok.found.ports.now c.in-Ok-open.next c.open.new.draft
    c.requires.parts c.in-Ok.ensures.found c.in-Ok.ensures.few
    (c.in-Ok-open.ensures.value (c.state.inside.top.name.now ∷ path_of c.state.inside.below.frames))
    c.in-Ok-open.ensures.model)

pub returns-clause-less : goal.returns-clause-less
returns-clause-less c =
    subst (λ (s : Stacked). most_turns c.args.library.now (rest_of c.in-Ok-open.next s
    (c.state.inside.copies + 1) c.open.new.draft) ≤ most_turns c.args.library.now c.args.state)
    (sym c.in-Ok-pushed.ensures)
    (subst (λ (r : Rest). most_turns c.args.library.now (rest_of c.in-Ok-open.next (put_on
    c.state.inside.top c.state.inside.below) (c.state.inside.copies + 1) c.open.new.draft)
    ≤ most_turns c.args.library.now r) c.state.view_is
    (turns_use c.args.library.now c.state.inside.top c.state.inside.below c.state.inside.copies
    c.state.inside.draft c.in-Ok-open.next c.args.call.now.model c.in-Ok.found.model.now
    c.in-Ok.found.place c.open.new.draft c.in-Ok.ensures.found.named c.in-Ok-open.ensures.model
    c.in-Ok.ensures.few))
