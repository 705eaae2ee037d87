use Rattle.std.proofs.Common.{◌≡◌, ◌∙◌, ap, sym, subst, arith, Result, MatchResult}
use Rattle.ds_base.specs.Refusal.{RefusesAs}
use Rattle.ds_lines.specs.declared.at.At.{At}
use Rattle.ds_flat.specs.Stack.{frame_on, path_of}
use Rattle.ds_flat.specs.declared.fault.FlatKind.{FlatKind}
use Rattle.ds_flat.specs.Copies.{Flat}
use Rattle.ds_flat.specs.Run.{Rest, IsRestKept, after_take, run_rest}
use Rattle.ds_flat.proofs.RestInvariant.{kept_part}
use Rattle.ds_flat.proofs.FrameSteps.{taken_part, part_fault}
use Rattle.ds_flat.proofs.Opens.{after_take-any, use_fine}
use Rattle.ds_flat.specs.Turn.{most_turns}
use Rattle.ds_flat.proofs.step.take.Goals as goal

pub take_use-requires-clause-kept : goal.take_use-requires-clause-kept
take_use-requires-clause-kept c = c.requires.kept

pub take_use-requires-clause-parts : goal.take_use-requires-clause-parts
take_use-requires-clause-parts c = c.requires.parts

pub take_use-requires-clause-call : goal.take_use-requires-clause-call
take_use-requires-clause-call c =
    use_fine c.args.command.now.part c.in-Some.call.now (sym c.in-Some.ensures) c.requires.part

pub returns-in-Some-clause-kept : goal.returns-in-Some-clause-kept
returns-in-Some-clause-kept c = c.take_use.ensures.kept

pub returns-in-Some-clause-value : goal.returns-in-Some-clause-value
returns-in-Some-clause-value c =
    subst (λ (meant : Result Flat (At FlatKind)). MatchResult c.take_use.result
    (λ s. run_rest c.args.library.now s ≡ meant) (λ e. RefusesAs e meant))
    (sym (after_take-any c.args.library.now c.args.state.frames c.args.state.flat
    c.args.command.now c.in-Some.call.now (sym c.in-Some.ensures) c.requires.kept.depth
    c.requires.kept.copies))
    c.take_use.ensures.value

pub take_part-requires : goal.take_part-requires
take_part-requires c = c.requires.part

pub returns-in-Ok-clause-kept : goal.returns-in-Ok-clause-kept
returns-in-Ok-clause-kept c =
    kept_part c.args.library.now c.state.inside.top c.state.inside.below c.state.inside.copies
    c.state.inside.draft
    (subst (λ (r : Rest). IsRestKept c.args.library.now r) (sym c.state.view_is) c.requires.kept)
    c.state.inside.top.scope c.args.command.now.line c.args.command.now c.take_part.new.draft
    c.requires.part (c.in-Ok.ensures c.state.inside.copies)

pub returns-in-Ok-clause-value : goal.returns-in-Ok-clause-value
returns-in-Ok-clause-value c =
    taken_part c.args.library.now
    (frame_on c.state.inside.top (path_of c.state.inside.below.frames))
    c.state.inside.below.frames
    (record { copies = c.state.inside.copies; design = c.state.inside.draft })
    (record { copies = c.state.inside.copies; design = c.take_part.new.draft })
    c.args.command.now (sym c.in-None.ensures) (c.in-Ok.ensures c.state.inside.copies)
    ∙ ap (λ (r : Rest). after_take c.args.library.now r.frames r.flat c.args.command.now)
    c.state.view_is

pub returns-clause-value : goal.returns-clause-value
returns-clause-value c =
    subst (λ (r : Rest). RefusesAs c.in-Err.refusal
    (after_take c.args.library.now r.frames r.flat c.args.command.now)) c.state.view_is
    (part_fault c.args.library.now
    (frame_on c.state.inside.top (path_of c.state.inside.below.frames))
    c.state.inside.below.frames
    (record { copies = c.state.inside.copies; design = c.state.inside.draft })
    c.args.command.now c.in-Err.refusal (sym c.in-None.ensures)
    (c.in-Err.ensures c.state.inside.copies))

pub returns-in-Some-clause-less : goal.returns-in-Some-clause-less
returns-in-Some-clause-less c = c.take_use.ensures.less

pub returns-in-Ok-clause-less : goal.returns-in-Ok-clause-less
returns-in-Ok-clause-less c =
    let view = ap (most_turns c.args.library.now) c.state.view_is in omega arith
