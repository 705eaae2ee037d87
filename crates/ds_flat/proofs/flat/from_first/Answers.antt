use Rattle.std.proofs.Common.{◌∙◌, ap, sym, Ok, refl}
use Rattle.ds_flat.specs.Copies.{Flat, empty_design}
use Rattle.ds_flat.specs.Stack.{Stacked}
use Rattle.ds_flat.proofs.MainCopy.{first_kept, run-first}
use Rattle.ds_flat.proofs.FrameSteps.{fault_same, fault_bind}
use Rattle.ds_flat.proofs.flat.from_first.Goals as goal

pub all_taken-requires-clause-parts : goal.all_taken-requires-clause-parts
all_taken-requires-clause-parts c = c.requires.blif.parts

pub all_taken-requires-clause-kept : goal.all_taken-requires-clause-kept
all_taken-requires-clause-kept c =
    first_kept c.args.library.now c.args.main.now c.args.below
    (record { model = 0; name = c.name.result; scope = c.new.result; commands = c.commands.result })
    c.new-2.result c.requires.blif c.requires.main c.requires.below refl c.name.ensures
    c.commands.ensures (c.new-2.ensures ∙ ap empty_design c.name-2.ensures)

pub returns-in-Ok : goal.returns-in-Ok
returns-in-Ok c = (
  sym (run-first c.args.library.now c.args.main.now c.args.below
      (record { model = 0; name = c.name.result; scope = c.new.result; commands = c.commands.result })
      c.new-2.result c.requires.blif.some c.requires.main (ap (λ (s : Stacked). s.frames) c.requires.below)
      c.name.ensures c.commands.ensures c.new.ensures
      (c.new-2.ensures ∙ ap empty_design c.name-2.ensures))
      ∙ c.in-Ok.ensures.same,
  c.in-Ok.ensures.in_range,
)

pub returns-in-Err : goal.returns-in-Err
returns-in-Err c =
    fault_same c.in-Err.refusal _ _ (run-first c.args.library.now c.args.main.now c.args.below
    (record { model = 0; name = c.name.result; scope = c.new.result; commands = c.commands.result })
    c.new-2.result c.requires.blif.some c.requires.main (ap (λ (s : Stacked). s.frames) c.requires.below)
    c.name.ensures c.commands.ensures c.new.ensures
    (c.new-2.ensures ∙ ap empty_design c.name-2.ensures))
    (fault_bind c.in-Err.refusal _ (λ (flat : Flat). Ok flat.design) c.in-Err.ensures)
