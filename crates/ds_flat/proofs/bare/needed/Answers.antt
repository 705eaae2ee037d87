use Rattle.std.proofs.Common.{◌∙◌, ap, sym, ◌++◌, ◌∷◌, []}
use Rattle.ds_design.specs.declared.blif.Command.{Command}
use Rattle.ds_flat.proofs.Fronts.{needed_kept, needed_left, needed_all}
use Rattle.ds_flat.proofs.bare.needed.Goals.{then-not-adds_nothing+in_ok-push, else-not-adds_nothing}
use Rattle.ds_flat.proofs.bare.needed.Goals as goal

pub loop-command-preserved : goal.loop-command-preserved
loop-command-preserved c = elim c.if-not-adds_nothing.branch [
  | then-not-adds_nothing+in_ok-push w ↦ needed_kept c.args.commands.now
      c.loop-command.command-index c.command-item.result c.loop-command.all.items _
      c.command-item.is c.loop-command-test.true c.loop-command.invariant
      c.if-not-adds_nothing.all.items
      (sym c.adds_nothing.ensures ∙ w.if-not-adds_nothing.true)
      (ap (λ v. v.items) w.all-is ∙ (w.in_ok-push.ensures.items
      ∙ ap (λ (command : Command). c.loop-command.all.items ++ command ∷ []) w.of.ensures))
  | else-not-adds_nothing w ↦ needed_left c.args.commands.now
      c.loop-command.command-index c.command-item.result c.loop-command.all.items _
      c.command-item.is c.loop-command-test.true c.loop-command.invariant
      c.if-not-adds_nothing.all.items
      (sym c.adds_nothing.ensures ∙ w.if-not-adds_nothing.false)
      (ap (λ v. v.items) w.all-is)
]

pub returns : goal.returns
returns c =
    needed_all c.args.commands.now c.loop-command.command-index c.loop-command.all.items _
    c.loop-command-test.false c.loop-command.invariant
