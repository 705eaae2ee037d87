use Rattle.std.proofs.Common.{ℕ, List, Option, Ok, length, subst, sym}
use Rattle.ds_stage.specs.GroupsStage.{groups_stage}
use Rattle.ds_stage.specs.Ends.{Answers, RoseIn}
use Rattle.ds_stage.proofs.groups.wanted_groups.Goals as goal

pub returns-in-None-clause-value : goal.returns-in-None-clause-value
returns-in-None-clause-value g c =
    subst (λ (groups : Option (List ℕ)). Answers (groups_stage (g.F.Files.held c.args.files.now) groups c.args.netlist.now)
    (RoseIn (g.F.Files.faults c.args.files.now) (g.F.Files.faults c.args.files.now)) (Ok c.no_groups.result))
    (sym c.in-None.is) c.no_groups.ensures.value

pub returns-in-None-clause-disjoint : goal.returns-in-None-clause-disjoint
returns-in-None-clause-disjoint g c = c.no_groups.ensures.disjoint (length c.args.netlist.now.registers)
