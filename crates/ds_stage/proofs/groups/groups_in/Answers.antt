-- Behind the lines, the groups.
use Rattle.std.proofs.Common.{ℕ, List, length, subst}
use Rattle.std.specs.Prelude.{IfOk}
use Rattle.ds_design.specs.Circuit.{Circuit}
use Rattle.ds_design.specs.Groups.{AreDisjoint}
use Rattle.ds_stage.specs.GroupsStage.{grouped_stage}
use Rattle.ds_stage.specs.Stages.{text_stage}
use Rattle.ds_stage.specs.Ends.{Answers, Never}
use Rattle.ds_stage.proofs.Stages.{passed}
use Rattle.ds_stage.proofs.groups.groups_in.Goals as goal

pub returns-clause-value : goal.returns-clause-value
returns-clause-value c =
    let file : List ℕ = c.args.name.now in
    passed (text_stage file c.args.text.now) (grouped_stage file c.args.netlist.now) Never c.in_ok-lines.lines c.in_ok-lines.ensures c.grouped.result
    (subst (λ (d : Circuit). Answers {A = List (List ℕ)} (grouped_stage file d c.in_ok-lines.lines) Never c.grouped.result) c.design.ensures.design c.grouped.ensures.value)

pub returns-clause-disjoint : goal.returns-clause-disjoint
returns-clause-disjoint c =
    subst (λ (d : Circuit). IfOk c.grouped.result (AreDisjoint (length d.registers))) c.design.ensures.design c.grouped.ensures.disjoint
