use Rattle.std.proofs.Common.{◌∙◌}
use Rattle.ds_split.proofs.Keyed.{none_disjoint}
use Rattle.ds_stage.proofs.groups.no_groups.Goals as goal

pub returns-clause-disjoint : goal.returns-clause-disjoint
returns-clause-disjoint c = λ count. none_disjoint count c.of.result (c.of.ensures ∙ c.new.ensures)
