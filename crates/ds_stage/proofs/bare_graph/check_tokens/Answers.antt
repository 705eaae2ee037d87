use Rattle.std.proofs.Common.{subst}
use Rattle.ds_rank.specs.Rank.{IsRankFault}
use Rattle.ds_rank.specs.declared.fault.RankFault.{RankFault}
use Rattle.ds_times.proofs.ArcsByRank.{ranked_live}
use Rattle.ds_stage.proofs.bare_graph.check_tokens.Goals as goal

pub free_cycle-requires : goal.free_cycle-requires
free_cycle-requires c = subst (λ (f : RankFault). IsRankFault c.args.graph.now f) c.in-Err-Cycle.field-0-is c.in-Err-Cycle.ensures.fault

pub returns-in-Ok-clause-ok : goal.returns-in-Ok-clause-ok
returns-in-Ok-clause-ok c = ranked_live c.args.graph.now c.in-Ok.field-0 c.arcs-arcs.ensures.kept.ends c.in-Ok.ensures.ok
