-- Where a node's next event has fired as often as it may, each event of the node has.
use Rattle.ds_rule.proofs.EventLaws.{all_fired, node-next}
use Rattle.ds_rule.specs.Run.{next}
use Rattle.ds_rule.specs.Rule.{seen}
use Rattle.ds_table_laws.specs.Steps.{DoneIsWhole, NotYetIsPart}

-- a step that says that all is done says it of each event of the node
pub done_is_whole_lem : DoneIsWhole
done_is_whole_lem run v w l stepped e of = all_fired run e l (seen v l) run.limit of stepped.1

-- a step that says not yet says that the next event may still fire
pub not_yet_is_part_lem : NotYetIsPart
not_yet_is_part_lem run v w l arc n stepped = (next run l (seen v l), node-next run l (seen v l), stepped.2)
