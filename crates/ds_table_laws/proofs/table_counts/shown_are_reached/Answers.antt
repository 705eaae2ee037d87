use Rattle.ds_table_laws.proofs.ShownCounts.{shown_are_reached_lem}
use Rattle.ds_table_laws.proofs.table_counts.shown_are_reached.Goals as goal

pub returns : goal.returns
returns c = shown_are_reached_lem
