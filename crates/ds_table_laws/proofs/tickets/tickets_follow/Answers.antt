use Rattle.ds_table_laws.proofs.TicketsRise.{tickets_follow_lem}
use Rattle.ds_table_laws.proofs.tickets.tickets_follow.Goals as goal

pub returns : goal.returns
returns c = tickets_follow_lem
