use Rattle.ds_table_laws.proofs.TicketNumbers.{tickets_are_numbers_lem}
use Rattle.ds_table_laws.proofs.tickets.tickets_are_numbers.Goals as goal

pub returns : goal.returns
returns c = tickets_are_numbers_lem
