-- Sums, tickets and firings; then lemmas of passes, turns and rounds, and of the end.
pub mod TurnstileAtStart
pub mod TurnstileRuleLemmas
pub mod LastTurns
pub mod SlotLemmas
pub mod FiniteSums
pub mod TicketCounts
pub mod NodeFirings
pub mod WorkLemmas
pub mod FiringOrders
pub mod VisitLemmas
pub mod HiringLemmas
pub mod BorderLemmas
pub mod FinalRecord
