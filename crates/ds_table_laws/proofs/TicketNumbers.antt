-- The tickets are the numbers below the number of firings.
use Rattle.std.proofs.Common.{◌≡◌, ℕ, ◌<◌, List, sym, subst, arith}
use mathlib.Core.Option.{some}
use lib.ListN.{get_elem?}
use Rattle.ds_rule.specs.Run.{Run, node_of}
use Rattle.ds_rule.specs.Log.{tickets_in_log, Recorded}
use Rattle.ds_rule.proofs.GetElemLemmas.{at_below}
use Rattle.ds_rule.proofs.LogCounts.{ticket_of_some, ticket_of_one, ticket_below, node_inside, length-tickets_in_log}
use Rattle.ds_table_laws.specs.DrawnTickets.{TicketsAreNumbers}

-- a ticket of an event of the run is a place of it in the log
in_log : (run : Run) (tickets : ℕ → List ℕ) (many : ℕ) (r : Recorded run tickets many)
    → (e k t : ℕ) → node_of run e < run.nodes → get_elem? (tickets e) k ≡ some t
    → get_elem? (tickets_in_log e r.log) k ≡ some t
in_log run tickets many r e k t near at = subst (λ ts. get_elem? ts k ≡ some t) (r.all e near) at

pub tickets_are_numbers_lem : TicketsAreNumbers
tickets_are_numbers_lem run tickets many r = (
  λ t below.
      let (e, k, at) = ticket_of_some r.log t (omega (arith, r.long)) in
      let near : node_of run e < run.nodes = node_inside run r.log e r.in_turn
      (omega (arith, at_below (tickets_in_log e r.log) k t at, length-tickets_in_log e r.log)) in
      (e, k, near, subst (λ ts. get_elem? ts k ≡ some t) (sym (r.all e near)) at),
  λ d e j k t near-d near-e at-d at-e.
      let p = in_log run tickets many r d j t near-d at-d in
      let q = in_log run tickets many r e k t near-e at-e in
      let same = ticket_of_one r.log d e j k t p q in
      (omega (arith, r.long, ticket_below d r.log j t p), same.0, same.1),
)
