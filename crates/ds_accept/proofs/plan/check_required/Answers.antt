use Rattle.std.proofs.Common.{subst, sym, ℕ, List, length, slice_index}
use Rattle.ds_marked.specs.Graph.{AreEnds}
use Rattle.ds_marked.specs.declared.marked.Arc.{Arc}
use Rattle.ds_accept.specs.Fault.{IsAcceptFault}
use Rattle.ds_accept.specs.Steps.{AreAsked, AreWalked, IsOrdered, IsUnmet}
use Rattle.ds_accept.specs.declared.fault.AcceptFault.{AcceptFault}
use Rattle.ds_accept.proofs.Facts.{Facts, accepted, asked_ends, lacking, matched, required_there, unmet}
use Rattle.ds_accept.proofs.plan.check_required.Goals as goal
use Rattle.ds_accept.proofs.plan.check_required.Goals.{After-as_slice-2}

module _ (c : After-as_slice-2) where
  -- the graph of the required orders
  facts : Facts c.args.latches.now c.args.graph.now c.args.required.now
  facts = record {
    plan = c.requires.plan;
    events = c.requires.events;
    orders = c.requires.orders;
    kept = c.places_of.ensures.kept;
  }

  -- the orders that are asked, by the places of the events
  asked : AreAsked c.args.required.now.arcs c.in_ok-other.other.arcs (slice_index c.in_ok-places.places.items) c.in_ok-asked.asked.items
  asked = subst (λ (ps : List ℕ). AreAsked c.args.required.now.arcs c.in_ok-other.other.arcs (slice_index ps) c.in_ok-asked.asked.items) c.as_slice.ensures.value c.in_ok-asked.ensures

  -- their ends are events of the graph
  ends : AreEnds (length c.args.graph.now.events) c.as_slice-2.result.now
  ends = subst (AreEnds (length c.args.graph.now.events)) (sym c.as_slice-2.ensures.value)
      (asked_ends c.args.latches.now c.args.graph.now c.args.required.now facts c.in_ok-places.places.items c.in_ok-places.ensures.value c.in_ok-other.other c.in_ok-other.ensures c.in_ok-asked.asked.items asked)

  -- what lacks walks, or turns, is a fault
  unwalked : (fault : AcceptFault) → IsUnmet c.args.graph.now c.as_slice-2.result.now fault → IsAcceptFault c.args.latches.now c.args.graph.now fault
  unwalked fault is = unmet c.args.latches.now c.args.graph.now c.args.required.now facts c.in_ok-places.places.items c.in_ok-places.ensures.value c.in_ok-other.other c.in_ok-other.ensures c.in_ok-asked.asked.items asked fault
      (subst (λ (xs : List Arc). IsUnmet c.args.graph.now xs fault) c.as_slice-2.ensures.value is)

  -- where walks give them all, the graph is accepted
  walked : AreWalked c.args.graph.now c.as_slice-2.result.now → IsOrdered c.args.latches.now c.args.graph.now c.in_ok-other.other
  walked are = accepted c.args.latches.now c.args.graph.now c.args.required.now facts c.in_ok-places.places.items c.in_ok-places.ensures.value c.in_ok-other.other c.in_ok-other.ensures c.in_ok-asked.asked.items asked
      (subst (AreWalked c.args.graph.now) c.as_slice-2.ensures.value are)

pub returns-in_err-places : goal.returns-in_err-places
returns-in_err-places c = record {
  checked = matched _ _ _ c.from_residual.result c.from_residual.ensures
      (λ e is. subst (λ (fault : AcceptFault). IsAcceptFault c.args.latches.now c.args.graph.now fault) (sym is)
      (lacking c.args.latches.now c.args.graph.now c.args.required.now c.requires.events c.in_err-places.field-0.0 c.in_err-places.ensures.value));
}

pub ordered-requires : goal.ordered-requires
ordered-requires c = required_there c.args.required.now.events c.args.graph.now.events c.in_ok-places.places.items c.in_ok-places.ensures.value

pub check_walks-requires : goal.check_walks-requires
check_walks-requires c = ends (goal.at.check_walks-requires c).After-as_slice-2

pub returns-in_err-check_walks : goal.returns-in_err-check_walks
returns-in_err-check_walks c = record {
  checked = matched _ _ _ c.from_residual-in_err-check_walks.result c.from_residual-in_err-check_walks.ensures
      (λ e is. subst (λ (fault : AcceptFault). IsAcceptFault c.args.latches.now c.args.graph.now fault) (sym is)
      (unwalked (goal.at.returns-in_err-check_walks c).After-as_slice-2 c.in_err-check_walks.field-0.0 c.in_err-check_walks.ensures));
}

pub returns : goal.returns
returns c = record {
  checked = walked (goal.at.returns c).After-as_slice-2 c.in_ok-check_walks.ensures;
}
