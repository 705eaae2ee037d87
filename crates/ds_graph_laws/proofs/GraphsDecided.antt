-- A graph is acceptable or has a fault.
use Rattle.std.proofs.Common.{◌⊎◌, inl, inr, ℕ, List, get_or}
use Rattle.std.proofs.lemmas.List.{get_or_default}
use Rattle.ds_marked.specs.Graph.{Graph, IsKept}
use Rattle.ds_marked.specs.declared.marked.Event.{Event}
use Rattle.ds_rank.specs.Order.{IsCycle}
use Rattle.ds_rank.specs.Rank.{HasFreeArc}
use Rattle.ds_latch.specs.Node.{Split}
use Rattle.ds_latch.specs.Plan.{split_events}
use Rattle.ds_accept.specs.Accept.{AreGiven, AreThere, IsAcceptable}
use Rattle.ds_accept.specs.Fault.{IsFirstLacking}
use Rattle.ds_accept.specs.declared.fault.AcceptFault.TheVariants.{MissingEvent, TokenFreeCycle}
use Rattle.ds_accept.proofs.SubsetLength.{some_event}
use Rattle.ds_graph_laws.proofs.RanksOrCycle.{events_have_ranks_or_cycle}
use Rattle.ds_graph_laws.specs.DecidedGraphs.{GraphsAreDecided, HasAcceptFault}
use Rattle.ds_graph_laws.proofs.EventsDecided.{events_are_decided}
use Rattle.ds_graph_laws.proofs.OrdersDecided.{orders_are_decided}
use Rattle.ds_graph_laws.proofs.PlansExist.{ranked}

-- an event that lacks is a fault
lacking : (s : Split) (g : Graph) (k : ℕ) → IsFirstLacking s g k → HasAcceptFault s g
lacking s g k first =
    let event : Event = get_or (split_events s) k some_event in
    (MissingEvent event, λ e. absurd (cc), (k, first, λ d. get_or_default (split_events s) k d some_event first.inside))

-- arcs without tokens that lead in a circle are a fault, where no other one comes before
turning : (s : Split) (g : Graph) → AreThere s g → AreGiven s g → (events : List ℕ) → IsCycle (HasFreeArc g) events → HasAcceptFault s g
turning s g there given events cycle = (TokenFreeCycle events, λ e. absurd (cc), (there, given, cycle))

-- where all orders are given, ranks or a cycle decide
walked : (s : Split) (g : Graph) → IsKept g → AreThere s g → AreGiven s g → IsAcceptable s g ⊎ HasAcceptFault s g
walked s g kept there given = elim (events_have_ranks_or_cycle g kept.ends) [
  | inl (ranks, are) ↦ inl (ranked s g kept there given ranks are)
  | inr (events, cycle) ↦ inr (turning s g there given events cycle)
]

-- each graph is acceptable or has a fault
pub graphs_are_decided : GraphsAreDecided
graphs_are_decided s g kept edges has = elim (events_are_decided s g) [
  | inr (k, first) ↦ inr (lacking s g k first)
  | inl there ↦ elim (orders_are_decided s g kept there edges has) [
    | inl given ↦ walked s g kept there given
    | inr fault ↦ inr fault
  ]
]
