-- The events of the nodes are there, or there is a first one that lacks.
use Rattle.std.proofs.Common.{◌⊎◌, inl, inr, List, get_or, sym, ◌∙◌, Contains}
use Rattle.std.proofs.lemmas.Bool.{cases_Bool, false≢true}
use Rattle.ds_marked.specs.declared.marked.Event.{Event}
use Rattle.ds_latch.specs.Plan.{split_events}
use Rattle.ds_accept.proofs.Others.{has, stands, stands_in}
use Rattle.ds_graph_laws.specs.DecidedGraphs.{EventsAreDecided}
use Rattle.ds_graph_laws.proofs.FirstLacking.{first_without}

-- an event stands in a list or does not
event_told : (known : List Event) (event : Event) → Contains known event ⊎ (¬ Contains known event)
event_told known event = elim (cases_Bool (stands_in known event)) [
  | inl is ↦ inl (has known event is)
  | inr none ↦ inr (λ there. false≢true (sym none ∙ stands known event there))
]

-- each event of a node is one of the graph, or there is a first one that lacks
pub events_are_decided : EventsAreDecided
events_are_decided s g = first_without (Contains g.events) (split_events s) (λ k d inside. event_told g.events (get_or (split_events s) k d))
