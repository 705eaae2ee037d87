-- An acceptable graph, which one is with ranks, has a plan: its events in the order of the nodes, and its arcs between them in order.
use Rattle.std.proofs.Common.{◌≡◌, ◌≢◌, ℕ, ◌<◌, List, ◌++◌, length, get_or, map, refl, All, AllPairs, Contains}
use Rattle.std.proofs.lemmas.Bool.{cases_lt}
use Rattle.std.proofs.lemmas.List.{length-map}
use Rattle.std.proofs.lemmas.List.Elements.{All-map}
use Rattle.ds_marked.specs.Graph.{AreEnds, Graph, IsKept}
use Rattle.ds_marked.specs.declared.marked.Arc.{Arc}
use Rattle.ds_marked.specs.declared.marked.Event.{Event}
use Rattle.ds_marked.proofs.Enabling.{kept_sorted}
use Rattle.ds_rank.specs.Rank.{AreRanks}
use Rattle.ds_latch.specs.Node.{Split}
use Rattle.ds_latch.specs.Plan.{Reorders, split_events}
use Rattle.ds_accept.specs.Accept.{AreGiven, AreThere, IsAcceptable, extra_events}
use Rattle.ds_accept.specs.Steps.{moved}
use Rattle.ds_accept.proofs.Accepted.{place_by, place_in, placed_by, placed_in}
use Rattle.ds_accept.proofs.SubsetLength.{some_event}
use Rattle.ds_accept.proofs.Moved.{acceptable, reorders}
use Rattle.ds_accept.proofs.Others.{all_once, each_has}
use Rattle.ds_graph_laws.proofs.SortedArcs.{OrderedArcs, in_order}
use Rattle.ds_graph_laws.specs.Plans.{AcceptableGraphsHavePlans}
use Rattle.ds_graph_laws.proofs.NodesOnce.{nodes_once}

module _ (s : Split) (g : Graph) (kept : IsKept g) (there : AreThere s g) where
  -- the events of the nodes and then all others
  abbrev in_turn : List Event
  in_turn = split_events s ++ extra_events s g

  -- each event of the graph is one of them
  has : All (Contains in_turn) g.events
  has = each_has (split_events s) g.events

  -- the number of an event among them
  abbrev number : ℕ → ℕ
  number p = place_by g.events in_turn has p (cases_lt p (length g.events))

  numbered : (p : ℕ) (d : Event) → p < length g.events → (number p < length in_turn) × (get_or in_turn (number p) d ≡ get_or g.events p d)
  numbered p d inside = placed_by g.events in_turn has p d (cases_lt p (length g.events)) inside

  once : AllPairs (λ a b. a ≢ b) (split_events s)
  once = nodes_once s g.events kept.few_events there

  -- the arcs between them
  abbrev arcs_moved : List Arc
  arcs_moved = map (moved number) g.arcs

  arcs_in_order : OrderedArcs arcs_moved
  arcs_in_order = in_order arcs_moved

  -- the graph with its events in turn
  abbrev ordered : Graph
  ordered = record { events = in_turn; arcs = arcs_in_order.sorted }

  is_reordered : Reorders g ordered
  is_reordered = reorders s g ordered number (place_in s g there) kept once numbered (placed_in s g there) refl arcs_in_order.same

  -- with ranks, and all orders given, the graph is acceptable
  pub ranked : AreGiven s g → (ranks : List ℕ) → AreRanks g ranks → IsAcceptable s g
  ranked = acceptable s g ordered number (place_in s g there) kept once numbered (placed_in s g there) refl arcs_in_order.same

  ends_moved : AreEnds (length in_turn) arcs_moved
  ends_moved = All-map (λ (arc : Arc). (arc.source < length in_turn) × (arc.target < length in_turn)) (moved number) g.arcs (λ k d inside.
      let both : ((get_or g.arcs k d).source < length g.events) × ((get_or g.arcs k d).target < length g.events) = kept.ends k d inside in
      ((numbered (get_or g.arcs k d).source some_event both.0).0, (numbered (get_or g.arcs k d).target some_event both.1).0))

  ordered_kept : IsKept ordered
  ordered_kept = kept_sorted in_turn arcs_moved arcs_in_order.sorted (all_once (split_events s) g.events once kept.once)
      (rw (is_reordered.as_many) kept.few_events) (rw (length-map g.arcs (moved number)) kept.few_arcs) arcs_in_order.same ends_moved arcs_in_order.rising

-- a graph that is acceptable for a split design has a plan
pub acceptable_graphs_have_plans : AcceptableGraphsHavePlans
acceptable_graphs_have_plans s g kept acc = (
  record { split = s; graph = ordered s g kept acc.there },
  record { split = refl; events = refl; reorders = is_reordered s g kept acc.there },
  ordered_kept s g kept acc.there,
)
