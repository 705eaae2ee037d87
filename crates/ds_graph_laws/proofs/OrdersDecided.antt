-- The graph gives each required order, or there is a first one that it does not give.
use Rattle.std.proofs.Common.{◌≡◌, ◌⊎◌, inl, inr, ℕ, ◌*◌, ◌<◌, ◌≤◌, List, length, get_or, refl, sym, ◌∙◌, subst, arith, All, AllPairs, Contains}
use Rattle.std.proofs.lemmas.Bool.{cases_eq, cases_lt}
use Rattle.std.proofs.lemmas.List.{get_or_default}
use Rattle.std.proofs.lemmas.List.Elements.{All-contains, Contains-get_or}
use Rattle.std.proofs.lemmas.List.Sorted.{Contains-permutation, IsPermutation-sym}
use Rattle.ds_marked.specs.Graph.{Graph, IsKept, StandsBefore, Walk}
use Rattle.ds_marked.specs.declared.marked.Arc.{Arc}
use Rattle.ds_latch.specs.Node.{Split, nodes}
use Rattle.ds_latch.specs.Latches.{HasEdges}
use Rattle.ds_latch.specs.Order.{IsRequired}
use Rattle.ds_latch.specs.Plan.{split_events}
use Rattle.ds_latch.specs.declared.latches.Edge.{Edge}
use Rattle.ds_latch.proofs.OrdersRise.{events_long, required_inside}
use Rattle.ds_control.specs.Orders.{required_arcs}
use Rattle.ds_control.proofs.Required.{arc, listed_required, required_listed}
use Rattle.ds_accept.specs.Accept.{AreGiven, AreThere, EventStandsAt, GivesOrder}
use Rattle.ds_accept.specs.Fault.{IsFirstWithout, StandsFirst}
use Rattle.ds_accept.specs.declared.fault.AcceptFault.TheVariants.{MissingOrder}
use Rattle.ds_accept.proofs.Accepted.{place_in, placed_in}
use Rattle.ds_accept.proofs.SubsetLength.{one_place, some_event}
use Rattle.ds_graph_laws.proofs.SortedArcs.{OrderedArcs, in_order}
use Rattle.ds_graph_laws.specs.DecidedGraphs.{HasAcceptFault}
use Rattle.ds_graph_laws.specs.Walks.{HasWalkWithin}
use Rattle.ds_graph_laws.proofs.FirstLacking.{first_without}
use Rattle.ds_graph_laws.proofs.LeastSumsExist.{least_is_shown, walks_are_decided}

-- an arc for places that are not there
some_arc : Arc
some_arc = arc 0 0 0

-- an arc whose ends stand first does not stand behind
no_turn : (a b : Arc) → StandsBefore a b → ¬ StandsFirst b.source b.target a.source a.target
no_turn a b (inl low) (inl high) = omega (low, high, arith)
no_turn a b (inl low) (inr (same, high)) = omega (low, same, arith)
no_turn a b (inr (same, rest)) (inl high) = omega (same, high, arith)
no_turn a b (inr (same, inl low)) (inr (also, high)) = omega (low, high, arith)
no_turn a b (inr (same, inr (level, few))) (inr (also, high)) = omega (level, high, arith)

module _ (s : Split) (g : Graph) (kept : IsKept g) (there : AreThere s g) where
  -- the place of an event of the design
  abbrev place : ℕ → ℕ
  place v = place_in s g there v

  placed : (v : ℕ) → v < length (split_events s) → EventStandsAt s g v (place v)
  placed v low = placed_in s g there v low

  -- an event of the design has one place
  place_is : (v p : ℕ) → v < length (split_events s) → EventStandsAt s g v p → p ≡ place v
  place_is v p low at =
      let own : EventStandsAt s g v (place v) = placed v low in
      one_place g.events kept.once p (place v) some_event at.inside own.inside (at.event some_event ∙ sym (own.event some_event))

  gives_by : (u v tokens : ℕ) → u < length (split_events s) → v < length (split_events s) → HasWalkWithin g (place u) (place v) tokens → GivesOrder s g u v tokens
  gives_by u v tokens u_low v_low (sum, walk, few) = record {
    from = place u;
    to = place v;
    source = placed u u_low;
    target = placed v v_low;
    sum = sum;
    walk = walk;
    few = few;
  }

  given_by : (u v tokens : ℕ) → u < length (split_events s) → v < length (split_events s) → GivesOrder s g u v tokens → HasWalkWithin g (place u) (place v) tokens
  given_by u v tokens u_low v_low gives = (
    gives.sum,
    subst (λ (x : ℕ). Walk g x (place v) gives.sum) (place_is u gives.from u_low gives.source)
        (subst (λ (y : ℕ). Walk g gives.from y gives.sum) (place_is v gives.to v_low gives.target) gives.walk),
    gives.few,
  )

  -- the graph gives the order of an arc
  abbrev IsGivenArc : Arc → Type 0
  IsGivenArc a = GivesOrder s g a.source a.target a.tokens

  ends_inside : (a : Arc) → IsRequired s a.source a.target a.tokens → (a.source < length (split_events s)) × (a.target < length (split_events s))
  ends_inside a required =
      let both : (a.source < 2 * nodes s) × (a.target < 2 * nodes s) = required_inside s a.source a.target a.tokens required in
      (rw (events_long s) both.0, rw (events_long s) both.1)

  -- a required order is given or is not
  order_told : (a : Arc) → IsRequired s a.source a.target a.tokens → IsGivenArc a ⊎ (¬ IsGivenArc a)
  order_told a required =
      let ends = ends_inside a required in
      elim (walks_are_decided g (place a.source) (place a.target) a.tokens) [
        | inl has ↦ inl (gives_by a.source a.target a.tokens ends.0 ends.1 has)
        | inr none ↦ inr (λ gives. none (given_by a.source a.target a.tokens ends.0 ends.1 gives))
      ]

  -- the required orders, as arcs in order
  module _ (arcs : List Arc) (rising : AllPairs StandsBefore arcs) (sound : (a : Arc) → Contains arcs a → IsRequired s a.source a.target a.tokens)
      (complete : (u v tokens : ℕ) → IsRequired s u v tokens → Contains arcs (arc u v tokens)) where
    each_told : All (λ a. IsGivenArc a ⊎ (¬ IsGivenArc a)) arcs
    each_told k d inside = order_told (get_or arcs k d) (sound (get_or arcs k d) (Contains-get_or arcs k d inside))

    all_given : All IsGivenArc arcs → AreGiven s g
    all_given all u v tokens required = All-contains IsGivenArc arcs (arc u v tokens) all (complete u v tokens required)

    stands_behind : (k j : ℕ) → k ≤ j → j < length arcs → StandsBefore (get_or arcs k some_arc) (get_or arcs j some_arc)
    stands_behind k j low inside = elim (cases_eq k j) [
      | inl same ↦ subst (λ (n : ℕ). StandsBefore (get_or arcs k some_arc) (get_or arcs n some_arc)) same (inr (refl, inr (refl, omega arith)))
      | inr other ↦ rising k j some_arc (omega (low, other, arith)) inside
    ]

    module _ (k : ℕ) (first : IsFirstWithout IsGivenArc arcs k) where
      -- the order that is not given
      abbrev missed : Arc
      missed = get_or arcs k some_arc

      -- an order that stands first is given
      earlier : (u v tokens : ℕ) → IsRequired s u v tokens → StandsFirst u v missed.source missed.target → GivesOrder s g u v tokens
      earlier u v tokens required before =
          let (j, inside, is) = complete u v tokens required in
          elim (cases_lt j k) [
            | inl low ↦ subst IsGivenArc is (first.before j (arc u v tokens) (omega arith) low)
            | inr high ↦ absurd (no_turn missed (arc u v tokens)
                (subst (StandsBefore missed) (get_or_default arcs j some_arc (arc u v tokens) inside ∙ is) (stands_behind k j high inside)) before)
          ]

      -- an order that is missing is a fault, where no event lacks
      misses : HasAcceptFault s g
      misses =
          let required : IsRequired s missed.source missed.target missed.tokens = sound missed (Contains-get_or arcs k some_arc first.inside) in
          let ends = ends_inside missed required in
          let (least, numbers, shows) = least_is_shown g (place missed.source) (place missed.target) in (
            MissingOrder (place missed.source) (place missed.target) missed.tokens least numbers,
            λ e. absurd (cc),
            (
              there,
              record {
                u = missed.source;
                v = missed.target;
                required = required;
                source = placed missed.source ends.0;
                target = placed missed.target ends.1;
                lacks = first.without some_arc;
                before = earlier;
              },
              shows,
            ),
          )

    given_or_misses : AreGiven s g ⊎ HasAcceptFault s g
    given_or_misses = elim (first_without IsGivenArc arcs each_told) [
      | inl all ↦ inl (all_given all)
      | inr (k, first) ↦ inr (misses k first)
    ]

  -- each required order is given, or one that is missing is a fault
  pub orders_are_decided : (edges : List Edge) → HasEdges s edges → AreGiven s g ⊎ HasAcceptFault s g
  orders_are_decided edges has_edges =
      let orders : List Arc = required_arcs s edges in
      let are : OrderedArcs orders = in_order orders in
      given_or_misses are.sorted are.rising
      (λ a at. listed_required s edges has_edges a (Contains-permutation are.sorted orders a (IsPermutation-sym orders are.sorted are.same) at))
      (λ u v tokens required. Contains-permutation orders are.sorted (arc u v tokens) are.same (required_listed s edges has_edges u v tokens required))
