-- An expansion is a plan's graph.
use Rattle.std.proofs.Common.{◌≡◌, ℕ, ◌+◌, ◌-◌, ◌*◌, ◌/◌, ◌%◌, ◌<◌, ◌≤◌, List, length, get_or, length-append, refl, ◌∙◌, ap, subst, arith, All, Contains, Bool, ltb, lt-ltb, if◌then◌else◌}
use Rattle.std.proofs.lemmas.Bool.{le-ltb}
use Rattle.std.proofs.lemmas.List.{get_or_default}
use Rattle.std.specs.List.{flat_map, range_with_len}
use Rattle.std.proofs.lemmas.Nat.{div-mul-add, mod-mul-add}
use Rattle.std.proofs.lemmas.List.Elements.{All-append, Contains-append_left, Contains-append_right}
use Rattle.std.proofs.lemmas.List.FromFn.{length-range_with_len, get_or-range_with_len}
use Rattle.std.proofs.lemmas.List.Sorted.{All-permutation, Contains-permutation}
use Rattle.ds_base.proofs.ListLemmas.{get_or-self}
use Rattle.ds_marked.specs.Graph.{Graph, AreEnds, IsArc, Walk, stay, along}
use Rattle.ds_marked.specs.declared.marked.Arc.{Arc}
use Rattle.ds_marked.specs.declared.marked.Event.{Event}
use Rattle.ds_latch.specs.Node.{Split, IsNode, number_of, nodes, opening, closing}
use Rattle.ds_latch.specs.Order.{IsRequired, opens_first, closes_before_next, after_producer, before_reuse, open_tokens, close_tokens}
use Rattle.ds_latch.specs.Plan.{IsPlan, IsSplit, split_events}
use Rattle.ds_latch.proofs.OrderTokens.{edge_tokens, number_below}
use Rattle.ds_latch.proofs.OrdersRise.{events_long, required_orders_rise}
use Rattle.ds_control.specs.Orders.{closing_arc, node_arcs, opening_arc, tokens_after}
use Rattle.ds_control.proofs.Required.{is_node, named, tokens_is}
use Rattle.ds_control.proofs.TwoForEach.{all_two, in_first, in_range, in_second, length-two}
use Rattle.ds_shake.specs.Expansion.{IsExpansion, acknowledge_falls, acknowledge_rises, arc_by_parts, expanded_arcs, expanded_events}
use Rattle.ds_shake.specs.Expansion.{freeing_tokens, handshake_arcs, handshake_events, request_falls, request_rises}
use Rattle.ds_shake.specs.Handshakes.{AreHandshakes}
use Rattle.ds_shake.specs.declared.handshake.Handshake.{Handshake}
use Rattle.ds_shake.proofs.FlatMapLemmas.{all_each, all_flat, in_flat, length_flat}
use Rattle.ds_shake.proofs.HandshakeNodes.{Joins, below, frees, joins, reads}

module _ (s : Split) (all : List Handshake) (are : AreHandshakes s all) where
  count : ℕ
  count = nodes s

  -- the events are so many
  pub expanded_long : length (expanded_events s all) ≡ 2 * nodes s + 4 * length all
  expanded_long =
      let own : length (split_events s) ≡ 2 * nodes s = events_long s in
      let further : length (flat_map handshake_events all) ≡ 4 * length all = length_flat handshake_events 4 (λ h. refl) all in
      length-append (split_events s) (flat_map handshake_events all) ∙ omega (own, further, arith)

  -- so are the arcs
  pub arcs_long : length (expanded_arcs s all) ≡ 2 * nodes s + 8 * length all
  arcs_long =
      let own : length (node_arcs (nodes s)) ≡ 2 * length (range_with_len 0 (nodes s)) = length-two closing_arc opening_arc (range_with_len 0 (nodes s)) in
      let range : length (range_with_len 0 (nodes s)) ≡ nodes s = length-range_with_len 0 (nodes s) in
      let further : length (flat_map (handshake_arcs (nodes s) s.slack) all) ≡ 8 * length all = length_flat (handshake_arcs (nodes s) s.slack) 8 (λ h. refl) all in
      length-append (node_arcs (nodes s)) (flat_map (handshake_arcs (nodes s) s.slack) all) ∙ omega (own, range, further, arith)

  -- what holds of both arcs of each node and of the eight of each handshake holds of all arcs
  pub all_arcs : (P : Arc → Type 0) → ((n : ℕ) → n < nodes s → P (closing_arc n) × P (opening_arc n))
      → ((h : Handshake) → Contains all h → All P (handshake_arcs (nodes s) s.slack h)) → All P (expanded_arcs s all)
  all_arcs P own further = All-append P (node_arcs (nodes s)) (flat_map (handshake_arcs (nodes s) s.slack) all)
      (all_two closing_arc opening_arc P (range_with_len 0 (nodes s)) (λ k d inside.
      let low : k < nodes s = rw (← length-range_with_len 0 (nodes s)) inside in
      let at : get_or (range_with_len 0 (nodes s)) k d ≡ 0 + k = get_or-range_with_len 0 (nodes s) k d low in
      own (get_or (range_with_len 0 (nodes s)) k d) (omega (at, low, arith))))
      (all_flat (handshake_arcs (nodes s) s.slack) P all (λ k d inside. further (get_or all k d) (k, inside, get_or-self all k d inside)))

  number_in : (h : Handshake) → Contains all h → (k : ℕ) × (k < length all) × (get_or all k h ≡ h) × (h.number ≡ k)
  number_in h (k, inside, is) = (k, inside, is, subst (λ (x : Handshake). x.number ≡ k) is (are.numbered k inside h))

  -- arcs join events
  pub expanded_ends : (n : ℕ) → n ≡ 2 * nodes s + 4 * length all → AreEnds n (expanded_arcs s all)
  expanded_ends n size = all_arcs (λ a. (a.source < n) × (a.target < n))
      (λ k low. ((omega (size, low, arith), omega (size, low, arith)), (omega (size, low, arith), omega (size, low, arith))))
      (λ h at.
      let (k, inside, is, number) = number_in h at in
      let (producer, consumer) = below s h (joins s all are h at) in
      all_each (λ a. (a.source < n) × (a.target < n)) (handshake_arcs (nodes s) s.slack h) ((omega (size, producer, arith), omega (size, number, inside, arith)), ((omega (size, number, inside, arith), omega (size, consumer, arith)), ((omega (size, consumer, arith), omega (size, number, inside, arith)), ((omega (size, number, inside, arith), omega (size, producer, arith)), ((omega (size, number, inside, arith), omega (size, number, inside, arith)), ((omega (size, number, inside, arith), omega (size, number, inside, arith)), ((omega (size, number, inside, arith), omega (size, number, inside, arith)), ((omega (size, number, inside, arith), omega (size, number, inside, arith)), tt)))))))))

  -- the rank of an event of a handshake by its place among the four
  phase : ℕ → Handshake → ℕ
  phase r h = let R : ℕ → ℕ = (required_orders_rise s).0 in
      if ltb r 1 then 4 * R (2 * h.producer) + 1
      else (if ltb r 2 then 4 * R (2 * h.consumer + 1) + 2
      else (if ltb r 3 then 4 * R (2 * h.consumer + 1) + 1
      else 4 * R (2 * h.consumer + 1) + 3))

  some_handshake : Handshake
  some_handshake = record { number = 0; producer = 0; consumer = 0 }

  -- a rank for each event
  pub rank : ℕ → ℕ
  rank v = if ltb v (2 * nodes s) then 4 * (required_orders_rise s).0 v
      else phase ((v - 2 * nodes s) % 4) (get_or all ((v - 2 * nodes s) / 4) some_handshake)

  rank_own : (v : ℕ) → v < 2 * nodes s → rank v ≡ 4 * (required_orders_rise s).0 v
  unfolding rank
  rank_own v low = ap (λ (b : Bool). if b then 4 * (required_orders_rise s).0 v
      else phase ((v - 2 * nodes s) % 4) (get_or all ((v - 2 * nodes s) / 4) some_handshake)) (lt-ltb v (2 * nodes s) low)

  rank_far : (v : ℕ) → 2 * nodes s ≤ v → rank v ≡ phase ((v - 2 * nodes s) % 4) (get_or all ((v - 2 * nodes s) / 4) some_handshake)
  unfolding rank
  rank_far v far = ap (λ (b : Bool). if b then 4 * (required_orders_rise s).0 v
      else phase ((v - 2 * nodes s) % 4) (get_or all ((v - 2 * nodes s) / 4) some_handshake)) (le-ltb v (2 * nodes s) far)

  rank_at : (h : Handshake) → Contains all h → (r : ℕ) → r < 4 → rank (2 * nodes s + 4 * h.number + r) ≡ phase r h
  rank_at h at r low =
      let (k, inside, is, number) = number_in h at in
      let v : ℕ = 2 * nodes s + 4 * h.number + r in
      let rest : v - 2 * nodes s ≡ k * 4 + r = omega (number, arith) in
      let place : (v - 2 * nodes s) / 4 ≡ k = ap (λ (x : ℕ). x / 4) rest ∙ div-mul-add k 4 r low in
      let left : (v - 2 * nodes s) % 4 ≡ r = ap (λ (x : ℕ). x % 4) rest ∙ mod-mul-add k 4 r low in
      let found : get_or all k some_handshake ≡ h = get_or_default all k some_handshake h inside ∙ is in
      rank_far v (omega arith) ∙ (ap (λ (x : ℕ). phase x (get_or all ((v - 2 * nodes s) / 4) some_handshake)) left
      ∙ (ap (λ (x : ℕ). phase r (get_or all x some_handshake)) place ∙ ap (phase r) found))

  -- the ranks rise along each arc without tokens
  pub expanded_rise : All (λ a. a.tokens ≡ 0 → rank a.source < rank a.target) (expanded_arcs s all)
  unfolding phase
  expanded_rise = all_arcs (λ a. a.tokens ≡ 0 → rank a.source < rank a.target)
      (λ n low.
      let (m, e) = named n in
      let inside : IsNode s m = is_node s m (omega (e, low, arith)) in
      let rise : (required_orders_rise s).0 (2 * number_of m) < (required_orders_rise s).0 (2 * number_of m + 1) = (required_orders_rise s).1 (opening m) (closing m) (opens_first m inside) in
      let rises : (required_orders_rise s).0 (2 * n) < (required_orders_rise s).0 (2 * n + 1) = subst (λ (n : ℕ). (required_orders_rise s).0 (2 * n) < (required_orders_rise s).0 (2 * n + 1)) e rise in
      let opens : rank (2 * n) ≡ 4 * (required_orders_rise s).0 (2 * n) = rank_own (2 * n) (omega (low, arith)) in
      let closes : rank (2 * n + 1) ≡ 4 * (required_orders_rise s).0 (2 * n + 1) = rank_own (2 * n + 1) (omega (low, arith)) in
      (λ none. omega (rises, opens, closes, arith), λ none. absurd (omega (none, arith))))
      (λ h at.
      let j : Joins s h = joins s all are h at in
      let (producer, consumer) = below s h j in
      let R : ℕ → ℕ = (required_orders_rise s).0 in
      let opens_p : rank (2 * h.producer) ≡ 4 * R (2 * h.producer) = rank_own (2 * h.producer) (omega (producer, arith)) in
      let opens_c : rank (2 * h.consumer) ≡ 4 * R (2 * h.consumer) = rank_own (2 * h.consumer) (omega (consumer, arith)) in
      let closes_c : rank (2 * h.consumer + 1) ≡ 4 * R (2 * h.consumer + 1) = rank_own (2 * h.consumer + 1) (omega (consumer, arith)) in
      let r_up : rank (request_rises (nodes s) h) ≡ 4 * R (2 * h.producer) + 1 = ap rank (let e : 2 * nodes s + 4 * h.number ≡ 2 * nodes s + 4 * h.number + 0 = omega arith in e) ∙ rank_at h at 0 (omega arith) in
      let r_down : rank (request_falls (nodes s) h) ≡ 4 * R (2 * h.consumer + 1) + 2 = rank_at h at 1 (omega arith) in
      let a_up : rank (acknowledge_rises (nodes s) h) ≡ 4 * R (2 * h.consumer + 1) + 1 = rank_at h at 2 (omega arith) in
      let a_down : rank (acknowledge_falls (nodes s) h) ≡ 4 * R (2 * h.consumer + 1) + 3 = rank_at h at 3 (omega arith) in
      let forth : tokens_after h.producer ≡ 0 → R (2 * h.producer) < R (2 * h.consumer) =
      λ none. (required_orders_rise s).1 (2 * h.producer) (2 * h.consumer) (subst (λ (t : ℕ). IsRequired s (2 * h.producer) (2 * h.consumer) t) none (reads s h j)) in
      let back : freeing_tokens s.slack h ≡ 0 → R (2 * h.consumer + 1) < R (2 * h.producer) =
      λ none. (required_orders_rise s).1 (2 * h.consumer + 1) (2 * h.producer) (subst (λ (t : ℕ). IsRequired s (2 * h.consumer + 1) (2 * h.producer) t) none (frees s h j)) in
      all_each (λ a. a.tokens ≡ 0 → rank a.source < rank a.target) (handshake_arcs (nodes s) s.slack h) (λ none. omega (opens_p, r_up, arith), (λ none. let low : R (2 * h.producer) < R (2 * h.consumer) = forth none in omega (low, r_up, opens_c, arith), (λ none. omega (closes_c, a_up, arith), (λ none. let low : R (2 * h.consumer + 1) < R (2 * h.producer) = back none in omega (low, a_up, opens_p, arith), (λ none. omega (a_up, r_down, arith), (λ none. omega (r_down, a_down, arith), (λ none. let low : R (2 * h.consumer + 1) < R (2 * h.producer) = back none in omega (low, a_down, r_up, arith), (λ none. absurd (omega (none, arith)), tt)))))))))

module _ (s : Split) (g : Graph) (split : IsSplit s) (e : IsExpansion s g) where
  hs : List Handshake
  hs = e.handshakes

  -- the graph has each arc of the expansion
  is_arc : (u v t : ℕ) → Contains (expanded_arcs s e.handshakes) (arc_by_parts u v t) → IsArc g u v t
  is_arc u v t at =
      let (k, inside, is) = Contains-permutation (expanded_arcs s e.handshakes) g.arcs (arc_by_parts u v t) e.arcs at in
      (k, arc_by_parts u v t, inside, is, (refl, refl, refl))

  own_arc : (a : Arc) → Contains (node_arcs (nodes s)) a → Contains (expanded_arcs s e.handshakes) a
  own_arc a at = Contains-append_left (node_arcs (nodes s)) (flat_map (handshake_arcs (nodes s) s.slack) e.handshakes) a at

  -- the arc at a place among the eight of a handshake
  eighth : (h : Handshake) → Contains e.handshakes h → (a : Arc) → Contains (handshake_arcs (nodes s) s.slack h) a → Contains (expanded_arcs s e.handshakes) a
  eighth h at a here = Contains-append_right (node_arcs (nodes s)) (flat_map (handshake_arcs (nodes s) s.slack) e.handshakes) a
      (in_flat (handshake_arcs (nodes s) s.slack) e.handshakes h a at here)

  two_steps : (u w v one two most : ℕ) → IsArc g u w one → IsArc g w v two → one + two ≤ most → (sum : ℕ) × Walk g u v sum × (sum ≤ most)
  two_steps u w v one two most first second few = (0 + one + two, along (along stay first) second, omega (few, arith))

  given : (u v tokens : ℕ) → IsRequired s u v tokens → (sum : ℕ) × Walk g u v sum × (sum ≤ tokens)
  given _ _ _ (opens_first n is) =
      (0 + 0, along stay (is_arc (opening n) (closing n) 0 (own_arc (closing_arc (number_of n)) (in_first closing_arc opening_arc (range_with_len 0 (nodes s)) (number_of n) (in_range (nodes s) (number_of n) (number_below s n is))))), omega arith)
  given _ _ _ (closes_before_next n is) =
      (0 + 1, along stay (is_arc (closing n) (opening n) 1 (own_arc (opening_arc (number_of n)) (in_second closing_arc opening_arc (range_with_len 0 (nodes s)) (number_of n) (in_range (nodes s) (number_of n) (number_below s n is))))), omega arith)
  given _ _ _ (after_producer p c edge) =
      let (k, h, inside, is, (pe, ce)) = (e.are.edges p c).0 edge in
      let at : Contains e.handshakes h = (k, inside, is) in
      let tokens : tokens_after h.producer ≡ open_tokens p = ap tokens_after pe ∙ tokens_is p in
      two_steps (2 * number_of p) (request_rises (nodes s) h) (2 * number_of c) 0 (tokens_after h.producer) (open_tokens p)
      (subst (λ (u : ℕ). IsArc g (2 * u) (request_rises (nodes s) h) 0) pe (is_arc _ _ _ (eighth h at (arc_by_parts (2 * h.producer) (request_rises (nodes s) h) 0) (0, omega arith, refl))))
      (subst (λ (v : ℕ). IsArc g (request_rises (nodes s) h) (2 * v) (tokens_after h.producer)) ce (is_arc _ _ _ (eighth h at (arc_by_parts (request_rises (nodes s) h) (2 * h.consumer) (tokens_after h.producer)) (1, omega arith, refl))))
      (omega (tokens, arith))
  given _ _ _ (before_reuse p c edge) =
      let (k, h, inside, is, (pe, ce)) = (e.are.edges p c).0 edge in
      let at : Contains e.handshakes h = (k, inside, is) in
      let tokens : tokens_after h.producer ≡ open_tokens p = ap tokens_after pe ∙ tokens_is p in
      let both : open_tokens p + close_tokens s p ≡ s.slack + 1 = edge_tokens s p in
      two_steps (2 * number_of c + 1) (acknowledge_rises (nodes s) h) (2 * number_of p) 0 (freeing_tokens s.slack h) (close_tokens s p)
      (subst (λ (u : ℕ). IsArc g (2 * u + 1) (acknowledge_rises (nodes s) h) 0) ce (is_arc _ _ _ (eighth h at (arc_by_parts (2 * h.consumer + 1) (acknowledge_rises (nodes s) h) 0) (2, omega arith, refl))))
      (subst (λ (v : ℕ). IsArc g (acknowledge_rises (nodes s) h) (2 * v) (freeing_tokens s.slack h)) pe (is_arc _ _ _ (eighth h at (arc_by_parts (acknowledge_rises (nodes s) h) (2 * h.producer) (freeing_tokens s.slack h)) (3, omega arith, refl))))
      (omega (tokens, both, arith))

  pub expansion_is_plan : IsPlan s g
  expansion_is_plan = record {
    split = split;
    extra = flat_map handshake_events e.handshakes;
    events = e.events;
    live = record {
      ends = All-permutation (λ a. (a.source < length g.events) × (a.target < length g.events)) (expanded_arcs s e.handshakes) g.arcs e.arcs
          (expanded_ends s e.handshakes e.are (length g.events) (ap (λ (xs : List Event). length xs) e.events ∙ expanded_long s e.handshakes e.are));
      rank = rank s e.handshakes e.are;
      rises = All-permutation (λ a. a.tokens ≡ 0 → rank s e.handshakes e.are a.source < rank s e.handshakes e.are a.target) (expanded_arcs s e.handshakes) g.arcs e.arcs (expanded_rise s e.handshakes e.are);
    };
    orders = given;
  }
