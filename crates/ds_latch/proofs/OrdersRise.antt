-- The required orders rise in the order in which a clock would fire: IN, OUT, all masters, all slaves, each opening and then closing.
use Rattle.std.proofs.Common.{◌≡◌, ℕ, zero, suc, ◌+◌, ◌*◌, ◌<◌, refl, arith, ap, ◌∙◌, [], ◌++◌, length, get_or, length-append, sym}
use Rattle.std.specs.Prelude.{◌↔◌}
use Rattle.std.specs.List.{flat_map, range_with_len}
use Rattle.std.proofs.lemmas.List.{append-nil}
use Rattle.ds_base.proofs.ListLemmas.{get_or-self}
use Rattle.ds_marked.specs.Graph.{Graph, IsArc, stay, along}
use Rattle.ds_marked.specs.declared.marked.Arc.{Arc}
use Rattle.ds_latch.specs.Plan.{node_events, split_events, IsSplit, IsPlan}
use Rattle.ds_latch.proofs.OrderTokens.{number_below}
use Rattle.ds_latch.specs.Node.{nodes, IsNode, number_of, Split, opening, closing}
use Rattle.ds_latch.specs.declared.node.Node.{Node}
use Rattle.ds_latch.specs.declared.node.Node.TheVariants.{In, Out, Master, Slave}
use Rattle.ds_latch.specs.Order.{IsDataEdge, to_master, to_out, to_slave, IsRequired, opens_first, closes_before_next, after_producer, before_reuse, open_tokens, close_tokens}

-- the turn's part in which an event fires; four events make a cluster
part : ℕ → ℕ
part zero = 4
part (suc zero) = 5
part (suc (suc zero)) = 6
part (suc (suc (suc zero))) = 7
part (suc (suc (suc (suc v)))) = part v

rank : ℕ → ℕ
rank zero = 0
rank (suc zero) = 1
rank (suc (suc zero)) = 2
rank (suc (suc (suc zero))) = 3
rank (suc (suc (suc (suc v)))) = part v

part_is : (i r : ℕ) → part (4 * i + r) ≡ part r
unfolding part
part_is zero r = ap part (let e : 4 * 0 + r ≡ r = omega arith in e)
part_is (suc i) r = ap part (let e : 4 * suc i + r ≡ suc (suc (suc (suc (4 * i + r)))) = omega arith in e) ∙ part_is i r

part_of : Node → ℕ
part_of In = 0
part_of Out = 2
part_of (Master i) = 4
part_of (Slave i) = 6

rank_opening : (n : Node) → rank (opening n) ≡ part_of n
unfolding rank part part_of
rank_opening In = refl
rank_opening Out = refl
rank_opening (Master i) = ap rank (let e : opening (Master i) ≡ suc (suc (suc (suc (4 * i + 0)))) = omega arith in e) ∙ part_is i 0
rank_opening (Slave i) = ap rank (let e : opening (Slave i) ≡ suc (suc (suc (suc (4 * i + 2)))) = omega arith in e) ∙ part_is i 2

rank_closing : (n : Node) → rank (closing n) ≡ part_of n + 1
unfolding rank part part_of
rank_closing In = refl
rank_closing Out = refl
rank_closing (Master i) = ap rank (let e : closing (Master i) ≡ suc (suc (suc (suc (4 * i + 1)))) = omega arith in e) ∙ part_is i 1
rank_closing (Slave i) = ap rank (let e : closing (Slave i) ≡ suc (suc (suc (suc (4 * i + 3)))) = omega arith in e) ∙ part_is i 3

after : (s : Split) (p c : Node) → IsDataEdge s p c → open_tokens p ≡ 0 → part_of p < part_of c
unfolding part_of
after s In _ (to_master source is_p inside supplies) none = omega arith
after s Out _ (to_master source is_p inside supplies) none = absurd source
after s (Master d) _ (to_master source is_p inside supplies) none = absurd source
after s (Slave d) _ (to_master source is_p inside supplies) none = absurd (omega arith)
after s In _ (to_out source is_p supplies) none = omega arith
after s Out _ (to_out source is_p supplies) none = absurd source
after s (Master d) _ (to_out source is_p supplies) none = absurd source
after s (Slave d) _ (to_out source is_p supplies) none = absurd (omega arith)
after s _ _ (to_slave inside) none = omega arith

before : (s : Split) (p c : Node) → IsDataEdge s p c → close_tokens s p ≡ 0 → part_of c + 1 < part_of p
unfolding part_of
before s In c edge none = absurd (omega arith)
before s Out c edge none = absurd (omega arith)
before s (Master d) c edge none = absurd (omega arith)
before s (Slave d) _ (to_master source is_p inside supplies) none = omega arith
before s (Slave d) _ (to_out source is_p supplies) none = omega arith

rises : (s : Split) (u v tokens : ℕ) → IsRequired s u v tokens → tokens ≡ 0 → rank u < rank v
rises s _ _ _ (opens_first n is_node) none = (let a : rank (opening n) ≡ part_of n = rank_opening n in let b : rank (closing n) ≡ part_of n + 1 = rank_closing n in omega arith)
rises s _ _ _ (closes_before_next n is_node) none = absurd (omega arith)
rises s _ _ _ (after_producer p c edge) none = (let a : rank (opening p) ≡ part_of p = rank_opening p in let b : rank (opening c) ≡ part_of c = rank_opening c in let low : part_of p < part_of c = after s p c edge none in omega arith)
rises s _ _ _ (before_reuse p c edge) none = (let a : rank (closing c) ≡ part_of c + 1 = rank_closing c in let b : rank (opening p) ≡ part_of p = rank_opening p in let low : part_of c + 1 < part_of p = before s p c edge none in omega arith)

pub required_orders_rise : (s : Split) → (rank : ℕ → ℕ) × ((u v : ℕ) → IsRequired s u v 0 → rank u < rank v)
required_orders_rise s = (rank, λ u v required. rises s u v 0 required refl)

-- the number of the events of all nodes
clusters_long : (a n : ℕ) → length (flat_map (λ i. node_events (Master i) ++ node_events (Slave i)) (range_with_len a n)) ≡ 4 * n
clusters_long a zero = refl
clusters_long a (suc n) =
    let here : length (node_events (Master a) ++ node_events (Slave a)) ≡ 4 = refl in
    let rest : length (flat_map (λ i. node_events (Master i) ++ node_events (Slave i)) (range_with_len (a + 1) n)) ≡ 4 * n = clusters_long (a + 1) n in
    length-append (node_events (Master a) ++ node_events (Slave a)) (flat_map (λ i. node_events (Master i) ++ node_events (Slave i)) (range_with_len (a + 1) n)) ∙ omega arith

pub events_long : (s : Split) → length (split_events s) ≡ 2 * nodes s
events_long s =
    let rest : length (flat_map (λ i. node_events (Master i) ++ node_events (Slave i)) (range_with_len 0 (length s.clusters))) ≡ 4 * length s.clusters = clusters_long 0 (length s.clusters) in
    length-append (node_events In ++ node_events Out) (flat_map (λ i. node_events (Master i) ++ node_events (Slave i)) (range_with_len 0 (length s.clusters))) ∙ omega arith

pub edge_nodes : (s : Split) (p c : Node) → IsDataEdge s p c → IsNode s p × IsNode s c
edge_nodes s _ _ (to_master source is_p inside supplies) = (is_p, inside)
edge_nodes s _ _ (to_out source is_p supplies) = (is_p, tt)
edge_nodes s _ _ (to_slave inside) = (inside, inside)

pub required_inside : (s : Split) (u v tokens : ℕ) → IsRequired s u v tokens → (u < 2 * nodes s) × (v < 2 * nodes s)
required_inside s _ _ _ (opens_first n is_node) = (let low : number_of n < nodes s = number_below s n is_node in (omega arith, omega arith))
required_inside s _ _ _ (closes_before_next n is_node) = (let low : number_of n < nodes s = number_below s n is_node in (omega arith, omega arith))
required_inside s _ _ _ (after_producer p c edge) =
    let (is_p, is_c) = edge_nodes s p c edge in
    let low : number_of p < nodes s = number_below s p is_p in
    let low' : number_of c < nodes s = number_below s c is_c in
    (omega arith, omega arith)
required_inside s _ _ _ (before_reuse p c edge) =
    let (is_p, is_c) = edge_nodes s p c edge in
    let low : number_of p < nodes s = number_below s p is_p in
    let low' : number_of c < nodes s = number_below s c is_c in
    (omega arith, omega arith)

module _ (s : Split) (g : Graph) (split : IsSplit s) (events : g.events ≡ split_events s) (orders : (u v tokens : ℕ) → IsRequired s u v tokens ↔ IsArc g u v tokens) where
  arc_required : (j : ℕ) (d : Arc) → j < length g.arcs → IsRequired s (get_or g.arcs j d).source (get_or g.arcs j d).target (get_or g.arcs j d).tokens
  arc_required j d inside = (orders (get_or g.arcs j d).source (get_or g.arcs j d).target (get_or g.arcs j d).tokens).1 (j, get_or g.arcs j d, inside, get_or-self g.arcs j d inside, (refl, refl, refl))

  all_events : length g.events ≡ 2 * nodes s
  all_events = ap length events ∙ events_long s

  pub orders_are_accepted : IsPlan s g
  orders_are_accepted = record {
    split = split;
    extra = [];
    events = events ∙ sym (append-nil (split_events s));
    live = record {
      ends = λ j d inside.
          let ends : ((get_or g.arcs j d).source < 2 * nodes s) × ((get_or g.arcs j d).target < 2 * nodes s) = required_inside s (get_or g.arcs j d).source (get_or g.arcs j d).target (get_or g.arcs j d).tokens (arc_required j d inside) in
          let low : (get_or g.arcs j d).source < 2 * nodes s = ends.0 in
          let low' : (get_or g.arcs j d).target < 2 * nodes s = ends.1 in
          let long : length g.events ≡ 2 * nodes s = all_events in
          (omega arith, omega arith);
      rank = rank;
      rises = λ j d inside none. rises s (get_or g.arcs j d).source (get_or g.arcs j d).target (get_or g.arcs j d).tokens (arc_required j d inside) none;
    };
    orders = λ u v tokens required. (0 + tokens, along stay ((orders u v tokens).0 required), omega arith);
  }
