-- The data edges that a search finds.
use Rattle.std.proofs.Common.{◌≡◌, inl, inr, ℕ, ◌+◌, ◌-◌, ◌*◌, ◌<◌, ◌≤◌, List, [], ◌∷◌, ◌++◌, length, get_or, replicate, refl, sym, ◌∙◌, ap, subst, arith}
use Rattle.std.specs.Prelude.{Contains}
use Rattle.std.proofs.lemmas.Bool.{cases_lt}
use Rattle.std.proofs.lemmas.List.{length-map, length-replicate, length-set}
use Rattle.std.proofs.lemmas.List.Elements.{Contains-push_cases, Contains-push, Contains-append_left}
use Rattle.ds_design.specs.Circuit.{Circuit, initial_value}
use Rattle.ds_latch.specs.Node.{Split, IsNode, number_of, nodes, nets_of}
use Rattle.ds_latch.specs.declared.node.Node.{Node}
use Rattle.ds_latch.specs.declared.node.Node.TheVariants.{In, Out, Master, Slave}
use Rattle.ds_latch.specs.Order.{IsDataEdge, to_master, to_out, to_slave, IsSource, Supplies}
use Rattle.ds_latch.specs.Latches.{AreParts}
use Rattle.ds_design.specs.declared.design.Register.{Register}
use Rattle.ds_latch.specs.declared.latches.Edge.{Edge}
use Rattle.ds_latch.proofs.OrderTokens.{number_below, same_node}
use Rattle.ds_split.specs.Nets.{AreNodes, AreNetProducers}
use Rattle.ds_split.specs.Search.{Found, edge_of, with_edge, HasMet, IsCause}
use Rattle.ds_split.specs.Edges.{IsFoundBelow, AreEdges}
use Rattle.ds_split.specs.Split.{split_into, HasTooManyOrders}
use Rattle.ds_split.proofs.Searching.{ends_at, linked}
use Rattle.ds_split.proofs.Sources.{no_table}
use Rattle.ds_split.proofs.Marks.{zeros-at}

-- what an edge into a node is
into_out : (s : Split) (p : Node) → IsDataEdge s p Out → IsSource p × IsNode s p × Supplies s p Out
into_out s p (to_out source node supplies) = (source, node, supplies)

into_master : (s : Split) (i : ℕ) (p : Node) → IsDataEdge s p (Master i) → IsSource p × IsNode s p × Supplies s p (Master i)
into_master s i p (to_master source node inside supplies) = (source, node, supplies)

into_slave : (s : Split) (i : ℕ) (p : Node) → IsDataEdge s p (Slave i) → p ≡ Master i
into_slave s i _ (to_slave inside) = refl

into_in : (s : Split) (p : Node) → ¬ IsDataEdge s p In
into_in s p edge = elim edge [ ]

consumer_there : (s : Split) (p c : Node) → IsDataEdge s p c → IsNode s c
consumer_there s p _ (to_master source node inside supplies) = inside
consumer_there s p _ (to_out source node supplies) = tt
consumer_there s _ _ (to_slave inside) = inside

-- edges with the same numbers
pub same_edge : (e : Edge) (m n : ℕ) → e.producer ≡ m → e.consumer ≡ n → e ≡ edge_of m n
same_edge e m n producer consumer = ap (λ x. edge_of x e.consumer) producer ∙ ap (λ x. edge_of m x) consumer

-- a search that has found nothing
abbrev pub begun_with : List ℕ → ℕ → Found
begun_with producers n = record { producers = producers; seen = replicate n 0; edges = [] }

label_low : (s : Split) (producers : List ℕ) → AreNetProducers s producers → (net : ℕ) → get_or producers net 0 ≤ nodes s
label_low s producers are net = elim (cases_lt 0 (get_or producers net 0)) [
  | inl some ↦ (
      let (p, is, number, low) = are.from net (get_or producers net 0 - 1) (omega arith) in
      let below : get_or producers net 0 - 1 < nodes s = low in
      omega arith)
  | inr unlabelled ↦ omega arith
]

module _ (s : Split) where
  -- nothing is found yet
  pub found_none : (producers : List ℕ) → AreNetProducers s producers → IsFoundBelow s 1 (begun_with producers (nodes s))
  found_none producers are =
      let n : length (replicate {A = ℕ} (nodes s) 0) ≡ nodes s = length-replicate {A = ℕ} (nodes s) 0 in
      record {
        edges = record {
          sound = λ e is. absurd (let h : is.0 < 0 = is.1 in omega arith);
          complete = first;
          once = λ i j d below inside. absurd (omega arith);
        };
        before = record {
          some = omega arith;
          labels = λ net. subst (λ (k : ℕ). get_or producers net 0 ≤ k) (sym n) (label_low s producers are net);
          consumers = λ e is. absurd (let h : is.0 < 0 = is.1 in omega arith);
          seen = λ m. (let h : get_or {A = ℕ} (replicate (nodes s) 0) m 0 ≡ 0 = zeros-at (nodes s) m in omega arith);
          once = λ i j d below inside. absurd (omega arith);
        };
        producers = are;
        room = n;
      }
    where
      first : (p c : Node) → IsDataEdge s p c → number_of c < 1 → Contains [] (edge_of (number_of p) (number_of c))
      first p In edge low = absurd (into_in s p edge)
      first p Out edge low = absurd (omega arith)
      first p (Master i) edge low = absurd (omega arith)
      first p (Slave i) edge low = absurd (omega arith)

  -- all are found
  pub found_all : (f : Found) → IsFoundBelow s (nodes s) f → 2 * nodes s + 2 * length f.edges ≤ 1048576 → AreEdges s f.edges
  found_all f found few = record {
    has_edges = λ p c. (
      (λ edge. let (k, inside, at) = found.edges.complete p c edge (number_below s c (consumer_there s p c edge)) in
          (k, edge_of (number_of p) (number_of c), inside, at, (refl, refl))),
      (λ there. let (k, e, inside, at, (producer, consumer)) = there in
          let (q, d, edge, is) = found.edges.sound e (k, inside, at) in
          let one : q ≡ p = same_node q p (sym (ap (λ (e : Edge). e.producer) is) ∙ producer) in
          let other : d ≡ c = same_node d c (sym (ap (λ (e : Edge). e.consumer) is) ∙ consumer) in
          subst (λ (n : Node). IsDataEdge s n c) one (subst (λ (n : Node). IsDataEdge s q n) other edge)),
    );
    once = found.edges.once;
    few = few;
  }

  -- those that are found are too many already
  pub too_many : (k : ℕ) (f : Found) → IsFoundBelow s k f → 1048576 < 2 * nodes s + 2 * length f.edges → HasTooManyOrders s
  too_many k f found many = record {
    edges = f.edges;
    data_edges = found.edges.sound;
    once = found.edges.once;
    many = many;
  }

module _ (s : Split) (nets : List (List ℕ)) (are : AreNodes s.circuit s.clusters nets) where
  -- the edges into one consumer more
  consumed : (k : ℕ) (c : Node) → number_of c ≡ k
      → ((p : Node) → IsSource p → IsNode s p → Supplies s p c → IsDataEdge s p c)
      → ((p : Node) → IsDataEdge s p c → IsSource p × IsNode s p × Supplies s p c)
      → (f g : Found) → IsFoundBelow s k f → HasMet k f (IsCause s.circuit (nets_of s c)) g → IsFoundBelow s (k + 1) g
  consumed k c number make break f g found met = record {
    edges = record {
      sound = λ e is. elim (met.only e is) [
        | inl old ↦ found.edges.sound e old
        | inr (net, ((j, b, inside, at, path), untabled), (m, label, same)) ↦ (
            let (p, (source, node, has), is_m, low) = found.producers.from net m label in (
              p,
              c,
              make p source node (net, b, has, (j, inside, at), path),
              same ∙ (ap (λ x. edge_of x k) (sym is_m) ∙ ap (λ x. edge_of (number_of p) x) (sym number)),
            ))
      ];
      complete = λ p d edge low. elim (cases_lt (number_of d) k) [
        | inl before ↦ met.kept (edge_of (number_of p) (number_of d)) (found.edges.complete p d edge before)
        | inr here ↦ (
            let e : d ≡ c = same_node d c (omega arith) in
            let (source, node, (a, b, has, (j, inside, at), path)) = break p (subst (λ (n : Node). IsDataEdge s p n) e edge) in
            let untabled = no_table s are.accepted are.each_once p a (source, node, has) in
            let label : get_or f.producers a 0 ≡ number_of p + 1 = found.producers.known p a (source, node, has) (number_below s p node) in
            subst (λ x. Contains g.edges (edge_of (number_of p) x)) (sym number ∙ ap number_of (sym e))
            (met.found a (number_of p) ((j, b, inside, at, path), untabled) label))
      ];
      once = met.at.once;
    };
    before = ends_at k g met.at;
    producers = subst (λ (ps : List ℕ). AreNetProducers s ps) (sym met.same_producers) found.producers;
    room = met.same_room ∙ found.room;
  }

  pub consumed_out : (f g : Found) → IsFoundBelow s 1 f → HasMet 1 f (IsCause s.circuit (nets_of s Out)) g → IsFoundBelow s 2 g
  consumed_out f g found met = consumed 1 Out refl (λ p source node supplies. to_out source node supplies) (into_out s) f g found met

  consumed_master : (i : ℕ) → i < length s.clusters → (f g : Found) → IsFoundBelow s (2 * i + 2) f
      → HasMet (2 * i + 2) f (IsCause s.circuit (nets_of s (Master i))) g → IsFoundBelow s (2 * i + 2 + 1) g
  consumed_master i inside f g found met =
      consumed (2 * i + 2) (Master i) refl (λ p source node supplies. to_master source node inside supplies) (into_master s i) f g found met

  -- the edge from a master to its slave
  found_slave : (i : ℕ) → i < length s.clusters → (g : Found) → IsFoundBelow s (2 * i + 2 + 1) g
      → IsFoundBelow s (2 * i + 2 + 1 + 1) (with_edge g (2 * i + 2) (2 * i + 2 + 1))
  found_slave i inside g found =
      let room : length g.seen ≡ nodes s = found.room in
      let next = linked (2 * i + 2 + 1) (2 * i + 2) g (omega arith) found.before in
      let slave : 2 * i + 2 + 1 ≡ 2 * i + 3 = omega arith in
      record {
        edges = record {
          sound = λ e is. elim (Contains-push_cases g.edges (edge_of (2 * i + 2) (2 * i + 2 + 1)) e is) [
            | inl old ↦ found.edges.sound e old
            | inr new ↦ (Master i, Slave i, to_slave inside, sym new ∙ ap (edge_of (2 * i + 2)) slave)
          ];
          complete = λ p d edge low. elim (cases_lt (number_of d) (2 * i + 2 + 1)) [
            | inl before ↦ Contains-append_left g.edges (edge_of (2 * i + 2) (2 * i + 2 + 1) ∷ []) (edge_of (number_of p) (number_of d))
                (found.edges.complete p d edge before)
            | inr here ↦ (
                let e : d ≡ Slave i = same_node d (Slave i) (let low' : number_of d < 2 * i + 2 + 1 + 1 = low in omega arith) in
                let f : p ≡ Master i = into_slave s i p (subst (λ (n : Node). IsDataEdge s p n) e edge) in
                subst (λ x. Contains (g.edges ++ edge_of (2 * i + 2) (2 * i + 2 + 1) ∷ []) x)
                (ap (edge_of (2 * i + 2)) slave ∙ (ap (λ x. edge_of (number_of x) (2 * i + 3)) (sym f) ∙ ap (λ x. edge_of (number_of p) (number_of x)) (sym e)))
                (Contains-push g.edges (edge_of (2 * i + 2) (2 * i + 2 + 1))))
          ];
          once = next.once;
        };
        before = next;
        producers = found.producers;
        room = length-set g.seen (2 * i + 2) (2 * i + 2 + 1) ∙ found.room;
      }

  -- the edges into a master, and from it to its slave
  pub found_cluster : (i : ℕ) → i < length s.clusters → (f g h : Found) → IsFoundBelow s (2 * i + 2) f
      → HasMet (2 * i + 2) f (IsCause s.circuit (nets_of s (Master i))) g → h ≡ with_edge g (2 * i + 2) (2 * i + 2 + 1)
      → IsFoundBelow s (2 * i + 4) h
  found_cluster i inside f g h found met is =
      let e : 2 * i + 4 ≡ 2 * i + 2 + 1 + 1 = omega arith in
      subst (λ (k : ℕ). IsFoundBelow s k h) (sym e)
      (subst (λ (x : Found). IsFoundBelow s (2 * i + 2 + 1 + 1) x) (sym is)
      (found_slave i inside g (consumed_master i inside f g found met)))

-- the parts of a split design
pub parts : (c : Circuit) (clusters nets : List (List ℕ)) (edges : List Edge) → AreNodes c clusters nets
    → AreEdges (split_into c clusters) edges → AreParts (split_into c clusters) nets edges
parts c clusters nets edges are have = record {
  split = record {
    accepted = are.accepted;
    covered = are.each_once.covered;
    within = are.each_once.within;
    once = are.each_once.once;
    one_value_each = length-map c.registers (λ (r : Register). initial_value r.initial);
  };
  one_each = are.listed.0;
  nets = λ n is. are.listed.1 n is (number_below (split_into c clusters) n is);
  has_edges = have.has_edges;
  once = have.once;
  few = have.few;
  low = omega arith;
}
