-- The listed arcs are exactly the required orders.
use Rattle.std.proofs.Common.{◌≡◌, ◌≢◌, ℕ, zero, suc, ◌+◌, ◌*◌, ◌%◌, ◌<◌, ◌⊎◌, inl, inr, Bool, true, false, List, refl, ap, sym, ◌∙◌, subst, arith, Contains, ltb, lt-ltb, if◌then◌else◌}
use Rattle.std.specs.List.{range_with_len}
use Rattle.std.proofs.lemmas.Nat.{mod-mul-add}
use Rattle.std.proofs.lemmas.List.Elements.{Contains-append_left, Contains-append_right, Contains-append_cases}
use Rattle.ds_marked.specs.declared.marked.Arc.{Arc}
use Rattle.ds_latch.specs.Node.{Split, IsNode, number_of, nodes, opening, closing}
use Rattle.ds_latch.specs.declared.node.Node.{Node}
use Rattle.ds_latch.specs.declared.node.Node.TheVariants.{In, Out, Master, Slave}
use Rattle.ds_latch.specs.Order.{IsDataEdge, IsRequired, opens_first, closes_before_next, after_producer, before_reuse, open_tokens, close_tokens}
use Rattle.ds_latch.specs.Latches.{HasEdges}
use Rattle.ds_latch.specs.declared.latches.Edge.{Edge}
use Rattle.ds_latch.proofs.OrderTokens.{edge_differs, edge_tokens, number_below}
use Rattle.ds_latch.proofs.OrdersRise.{edge_nodes}
use Rattle.ds_control.specs.Orders.{closing_arc, opening_arc, reading_arc, freeing_arc, tokens_after, node_arcs, edge_arcs, required_arcs}
use Rattle.ds_control.proofs.TwoForEach.{in_first, in_second, from_two, in_range, range_below}

halves : (v : ℕ) → (n : ℕ) × ((v ≡ 2 * n) ⊎ (v ≡ 2 * n + 1))
halves zero = (0, inl (omega arith))
halves (suc v) = let (n, is) = halves v in elim is [ inl e ↦ (n, inr (omega arith)) | inr e ↦ (n + 1, inl (omega arith)) ]

-- each number is a node's
pub named : (n : ℕ) → (m : Node) × (number_of m ≡ n)
named zero = (In, refl)
named (suc zero) = (Out, refl)
named (suc (suc l)) = let (i, is) = halves l in elim is [ inl e ↦ (Master i, omega arith) | inr e ↦ (Slave i, omega arith) ]

pub is_node : (s : Split) (m : Node) → number_of m < nodes s → IsNode s m
is_node s In low = tt
is_node s Out low = tt
is_node s (Master i) low = omega arith
is_node s (Slave i) low = omega arith

either : (b : Bool) (x : ℕ) → x ≡ 0 → (if b then x else 0) ≡ 0
either true x e = e
either false x e = refl

pub tokens_is : (p : Node) → tokens_after (number_of p) ≡ open_tokens p
tokens_is In = refl
tokens_is Out = refl
tokens_is (Master i) =
    either (ltb 2 (2 * i + 2)) ((2 * i + 2) % 2) (ap (λ (n : ℕ). n % 2) (let e : 2 * i + 2 ≡ (i + 1) * 2 + 0 = omega arith in e) ∙ mod-mul-add (i + 1) 2 0 (omega arith))
tokens_is (Slave i) =
    ap (λ (b : Bool). if b then (2 * i + 3) % 2 else 0) (lt-ltb 2 (2 * i + 3) (omega arith))
    ∙ (ap (λ (n : ℕ). n % 2) (let e : 2 * i + 3 ≡ (i + 1) * 2 + 1 = omega arith in e) ∙ mod-mul-add (i + 1) 2 1 (omega arith))

-- an arc by its parts
abbrev pub arc : ℕ → ℕ → ℕ → Arc
arc u v tokens = record { source = u; target = v; tokens = tokens }

same_arc : (u v t x y z : ℕ) → u ≡ x → v ≡ y → t ≡ z → arc u v t ≡ arc x y z
same_arc u v t x y z e f g = ap (λ (u : ℕ). arc u v t) e ∙ (ap (λ (v : ℕ). arc x v t) f ∙ ap (arc x y) g)

module _ (s : Split) where
  reading_is : (e : Edge) (p c : Node) → number_of p ≡ e.producer → number_of c ≡ e.consumer → reading_arc e ≡ arc (opening p) (opening c) (open_tokens p)
  reading_is e p c pe ce = same_arc _ _ _ _ _ _ (omega arith) (omega arith) (ap tokens_after (sym pe) ∙ tokens_is p)

  freeing_is : (e : Edge) (p c : Node) → number_of p ≡ e.producer → number_of c ≡ e.consumer → freeing_arc s.slack e ≡ arc (closing c) (opening p) (close_tokens s p)
  freeing_is e p c pe ce =
      let tokens : tokens_after e.producer ≡ open_tokens p = ap tokens_after (sym pe) ∙ tokens_is p in
      let both : open_tokens p + close_tokens s p ≡ s.slack + 1 = edge_tokens s p in
      same_arc _ _ _ _ _ _ (omega arith) (omega arith) (omega arith)

  module _ (edges : List Edge) (has : HasEdges s edges) where
    -- the nodes of a listed edge
    record Joins (e : Edge) : Type 0 where
      producer : Node
      consumer : Node
      edge : IsDataEdge s producer consumer
      from : number_of producer ≡ e.producer
      to : number_of consumer ≡ e.consumer

    joins : (e : Edge) → Contains edges e → Joins e
    joins e (k, inside, is) =
        let (p, pe) = named e.producer in
        let (c, ce) = named e.consumer in
        record { producer = p; consumer = c; edge = (has p c).1 (k, e, inside, is, (sym pe, sym ce)); from = pe; to = ce }

    pub edge_inside : (e : Edge) → Contains edges e → (e.producer < nodes s) × (e.consumer < nodes s)
    edge_inside e at =
        let j : Joins e = joins e at in
        let ends : IsNode s j.producer × IsNode s j.consumer = edge_nodes s j.producer j.consumer j.edge in
        let low : number_of j.producer < nodes s = number_below s j.producer ends.0 in
        let high : number_of j.consumer < nodes s = number_below s j.consumer ends.1 in
        let from : number_of j.producer ≡ e.producer = j.from in
        let to : number_of j.consumer ≡ e.consumer = j.to in
        (omega arith, omega arith)

    pub edge_ends_differ : (e : Edge) → Contains edges e → e.producer ≢ e.consumer
    edge_ends_differ e at same =
        let j : Joins e = joins e at in
        let from : number_of j.producer ≡ e.producer = j.from in
        let to : number_of j.consumer ≡ e.consumer = j.to in
        edge_differs s j.producer j.consumer j.edge (omega arith)

    of_node : (a : Arc) → Contains (node_arcs (nodes s)) a → Contains (required_arcs s edges) a
    of_node a at = Contains-append_left (node_arcs (nodes s)) (edge_arcs s.slack edges) a at

    of_edge : (a : Arc) → Contains (edge_arcs s.slack edges) a → Contains (required_arcs s edges) a
    of_edge a at = Contains-append_right (node_arcs (nodes s)) (edge_arcs s.slack edges) a at

    pub required_listed : (u v tokens : ℕ) → IsRequired s u v tokens → Contains (required_arcs s edges) (arc u v tokens)
    required_listed _ _ _ (opens_first n is) =
        of_node (closing_arc (number_of n)) (in_first closing_arc opening_arc (range_with_len 0 (nodes s)) (number_of n) (in_range (nodes s) (number_of n) (number_below s n is)))
    required_listed _ _ _ (closes_before_next n is) =
        of_node (opening_arc (number_of n)) (in_second closing_arc opening_arc (range_with_len 0 (nodes s)) (number_of n) (in_range (nodes s) (number_of n) (number_below s n is)))
    required_listed _ _ _ (after_producer p c edge) =
        let (k, e, inside, is, (pe, ce)) = (has p c).0 edge in
        subst (Contains (required_arcs s edges)) (reading_is e p c (sym pe) (sym ce)) (of_edge (reading_arc e) (in_first reading_arc (freeing_arc s.slack) edges e (k, inside, is)))
    required_listed _ _ _ (before_reuse p c edge) =
        let (k, e, inside, is, (pe, ce)) = (has p c).0 edge in
        subst (Contains (required_arcs s edges)) (freeing_is e p c (sym pe) (sym ce)) (of_edge (freeing_arc s.slack e) (in_second reading_arc (freeing_arc s.slack) edges e (k, inside, is)))

    -- an arc is a required order
    abbrev Serves : Arc → Type 0
    Serves a = IsRequired s a.source a.target a.tokens

    node_serves : (n : ℕ) → n < nodes s → Serves (closing_arc n) × Serves (opening_arc n)
    node_serves n low =
        let (m, e) = named n in
        let inside : IsNode s m = is_node s m (omega arith) in (
          subst Serves (same_arc (opening m) (closing m) 0 (2 * n) (2 * n + 1) 0 (omega arith) (omega arith) refl) (opens_first m inside),
          subst Serves (same_arc (closing m) (opening m) 1 (2 * n + 1) (2 * n) 1 (omega arith) (omega arith) refl) (closes_before_next m inside),
        )

    edge_serves : (e : Edge) → Contains edges e → Serves (reading_arc e) × Serves (freeing_arc s.slack e)
    edge_serves e at =
        let j : Joins e = joins e at in (
          subst Serves (sym (reading_is e j.producer j.consumer j.from j.to)) (after_producer j.producer j.consumer j.edge),
          subst Serves (sym (freeing_is e j.producer j.consumer j.from j.to)) (before_reuse j.producer j.consumer j.edge),
        )

    pub listed_required : (a : Arc) → Contains (required_arcs s edges) a → Serves a
    listed_required a at = elim (Contains-append_cases (node_arcs (nodes s)) (edge_arcs s.slack edges) a at) [
      | inl of_nodes ↦
          (let (k, n, inside, is, which) = from_two closing_arc opening_arc (range_with_len 0 (nodes s)) a of_nodes in
          let both : Serves (closing_arc n) × Serves (opening_arc n) = node_serves n (range_below (nodes s) n (k, inside, is)) in
          elim which [ inl e ↦ subst Serves e both.0 | inr e ↦ subst Serves e both.1 ])
      | inr of_edges ↦
          (let (k, e, inside, is, which) = from_two reading_arc (freeing_arc s.slack) edges a of_edges in
          let both : Serves (reading_arc e) × Serves (freeing_arc s.slack e) = edge_serves e (k, inside, is) in
          elim which [ inl e ↦ subst Serves e both.0 | inr e ↦ subst Serves e both.1 ])
    ]
