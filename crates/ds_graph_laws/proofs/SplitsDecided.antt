-- Whether a split design asks for too many orders is decided, and so is the split of a circuit.
use Rattle.std.proofs.Common.{◌≢◌, ◌⊎◌, inl, inr, ℕ, ◌+◌, ◌*◌, ◌<◌, ◌≤◌, List, length, sym, ◌∙◌, subst, arith}
use Rattle.std.specs.Prelude.{AllPairs, Contains}
use Rattle.std.proofs.lemmas.Bool.{cases_lt}
use Rattle.std.proofs.lemmas.List.{length-map}
use Rattle.ds_base.specs.Limit.{most_of}
use Rattle.ds_base.specs.declared.number.Limit.TheVariants.{Arcs, Clusters}
use Rattle.ds_base.specs.declared.number.Mode.{Mode}
use Rattle.ds_design.specs.Accepted.{IsAccepted}
use Rattle.ds_design.specs.Circuit.{Circuit, initial_value}
use Rattle.ds_design.specs.declared.design.Register.{Register}
use Rattle.ds_latch.specs.Node.{Split, nodes, number_of}
use Rattle.ds_latch.specs.Latches.{HasEdges}
use Rattle.ds_latch.specs.Plan.{IsSplit}
use Rattle.ds_latch.specs.declared.latches.Edge.{Edge}
use Rattle.ds_split.specs.Cluster.{HasTooManyClusters, IsClustering}
use Rattle.ds_split.specs.Split.{HasTooManyOrders, IsEdgeOf, split_into}
use Rattle.ds_split.proofs.DataEdges.{same_edge}
use Rattle.ds_split.proofs.Pigeons.{few_different}
use Rattle.ds_control.proofs.Required.{named}
use Rattle.ds_graph_laws.specs.TotalSplits.{HasDecidedSplit}
use Rattle.ds_graph_laws.proofs.Clusterings.{clusterings_exist}
use Rattle.ds_graph_laws.proofs.DataEdgesListed.{edges_listed}

-- a circuit in clusters is split
pub clusters_split : (c : Circuit) (mode : Mode) (clusters : List (List ℕ)) → IsAccepted c → IsClustering c mode clusters → IsSplit (split_into c clusters)
clusters_split c mode clusters accepted are = record {
  accepted = accepted;
  covered = are.each_once.covered;
  within = are.each_once.within;
  once = are.each_once.once;
  one_value_each = length-map c.registers (λ (r : Register). initial_value r.initial);
}

module _ (s : Split) (edges : List Edge) (has : HasEdges s edges) where
  -- a listed edge is a data edge
  pub listed_edge : (e : Edge) → Contains edges e → IsEdgeOf s e
  listed_edge e (k, inside, is) =
      let (p, from) = named e.producer in
      let (c, to) = named e.consumer in
      (p, c, (has p c).1 (k, e, inside, is, (sym from, sym to)), same_edge e (number_of p) (number_of c) (sym from) (sym to))

  -- a data edge is listed
  pub edge_listed : (e : Edge) → IsEdgeOf s e → Contains edges e
  edge_listed e (p, c, edge, at) =
      let (j, x, inside, same, (producer, consumer)) = (has p c).0 edge in
      subst (λ (y : Edge). Contains edges y) (same_edge x (number_of p) (number_of c) producer consumer ∙ sym at) (j, inside, same)

  -- where the listed edges are few there are not too many
  pub few_listed : 2 * nodes s + 2 * length edges ≤ most_of Arcs → ¬ HasTooManyOrders s
  few_listed few many =
      let less : length many.edges ≤ length edges = few_different many.edges edges many.once (λ e is. edge_listed e (many.data_edges e is)) in
      let over : most_of Arcs < 2 * nodes s + 2 * length many.edges = many.many in
      omega arith

  -- where they are many there are too many
  pub many_listed : AllPairs (λ a b. a ≢ b) edges → most_of Arcs < 2 * nodes s + 2 * length edges → HasTooManyOrders s
  many_listed once many = record { edges = edges; data_edges = listed_edge; once = once; many = many }

-- a split design asks for too many orders or does not
pub orders_decided : (s : Split) → IsAccepted s.circuit → HasTooManyOrders s ⊎ (¬ HasTooManyOrders s)
orders_decided s accepted =
    let (edges, has, once) = edges_listed s accepted in
    elim (cases_lt (most_of Arcs) (2 * nodes s + 2 * length edges)) [
      | inl many ↦ inl (many_listed s edges has once many)
      | inr few ↦ inr (few_listed s edges has few)
    ]

-- a circuit has too many clusters, or a split design of which it is known whether it asks for too many orders
pub splits_decided : (c : Circuit) → IsAccepted c → (mode : Mode) → HasTooManyClusters c mode ⊎ HasDecidedSplit c mode
splits_decided c accepted mode =
    let (clusters, are) = clusterings_exist c mode in
    elim (cases_lt (most_of Clusters) (length clusters)) [
      | inl many ↦ inl (clusters, are, many)
      | inr few ↦ inr (record { clusters = clusters; are = are; few = few; orders = orders_decided (split_into c clusters) accepted })
    ]
