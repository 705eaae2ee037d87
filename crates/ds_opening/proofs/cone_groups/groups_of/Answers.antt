use Rattle.std.proofs.Common.{◌≡◌, ◌∙◌, ◌<◌, ◌+◌, ℕ, zero, suc, List, ap, arith, get_or, length, subst, sym, Err, Ok, Result}
use Rattle.std.specs.Prelude.{All, IfOk}
use Rattle.std.proofs.lemmas.List.FromFn.{get_or-map-range_with_len, length-map-range_with_len}
use Rattle.ds_design.specs.Circuit.{Circuit}
use Rattle.ds_design.specs.InRange.{IsInRange}
use Rattle.ds_opening.specs.Groups.{AreGroupsOf, Grouping}
use Rattle.ds_opening.specs.Reads.{AreReads}
use Rattle.ds_latch.specs.Node.{IsNode, Split, nets_of, nodes}
use Rattle.ds_latch.specs.declared.node.Node.{Node}
use Rattle.ds_latch.specs.declared.node.Node.TheVariants.{In, Master, Out, Slave}
use Rattle.ds_latch.specs.Plan.{IsSplit}
use Rattle.ds_latch.proofs.EventNodes.{node_at as node_with}
use Rattle.ds_settle.specs.Cone.{IsCone, Parts as Cone}
use Rattle.ds_split.specs.Cones.{AreCones}
use Rattle.ds_split.proofs.NodeCones.{nets_within}
use Rattle.ds_opening.specs.Foreseen.{node_at}
use Rattle.ds_opening.specs.Noted.{AreConeGroups, all_learnt_nets, learnt_nets}
use Rattle.ds_opening.proofs.ForeseenRows.{node_by_number}
use Rattle.ds_opening.proofs.cone_groups.groups_of.Goals as goal

-- each of the cones is one of some nets
cone_at : (s : Split) (cones : List Cone) → AreCones s cones → (k : ℕ) (d : Cone) → k < length cones
    → (these : List ℕ) × IsCone s.circuit these (get_or cones k d)
cone_at s cones are zero d inside = (nets_of s Out, are.each Out tt tt d)
cone_at s cones are (suc i) d inside =
    let size : length cones ≡ length s.clusters + 1 = are.one_each in
    let place : i + 1 ≡ suc i = omega arith in (
      nets_of s (Master i),
      subst (λ (k : ℕ). IsCone s.circuit (nets_of s (Master i)) (get_or cones k d)) place
          (are.each (Master i) (omega (inside, size, arith)) tt d),
    )

-- what is learnt of a node are nets of the circuit
learnt_within : (s : Split) → IsSplit s → IsInRange s.circuit → (n : Node) → IsNode s n
    → All (λ net. net < length s.circuit.nets) (learnt_nets s n)
learnt_within s split range In is_node = nets_within s split range In is_node
learnt_within s split range Out is_node = λ k d low. absurd (let h : k < 0 = low in omega (h, arith))
learnt_within s split range (Master i) is_node = λ k d low. absurd (let h : k < 0 = low in omega (h, arith))
learnt_within s split range (Slave i) is_node = nets_within s split range (Slave i) is_node

all_within : (s : Split) → IsSplit s → IsInRange s.circuit
    → All (λ these. All (λ net. net < length s.circuit.nets) these) (all_learnt_nets s)
all_within s split range k d low =
    let near : k < nodes s = omega (low, length-map-range_with_len (λ number. learnt_nets s (node_at number)) 0 (nodes s), arith) in
    let (n, is_node, is) = node_with s k near in
    let here : get_or (all_learnt_nets s) k d ≡ learnt_nets s n =
    get_or-map-range_with_len (λ number. learnt_nets s (node_at number)) 0 (nodes s) k k d near (omega arith)
    ∙ (ap (λ (l : ℕ). learnt_nets s (node_at l)) (sym is) ∙ ap (learnt_nets s) (node_by_number n)) in
    subst (λ (xs : List ℕ). All (λ net. net < length s.circuit.nets) xs) (sym here)
    (learnt_within s split range n is_node)

pub of-requires-clause-cones : goal.of-requires-clause-cones
of-requires-clause-cones c = λ k d inside.
    subst (λ (circuit : Circuit). (these : List ℕ) × IsCone circuit these (get_or c.args.cones.items k d))
    (sym c.netlist.ensures.netlist) (cone_at c.args.latches.now c.args.cones.items c.requires.cones k d inside)

pub of-requires-clause-others : goal.of-requires-clause-others
of-requires-clause-others c =
    subst (λ (xss : List (List ℕ)). All (λ these. All (λ net. net < length c.netlist.result.now.nets) these) xss)
    (sym (c.as_slice.ensures.value ∙ c.in_ok-learnt.ensures))
    (subst (λ (circuit : Circuit). All (λ these. All (λ net. net < length circuit.nets) these) (all_learnt_nets c.args.latches.now))
    (sym c.netlist.ensures.netlist) (all_within c.args.latches.now c.requires.design.1 c.requires.design.0))

-- groups with their slots
both_ok : {E : Type 0} (s : Split) (circuit : Circuit) (cones : List Cone) (others : List (List ℕ))
    → circuit ≡ s.circuit → others ≡ all_learnt_nets s → AreCones s cones → (r : Result Grouping E)
    → IfOk r (AreGroupsOf circuit cones) → IfOk r (AreReads circuit others) → IfOk r (AreConeGroups s)
both_ok s circuit cones others same learnt are (Ok g) groups reads = record {
  cones = cones;
  are_cones = are;
  are = subst (λ (c : Circuit). AreGroupsOf c cones g) same groups;
  reads = subst (λ (xss : List (List ℕ)). AreReads s.circuit xss g) learnt
      (subst (λ (c : Circuit). AreReads c others g) same reads);
}
both_ok s circuit cones others same learnt are (Err e) groups reads = tt

pub returns : goal.returns
returns c = record {
  ok = both_ok c.args.latches.now c.netlist.result.now c.args.cones.items c.as_slice.result.now
      c.netlist.ensures.netlist (c.as_slice.ensures.value ∙ c.in_ok-learnt.ensures) c.requires.cones
      c.of.result c.of.ensures.ok c.of.ensures.reads;
}
