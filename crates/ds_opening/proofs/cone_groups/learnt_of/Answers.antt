use Rattle.std.proofs.Common.{◌≡◌, ◌∙◌, ◌<◌, ◌++◌, ◌∷◌, [], ℕ, List, arith, ap, get_or, length, map, refl, subst, sym}
use Rattle.std.specs.List.{range_with_len}
use Rattle.std.proofs.lemmas.List.FromFn.{map-range_with_len_more}
use Rattle.ds_latch.specs.Node.{Split, IsNode, nets_of, nodes, number_of}
use Rattle.ds_latch.specs.declared.node.Node.{Node}
use Rattle.ds_latch.proofs.EventNodes.{node_at as node_with}
use Rattle.ds_split.proofs.NodeCones.{lent}
use Rattle.ds_opening.specs.Foreseen.{node_at}
use Rattle.ds_opening.specs.Noted.{learnt_nets}
use Rattle.ds_opening.proofs.ForeseenRows.{node_by_number}
use Rattle.ds_opening.proofs.LearntRows.{at_number}
use Rattle.ds_opening.proofs.cone_groups.learnt_of.Goals as goal

-- the nets of the node with a number, as they are lent
nets_at : (s : Split) (bits : List (List ℕ)) → length bits ≡ nodes s
    → ((n : Node) → IsNode s n → get_or bits (number_of n) [] ≡ nets_of s n)
    → (number : ℕ) → number < length bits → nets_of s (node_at number) ≡ get_or bits number []
nets_at s bits one_each nets number low =
    let (n, is_node, is) = node_with s number (omega (low, one_each, arith)) in
    subst (λ (l : ℕ). nets_of s (node_at l) ≡ get_or bits l []) is
    (ap (nets_of s) (node_by_number n) ∙ sym (nets n is_node))

pub loop-number-preserved : goal.loop-number-preserved
loop-number-preserved c =
    let s : Split = c.args.latches.now in
    let bits : List (List ℕ) = c.bits-bits.result.now in
    let node : ℕ = c.loop-number.number in
    let inside : node < length bits = omega (c.loop-number-test.true, c.nodes-nodes.ensures.nodes, c.bits-bits.ensures.one_each, arith) in
    let these : c.as_slice.result.now ≡ get_or bits node [] =
    lent bits node node c.index-bits-number.result c.as_slice.result.now c.as_slice.ensures c.index-bits-number.is refl inside in
    let at : node_at node ≡ c.of-node.result = at_number c.of-node.result node (c.of-node.ensures ∙ omega (c.new.ensures, c.nodes-nodes.ensures.few, c.nodes-nodes.ensures.nodes, c.loop-number-test.true, arith)) in
    let list : c.in_ok-nets_learnt.field-0 ≡ learnt_nets s (node_at node) =
    c.in_ok-nets_learnt.ensures s (ap (nets_of s) (sym at) ∙ (nets_at s bits c.bits-bits.ensures.one_each c.bits-bits.ensures.nets node inside ∙ sym these)) ∙ ap (learnt_nets s) (sym at) in
    c.in_ok-push.ensures.items
    ∙ (ap (λ (xs : List (List ℕ)). xs ++ c.in_ok-nets_learnt.field-0 ∷ []) c.loop-number.invariant
    ∙ (ap (λ (x : List ℕ). map (λ number. learnt_nets s (node_at number)) (range_with_len 0 node) ++ x ∷ []) list
    ∙ sym (map-range_with_len_more (λ number. learnt_nets s (node_at number)) 0 node node (omega arith))))
