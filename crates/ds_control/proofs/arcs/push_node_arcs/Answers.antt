use Rattle.std.proofs.Common.{◌≡◌, ◌∙◌, ◌+◌, ◌*◌, ◌++◌, ◌∷◌, [], List, ℕ, ap, arith}
use Rattle.ds_marked.specs.declared.marked.Arc.{Arc}
use Rattle.ds_control.specs.Orders.{closing_arc, node_arcs, opening_arc}
use Rattle.ds_control.specs.Part.{PushesPart}
use Rattle.ds_control.proofs.OrderPrefixes.{closing_pushed, nodes_pushed, on_any}
use Rattle.ds_control.proofs.NodeOrders.{arc_is, node_pushed}
use Rattle.ds_control.proofs.arcs.push_node_arcs.Goals as goal

pub loop-i-preserved : goal.loop-i-preserved
loop-i-preserved c =
    let i : ℕ = c.loop-i.i in
    let open_first : c.opening.result ≡ 2 * i = omega (arith, c.opening.ensures, c.new-node.ensures) in
    let close_first : c.closing.result ≡ 2 * i + 1 = omega (arith, c.closing.ensures, c.new-node.ensures) in
    let open_next : c.opening-in-loop-i.result ≡ 2 * i = omega (arith, c.opening-in-loop-i.ensures, c.new-node.ensures) in
    let close_next : c.closing-in-loop-i.result ≡ 2 * i + 1 = omega (arith, c.closing-in-loop-i.ensures, c.new-node.ensures) in
    let first : c.arc.result ≡ closing_arc i = arc_is c.arc.result c.opening.result c.closing.result 0 (2 * i) (2 * i + 1) c.arc.ensures open_first close_first in
    let second : c.arc-in-loop-i.result ≡ opening_arc i =
    arc_is c.arc-in-loop-i.result c.closing-in-loop-i.result c.opening-in-loop-i.result 1 (2 * i + 1) (2 * i) c.arc-in-loop-i.ensures close_next open_next in
    c.in_ok-push-2.ensures.items
    ∙ (ap (λ (xs : List Arc). xs ++ c.arc-in-loop-i.result ∷ []) (c.in_ok-push.ensures.items ∙ ap (λ (xs : List Arc). xs ++ c.arc.result ∷ []) c.loop-i.invariant)
    ∙ node_pushed c.args.arcs.now.items i c.arc.result c.arc-in-loop-i.result first second)

pub returns-in_err-push-clause-part : goal.returns-in_err-push-clause-part
returns-in_err-push-clause-part c =
    let old : List Arc = c.args.arcs.now.items in
    let new : List Arc = c.push.new.self.items in
    on_any c.from_residual.result (PushesPart old new (node_arcs c.args.nodes))
    (nodes_pushed old new c.loop-i.i c.args.nodes c.loop-i-test.true (c.in_err-push.ensures.items ∙ c.loop-i.invariant))

pub returns-in_err-push-2-clause-part : goal.returns-in_err-push-2-clause-part
returns-in_err-push-2-clause-part c =
    let i : ℕ = c.loop-i.i in
    let old : List Arc = c.args.arcs.now.items in
    let new : List Arc = c.push-in-loop-i.new.self.items in
    let open_first : c.opening.result ≡ 2 * i = omega (arith, c.opening.ensures, c.new-node.ensures) in
    let close_first : c.closing.result ≡ 2 * i + 1 = omega (arith, c.closing.ensures, c.new-node.ensures) in
    let first : c.arc.result ≡ closing_arc i = arc_is c.arc.result c.opening.result c.closing.result 0 (2 * i) (2 * i + 1) c.arc.ensures open_first close_first in
    on_any c.from_residual-in_err-push-2.result (PushesPart old new (node_arcs c.args.nodes))
    (closing_pushed old new i c.args.nodes c.arc.result c.loop-i-test.true
    (c.in_err-push-2.ensures.items ∙ (c.in_ok-push.ensures.items ∙ ap (λ (xs : List Arc). xs ++ c.arc.result ∷ []) c.loop-i.invariant)) first)
