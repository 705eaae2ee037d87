use Rattle.std.proofs.Common.{ℕ, List, ◌≡◌, ◌∙◌, ◌++◌, ◌∷◌, [], ap, arith, subst, sym, ◌+◌, Bool, false, Vec, Global}
use Rattle.std.specs.Prelude.{IsTrue}
use Rattle.ds_marked.specs.declared.marked.Arc.{Arc}
use Rattle.ds_accept.proofs.Merged.{AreLeftOf, all_left, later, left_given, left_lacks}
use Rattle.ds_accept.proofs.orders.left_of.Goals.{then-not-is_given+in_ok-push, else-not-is_given}
use Rattle.ds_accept.proofs.orders.left_of.Goals as goal

-- what is false is not true
not_true : (b : Bool) → b ≡ false → IsTrue b → ⊥
not_true b e t = absurd (cc)

pub loop-order-preserved : goal.loop-order-preserved
loop-order-preserved c = let (gives, given) = c.is_given.ensures in
    let k : ℕ = c.loop-order.order-index in
    let old : List Arc = c.loop-order.left.items in
    record {
      inside = c.first_from-place.ensures.inside;
      left = elim c.if-not-is_given.branch [
        | then-not-is_given+in_ok-push w ↦ (
            let left : c.if-not-is_given.left.items ≡ old ++ c.order-item.result ∷ [] = ap (λ (v : Vec Arc Global). v.items) w.left-is ∙ w.in_ok-push.ensures.items in
            subst (AreLeftOf c.args.orders.now c.args.arcs.now (k + 1)) (sym left)
            (left_lacks c.args.orders.now c.args.arcs.now c.requires.orders k old c.loop-order.invariant.left c.order-item.result c.order-item.is c.loop-order-test.true
            (λ by. not_true c.is_given.result w.if-not-is_given.true (given by))))
        | else-not-is_given w ↦ (
            let left : c.if-not-is_given.left.items ≡ old = ap (λ (v : Vec Arc Global). v.items) w.left-is in
            subst (AreLeftOf c.args.orders.now c.args.arcs.now (k + 1)) (sym left)
            (left_given c.args.orders.now c.args.arcs.now c.requires.orders k old c.loop-order.invariant.left c.order-item.result c.order-item.is c.loop-order-test.true
            (gives w.if-not-is_given.false)))
      ];
      before = later c.args.orders.now c.args.arcs.now c.requires.orders c.requires.arcs k c.first_from-place.result c.order-item.result c.order-item.is (omega arith) c.first_from-place.ensures.before;
    }

pub returns : goal.returns
returns c = all_left c.args.orders.now c.args.arcs.now c.loop-order.order-index c.loop-order.left.items c.loop-order.invariant.left
    (omega (arith, c.loop-order-test.false, c.loop-order.auto.order-index-end))
