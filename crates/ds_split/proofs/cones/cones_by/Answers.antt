use Rattle.std.proofs.Common.{◌≡◌, ◌∙◌, ◌<◌, ◌+◌, ◌++◌, ◌∷◌, [], ℕ, List, length, get_or, ap, sym, subst, arith, refl}
use Rattle.std.proofs.lemmas.List.{length_push}
use Rattle.ds_latch.specs.Node.{IsNode, nets_of}
use Rattle.ds_latch.specs.declared.node.Node.{Node}
use Rattle.ds_latch.specs.declared.node.Node.TheVariants.{Master}
use Rattle.ds_settle.specs.Cone.{IsCone, Parts}
use Rattle.ds_split.specs.Settled.{IsSettling}
use Rattle.ds_split.specs.Cones.{cone_place}
use Rattle.ds_split.proofs.NodeCones.{cones_all, cones_begun, cones_more}
use Rattle.ds_split.proofs.cones.cones_by.Goals as goal

pub add-requires-in-loop-i-clause-node : goal.add-requires-in-loop-i-clause-node
add-requires-in-loop-i-clause-node c =
    let low : c.loop-i.i < length c.args.latches.now.clusters = omega (arith, ap length c.clusters-i-end.ensures.clusters) in
    (Master c.loop-i.i, record { node = low; settling = tt; is = refl })

pub loop-i-init : goal.loop-i-init
loop-i-init c =
    let (cone, at, items) = c.in_ok-add.ensures.ok in
    let one : c.add.new.cones.items ≡ cone ∷ [] = items ∙ ap (λ (xs : List Parts). xs ++ cone ∷ []) c.in_ok-cones.ensures.items in
    record {
      same = c.in_ok-add.ensures.same ∙ c.requires.finder;
      one_each = ap length one;
      each = cones_begun c.args.latches.now c.add.new.cones.items cone one at;
    }

pub loop-i-preserved : goal.loop-i-preserved
loop-i-preserved c =
    let low : c.loop-i.i < length c.args.latches.now.clusters = omega (arith, ap length c.clusters-i-end.ensures.clusters) in
    let (cone, at, items) = c.in_ok-add-2.ensures.ok in
    let cones : List Parts = c.loop-i.cones.items in
    record {
      same = c.in_ok-add-2.ensures.same ∙ c.loop-i.invariant.same;
      one_each = ap length items ∙ (length_push cones cone ∙ ap (λ (n : ℕ). n + 1) c.loop-i.invariant.one_each);
      each = subst (λ (xs : List Parts). (n : Node) → IsNode c.args.latches.now n → IsSettling n → cone_place n < c.loop-i.i + 1 + 1 → (d : Parts) → IsCone c.args.latches.now.circuit (nets_of c.args.latches.now n) (get_or xs (cone_place n) d)) (sym items)
          (cones_more c.args.latches.now cones cone c.loop-i.i c.loop-i.invariant.one_each c.loop-i.invariant.each (at (Master c.loop-i.i) (record { node = low; settling = tt; is = refl })));
    }

pub returns : goal.returns
returns c =
    let all : c.loop-i.i ≡ length c.args.latches.now.clusters = omega (arith, ap length c.clusters-i-end.ensures.clusters) in
    record {
      one_each = c.loop-i.invariant.one_each ∙ ap (λ (n : ℕ). n + 1) all;
      each = cones_all c.args.latches.now c.loop-i.cones.items c.loop-i.i all c.loop-i.invariant.each;
    }
