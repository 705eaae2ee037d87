use Rattle.std.proofs.Common.{◌≡◌, ◌∙◌, ◌<◌, ℕ, List, length, get_or, sym, ap, arith, subst}
use mathlib.Core.Logic.{dite}
use mathlib.Core.Option.{some}
use native.Mathlib.Decide.{ℕ_discrete}
use lib.ListN.{get_elem?}
use Rattle.atomic_table.proofs.Lists.{at_index}
use Rattle.ds_rule.proofs.GetElemLemmas.{at_below, same_at, has_below}
use Rattle.ds_fabric.specs.HistoryList.{list_of_words}
use Rattle.ds_fabric.specs.Showing.{Showing, IsRecord}
use Rattle.ds_fabric.specs.Spread.{CanSpread, HasSpread, IsLeftOver}
use Rattle.ds_fabric.specs.declared.histories.Histories.{Histories}
use Rattle.ds_fabric.specs.declared.history.History.{History}
use Rattle.ds_fabric.proofs.Spreads.{can_spread, stays}
use Rattle.ds_fabric.proofs.spread.spread_all.Goals as goal

-- the history that is read is one of the list
at_items : (ns items : List History) (i : ℕ) (h : History) → ns ≡ items → i < length ns
    → h ≡ get_or ns i h → get_elem? items i ≡ some h
at_items ns items i h e below is =
    subst (λ (xs : List History). get_elem? xs i ≡ some h) e (at_index ns i h below is)

-- the events of its node can be put, out of the list of its words
can : (p : Showing) (s : Histories) (design_nodes many long i : ℕ) (h : History) (words : List ℕ)
    → IsRecord p s design_nodes many → get_elem? s.nodes.items i ≡ some h → words ≡ list_of_words s h
    → long ≡ many → CanSpread design_nodes long p.view.run h words
can p s design_nodes many long i h words q at is same =
    subst (λ (ws : List ℕ). CanSpread design_nodes long p.view.run h ws) (sym is)
    (subst (λ (x : ℕ). CanSpread design_nodes x p.view.run h (list_of_words s h)) (sym same)
    (can_spread p s design_nodes many q i h at))

pub spread-requires-clause-few : goal.spread-requires-clause-few
spread-requires-clause-few c = let (p, q) = c.requires in
    let h : History = c.index-nodes-i.result in
    let at = at_items c.as_slice-nodes.result.now c.args.histories.now.nodes.items c.loop-i.i h
    c.as_slice-nodes.ensures.value c.loop-i-test.true c.index-nodes-i.is in (
      omega (arith, q.design_nodes_is, q.sound.among, q.sound.few),
      omega (
        arith,
        has_below p.view.holds h.node (q.keeps.listed c.loop-i.i h at).has,
        q.keeps.held_long,
        q.design_nodes_is,
        q.sound.few,
      ),
    )

pub spread-requires-clause-can : goal.spread-requires-clause-can
spread-requires-clause-can c = let (p, q) = c.requires in
    let s : Histories = c.args.histories.now in
    let h : History = c.index-nodes-i.result in let i : ℕ = c.loop-i.i in
    let at = at_items c.as_slice-nodes.result.now s.nodes.items i h c.as_slice-nodes.ensures.value
    c.loop-i-test.true c.index-nodes-i.is in (
      p.view.run,
      can p s c.args.design_nodes (length c.args.out.now) (length c.loop-i.out) i h
          c.words.result.now q at c.words.ensures c.loop-i.invariant.long,
    )

pub loop-i-preserved : goal.loop-i-preserved
loop-i-preserved c = let s : Histories = c.args.histories.now in
    let h : History = c.index-nodes-i.result in let i : ℕ = c.loop-i.i in
    let inv = c.loop-i.invariant in let ws : List ℕ = c.words.result.now in
    let at = at_items c.as_slice-nodes.result.now s.nodes.items i h c.as_slice-nodes.ensures.value
    c.loop-i-test.true c.index-nodes-i.is in
    let n : ℕ = length c.args.out.now in record {
      long = c.spread.ensures.long ∙ inv.long;
      spread = λ p q j g below at'. dite (ℕ_discrete j i)
          (λ e. subst (λ (x : History). HasSpread p.view.run x (list_of_words s x) c.spread.new.out)
          (same_at s.nodes.items i h g at
          (subst (λ (x : ℕ). get_elem? s.nodes.items x ≡ some g) e at'))
          (subst (λ (xs : List ℕ). HasSpread p.view.run h xs c.spread.new.out) c.words.ensures
          (c.spread.ensures.filled p.view.run
          (can p s c.args.design_nodes n (length c.loop-i.out) i h ws q at c.words.ensures
          inv.long))))
          (λ ne. stays p s c.args.design_nodes n q j i g h c.loop-i.out c.spread.new.out ne at' at
          (inv.spread p q j g (omega arith) at')
          (subst (λ (xs : List ℕ). IsLeftOver p.view.run h xs c.loop-i.out c.spread.new.out)
          c.words.ensures (c.spread.ensures.kept p.view.run q.design_nodes_is)));
    }

pub returns-clause-filled : goal.returns-clause-filled
returns-clause-filled c p q j g at = c.loop-i.invariant.spread p q j g
    (omega (
      arith,
      at_below c.args.histories.now.nodes.items j g at,
      ap (λ (xs : List History). length xs) c.as_slice-nodes.ensures.value,
      c.loop-i-test.false,
      c.loop-i.auto.i-end,
    )) at
