use Rattle.std.proofs.Common.{◌≡◌, ◌∙◌, ◌<◌, ◌+◌, ℕ, List, length}
use Rattle.std.proofs.Common.{subst, arith, refl, slice_index_or, length-set}
use mathlib.Core.Option.{some}
use lib.ListN.{get_elem?}
use Rattle.ds_rule.proofs.GetElemLemmas.{at_or}
use Rattle.ds_fabric.specs.declared.history.History.{History}
use Rattle.ds_fabric.specs.Indexed.{IsIndexed}
use Rattle.ds_fabric.proofs.Standing.{noted_more, noted_none}
use Rattle.ds_fabric.proofs.places.note_from.Goals as goal

pub returns-then-len-eq0 : goal.returns-then-len-eq0
returns-then-len-eq0 c m r o room inside =
    noted_none m r c.args.first (length c.args.nodes.now) c.args.nodes.now c.args.places.now.items o
    (omega (arith, c.if-len-eq0.true, c.len.ensures)) room

-- the history that is noted next has a place
noted_inside : (m r first : ℕ) (ns : List History) (ps qs : List ℕ) (h : History) (i : ℕ)
    → IsIndexed m r first ns ps → length qs ≡ length ps
    → (length ps ≡ 0 → ⊥) → ((j : ℕ) (g : History) → get_elem? ns j ≡ some g → g.node < m)
    → get_elem? ns i ≡ some h → h.node < length qs
noted_inside m r first ns ps qs h i o same full below at =
    omega (arith, o.long (omega arith), below i h at)

pub index_mut-requires : goal.index_mut-requires
index_mut-requires c = let q = c.requires.indexed in let ns : List History = c.args.nodes.now in
    let h : History = slice_index_or ns c.loop-i.i c.index-nodes-i.result in
    let at : get_elem? ns c.loop-i.i ≡ some h =
    at_or ns c.loop-i.i c.index-nodes-i.result c.loop-i-test.true in
    omega (
      arith,
      noted_inside q.0 q.1 c.args.first ns c.args.places.now.items c.loop-i.places.items h c.loop-i.i q.2 c.loop-i.invariant.long
          (λ z. c.if-len-eq0.false (omega (arith, z, c.len.ensures))) q.4 at,
    )

pub loop-i-preserved : goal.loop-i-preserved
loop-i-preserved c = let ns : List History = c.args.nodes.now in let i : ℕ = c.loop-i.i in
    let h : History = slice_index_or ns i c.index-nodes-i.result in
    let inv = c.loop-i.invariant in let ps : List ℕ = c.loop-i.places.items in
    let at : get_elem? ns i ≡ some h = at_or ns i c.index-nodes-i.result c.loop-i-test.true in record {
      long = length-set ps h.node (i + 1) ∙ inv.long;
      indexed = λ m r o room below. noted_more m r i (i + 1) ns ps h c.requires.distinct
          (inv.indexed m r o room below) at refl (omega (arith, c.loop-i-test.true)) (below i h at)
          (λ z. c.if-len-eq0.false (omega (arith, z, c.len.ensures, inv.long)));
      from = omega (arith, inv.from);
    }

pub returns : goal.returns
returns c = let (near, _) = c.requires.near in λ m r o room below. let e : c.loop-i.i ≡ length c.args.nodes.now =
    omega (
      arith,
      c.loop-i-test.false,
      c.loop-i.auto.i-end,
      c.loop-i.invariant.from,
      near,
    ) in
    subst (λ (n : ℕ). IsIndexed m r n c.args.nodes.now c.loop-i.places.items) e
    (c.loop-i.invariant.indexed m r o room below)
