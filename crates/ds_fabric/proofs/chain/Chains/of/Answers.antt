use Rattle.std.proofs.Common.{◌≡◌, ◌<◌, ◌+◌, ◌++◌, ◌∷◌, [], ◌∙◌, ℕ, List, ap, arith, sym, subst}
use Rattle.std.proofs.Common.{length, get_or}
use Rattle.atomic_table.proofs.Lists.{at_index}
use Rattle.ds_rule.specs.Run.{Run, events}
use Rattle.ds_rule.specs.Sound.{IsSound}
use Rattle.ds_marked.specs.declared.marked.Arc.{Arc}
use Rattle.ds_rule.proofs.EventLaws.{events-is}
use Rattle.ds_rule.proofs.GetElemLemmas.{at_get}
use Rattle.ds_fabric.specs.Chained.{arc_numbered, IsChained}
use Rattle.ds_fabric.proofs.ArcChains.{same-arc, target_near, chained_none, chained_next}
use Rattle.ds_fabric.proofs.chain.Chains.of.Goals as goal

pub loop-i-init : goal.loop-i-init
loop-i-init g c = let run : Run = c.args.run.now in
    let n : ℕ = c.nodes.result + c.design_nodes.result in
    subst (IsChained run 0 c.in_ok-heads.heads.items) (sym c.new-links.ensures.items)
    (chained_none run c.in_ok-heads.heads.items n c.in_ok-heads.ensures
    (omega (arith, c.nodes.ensures, c.design_nodes.ensures, events-is run)))

-- the arc that was read, in the run
near : (run : Run) (sound : IsSound run) (arcs : List Arc) (i : ℕ) (d : Arc) (t : ℕ)
    → arcs ≡ run.arcs → i < length arcs → t ≡ (get_or arcs i d).target
    → (t ≡ (arc_numbered run i).target) × (t < events run)
near run sound arcs i d t is h read = let low : i < length run.arcs =
    omega (arith, ap (λ (xs : List Arc). length xs) is) in
    let e : get_or arcs i d ≡ arc_numbered run i = same-arc run arcs i d is low in
    let same : t ≡ (arc_numbered run i).target = read ∙ ap (λ (x : Arc). x.target) e in
    (same, omega (arith, same, target_near run i sound low))

pub index-requires : goal.index-requires
index-requires g c = let run : Run = c.args.run.now in let i : ℕ = c.loop-i.i in
    let t : ℕ = c.index-target.result in let hs : List ℕ = c.loop-i.heads.items in
    let n = near run c.requires c.arcs-arcs.result.now i c.index-arcs-i.result t c.arcs-arcs.ensures c.loop-i-test.true c.index-target.ensures in
    omega (arith, n.1, c.loop-i.invariant.heads_long)

pub index_mut-requires : goal.index_mut-requires
index_mut-requires g c = let run : Run = c.args.run.now in let i : ℕ = c.loop-i.i in
    let t : ℕ = c.index-target.result in let hs : List ℕ = c.loop-i.heads.items in
    let n = near run c.requires c.arcs-arcs.result.now i c.index-arcs-i.result t c.arcs-arcs.ensures c.loop-i-test.true c.index-target.ensures in
    omega (arith, n.1, c.loop-i.invariant.heads_long)

pub loop-i-preserved : goal.loop-i-preserved
loop-i-preserved g c = let run : Run = c.args.run.now in let i : ℕ = c.loop-i.i in
    let t : ℕ = c.index-target.result in let hs : List ℕ = c.loop-i.heads.items in
    let n = near run c.requires c.arcs-arcs.result.now i c.index-arcs-i.result t c.arcs-arcs.ensures c.loop-i-test.true c.index-target.ensures in
    let was : c.index.result.now ≡ get_or hs t 0 =
    sym (at_get hs t c.index.result.now 0 (at_index hs t c.index.result.now
    (omega (arith, n.1, c.loop-i.invariant.heads_long)) c.index.ensures)) in
    chained_next run i t hs c.loop-i.links.items c.push.new.self.items n.0 n.1 c.loop-i.invariant
    (c.in_ok-push.ensures.items ∙ ap (λ (x : ℕ). c.loop-i.links.items ++ x ∷ []) was)

pub bounds-arcs-i : goal.bounds-arcs-i
bounds-arcs-i g c = omega (arith, c.loop-i-test.true)

pub returns : goal.returns
returns g c = let run : Run = c.args.run.now in
    subst (λ (n : ℕ). IsChained run n c.loop-i.heads.items c.loop-i.links.items)
    (omega (
      arith,
      c.loop-i-test.false,
      c.loop-i.auto.i-end,
      ap (λ (xs : List Arc). length xs) c.arcs-arcs.ensures,
    ))
    c.loop-i.invariant
