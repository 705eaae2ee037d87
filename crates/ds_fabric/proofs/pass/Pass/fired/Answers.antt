use Rattle.std.proofs.Common.{◌≡◌, ◌∙◌, ℕ, List, get_or, ap, sym, true, arith, subst, refl}
use Rattle.ds_rule.specs.Rule.{seen, holds}
use Rattle.ds_rule.specs.Plays.{Sat}
use Rattle.ds_fabric.specs.Showing.{Showing, IsCounted}
use Rattle.ds_fabric.specs.declared.histories.Histories.{Histories}
use Rattle.ds_fabric.specs.declared.history.History.{History}
use Rattle.ds_fabric.proofs.PassMemory.{reads}
use Rattle.ds_fabric.proofs.Finds.{indexed_same, stands_same, at_node, stands_below}
use Rattle.ds_fabric.proofs.pass.Pass.fired.Goals as goal

pub find-at-requires-clause-indexed : goal.find-at-requires-clause-indexed
find-at-requires-clause-indexed c = let s : Histories = c.self.inside.histories in (
  c.self.inside.seat.me.0.run.nodes,
  c.self.inside.room,
  indexed_same c.self.inside.seat.me.0.run.nodes c.self.inside.room s.nodes.items
      c.as_slice-nodes.result.now s.places.items c.as_slice.result.now
      c.as_slice-nodes.ensures.value c.as_slice.ensures.value c.self.invariant.indexed,
)

pub find-at-requires-clause-there : goal.find-at-requires-clause-there
find-at-requires-clause-there c =
    stands_same c.self.inside.histories.nodes.items c.as_slice-nodes.result.now
    c.index-number.result c.args.node c.as_slice-nodes.ensures.value c.index-number.ensures
    (c.self.invariant.keeps.found c.args.node
    (subst (λ (x : Showing). holds x.view c.args.node ≡ true) (sym c.self.view_is) c.requires))

pub bounds-nodes-at : goal.bounds-nodes-at
bounds-nodes-at c = stands_below c.as_slice-nodes.result.now c.as_slice-nodes.result.now
    c.find-at.result c.index-number.result refl c.find-at.ensures

pub bounds-nodes-at-2 : goal.bounds-nodes-at-2
bounds-nodes-at-2 c = bounds-nodes-at c

pub offset_bounds-nodes-at : goal.offset_bounds-nodes-at
offset_bounds-nodes-at c = omega (arith, bounds-nodes-at c, c.as_slice-nodes.type_inv)

pub returns-clause-counted : goal.returns-clause-counted
returns-clause-counted c = subst (λ (x : Showing). IsCounted x.view) c.self.view_is
    c.self.invariant.keeps.counts

pub returns-clause-value : goal.returns-clause-value
returns-clause-value c = let me : Sat = c.self.inside.seat.me in
    let zs : List History = c.as_slice-nodes.result.now in let at : ℕ = c.find-at.result in
    let h : History = c.index-nodes-at.result in
    let f = reads me c.self.inside.histories zs at c.args.node h c.as_slice-nodes.ensures.value
    c.self.invariant.keeps
    (at_node zs at c.index-number.result c.args.node c.index-number.ensures c.find-at.ensures)
    (c.index-nodes-at.is
    ∙ ap (λ (xs : List History). get_or xs at h) c.as_slice-nodes.ensures.value) in
    ap (λ (x : History). x.fired) (sym c.index-nodes-at.is) ∙ (f.tells.fired
    ∙ (ap (seen me.0) f.node_is ∙ ap (λ (x : Showing). seen x.view c.args.node) c.self.view_is))
