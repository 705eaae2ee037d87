use Rattle.std.proofs.Common.{◌≡◌, ◌∙◌, ℕ, List, sym, true, subst}
use mathlib.Core.Option.{some}
use lib.ListN.{get_elem?}
use Rattle.ds_rule.specs.Rule.{holds}
use Rattle.ds_rule.specs.Plays.{Sat}
use Rattle.ds_fabric.specs.Indexed.{IsHistoryAt}
use Rattle.ds_fabric.specs.Showing.{Showing, Keeps}
use Rattle.ds_fabric.specs.declared.histories.Histories.{Histories}
use Rattle.ds_fabric.specs.declared.history.History.{History}
use Rattle.ds_fabric.proofs.Finds.{stands_same}
use Rattle.ds_fabric.proofs.pass.Pass.holds.Goals as goal

-- a node whose history is there is held
held : (me : Sat) (s : Histories) (zs : List History) (l node : ℕ) → Keeps me s
    → zs ≡ s.nodes.items → l ≡ node → (i : ℕ) × IsHistoryAt zs i l → holds me.0 node ≡ true
held me s zs l node k e n f =
    let t = k.listed f.0 f.1.0
    (subst (λ (xs : List History). get_elem? xs f.0 ≡ some f.1.0) e f.1.1) in
    subst (λ (x : ℕ). holds me.0 x ≡ true) (f.1.2 ∙ n) t.has

pub returns : goal.returns
returns c = let (to, from) = c.has.ensures in let me : Sat = c.self.inside.seat.me in
    let s : Histories = c.self.inside.histories in (
      (λ t. subst (λ (x : Showing). holds x.view c.args.node ≡ true) c.self.view_is
          (held me s c.as_slice-nodes.result.now c.index.result c.args.node
          c.self.invariant.keeps c.as_slice-nodes.ensures.value c.index.ensures (to t))),
      (λ h. from
          (stands_same s.nodes.items c.as_slice-nodes.result.now c.index.result c.args.node
          c.as_slice-nodes.ensures.value c.index.ensures
          (c.self.invariant.keeps.found c.args.node
          (subst (λ (x : Showing). holds x.view c.args.node ≡ true) (sym c.self.view_is) h)))),
    )
