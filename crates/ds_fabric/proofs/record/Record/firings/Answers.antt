use Rattle.std.proofs.Common.{◌≡◌, ◌∙◌, ◌++◌, ℕ, List, length, take, drop, ap, arith, subst, sym}
use Rattle.ds_rule.specs.Rule.{tickets}
use Rattle.ds_rule.specs.Log.{firings}
use Rattle.ds_fabric.specs.Showing.{Showing, Recorder, IsRecord, IsFiredInOrder}
use Rattle.ds_fabric.specs.declared.histories.Histories.{Histories}
use Rattle.ds_fabric.proofs.Spreads.{spread_is, overwritten}
use Rattle.ds_fabric.proofs.record.Record.firings.Goals as goal

pub returns-clause-ok : goal.returns-clause-ok
returns-clause-ok c = let p : Showing = c.self.inside.shown.value in let q = c.self.invariant in
    let s : Histories = c.self.inside.histories in let d : ℕ = c.self.inside.design_nodes in
    let new : List ℕ = c.spread_all.new.out in
    let out : List ℕ = c.in_ok-out.out.items in
    let many : length out ≡ c.self.inside.many = c.in_ok-out.ensures in
    let wide : length c.as_mut_slice.result.now ≡ c.self.inside.many =
    ap (λ (xs : List ℕ). length xs) c.as_mut_slice.ensures.value ∙ many in
    let long : length new ≡ c.self.inside.many = c.spread_all.ensures.long ∙ wide in
    let same : take c.in_ok-out.out.len (new ++ drop (length new) out) ≡ new =
    overwritten c.in_ok-out.out.len out new (omega (arith, long, many)) in
    let is : new ≡ firings q.recorded.log = spread_is p s d c.self.inside.many q new long
    (c.spread_all.ensures.filled p (subst (λ (x : ℕ). IsRecord p s d x) (sym wide) q)) in
    subst (λ (x : Recorder). IsFiredInOrder x.shown.view.run (tickets x.shown.view)
    (take c.in_ok-out.out.len (new ++ drop (length new) out))) c.self.view_is (record {
      recorded = record {
        log = q.recorded.log;
        long = ap (λ (xs : List ℕ). length xs) same ∙ (long ∙ q.recorded.long);
        legal = q.recorded.legal;
        in_turn = q.recorded.in_turn;
        all = q.recorded.all;
      };
      is = same ∙ is;
    })

pub returns-clause-ok_long : goal.returns-clause-ok_long
returns-clause-ok_long c = let new : List ℕ = c.spread_all.new.out in
    let out : List ℕ = c.in_ok-out.out.items in
    let long : length new ≡ length out = c.spread_all.ensures.long
    ∙ ap (λ (xs : List ℕ). length xs) c.as_mut_slice.ensures.value in
    ap (λ (xs : List ℕ). length xs) (overwritten c.in_ok-out.out.len out new (omega (arith, long)))
    ∙ (long ∙ (c.in_ok-out.ensures ∙ ap (λ (x : Recorder). x.many) c.self.view_is))
