use Rattle.std.proofs.Common.{◌≡◌, ◌<◌, ◌∙◌, [], ap, sym, subst, true, length}
use Rattle.ds_rule.specs.Run.{Run}
use Rattle.ds_rule.specs.Sound.{IsSound}
use Rattle.ds_rule.specs.Log.{Recorded}
use Rattle.ds_rule.specs.Rule.{holds, tickets}
use Rattle.ds_rule.specs.Plays.{Sat}
use Rattle.ds_rule.specs.declared.view.View.{View}
use Rattle.ds_fabric.specs.Base.{Base}
use Rattle.ds_fabric.specs.Indexed.{IsIndexed}
use Rattle.ds_fabric.specs.Showing.{Showing, Keeps}
use Rattle.ds_fabric.proofs.fabric.Fabric.finish.Goals as goal

pub invariant_of-result : goal.invariant_of-result
invariant_of-result g c = let (built, _, _) = c.self.invariant in
    let me : Sat = c.pass.inside.seat.me in let p : Showing = c.of-shown.result.value in
    let view : me.0 ≡ p.view = ap (λ (x : Showing). x.view) (c.pass.view_is
    ∙ sym c.of-shown.ensures) in
    let slots : me ≡ (p.view, []) = ap (λ s. (me.0, s)) c.pass.invariant.keeps.no_slot
    ∙ ap (λ (v : View). (v, [])) view in
    let run : c.self.inside.run.now ≡ p.view.run =
    ap (λ (x : Base). x.run) c.self.view_is ∙ (sym c.requires.fits.run
    ∙ ap (λ (x : Showing). x.view.run) (sym c.of-shown.ensures)) in record {
      keeps = subst (λ (m : Sat). Keeps m c.pass.inside.histories) slots c.pass.invariant.keeps;
      indexed = subst (λ (x : Showing). IsIndexed x.view.run.nodes x.room
          (length c.pass.inside.histories.nodes.items) c.pass.inside.histories.nodes.items
          c.pass.inside.histories.places.items)
          (c.pass.view_is ∙ sym c.of-shown.ensures) c.pass.invariant.indexed;
      all = λ l h. subst (λ (x : Showing). holds x.view l ≡ true) (sym c.of-shown.ensures)
          (c.requires.all l (subst (λ (r : Run). l < r.nodes) (sym run
          ∙ ap (λ (x : Base). x.run) c.self.view_is) h));
      sound = subst IsSound run built.over.sound;
      design_nodes_is = c.design_nodes.ensures ∙ ap (λ (r : Run). r.design_nodes) run;
      recorded = subst (λ (v : View). Recorded p.view.run (tickets v) c.close_table-many.result) view
          (subst (λ (r : Run). Recorded r
          (tickets me.0) c.close_table-many.result) run c.close_table-many.ensures);
    }
