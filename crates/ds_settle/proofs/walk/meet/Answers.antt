use Rattle.std.proofs.Common.{◌≡◌, ◌∙◌, Bool, true, false, List, [], ◌∷◌, get_or, sym, subst}
use Rattle.std.proofs.Math.ListN.{set}
use Rattle.ds_settle.specs.Cone.{Parts}
use Rattle.ds_settle.specs.Walk.{AreMet}
use Rattle.ds_settle.proofs.Meeting.{met_new}
use Rattle.ds_settle.proofs.walk.meet.Goals as goal

pub returns-clause-ok : goal.returns-clause-ok
returns-clause-ok c =
    let free : get_or c.args.marks.now c.args.net false ≡ false = sym c.is_marked.ensures ∙ c.if-is_marked.false in
    subst (λ (ms : List Bool). AreMet c.args.drivers.now (c.args.net ∷ []) c.args.marks.now c.args.found.now ms c.take_driver.new.found) (sym c.mark.ensures)
    (subst (λ (p : Parts). AreMet c.args.drivers.now (c.args.net ∷ []) c.args.marks.now c.args.found.now (set c.args.marks.now c.args.net true) p) (sym c.in_ok-take_driver.ensures)
    (met_new c.args.drivers.now c.args.marks.now c.args.found.now c.args.net c.requires.within c.requires.marks free c.driver.result c.driver.ensures))
