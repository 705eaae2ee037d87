use Rattle.std.proofs.Common.{◌≡◌, ◌∙◌, ℕ, List, [], ◌∷◌, get_or, take, sym, subst}
use Rattle.std.proofs.lemmas.List.{get_or_default, take_more}
use Rattle.ds_settle.specs.Walk.{AreMet}
use Rattle.ds_settle.proofs.Meeting.{met_more}
use Rattle.ds_settle.proofs.walk.meet_all.Goals as goal

pub loop-net-preserved : goal.loop-net-preserved
loop-net-preserved c =
    let i : ℕ = c.loop-net.net-index in
    let these : List ℕ = c.args.these.now in
    let net : c.net-item.result ≡ get_or c.args.these.now c.loop-net.net-index 0 = c.net-item.is ∙ get_or_default these i c.net-item.result 0 c.loop-net-test.true in
    let one : AreMet c.args.drivers.now (get_or these i 0 ∷ []) c.loop-net.marks c.loop-net.found c.meet.new.marks c.meet.new.found =
    subst (λ (n : ℕ). AreMet c.args.drivers.now (n ∷ []) c.loop-net.marks c.loop-net.found c.meet.new.marks c.meet.new.found) net c.in_ok-meet.ensures.ok in
    record {
      same = c.meet.ensures.same ∙ c.loop-net.invariant.same;
      met = subst (λ (ns : List ℕ). AreMet c.args.drivers.now ns c.args.marks.now c.args.found.now c.meet.new.marks c.meet.new.found) (sym (take_more these i 0 c.loop-net-test.true))
          (met_more c.args.drivers.now (take i these) (get_or these i 0 ∷ []) c.args.marks.now c.args.found.now c.loop-net.marks c.loop-net.found c.meet.new.marks c.meet.new.found c.loop-net.invariant.met one);
    }
