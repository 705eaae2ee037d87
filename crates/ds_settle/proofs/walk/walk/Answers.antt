use Rattle.std.proofs.Common.{◌≡◌, ◌∙◌, ◌<◌, ◌≤◌, ℕ, Bool, false, List, get_or, length, sym, ap, subst, arith}
use Rattle.std.proofs.Math.ListN.{replicate}
use Rattle.std.proofs.lemmas.List.{length-replicate}
use Rattle.ds_design.specs.Accepted.{IsAccepted}
use Rattle.ds_design.specs.Circuit.{Circuit}
use Rattle.ds_design.specs.declared.design.Gate.{Gate}
use Rattle.ds_settle.specs.Cone.{Parts}
use Rattle.ds_settle.specs.Walk.{AreFollowed, AreMet, IsFound}
use Rattle.ds_settle.proofs.ConeReach.{reaches_itself}
use Rattle.ds_settle.proofs.FoundCone.{followed_more, found_more, found_none, marks_kept, reached}
use Rattle.ds_settle.proofs.walk.walk.Goals as goal

pub tables-init : goal.tables-init
tables-init c =
    let design : Circuit = c.args.drivers.now in
    let these : List ℕ = c.args.these.now in
    let begun : IsFound design these c.begin.new.self c.new-found.result =
    subst (λ (ms : List Bool). IsFound design these ms c.new-found.result) (sym c.begin.ensures)
    (subst (λ (p : Parts). IsFound design these (replicate (length c.args.marks.now) false) p) (sym c.new-found.ensures)
    (found_none design these (length c.args.marks.now))) in
    let met : AreMet design these c.begin.new.self c.new-found.result c.meet_all.new.marks c.meet_all.new.found = c.in_ok-meet_all.ensures.ok in
    record {
      same = met.grows.same_length ∙ (ap length c.begin.ensures ∙ (length-replicate (length c.args.marks.now) false ∙ c.requires.marks));
      is_found = met.found these (reaches_itself design these) begun;
      met = met.met;
      followed = λ i d low. absurd (omega arith);
      low = omega arith;
    }

pub tables-preserved : goal.tables-preserved
tables-preserved c =
    let design : Circuit = c.args.drivers.now in
    let these : List ℕ = c.args.these.now in
    let i : ℕ = c.tables.i in
    let found : Parts = c.tables.found in
    let gate : Gate = c.index-tables-table.result in
    let inside : c.tables.i < length c.tables.found.tables = subst (λ (ts : List ℕ). c.tables.i < length ts) c.tables-in-tables.ensures c.tables-test.true in
    let gates : c.tables-tables.result.now ≡ c.args.drivers.now.tables =
    c.tables-tables.ensures.tables ∙ ap (λ (d : Circuit). d.tables) (c.design.ensures.design ∙ c.netlist.ensures) in
    let gate_is : c.index-tables-table.result ≡ get_or c.args.drivers.now.tables (get_or c.tables.found.tables c.tables.i 0) c.index-tables-table.result =
    c.index-tables-table.is
    ∙ (ap (λ (ts : List Gate). get_or ts (get_or c.tables-in-tables-2.result.now i 0) gate) gates
    ∙ ap (λ (ts : List ℕ). get_or c.args.drivers.now.tables (get_or ts i 0) gate) c.tables-in-tables-2.ensures) in
    let met : AreMet design c.index-tables-table.result.table.inputs c.tables.marks c.tables.found c.meet_all-in-tables.new.marks c.meet_all-in-tables.new.found =
    subst (λ (ns : List ℕ). AreMet design ns c.tables.marks c.tables.found c.meet_all-in-tables.new.marks c.meet_all-in-tables.new.found) (c.inputs.ensures ∙ ap (λ (t : Gate). t.table.inputs) (sym c.index-tables-table.is)) c.in_ok-meet_all-2.ensures.ok in
    let h = c.tables.invariant in
    record {
      same = met.grows.same_length ∙ h.same;
      is_found = found_more design these c.tables.marks found h.is_found c.meet_all-in-tables.new.marks c.meet_all-in-tables.new.found i inside gate gate_is met;
      met = marks_kept c.tables.marks found c.meet_all-in-tables.new.marks c.meet_all-in-tables.new.found met.grows these h.met;
      followed = followed_more design these c.tables.marks found h.is_found c.meet_all-in-tables.new.marks c.meet_all-in-tables.new.found i inside gate gate_is met h.followed;
      low = omega (arith, met.grows.longer);
    }

pub returns-clause-ok : goal.returns-clause-ok
returns-clause-ok c =
    let design : Circuit = c.args.drivers.now in
    let accepted : IsAccepted c.args.drivers.now = subst IsAccepted c.netlist.ensures c.design.ensures.accepted in
    let past : length c.tables.found.tables ≤ c.tables.i = subst (λ (ts : List ℕ). length ts ≤ c.tables.i) c.tables-in-tables.ensures c.tables-test.false in
    let h = c.tables.invariant in
    let all : c.tables.i ≡ length c.tables.found.tables = omega (arith, h.low) in
    reached design accepted c.args.these.now c.tables.marks c.tables.found h.is_found h.met
    (subst (AreFollowed design c.tables.marks c.tables.found.tables) all h.followed)
