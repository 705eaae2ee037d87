use Rattle.std.proofs.Common.{◌≡◌, ◌∙◌, ◌<◌, ℕ, List, length, sym, subst, ap}
use Rattle.std.specs.Prelude.{All}
use Rattle.ds_cover.specs.Bank.{after_tables}
use Rattle.ds_settle.specs.Cone.{IsPartSettled}
use Rattle.ds_settle.proofs.PartSteps.{bank_within, part_is, places_within}
use Rattle.ds_settle.proofs.part.settle_part.Goals as goal

pub set_all-requires-clause-places : goal.set_all-requires-clause-places
set_all-requires-clause-places c =
    subst (λ (ts : List ℕ). All (λ k. k < length c.bank.result.now) ts) (sym c.tables.ensures)
    (places_within c.args.netlist.now c.design-design.ensures.in_range c.design-design.ensures.accepted c.args.cone.now.tables c.requires.cone c.args.nets.now c.bank.result.now c.bank.ensures)

pub set_all-requires-clause-within : goal.set_all-requires-clause-within
set_all-requires-clause-within c =
    bank_within c.args.netlist.now c.design-design.ensures.in_range c.design-design.ensures.accepted c.args.cone.now.tables c.requires.cone c.args.nets.now c.bank.result.now c.bank.ensures c.requires.nets

pub returns : goal.returns
returns c =
    let set_is : c.set_all.new.nets ≡ after_tables c.bank.result.now c.args.nets.now c.args.cone.now.tables =
    c.set_all.ensures ∙ ap (λ (ts : List ℕ). after_tables c.bank.result.now c.args.nets.now ts) c.tables.ensures in
    subst (IsPartSettled c.args.netlist.now c.args.cone.now c.args.nets.now) (sym set_is)
    (part_is c.args.netlist.now c.design-design.ensures.in_range c.design-design.ensures.accepted c.args.cone.now.tables c.requires.cone c.args.nets.now c.bank.result.now c.bank.ensures c.args.cone.now.sources c.requires.nets)
