use Rattle.std.proofs.Common.{◌≡◌, ◌∙◌, ◌+◌, ◌-◌, ◌<◌, ◌≤◌, ℕ, List, length, get_or, ap, arith, subst}
use Rattle.ds_design.specs.Circuit.{Circuit}
use Rattle.ds_design.specs.declared.design.Gate.{Gate}
use Rattle.ds_design.proofs.PackedTables.{within_at}
use Rattle.ds_cover.specs.Bank.{AreNetsWithin, driven_at}
use Rattle.ds_base.specs.declared.value.Value.{Value}
use Rattle.ds_design.specs.declared.design.Register.{Register}
use Rattle.ds_slices.specs.Linked.{SetsLink}
use Rattle.ds_slices.specs.Turns.{IsShifted}
use Rattle.ds_slices.proofs.LinkedWords.{a_gate, register_set, table_set}
use Rattle.ds_slices.proofs.links.set_link.Goals as goal

pub set_table-requires-clause-within : goal.set_table-requires-clause-within
set_table-requires-clause-within c =
    let circuit : Circuit = c.args.netlist.now in
    let sizes : length c.tables-tables.result.now ≡ length c.args.netlist.now.tables =
    ap (λ (ts : List Gate). length ts) (c.tables-tables.ensures.tables ∙ ap (λ (d : Circuit). d.tables) c.design-design.ensures.design) in
    let inside : c.args.link < length c.args.netlist.now.tables = (let t = c.if-link-tables.true in omega arith) in
    let nets : AreNetsWithin (driven_at c.bank.result.now c.args.link) c.args.nets.now =
    within_at circuit c.bank.result.now c.design-design.ensures.in_range c.bank.ensures c.args.nets.now c.requires.nets c.args.link a_gate inside in
    λ k d low. (let net = nets.inputs k d low in let one = c.requires.nets in let two = c.requires.words in omega arith)

pub set_table-requires-clause-output : goal.set_table-requires-clause-output
set_table-requires-clause-output c =
    let circuit : Circuit = c.args.netlist.now in
    let sizes : length c.tables-tables.result.now ≡ length c.args.netlist.now.tables =
    ap (λ (ts : List Gate). length ts) (c.tables-tables.ensures.tables ∙ ap (λ (d : Circuit). d.tables) c.design-design.ensures.design) in
    let inside : c.args.link < length c.args.netlist.now.tables = (let t = c.if-link-tables.true in omega arith) in
    let nets : AreNetsWithin (driven_at c.bank.result.now c.args.link) c.args.nets.now =
    within_at circuit c.bank.result.now c.design-design.ensures.in_range c.bank.ensures c.args.nets.now c.requires.nets c.args.link a_gate inside in
    (let net = nets.output in let one = c.requires.nets in let two = c.requires.words in omega arith)

pub returns-then-link-tables-clause-set : goal.returns-then-link-tables-clause-set
returns-then-link-tables-clause-set c =
    let sizes : length c.tables-tables.result.now ≡ length c.args.netlist.now.tables =
    ap (λ (ts : List Gate). length ts) (c.tables-tables.ensures.tables ∙ ap (λ (d : Circuit). d.tables) c.design-design.ensures.design) in
    let inside : c.args.link < length c.args.netlist.now.tables = (let t = c.if-link-tables.true in omega arith) in
    let (word, is, packed) = c.set_table.ensures.set in
    table_set c.args.netlist.now c.args.start.now c.bank.result.now c.bank.ensures c.args.words.now c.set_table.new.words c.args.link word inside is packed

pub returns-else-link-tables-clause-set : goal.returns-else-link-tables-clause-set
returns-else-link-tables-clause-set c =
    let circuit : Circuit = c.args.netlist.now in
    let i : ℕ = c.args.link - length c.tables-tables.result.now in
    let r : Register = c.index-registers-register.result in
    let sizes : length c.tables-tables.result.now ≡ length c.args.netlist.now.tables =
    ap (λ (ts : List Gate). length ts) (c.tables-tables.ensures.tables ∙ ap (λ (d : Circuit). d.tables) c.design-design.ensures.design) in
    let place = c.requires.place in
    let past : length c.tables-tables.result.now ≤ c.args.link = c.if-link-tables.false in
    let at : length c.args.netlist.now.tables + (c.args.link - length c.tables-tables.result.now) ≡ c.args.link = omega arith in
    let inside : c.args.link - length c.tables-tables.result.now < length c.args.netlist.now.registers = omega arith in
    let registers : c.registers.result.now ≡ circuit.registers = c.registers.ensures.registers ∙ ap (λ (d : Circuit). d.registers) c.design-design.ensures.design in
    let own : r ≡ get_or circuit.registers i r = c.index-registers-register.is ∙ ap (λ (rs : List Register). get_or rs i r) registers in
    let (word, is, shifted) = c.set_register.ensures.set in
    subst (λ (k : ℕ). SetsLink circuit c.args.start.now k c.args.words.now c.set_register.new.words) at
    (register_set circuit c.args.start.now c.args.words.now c.set_register.new.words i word r inside own is
    (subst (λ (v : Value). IsShifted v (get_or c.args.words.now r.data_net 0) word) c.value.ensures shifted))
