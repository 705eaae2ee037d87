use Rattle.std.proofs.Common.{◌∙◌, ℕ, List, ◌++◌, map, ap, sym, arith}
use Rattle.std.specs.List.{flat_map}
use Rattle.std.proofs.lemmas.List.{append-nil, take_all}
use Rattle.ds_design.specs.Circuit.{data_nets}
use Rattle.ds_design.specs.declared.design.Gate.{Gate}
use Rattle.ds_design.specs.declared.design.Register.{Register}
use Rattle.ds_netlist.proofs.ListedNets.{listed_more, flat_more}
use Rattle.ds_netlist.proofs.lists.used_nets.Goals as goal

-- the inputs of tables
abbrev inputs : List Gate → List ℕ
inputs tables = flat_map (λ t. t.table.inputs) tables

pub loop-table-init : goal.loop-table-init
loop-table-init c = c.new-nets.ensures.items

pub loop-table-preserved : goal.loop-table-preserved
loop-table-preserved c = flat_more (λ (t : Gate). t.table.inputs) c.tables-table-items.result.now
    c.loop-table.table-index c.table-item.result c.loop-table.nets.items
    c.extend_from_slice.new.self.items c.loop-table-test.true c.table-item.is
    c.loop-table.invariant (c.in_ok-extend_from_slice.ensures.items
    ∙ ap (λ (ns : List ℕ). c.loop-table.nets.items ++ ns) c.inputs.ensures)

pub loop-register-init : goal.loop-register-init
loop-register-init c = c.loop-table.invariant ∙ (ap inputs
    (take_all c.loop-table.table-index c.tables-table-items.result.now
    (omega (arith, c.loop-table-test.false)) ∙ c.tables-table-items.ensures.tables)
    ∙ sym (append-nil (inputs c.args.design.now.tables)))

pub loop-register-preserved : goal.loop-register-preserved
loop-register-preserved c = listed_more (λ (r : Register). r.data_net)
    (inputs c.args.design.now.tables) c.registers-register-items.result.now
    c.loop-register.register-index c.register-item.result c.loop-register.nets.items
    c.push.new.self.items c.loop-register-test.true c.register-item.is c.loop-register.invariant
    c.in_ok-push.ensures.items

pub returns : goal.returns
returns c = record {
  ok = c.in_ok-extend_from_slice-2.ensures.items
      ∙ (ap (λ (ns : List ℕ). ns ++ c.outputs.result.now) (c.loop-register.invariant
      ∙ ap (λ (rs : List Register). inputs c.args.design.now.tables ++ map (λ r. r.data_net) rs)
      (take_all c.loop-register.register-index c.registers-register-items.result.now
      (omega (arith, c.loop-register-test.false)) ∙ c.registers-register-items.ensures.registers))
      ∙ ap (λ (ns : List ℕ). inputs c.args.design.now.tables ++ data_nets c.args.design.now ++ ns)
      c.outputs.ensures.outputs);
}
