use Rattle.std.proofs.Common.{◌≡◌, ◌∙◌, length, ap, sym, arith}
use Rattle.ds_latch.specs.Node.{number_of}
use Rattle.ds_latch.specs.declared.node.Node.TheVariants.{Master}
use Rattle.ds_fire.specs.Snapshot.{held_row}
use Rattle.ds_fire.proofs.OpenNodesHold.{master_wide}
use Rattle.ds_fire.proofs.state.State.copy_master.Goals as goal

pub copy_from-requires : goal.copy_from-requires
copy_from-requires c =
    let (i, is_node, is, wide) = c.requires.slave in
    let at : number_of (Master i) ≡ c.new-master.result = omega (arith, c.new-master.ensures, c.number.ensures) in
    let held : c.held.result.now ≡ held_row c.args.self.now (Master i) = c.held.ensures.value (Master i) is_node at in
    wide ∙ (sym (master_wide c.args.self.now c.reached.ensures.sound i is_node) ∙ ap length (sym held))

pub returns : goal.returns
returns c i is_node is =
    let at : number_of (Master i) ≡ c.new-master.result = omega (arith, c.new-master.ensures, c.number.ensures) in
    c.copy_from.ensures ∙ c.held.ensures.value (Master i) is_node at
