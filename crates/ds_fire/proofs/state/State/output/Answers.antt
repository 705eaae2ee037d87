use Rattle.std.proofs.Common.{◌∙◌, length, ap, sym}
use Rattle.ds_fire.specs.Snapshot.{split_of}
use Rattle.ds_latch.proofs.EventNodes.{node_at}
use Rattle.ds_fire.proofs.OpenNodesHold.{held_is_shown, held_wide, made_is_held}
use Rattle.ds_fire.proofs.state.State.output.Goals as goal

pub copy_from-requires : goal.copy_from-requires
copy_from-requires c =
    let (n, is_node, e) = node_at (split_of c.args.self.now) c.args.latch c.requires.node in
    c.requires.width n is_node e
    ∙ (sym (held_wide c.args.self.now c.reached.ensures.sound n is_node) ∙ ap length (sym (c.held.ensures.value n is_node e)))

pub returns-then-is_open-clause-value : goal.returns-then-is_open-clause-value
returns-then-is_open-clause-value c n is_node e =
    made_is_held c.args.self.now c.reached.ensures.sound c.reached.ensures.reached c.requires.slack n is_node (sym (c.is_open.ensures.value n is_node e) ∙ c.if-is_open.true) c.make.new.into (c.make.ensures.takes n is_node e)

pub returns-then-is_open-clause-shown : goal.returns-then-is_open-clause-shown
returns-then-is_open-clause-shown c n is_node e now shows shown showing =
    made_is_held c.args.self.now c.reached.ensures.sound c.reached.ensures.reached c.requires.slack n is_node (sym (c.is_open.ensures.value n is_node e) ∙ c.if-is_open.true) c.make.new.into (c.make.ensures.takes n is_node e)
    ∙ sym ((held_is_shown c.args.self.now c.reached.ensures.sound c.reached.ensures.reached c.requires.slack now shows).1 shown showing n is_node)

pub returns-else-is_open-clause-shown : goal.returns-else-is_open-clause-shown
returns-else-is_open-clause-shown c n is_node e now shows shown showing =
    c.copy_from.ensures
    ∙ (c.held.ensures.value n is_node e
    ∙ sym ((held_is_shown c.args.self.now c.reached.ensures.sound c.reached.ensures.reached c.requires.slack now shows).1 shown showing n is_node))
