use Rattle.ds_shake.proofs.MadeExpansion.{made_arcs}
use Rattle.ds_shake.proofs.arcs.arcs_of.Goals as goal

pub returns : goal.returns
returns c =
    made_arcs c.args.latches.now c.args.all.now c.new-arcs.result.items c.push_node_arcs.new.arcs.items c.push_handshakes.new.arcs.items c.nodes.result c.slack.result
    c.new-arcs.ensures.items c.nodes.ensures.nodes c.slack.ensures.slack c.in_ok-push_node_arcs.ensures.ok c.in_ok-push_handshakes.ensures
