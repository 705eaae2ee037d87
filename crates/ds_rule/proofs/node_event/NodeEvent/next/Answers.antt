use Rattle.std.proofs.Common.{◌<◌, arith}
use Rattle.ds_rule.proofs.EventLaws.{next-low, next-high, opening_event, closing_event, alone_event}
use Rattle.ds_rule.proofs.node_event.NodeEvent.next.Goals as goal

pub returns-then-node-design_nodes : goal.returns-then-node-design_nodes
returns-then-node-design_nodes c run is = alone_event run c.args.node _
    (omega (arith, c.if-node-design_nodes.true))
    (next-high run c.args.node c.args.fired (omega (arith, c.if-node-design_nodes.true)))

pub returns-then-fired-eq0 : goal.returns-then-fired-eq0
returns-then-fired-eq0 c run is =
    let low : c.args.node < run.design_nodes = omega (arith, c.if-node-design_nodes.false) in
    opening_event run c.args.node _ low
    (omega (arith, next-low run c.args.node c.args.fired low, c.if-fired-eq0.true))

pub returns-else-fired-eq0 : goal.returns-else-fired-eq0
returns-else-fired-eq0 c run is =
    let low : c.args.node < run.design_nodes = omega (arith, c.if-node-design_nodes.false) in
    closing_event run c.args.node _ low
    (omega (arith, next-low run c.args.node c.args.fired low, c.if-fired-eq0.false))
