use Rattle.std.proofs.Common.{◌/◌, ◌-◌, arith}
use Rattle.ds_rule.proofs.EventLaws.{opening_event, closing_event, alone_event}
use Rattle.ds_rule.proofs.node_event.NodeEvent.of.Goals as goal

pub returns-then-half-design_nodes : goal.returns-then-half-design_nodes
returns-then-half-design_nodes c run is =
    alone_event run (c.args.number - c.args.design_nodes) c.args.number
    (omega (arith, c.if-half-design_nodes.true)) (omega (arith, c.if-half-design_nodes.true))

pub returns-then-number-eq0 : goal.returns-then-number-eq0
returns-then-number-eq0 c run is = opening_event run (c.args.number / 2) c.args.number
    (omega (arith, c.if-half-design_nodes.false)) (omega (arith, c.if-number-eq0.true))

pub returns-else-number-eq0 : goal.returns-else-number-eq0
returns-else-number-eq0 c run is = closing_event run (c.args.number / 2) c.args.number
    (omega (arith, c.if-half-design_nodes.false)) (omega (arith, c.if-number-eq0.false))
