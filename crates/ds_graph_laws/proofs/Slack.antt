-- Data edges do not depend on the slack.
use Rattle.std.proofs.Common.{◌↔◌, ℕ}
use Rattle.ds_latch.specs.Node.{Split, IsNode, slackened}
use Rattle.ds_latch.specs.declared.node.Node.{Node}
use Rattle.ds_latch.specs.declared.node.Node.TheVariants.{In, Out, Master, Slave}
use Rattle.ds_latch.specs.Order.{IsDataEdge, to_master, to_out, to_slave, IsSource, Supplies}
use Rattle.ds_latch.specs.Plan.{IsSplit}
use Rattle.ds_split.specs.Split.{HasTooManyOrders}

module _ (s : Split) (slack : ℕ) where
  node_slackened : (p : Node) → IsNode s p → IsNode (slackened s slack) p
  node_slackened In is = is
  node_slackened Out is = is
  node_slackened (Master i) is = is
  node_slackened (Slave i) is = is

  supplies_slackened : (p c : Node) → IsSource p → Supplies s p c → Supplies (slackened s slack) p c
  supplies_slackened In In source is = is
  supplies_slackened In Out source is = is
  supplies_slackened In (Master i) source is = is
  supplies_slackened In (Slave i) source is = is
  supplies_slackened (Slave j) In source is = is
  supplies_slackened (Slave j) Out source is = is
  supplies_slackened (Slave j) (Master i) source is = is
  supplies_slackened (Slave j) (Slave i) source is = is
  supplies_slackened Out c source is = absurd source
  supplies_slackened (Master j) c source is = absurd source

  edge_slackened : (p c : Node) → IsDataEdge s p c → IsDataEdge (slackened s slack) p c
  edge_slackened p _ (to_master {i = i} source node inside supplies) = to_master source (node_slackened p node) inside (supplies_slackened p (Master i) source supplies)
  edge_slackened p _ (to_out source node supplies) = to_out source (node_slackened p node) (supplies_slackened p Out source supplies)
  edge_slackened _ _ (to_slave inside) = to_slave inside

-- a data edge is one at every slack
pub edge_at_slack : (s : Split) (slack : ℕ) (p c : Node) → IsDataEdge s p c ↔ IsDataEdge (slackened s slack) p c
edge_at_slack s slack p c = (edge_slackened s slack p c, edge_slackened (slackened s slack) s.slack p c)

-- there are too many orders at one slack where there are at another
pub too_many_at_slack : (s : Split) (slack : ℕ) → HasTooManyOrders s → HasTooManyOrders (slackened s slack)
too_many_at_slack s slack many = record {
  edges = many.edges;
  data_edges = λ e is. let (p, c, edge, same) = many.data_edges e is in (p, c, (edge_at_slack s slack p c).0 edge, same);
  once = many.once;
  many = many.many;
}

-- few orders stay few
pub few_at_slack : (s : Split) (slack : ℕ) → ¬ HasTooManyOrders s → ¬ HasTooManyOrders (slackened s slack)
few_at_slack s slack few many = few (too_many_at_slack (slackened s slack) s.slack many)

-- slack leaves a split design split
pub split_at_slack : (s : Split) (slack : ℕ) → IsSplit s → IsSplit (slackened s slack)
split_at_slack s slack is = record {
  accepted = is.accepted;
  covered = is.covered;
  within = is.within;
  once = is.once;
  one_value_each = is.one_value_each;
}
