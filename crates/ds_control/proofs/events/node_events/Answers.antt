use Rattle.std.proofs.Common.{◌∙◌, ◌++◌, List, ℕ, ap}
use Rattle.ds_marked.specs.declared.marked.Event.{Event}
use Rattle.ds_latch.specs.declared.node.Node.TheVariants.{In, Out, Master, Slave}
use Rattle.ds_latch.specs.Plan.{node_events}
use Rattle.ds_control.proofs.NodeOrders.{cluster_pushed}
use Rattle.ds_control.proofs.events.node_events.Goals as goal

pub loop-i-preserved : goal.loop-i-preserved
loop-i-preserved c =
    let i : ℕ = c.loop-i.i in
    c.in_ok-push_cluster.ensures
    ∙ (ap (λ (xs : List Event). xs ++ (node_events (Master i) ++ node_events (Slave i))) c.loop-i.invariant
    ∙ cluster_pushed (node_events In ++ node_events Out) i)
