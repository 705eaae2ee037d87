use Rattle.ds_graph_laws.proofs.PlansExist.{acceptable_graphs_have_plans}
use Rattle.ds_graph_laws.proofs.plans.acceptable_graphs_have_plans.Goals as goal

pub returns : goal.returns
returns c = acceptable_graphs_have_plans
