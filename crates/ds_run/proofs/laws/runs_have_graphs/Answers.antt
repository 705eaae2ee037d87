use Rattle.ds_run.proofs.RunsAreSound.{runs_have_graphs_lem}
use Rattle.ds_run.proofs.laws.runs_have_graphs.Goals as goal

pub returns : goal.returns
returns c = runs_have_graphs_lem
