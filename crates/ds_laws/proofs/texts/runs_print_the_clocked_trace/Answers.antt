use Rattle.ds_laws.proofs.OneText.{runs_print_the_clocked_trace}
use Rattle.ds_laws.proofs.texts.runs_print_the_clocked_trace.Goals as goal

pub returns : goal.returns
returns c = runs_print_the_clocked_trace
