use Rattle.ds_text_laws.proofs.ReadKept.{read_kept}
use Rattle.ds_text_laws.proofs.astg.read_graphs_are_kept.Goals as goal

pub returns : goal.returns
returns c = read_kept
