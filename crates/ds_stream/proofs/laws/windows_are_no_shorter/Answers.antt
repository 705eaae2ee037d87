use Rattle.ds_stream.proofs.FewestBytes.{are_no_shorter}
use Rattle.ds_stream.proofs.laws.windows_are_no_shorter.Goals as goal

pub returns : goal.returns
returns c = are_no_shorter
