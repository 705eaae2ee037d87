use Rattle.ds_stream.proofs.StreamLines.{are_lines}
use Rattle.ds_stream.proofs.laws.are_the_lines.Goals as goal

pub returns : goal.returns
returns c = are_lines
