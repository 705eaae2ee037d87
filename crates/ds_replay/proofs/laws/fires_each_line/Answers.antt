use Rattle.ds_replay.proofs.LogLines.{each_line}
use Rattle.ds_replay.proofs.laws.fires_each_line.Goals as goal

pub returns : goal.returns
returns c = each_line
