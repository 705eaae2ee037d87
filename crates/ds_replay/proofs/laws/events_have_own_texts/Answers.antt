use Rattle.ds_replay.proofs.LogLines.{own_texts}
use Rattle.ds_replay.proofs.laws.events_have_own_texts.Goals as goal

pub returns : goal.returns
returns c = own_texts
