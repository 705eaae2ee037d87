use Rattle.ds_replay.proofs.EventWords.{nodes_have_own_words}
use Rattle.ds_replay.proofs.laws.nodes_have_own_words.Goals as goal

pub returns : goal.returns
returns c = nodes_have_own_words
