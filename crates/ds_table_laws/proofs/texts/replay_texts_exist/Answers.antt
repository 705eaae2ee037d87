use Rattle.ds_table_laws.proofs.ReplayTextsExist.{replay_texts_exist}
use Rattle.ds_table_laws.proofs.texts.replay_texts_exist.Goals as goal

pub returns : goal.returns
returns c = replay_texts_exist
