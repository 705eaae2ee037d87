use Rattle.ds_table_laws.proofs.StoppedTextsExist.{stopped_texts_exist}
use Rattle.ds_table_laws.proofs.texts.stopped_texts_exist.Goals as goal

pub returns : goal.returns
returns c = stopped_texts_exist
