use Rattle.ds_table_laws.proofs.StateTextsExist.{state_texts_exist}
use Rattle.ds_table_laws.proofs.texts.state_texts_exist.Goals as goal

pub returns : goal.returns
returns c = state_texts_exist
