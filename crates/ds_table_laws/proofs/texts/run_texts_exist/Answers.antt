use Rattle.ds_table_laws.proofs.RunTextsExist.{run_texts_exist}
use Rattle.ds_table_laws.proofs.texts.run_texts_exist.Goals as goal

pub returns : goal.returns
returns c = run_texts_exist
