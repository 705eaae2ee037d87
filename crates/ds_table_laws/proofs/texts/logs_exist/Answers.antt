use Rattle.ds_table_laws.proofs.LogsExist.{logs_exist}
use Rattle.ds_table_laws.proofs.texts.logs_exist.Goals as goal

pub returns : goal.returns
returns c = logs_exist
