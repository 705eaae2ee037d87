use Rattle.ds_table_laws.proofs.SomeTrace.{traces_exist}
use Rattle.ds_table_laws.proofs.traces.traces_exist.Goals as goal

pub returns : goal.returns
returns c = traces_exist
