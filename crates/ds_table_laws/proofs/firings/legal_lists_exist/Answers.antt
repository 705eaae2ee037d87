use Rattle.ds_table_laws.proofs.LegalListsExist.{legal_lists_exist}
use Rattle.ds_table_laws.proofs.firings.legal_lists_exist.Goals as goal

pub returns : goal.returns
returns c = legal_lists_exist
