use Rattle.ds_total_laws.proofs.AbsentFiles.{absent_files_are_unread}
use Rattle.ds_total_laws.proofs.absent.absent_files_are_unread.Goals as goal

pub returns : goal.returns
returns c = absent_files_are_unread
