use Rattle.ds_stream.proofs.Behind.{fits_again, goes_on_behind}
use Rattle.ds_stream.proofs.laws.windows_go_on.Goals as goal

pub returns-clause-lines : goal.returns-clause-lines
returns-clause-lines c = goes_on_behind

pub returns-clause-fits : goal.returns-clause-fits
returns-clause-fits c = fits_again
