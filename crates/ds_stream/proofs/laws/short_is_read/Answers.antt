use Rattle.ds_stream.proofs.Short.{is_read_whole, of_the_limit, short_is_read}
use Rattle.ds_stream.proofs.laws.short_is_read.Goals as goal

pub returns-clause-short : goal.returns-clause-short
returns-clause-short c = short_is_read

pub returns-clause-limit : goal.returns-clause-limit
returns-clause-limit c = of_the_limit

pub returns-clause-whole : goal.returns-clause-whole
returns-clause-whole c = is_read_whole
