use Rattle.ds_stream.specs.Stream.{beginning}
use Rattle.ds_stream.proofs.WindowLaws.{windows_are_one, windows_are_stream}
use Rattle.ds_stream.proofs.laws.windows_are_the_stream.Goals as goal

pub returns-clause-one : goal.returns-clause-one
returns-clause-one c = λ width most text counts. windows_are_one width most text 0 beginning counts

pub returns-clause-stream : goal.returns-clause-stream
returns-clause-stream c = windows_are_stream
