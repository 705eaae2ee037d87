use Rattle.std.proofs.Common.{refl}
use Rattle.ds_lines.specs.Line.{words_in, joins}
use Rattle.ds_lines.proofs.laws.text_is_worked.Goals as goal

pub returns : goal.returns
unfolding words_in joins
returns c = refl
