use Rattle.std.proofs.Common.{refl}
use Rattle.ds_lines.specs.Line.{words_in, joins}
use Rattle.ds_astg.specs.Word.{is_reserved, is_signed}
use Rattle.ds_astg.specs.Line.{graph_head_of, is_declaration}
use Rattle.ds_text_laws.proofs.astg.toggle_is_worked.Goals as goal

pub returns : goal.returns
unfolding words_in joins is_reserved is_signed graph_head_of is_declaration
returns c = refl
