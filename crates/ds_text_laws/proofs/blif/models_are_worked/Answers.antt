use Rattle.std.proofs.Common.{refl}
use Rattle.ds_lines.specs.Line.{words_in, joins}
use Rattle.ds_blif.specs.Head.{head_of, is_skipped}
use Rattle.ds_blif.specs.Form.{is_row_form, is_latch_form, is_level_latch, has_bad_init}
use Rattle.ds_text_laws.proofs.blif.models_are_worked.Goals as goal

pub returns : goal.returns
unfolding words_in joins head_of is_skipped is_row_form is_latch_form is_level_latch has_bad_init
returns c = refl
