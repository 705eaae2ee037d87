use Rattle.std.proofs.Common.{refl}
use Rattle.ds_lines.specs.Line.{words_in, joins}
use Rattle.ds_astg.specs.Word.{is_reserved, is_signed}
use Rattle.ds_astg.specs.Line.{graph_head_of, is_declaration}
use Rattle.ds_text_laws.proofs.astg.graph_faults_are_worked.Goals as goal

pub returns : goal.returns
unfolding words_in joins is_reserved is_signed graph_head_of is_declaration
returns c = record {
  toggle = record { two_targets = refl; no_target = refl; instance = refl; entry = refl };
  words = record { capacity = refl; outside = refl; closed = refl; lone = refl; lone_instance = refl; lone_unknown = refl; toggled = refl; unknown = refl; signal = refl; two_models = refl; no_model = refl };
  dummies = record { signed = refl; a_signal = refl; a_dummy = refl; a_place = refl; a_place_too = refl; again = refl; rises = refl; instance = refl; lone = refl; entry = refl; later = refl };
  places = record { adjacent = refl; two_sources = refl; dotted = refl; no_source = refl };
  markings = record { unknown = refl; later = refl; repeated = refl; number = refl; long = refl; brace = refl; parted = refl; unopened = refl; unclosed = refl; none = refl; two = refl };
}
