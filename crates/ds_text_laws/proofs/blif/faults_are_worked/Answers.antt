use Rattle.std.proofs.Common.{refl}
use Rattle.ds_lines.specs.Line.{words_in, joins}
use Rattle.ds_blif.specs.Head.{head_of, is_skipped}
use Rattle.ds_blif.specs.Form.{is_row_form, is_latch_form, is_level_latch, has_bad_init}
use Rattle.ds_text_laws.proofs.blif.faults_are_worked.Goals as goal

pub returns : goal.returns
unfolding words_in joins head_of is_skipped is_row_form is_latch_form is_level_latch has_bad_init
returns c = record {
  rows = record {
    mixed = refl;
    short = refl;
    byte = refl;
    both = refl;
    behind = refl;
    no_table = refl;
    parted = refl;
  };
  latches = record {
    few = refl;
    unknown = refl;
    level = refl;
    init = refl;
    lone_edge = refl;
    lone_level = refl;
  };
  uses = record { alone = refl; no_equals = refl; no_formal = refl; twice = refl };
  commands = record {
    unknown = refl;
    dot = refl;
    outside = refl;
    ended = refl;
    no_output = refl;
    two_names = refl;
    repeated = refl;
    empty = refl;
    no_model = refl;
  };
  tables = record { most = refl; more = refl };
}
