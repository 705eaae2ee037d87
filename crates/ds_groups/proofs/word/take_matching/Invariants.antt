use Rattle.std.proofs.Common.{◌&&◌}
use Rattle.std.specs.Prelude.{nat_lt}
use Rattle.ds_rows.specs.Nets.{net_text}
use Rattle.ds_groups.specs.Latest.{driven_net}
use Rattle.ds_groups.specs.Match.{has_form}
use Rattle.ds_groups.specs.Taking.{TakesFree}
use Rattle.ds_groups.proofs.word.take_matching.Given as goal

abbrev pub invariant-loop-i : goal.invariant-loop-i
invariant-loop-i l = TakesFree (λ r. has_form l.pattern (net_text (driven_net l.named r)) && nat_lt r l.i) l.line l.fn.holders l.holders l.took
