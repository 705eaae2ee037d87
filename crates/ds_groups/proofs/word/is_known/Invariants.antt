use Rattle.std.proofs.Common.{◌≡◌, ◌<◌, false, ℕ}
use Rattle.ds_rows.specs.Nets.{net_text}
use Rattle.ds_groups.specs.Latest.{driven_net}
use Rattle.ds_groups.specs.Match.{has_form}
use Rattle.ds_groups.proofs.word.is_known.Given as goal

abbrev pub invariant-loop-i : goal.invariant-loop-i
invariant-loop-i l = (r : ℕ) → r < l.i → has_form l.pattern (net_text (driven_net l.named r)) ≡ false
