use Rattle.std.proofs.Common.{◌-◌}
use Rattle.ds_groups.proofs.Tails.{StandsNowhere}
use Rattle.ds_groups.proofs.tail.stands_between.Given as goal

abbrev pub invariant-seeking : goal.invariant-seeking
invariant-seeking l = StandsNowhere l.bytes l.text l.first l.at

abbrev pub decreases-seeking : goal.decreases-seeking
decreases-seeking l = l.last - l.at
