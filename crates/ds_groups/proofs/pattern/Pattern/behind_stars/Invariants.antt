use Rattle.std.proofs.Common.{◌-◌, length}
use Rattle.ds_groups.proofs.Stands.{AreStars}
use Rattle.ds_groups.proofs.pattern.Pattern.behind_stars.Given as goal

abbrev pub invariant-skipping : goal.invariant-skipping
invariant-skipping l = AreStars l.self l.from l.at

abbrev pub decreases-skipping : goal.decreases-skipping
decreases-skipping l = length l.self - l.at
