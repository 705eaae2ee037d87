use Rattle.ds_latch.proofs.Headline.{headline}
use Rattle.ds_latch.proofs.laws.headline.Goals as goal

pub returns : goal.returns
returns c = headline
