use Rattle.ds_latch.proofs.Stable.{stability_without_slack}
use Rattle.ds_latch.proofs.laws.stability_without_slack.Goals as goal

pub returns : goal.returns
returns c = stability_without_slack
