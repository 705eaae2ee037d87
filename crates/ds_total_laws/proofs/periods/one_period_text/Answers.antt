use Rattle.ds_total_laws.proofs.OnePeriodText.{one_period_text}
use Rattle.ds_total_laws.proofs.periods.one_period_text.Goals as goal

pub returns : goal.returns
returns c = one_period_text
