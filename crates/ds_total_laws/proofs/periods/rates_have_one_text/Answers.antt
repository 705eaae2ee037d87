use Rattle.ds_total_laws.proofs.OnePeriodText.{rates_have_one_text}
use Rattle.ds_total_laws.proofs.periods.rates_have_one_text.Goals as goal

pub returns : goal.returns
returns c = rates_have_one_text
