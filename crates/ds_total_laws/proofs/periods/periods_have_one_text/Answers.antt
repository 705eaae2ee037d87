use Rattle.ds_total_laws.proofs.OnePeriodText.{periods_have_one_text}
use Rattle.ds_total_laws.proofs.periods.periods_have_one_text.Goals as goal

pub returns : goal.returns
returns c = periods_have_one_text
