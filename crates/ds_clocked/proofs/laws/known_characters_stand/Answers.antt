use Rattle.ds_clocked.proofs.MonotoneTrace.{known_characters_stand}
use Rattle.ds_clocked.proofs.laws.known_characters_stand.Goals as goal

pub returns : goal.returns
returns c = known_characters_stand
