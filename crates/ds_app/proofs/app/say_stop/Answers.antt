use Rattle.std.proofs.Common.{refl}
use Rattle.ds_app.proofs.app.say_stop.Goals as goal

pub returns-in-Memory : goal.returns-in-Memory
returns-in-Memory g c = rw c.in-Memory.is (refl, c.say-in-Memory.ensures)
