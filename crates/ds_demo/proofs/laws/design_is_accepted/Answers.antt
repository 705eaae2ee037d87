use Rattle.ds_demo.specs.Demo.{demo_design, seed_words}
use Rattle.ds_demo.proofs.Accepts.{accepted}
use Rattle.ds_demo.proofs.laws.design_is_accepted.Goals as goal

pub returns : goal.returns
unfolding demo_design
returns c = λ seed registers some. accepted registers (seed_words registers seed) some
