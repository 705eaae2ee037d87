use Rattle.ds_demo.specs.Demo.{demo_design, seed_words}
use Rattle.ds_demo.proofs.DemoInRange.{in_range}
use Rattle.ds_demo.proofs.laws.design_is_in_range.Goals as goal

pub returns : goal.returns
unfolding demo_design
returns c = λ seed registers some few. in_range registers (seed_words registers seed) some few
