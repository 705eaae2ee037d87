use Rattle.ds_demo.specs.Demo.{demo_design, seed_words}
use Rattle.ds_demo.proofs.Accepts.{two_columns}
use Rattle.ds_demo.proofs.laws.two_columns.Goals as goal

pub returns : goal.returns
unfolding demo_design
returns c = λ seed registers. two_columns registers (seed_words registers seed)
