use Rattle.std.proofs.Common.{refl}
use Rattle.rand_core.specs.Steps.{first_words}
use Rattle.ds_demo.specs.Demo.{demo_design, demo_vectors}
use Rattle.ds_demo.proofs.Computed.{six_nets}
use Rattle.ds_demo.proofs.laws.seed_zero_is_worked.Goals as goal

pub returns : goal.returns
unfolding first_words demo_design demo_vectors
returns c = record {
  words = refl;
  nets = six_nets;
  outputs = refl;
  tables = refl;
  registers = refl;
  vectors = refl;
}
