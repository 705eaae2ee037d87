use Rattle.std.proofs.Common.{◌<◌, ◌^◌, ℕ}
use Rattle.ds_groups.specs.Indexed.{IsIndex}
use Rattle.ds_groups.specs.Latest.{driven_net}
use Rattle.ds_groups.specs.Names.{driven_nets}
use Rattle.ds_groups.proofs.named.Named.of.Given as goal

abbrev pub invariant-loop-i : goal.invariant-loop-i
invariant-loop-i l = record {
  index : IsIndex (driven_nets l.design) l.i l.index;
  short : (r : ℕ) → r < l.i → (driven_net (driven_nets l.design) r).copy < 2 ^ 32;
}
