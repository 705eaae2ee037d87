use Rattle.ds_split.specs.Nets.{AreMarked}
use Rattle.ds_split.proofs.Searching.{IsFirst}
use Rattle.ds_split.proofs.producers.mark.Given as goal

abbrev pub invariant-loop-net : goal.invariant-loop-net
invariant-loop-net l = AreMarked (IsFirst l.nets l.net-index) l.mark l.initial.producers.items l.producers.items
