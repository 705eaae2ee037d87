use Rattle.std.proofs.Common.{◌≡◌, length}
use Rattle.ds_slices.proofs.LinkedWords.{AreLinkedTo}
use Rattle.ds_slices.proofs.links.set_links.Given as goal

abbrev pub invariant-loop-link : goal.invariant-loop-link
invariant-loop-link l = record {
  same : length l.nets ≡ length l.initial.nets;
  done : AreLinkedTo l.netlist l.start l.order l.initial.words l.words l.link-index;
}
