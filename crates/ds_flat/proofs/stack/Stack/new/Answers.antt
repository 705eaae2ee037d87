use Rattle.std.proofs.Common.{sym, subst, reverse, List}
use Rattle.ds_flat.specs.declared.frame.Open.{Open}
use Rattle.ds_flat.specs.Stack.{AreCounts}
use Rattle.ds_flat.proofs.WaitingCopies.{counts_none}
use Rattle.ds_flat.proofs.Frames.{places_of}
use Rattle.ds_flat.proofs.stack.Stack.new.Goals as goal

pub invariant_of-result : goal.invariant_of-result
invariant_of-result c =
    subst (λ (items : List Open). AreCounts c.in_ok-counts.counts.items (places_of (reverse items)))
    (sym c.new.ensures.items) (counts_none c.in_ok-counts.counts.items c.args.models
    (c.in_ok-counts.ensures.items_if_clones_equal (λ y same. same)))
