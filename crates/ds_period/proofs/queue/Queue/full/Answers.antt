use Rattle.std.proofs.Common.{◌≡◌, ◌∙◌, Ok, ℕ, refl, arith, sym}
use Rattle.std.specs.List.{range_with_len}
use Rattle.std.proofs.lemmas.Iterator.{items_from_collect, YieldsList-from_range}
use Rattle.ds_period.proofs.Ringed.{all_wait, events_are}
use Rattle.ds_period.proofs.queue.Queue.full.Goals as goal

pub invariant_of-result : goal.invariant_of-result
invariant_of-result c =
    let is : c.in_ok-ring.ring.items ≡ range_with_len 0 c.args.events =
    items_from_collect {E = ℕ} (Ok c.in_ok-ring.ring) c.in_ok-ring.ensures.ran (YieldsList-from_range 0 c.args.events c.args.events refl (omega arith)) in
    all_wait c.in_ok-ring.ring.items c.in_ok-waits.waits.items c.args.events is (sym c.in_ok-waits.waits.ok.0 ∙ c.in_ok-waits.ensures.len)

pub returns : goal.returns
returns c =
    events_are c.in_ok-ring.ring.items c.args.events
    (items_from_collect {E = ℕ} (Ok c.in_ok-ring.ring) c.in_ok-ring.ensures.ran (YieldsList-from_range 0 c.args.events c.args.events refl (omega arith)))
