use Rattle.std.proofs.Common.{ℕ, List}
use Rattle.std.proofs.Common.{set, ap, arith}
use Rattle.ds_fabric.proofs.Standing.{one_alone, none_alone}
use Rattle.ds_fabric.proofs.places.alone.Goals as goal

pub returns-then-room-eq1 : goal.returns-then-room-eq1
returns-then-room-eq1 c = let (_, _, few) = c.requires in
    λ h is. none_alone c.args.count c.args.room c.args.node h c.new.result.items (
      few,
      omega (arith, c.if-room-eq1.true),
    ) c.if-room-eq1.true c.new.ensures.items

pub returns : goal.returns
returns c = let (near, some, few) = c.requires in λ h is. one_alone c.args.count c.args.room c.args.node h
    (set c.in_ok-places.places.items c.args.node 1) (
      few,
      omega (arith, c.ranges.room.fits),
    ) near some is
    (ap (λ (xs : List ℕ). set xs c.args.node 1) c.in_ok-places.ensures)
