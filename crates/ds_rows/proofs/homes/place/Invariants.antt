use Rattle.std.proofs.Common.{◌≡◌, ℕ, length, get_or}
use Rattle.std.specs.List.{AllWithin}
use Rattle.ds_rows.specs.Homes.{IsIn, IsPlacedOrKept, no_home}
use Rattle.ds_rows.proofs.homes.place.Given as goal

abbrev pub invariant-loop-place : goal.invariant-loop-place
invariant-loop-place l = record {
  same : length l.homes.items ≡ length l.initial.homes.items;
  placed : AllWithin (λ r. IsIn l.registers l.cluster r (get_or l.homes.items r no_home)) l.registers 0 l.place;
  kept : (r : ℕ) → IsPlacedOrKept l.registers l.cluster r (get_or l.initial.homes.items r no_home) (get_or l.homes.items r no_home);
}
