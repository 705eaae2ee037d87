use Rattle.std.proofs.Common.{◌≡◌, ℕ, length}
use Rattle.std.specs.List.{AllWithin}
use Rattle.ds_fire.specs.Feeds.{IsNetOfNode, IsSourceNetPlacedOrKept, home_of}
use Rattle.ds_fire.proofs.homes.place.Given as goal

abbrev pub invariant-loop-bit : goal.invariant-loop-bit
invariant-loop-bit l = record {
  same : length l.homes.items ≡ length l.initial.homes.items;
  placed : AllWithin (λ net. IsNetOfNode l.bits l.node net (home_of l.homes.items net)) l.bits 0 l.bit;
  kept : (net : ℕ) → IsSourceNetPlacedOrKept l.bits l.node net (home_of l.initial.homes.items net) (home_of l.homes.items net);
}
