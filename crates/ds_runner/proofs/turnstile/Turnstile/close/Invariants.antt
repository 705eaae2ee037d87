use Rattle.std.proofs.Common.{◌≡◌, ◌<◌, ◌≤◌, ℕ, Some, false, length, vec_capacity, slice_index_or}
use Rattle.std.specs.Mem.Slots.{slots_len, slots_items, slots_filled}
use mathlib.Core.Option.{some}
use lib.ListN.{get_elem?}
use Rattle.ds_fabric.specs.Showing.{Showing}
use Rattle.ds_runner.proofs.turnstile.Turnstile.close.Given as goal

abbrev pub invariant-loop-i : goal.invariant-loop-i
invariant-loop-i l = record {
  items : slots_items l.closed.slots ≡ slots_items l.initial.closed.slots;
  size : slots_len l.closed.slots ≡ slots_len l.initial.closed.slots;
  later : (k : ℕ) → l.i ≤ k → slice_index_or (slots_filled l.closed.slots) k false
      ≡ slice_index_or (slots_filled l.initial.closed.slots) k false;
  emptied : (k : ℕ) → k < l.i → slice_index_or (slots_filled l.closed.slots) k false ≡ false;
  moved : length l.into.items ≡ l.i;
  room : vec_capacity l.into ≡ vec_capacity l.initial.into;
  given : (j : ℕ) (p : Showing) → get_elem? l.into.items j ≡ some p
      → get_elem? (slots_items l.initial.closed.slots) j ≡ some (Some p);
}
