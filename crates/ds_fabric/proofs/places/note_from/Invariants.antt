use Rattle.std.proofs.Common.{◌≡◌, ◌≤◌, ℕ, length}
use Rattle.ds_fabric.specs.Indexed.{IsIndexed, AreBelow}
use Rattle.ds_fabric.proofs.places.note_from.Given as goal

abbrev pub invariant-loop-i : goal.invariant-loop-i
invariant-loop-i l = record {
  long : length l.places.items ≡ length l.fn.places.items;
  indexed : (many room : ℕ) → IsIndexed many room l.fn.first l.fn.nodes l.fn.places.items
      → length l.fn.nodes ≤ room → AreBelow l.fn.nodes many
      → IsIndexed many room l.i l.fn.nodes l.places.items;
  from : l.initial.i ≤ l.i;
}
