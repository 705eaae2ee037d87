use Rattle.std.proofs.Common.{◌≡◌, ℕ, ◌+◌, ◌<◌, get_or, length}
use Rattle.ds_opening.proofs.table_numbers.one_less.Given as goal

abbrev pub invariant-loop-class : goal.invariant-loop-class
invariant-loop-class l = record {
  one_each : length l.of.items ≡ l.class-index;
  each : (k : ℕ) → k < l.class-index → get_or l.of.items k 0 + 1 ≡ get_or l.places (get_or l.classes k 0) 0;
}
