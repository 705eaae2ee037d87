use Rattle.std.proofs.Common.{◌≡◌, ℕ, ◌<◌, length, get_or}
use Rattle.ds_split.specs.Keyed.{mixed_key}
use Rattle.ds_split.proofs.register_keys.mixed.Given as goal

abbrev pub invariant-loop-i : goal.invariant-loop-i
invariant-loop-i l = (length l.mixed.items ≡ l.i)
    × ((r : ℕ) → r < l.i → get_or l.mixed.items r 0 ≡ mixed_key l.groups (get_or l.holders r 0) (get_or l.keys r 0))
