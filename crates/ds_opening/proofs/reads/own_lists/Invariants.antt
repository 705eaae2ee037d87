use Rattle.std.proofs.Common.{◌≡◌, [], ◌∷◌, map}
use Rattle.std.specs.List.{range_with_len}
use Rattle.ds_opening.proofs.reads.own_lists.Given as goal

abbrev pub invariant-loop-own : goal.invariant-loop-own
invariant-loop-own l = l.lists.items ≡ map (λ own. own ∷ []) (range_with_len 0 l.own)
