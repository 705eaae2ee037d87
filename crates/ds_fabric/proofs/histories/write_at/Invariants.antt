use Rattle.std.proofs.Common.{◌≡◌, vec_capacity, vec_len}
use Rattle.std.proofs.Common.{◌++◌, ◌∷◌, []}
use Rattle.ds_fabric.proofs.WordsInLists.{GoesOn, IsWrittenTo}
use Rattle.ds_fabric.proofs.histories.write_at.Given as goal

abbrev pub invariant-loop-place : goal.invariant-loop-place
invariant-loop-place l = GoesOn l.fn.words.items l.words.items × (vec_len l.words ≡ l.place)
    × (vec_capacity l.words ≡ vec_capacity l.fn.words)

abbrev pub invariant-loop-i : goal.invariant-loop-i
invariant-loop-i l = IsWrittenTo l.fn.words.items l.list l.start l.end l.i
    (l.told ++ l.ticket ∷ [])
