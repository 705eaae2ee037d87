use Rattle.std.proofs.Common.{◌≡◌, ◌/◌, ◌^◌, drop}
use Rattle.ds_cover.specs.Rows.{asked_word}
use Rattle.ds_cover.proofs.rows.asked.Given as goal

abbrev pub invariant-loop-i : goal.invariant-loop-i
invariant-loop-i l = l.word ≡ asked_word (drop l.i l.words) (l.needs / 2 ^ l.i)
