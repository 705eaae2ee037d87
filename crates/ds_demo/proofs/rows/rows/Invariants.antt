use Rattle.std.proofs.Common.{◌≡◌, ◌==◌, map}
use Rattle.std.specs.List.{filter, range_with_len}
use Rattle.std.specs.Int.{bit_at}
use Rattle.ds_demo.specs.Demo.{marks_of}
use Rattle.ds_demo.proofs.rows.rows.Given as goal

abbrev pub invariant-loop-number : goal.invariant-loop-number
invariant-loop-number l = l.all.items
    ≡ map marks_of (filter (λ n. bit_at l.function n == 1) (range_with_len 0 l.number))
