use Rattle.std.proofs.Common.{◌≡◌, map}
use Rattle.std.specs.List.{range_with_len}
use Rattle.ds_opening.specs.Foreseen.{node_at}
use Rattle.ds_opening.specs.Noted.{learnt_nets}
use Rattle.ds_opening.proofs.cone_groups.learnt_of.Given as goal

abbrev pub invariant-loop-number : goal.invariant-loop-number
invariant-loop-number l = l.lists.items
    ≡ map (λ number. learnt_nets l.latches (node_at number)) (range_with_len 0 l.number)
