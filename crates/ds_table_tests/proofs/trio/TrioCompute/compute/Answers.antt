use Rattle.std.proofs.Common.{◌<◌, ◌∙◌, ◌++◌, ℕ, List, ap, sym, arith}
use Rattle.ds_table_tests.proofs.TrioRun.{one_word, zero_row}
use Rattle.ds_table_tests.proofs.trio.TrioCompute.compute.Goals as goal

pub push_reserved-requires : goal.push_reserved-requires
push_reserved-requires c = let near : c.args.node < 3 = omega (arith, c.requires.node) in
    omega (arith, c.requires.room, one_word c.args.node near)

pub returns-clause-value : goal.returns-clause-value
returns-clause-value c = let near : c.args.node < 3 = omega (arith, c.requires.node) in
    c.push_reserved.ensures.items ∙ ap (λ (xs : List ℕ). c.args.into.now.items ++ xs)
    (sym (zero_row c.args.node c.args.turn near c.requires.turn.1))
