use Rattle.std.proofs.Common.{◌∙◌, ◌++◌, ℕ, List, ap, sym, arith}
use Rattle.ds_table_tests.proofs.ToggleRun.{row_of, wide_one}
use Rattle.ds_table_tests.proofs.toggle.ToggleCompute.compute.Goals as goal

pub push_reserved-requires : goal.push_reserved-requires
push_reserved-requires c = omega (arith, c.requires.room, wide_one c.args.node c.requires.node)

pub returns-clause-value : goal.returns-clause-value
returns-clause-value c = c.push_reserved.ensures.items
    ∙ ap (λ (xs : List ℕ). c.args.into.now.items ++ xs)
    (sym (row_of c.args.node c.args.turn c.requires.node c.requires.turn.0 c.requires.turn.1))
