use Rattle.std.proofs.Common.{◌≡◌, ◌≤◌}
use Rattle.ds_base.specs.Scratch.{Remembers}
use Rattle.ds_rule.specs.Rule.{seen}
use Rattle.ds_runner.specs.Shown.{IsPassOf}
use Rattle.ds_table_tests.proofs.hand.fires.Given as goal

abbrev pub invariant-loop : goal.invariant-loop
invariant-loop l = IsPassOf l.stile l.node-2 l.pass × Remembers l.fabric.memory l.hand.scratch
    × (l.hand.turn ≡ l.initial.hand.turn)
    × (seen l.initial.pass.view l.node-2 ≤ seen l.pass.view l.node-2)
