use Rattle.std.proofs.Common.{◌≡◌, ◌<◌, ℕ}
use Rattle.ds_rule.specs.Rule.{seen}
use Rattle.ds_runner.proofs.in_order.is_unfired.Given as goal

abbrev pub invariant-looking : goal.invariant-looking
invariant-looking g l = (n : ℕ) → n < l.node → seen l.pass.view n ≡ 0
