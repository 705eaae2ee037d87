use Rattle.std.proofs.Common.{◌≢◌, ℕ, List, AllPairs, rules, sym, subst}
use Rattle.ds_design.specs.InRange.{IsInRange}
use Rattle.ds_demo.specs.Demo.{design_of}
use Rattle.ds_demo.proofs.DemoInRange.{in_range, outputs_once}
use Rattle.ds_demo.proofs.demo.design.Goals as goal

pub of-requires-4-clause-in_range : goal.of-requires-4-clause-in_range
of-requires-4-clause-in_range c = subst IsInRange (sym (search rules))
    (in_range c.args.registers c.args.words.now c.requires.some c.requires.few)

pub of-requires-4-clause-once : goal.of-requires-4-clause-once
of-requires-4-clause-once c =
    subst (λ (nets : List ℕ). AllPairs (λ a b. a ≢ b) nets)
    {x = (design_of c.args.registers c.args.words.now).outputs} (sym (search rules))
    (outputs_once c.args.registers c.args.words.now c.requires.some)
