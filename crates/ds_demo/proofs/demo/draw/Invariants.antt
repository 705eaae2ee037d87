use Rattle.std.proofs.Common.{◌≡◌, ◌-◌, ◌++◌}
use Rattle.ds_demo.specs.Demo.{seed_words}
use Rattle.ds_demo.proofs.demo.draw.Given as goal

abbrev pub invariant-loop : goal.invariant-loop
invariant-loop l =
    l.words.items ++ seed_words (l.count - l.counter) l.generator ≡ seed_words l.count l.seed
