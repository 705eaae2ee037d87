use Rattle.std.proofs.Common.{◌≡◌, map, take}
use Rattle.ds_demo.specs.Demo.{vector_of}
use Rattle.ds_demo.proofs.demo.vectors.Given as goal

abbrev pub invariant-loop-word : goal.invariant-loop-word
invariant-loop-word l = l.rows.items ≡ map vector_of (take l.word-index l.words)
