use Rattle.std.proofs.Common.{arith, ap, ◌∙◌, map}
use Rattle.std.proofs.lemmas.List.{take_all}
use Rattle.ds_demo.specs.Demo.{vector_of}
use Rattle.ds_demo.proofs.DemoInRange.{rows-are_vectors}
use Rattle.ds_demo.proofs.demo.vectors.Goals as goal

pub of-requires-2 : goal.of-requires-2
of-requires-2 c = rows-are_vectors _ c.args.words.now
    (c.of.ensures ∙ (c.loop-word.invariant
    ∙ ap (map vector_of) (take_all c.loop-word.word-index c.args.words.now (omega arith))))
    c.requires
