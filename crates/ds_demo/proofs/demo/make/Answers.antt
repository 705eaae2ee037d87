use Rattle.std.proofs.Common.{◌≡◌, ◌+◌, arith, ap, ◌∙◌, length, take, drop}
use Rattle.rand_xoshiro.specs.SplitMix64.{mix_u64}
use Rattle.ds_demo.specs.Demo.{demo_design, demo_vectors, design_of, vectors_of_words}
use Rattle.ds_demo.proofs.GeneratorWords.{length-first_words, take-first_words}
use Rattle.ds_demo.proofs.demo.make.Goals as goal

pub split_at-requires : goal.split_at-requires
split_at-requires c =
    let long : length c.in_ok-words.words.items ≡ c.args.registers + c.args.turns =
    ap length c.in_ok-words.ensures
    ∙ length-first_words mix_u64 (c.args.registers + c.args.turns) c.args.seed in
    let same : length c.as_slice.result.now ≡ length c.in_ok-words.words.items =
    ap length c.as_slice.ensures.value in
    omega arith

pub vectors-requires : goal.vectors-requires
vectors-requires c =
    let long : length c.in_ok-words.words.items ≡ c.args.registers + c.args.turns =
    ap length c.in_ok-words.ensures
    ∙ length-first_words mix_u64 (c.args.registers + c.args.turns) c.args.seed in
    let same : length c.as_slice.result.now ≡ length c.in_ok-words.words.items =
    ap length c.as_slice.ensures.value in
    omega arith

pub returns : goal.returns
unfolding demo_design demo_vectors
returns c =
    let words = c.as_slice.ensures.value ∙ c.in_ok-words.ensures in
    let first = c.split_at.ensures.front ∙ (ap (take c.args.registers) words
    ∙ take-first_words mix_u64 c.args.registers c.args.turns c.args.seed) in
    let rest = c.split_at.ensures.back ∙ ap (drop c.args.registers) words in
    record {
      ok = (
        c.in_ok-design.ensures ∙ ap (design_of c.args.registers) first,
        c.in_ok-vectors.ensures ∙ ap vectors_of_words rest,
      );
    }
