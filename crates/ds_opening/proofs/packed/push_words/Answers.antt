use Rattle.std.proofs.Common.{◌∙◌, ◌+◌, ◌≤◌, arith, length}
use Rattle.std.specs.Prelude.{vec_len, vec_capacity}
use Rattle.ds_base.specs.Word.{count_of_words}
use Rattle.ds_cover.specs.Cover.{values_at}
use Rattle.ds_opening.proofs.Packs.{word_more}
use Rattle.ds_opening.proofs.packed.push_words.Goals as goal

pub push_reserved-requires : goal.push_reserved-requires
push_reserved-requires c =
    let most : vec_len c.args.into.now + count_of_words (length c.args.these.now) ≤ vec_capacity c.args.into.now = c.requires.room in
    omega (most, c.loop-i.invariant.long, c.loop-i.invariant.room, c.loop-i-test.true, c.words_of-i-end.ensures, c.loop-i.auto.i-end, arith)

pub loop-i-preserved : goal.loop-i-preserved
loop-i-preserved c = record {
  items = word_more (values_at c.args.nets.now c.args.these.now) c.args.into.now.items c.loop-i.into.items c.push_reserved.new.self.items c.loop-i.i c.word_at.result
      c.loop-i.invariant.items c.word_at.ensures c.push_reserved.ensures.items;
  long = omega (c.push_reserved.ensures.len, c.loop-i.invariant.long, arith);
  room = c.push_reserved.ensures.capacity ∙ c.loop-i.invariant.room;
}
