use Rattle.std.proofs.Common.{◌≡◌, ◌/◌, length, arith}
use Rattle.ds_rows.specs.Log.{at_place}
use Rattle.ds_rows.proofs.ValueWords.{all_places, no_places, places_long}
use Rattle.ds_rows.proofs.RowText.{value_chars-chunk}
use Rattle.ds_outside.proofs.Pens.{puts_nothing, puts_on, with_put}
use Rattle.ds_rows.proofs.stored.put_stored.Goals as goal

pub writing-init : goal.writing-init
writing-init g c = record {
  within = omega arith;
  written = λ rows is. puts_nothing (g.P.Pen.writing c.args.pen.now);
}

pub writing-preserved : goal.writing-preserved
writing-preserved g c = record {
  within = omega arith;
  written = λ rows is.
      let long : length (at_place c.args.place rows) ≡ length c.args.words.now / c.args.words_a_row = places_long c.args.words_a_row c.args.place c.args.words.now rows c.requires is in
      with_put (value_chars-chunk (at_place c.args.place rows) c.writing.done c.min-count.result c.writing.piece c.fill.new.piece (omega arith) (omega arith) (c.fill.ensures rows is)) (puts_on (c.writing.invariant.written rows is) c.put-in-writing.ensures);
}

pub returns-then-rows-eq0 : goal.returns-then-rows-eq0
returns-then-rows-eq0 g c = λ rows is.
    with_put (no_places c.args.words_a_row c.args.place c.args.words.now rows c.requires is (omega arith)) c.put.ensures

pub returns : goal.returns
returns g c = λ rows is.
    with_put (all_places c.args.words_a_row c.args.place c.args.words.now rows c.writing.done c.requires is (omega arith) (omega arith)) (c.writing.invariant.written rows is)
