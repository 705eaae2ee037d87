use Rattle.std.proofs.Common.{◌≡◌, ◌/◌, length, arith}
use Rattle.ds_rows.specs.Log.{joined_at_place}
use Rattle.ds_rows.proofs.JoinedAtPlace.{all_rows, joined_long}
use Rattle.ds_rows.proofs.RowText.{value_chars-chunk}
use Rattle.ds_outside.proofs.Pens.{puts_on, with_put}
use Rattle.ds_rows.proofs.at_place.put_at_place.Goals as goal

pub writing-preserved : goal.writing-preserved
writing-preserved g c =
    let long : length (joined_at_place c.args.width c.args.place c.args.values.now) ≡ length c.args.values.now / c.args.width = joined_long c.args.width c.args.place c.args.values.now in
    record {
      within = omega arith;
      written = with_put (value_chars-chunk (joined_at_place c.args.width c.args.place c.args.values.now) c.writing.done c.min-count.result c.writing.piece c.fill.new.piece (omega arith) (omega arith) c.fill.ensures) (puts_on c.writing.invariant.written c.put-in-writing.ensures);
    }

pub returns : goal.returns
returns g c =
    with_put (all_rows c.args.width c.args.place c.args.values.now c.writing.done (omega arith) (omega arith)) c.writing.invariant.written
