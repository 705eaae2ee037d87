use Rattle.std.proofs.Common.{◌≡◌, ◌+◌, ◌/◌, ◌<◌, length, get_or, arith}
use Rattle.std.proofs.Math.Nat.{div-le_self}
use Rattle.ds_base.specs.declared.value.Value.TheVariants.{Zero}
use Rattle.ds_rows.specs.Log.{at_place}
use Rattle.ds_rows.proofs.JoinedAtPlace.{inside_rows}
use Rattle.ds_rows.proofs.RowText.{char_more}
use Rattle.ds_rows.proofs.ValueWords.{code_told, places_long}
use Rattle.ds_rows.proofs.stored.fill.Goals as goal

pub loop-i-preserved : goal.loop-i-preserved
loop-i-preserved c = λ rows is.
    let long : length (at_place c.args.place rows) ≡ length c.args.words.now / c.args.words_a_row = places_long c.args.words_a_row c.args.place c.args.words.now rows c.requires.place is in
    char_more c.loop-i.piece (at_place c.args.place rows) c.args.from c.loop-i.i c.character_of.result (omega arith) (omega arith) (c.loop-i.invariant rows is)
    (c.character_of.ensures (get_or (at_place c.args.place rows) (c.args.from + c.loop-i.i) Zero)
    (code_told c.args.words_a_row c.args.place (c.args.from + c.loop-i.i) c.args.words.now rows c.requires.place (omega arith) is))

pub overflow_add-at : goal.overflow_add-at
overflow_add-at c =
    let row : c.args.from + c.loop-i.i < length c.args.words.now / c.args.words_a_row = omega arith in
    omega (arith, div-le_self (length c.args.words.now) c.args.words_a_row)

pub overflow_mul-at : goal.overflow_mul-at
overflow_mul-at c =
    let row : c.args.from + c.loop-i.i < length c.args.words.now / c.args.words_a_row = omega arith in
    omega (arith, inside_rows c.args.words_a_row (c.args.place / 32) (c.args.from + c.loop-i.i) c.args.words.now (omega arith) row)

pub overflow_add-at-in-loop-i : goal.overflow_add-at-in-loop-i
overflow_add-at-in-loop-i c =
    let row : c.args.from + c.loop-i.i < length c.args.words.now / c.args.words_a_row = omega arith in
    omega (arith, inside_rows c.args.words_a_row (c.args.place / 32) (c.args.from + c.loop-i.i) c.args.words.now (omega arith) row)

pub bounds-words-at : goal.bounds-words-at
bounds-words-at c =
    let row : c.args.from + c.loop-i.i < length c.args.words.now / c.args.words_a_row = omega arith in
    omega (arith, inside_rows c.args.words_a_row (c.args.place / 32) (c.args.from + c.loop-i.i) c.args.words.now (omega arith) row)
