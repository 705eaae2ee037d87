use Rattle.std.proofs.Common.{◌≡◌, ◌≤◌, length, false, nat_lt, refl, arith}
use Rattle.std.proofs.lemmas.Bool.{ltb-false}
use Rattle.ds_groups.proofs.Tails.{tail_is}
use Rattle.ds_groups.proofs.tail.tail_of.Goals as goal

pub returns : goal.returns
returns c =
    let few : c.plain_before-before.result ≤ c.start_of-start.result = c.plain_before-before.ensures.few in
    let high : c.end_of-end.result ≤ length c.args.word.now = c.end_of-end.ensures in
    let alone : nat_lt c.plain_before-before.result c.start_of-start.result ≡ false → c.plain_before-before.result ≡ c.start_of-start.result =
    λ none. let low : c.start_of-start.result ≤ c.plain_before-before.result = ltb-false c.plain_before-before.result c.start_of-start.result none in omega arith in
    let whole : nat_lt c.end_of-end.result (length c.args.word.now) ≡ false → c.end_of-end.result ≡ length c.args.word.now =
    λ none. let low : length c.args.word.now ≤ c.end_of-end.result = ltb-false c.end_of-end.result (length c.args.word.now) none in omega arith in
    tail_is c.args.word.now c.start_of-start.result c.end_of-end.result _ c.start_of-start.ensures.within high
    c.start_of-start.ensures.plain c.plain_before-before.ensures refl alone whole
