use Rattle.std.proofs.Common.{◌≡◌, ◌∙◌, ◌<◌, ℕ, List, length, get_or, set, ap, arith, subst}
use Rattle.std.specs.Prelude.{All}
use Rattle.std.specs.Int.{bit_at}
use Rattle.std.proofs.lemmas.List.{get_or_default, length-set, take_all}
use Rattle.ds_base.specs.Values.{Row}
use Rattle.ds_cover.specs.Cover.{value_at}
use Rattle.ds_cover.specs.Kept.{bit_value}
use Rattle.ds_slices.specs.Turns.{turn_row}
use Rattle.ds_slices.proofs.PickedBits.{nets_more}
use Rattle.ds_slices.proofs.table.set_nets.Goals as goal

pub loop-net-preserved : goal.loop-net-preserved
loop-net-preserved c =
    let words : List ℕ = c.args.words.now in
    let these : List ℕ = c.args.these.now in
    let i : ℕ = c.loop-net.net-index in
    let n : ℕ = c.net-item.result in
    let inside : c.loop-net.net-index < length c.args.these.now = c.loop-net-test.true in
    let net : c.net-item.result ≡ get_or c.args.these.now c.loop-net.net-index 0 =
    c.net-item.is ∙ get_or_default c.args.these.now c.loop-net.net-index c.net-item.result 0 inside in
    let new_is : c.set.new.self ≡ set c.loop-net.nets c.net-item.result (bit_value (bit_at (get_or c.args.words.now c.net-item.result 0) c.args.turn)) =
    (let one = c.set.ensures in let two = c.index.ensures in let three = c.index-in-loop-net.ensures in let four = c.bit_of.ensures in cc) in
    let within : c.net-item.result < length c.loop-net.nets =
    (let low : get_or c.args.these.now c.loop-net.net-index 0 < length c.args.words.now = c.requires.within c.loop-net.net-index 0 inside in
    let nets : length c.args.nets.now ≡ length c.args.words.now = c.requires.nets in
    let same : length c.loop-net.nets ≡ length c.args.nets.now = c.loop-net.invariant.same in omega arith) in
    record {
      same = ap (λ (row : Row). length row) new_is ∙ (length-set c.loop-net.nets n (bit_value (bit_at (get_or words n 0) c.args.turn)) ∙ c.loop-net.invariant.same);
      told = nets_more words c.args.turn these i n c.loop-net.nets c.set.new.self inside net within new_is c.loop-net.invariant.told;
    }

pub returns-clause-set : goal.returns-clause-set
returns-clause-set c =
    subst (λ (xs : List ℕ). All (λ net. value_at c.loop-net.nets net ≡ value_at (turn_row c.args.words.now c.args.turn) net) xs)
    (take_all c.loop-net.net-index c.args.these.now c.loop-net-test.false) c.loop-net.invariant.told
