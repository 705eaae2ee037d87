use Rattle.std.proofs.Common.{◌≡◌, ◌∙◌, ◌+◌, ◌*◌, ◌<◌, ℕ, List, length, get_or, ap, refl, sym, arith}
use Rattle.std.specs.Int.{bit_at}
use Rattle.std.proofs.lemmas.List.{get_or_default, length-map, length-set, take_all}
use Rattle.ds_base.specs.Values.{Row}
use Rattle.ds_cover.specs.Cover.{value_at, values_at}
use Rattle.ds_cover.specs.Kept.{bit_value}
use Rattle.ds_slices.specs.Turns.{turn_row}
use Rattle.ds_slices.proofs.LineBytes.{byte_more}
use Rattle.ds_slices.proofs.bytes.fill_bytes.Goals as goal

pub loop-i-init : goal.loop-i-init
loop-i-init c = record { size = refl; told = λ k low. refl }

pub loop-i-preserved : goal.loop-i-preserved
loop-i-preserved c =
    let i : ℕ = c.loop-i.i in
    let words : List ℕ = c.args.words.now in
    let nets : List ℕ = c.args.nets.now in
    let size : length c.loop-i.bytes ≡ length c.args.bytes.now = c.loop-i.invariant.size in
    let inside : i < length nets = (let e = c.requires.one_each in omega arith) in
    let net : c.index.result ≡ get_or nets i 0 =
    c.index.ensures ∙ (c.index-nets-i.is ∙ get_or_default nets i c.index-nets-i.result 0 inside) in
    let is : (j : ℕ) → j < 8 → bit_at c.byte_of.result j ≡ bit_at (get_or words (get_or nets i 0) 0) (8 * c.args.block + j) =
    (λ j low. c.byte_of.ensures j low ∙ ap (λ (n : ℕ). bit_at (get_or words n 0) (8 * c.args.block + j)) net) in
    record {
      size = length-set c.loop-i.bytes i c.byte_of.result ∙ size;
      told = λ k low. byte_more words nets c.loop-i.bytes c.args.block k i c.byte_of.result low (omega arith) (size ∙ c.requires.one_each) is (c.loop-i.invariant.told k low);
    }

pub returns-clause-set : goal.returns-clause-set
returns-clause-set c = λ k low.
    let row : Row = turn_row c.args.words.now (8 * c.args.block + k) in
    let size : length c.loop-i.bytes ≡ length c.args.bytes.now = c.loop-i.invariant.size in
    let all : c.loop-i.i ≡ length c.args.bytes.now = omega arith in
    let long : length (turn_row c.loop-i.bytes k) ≡ length c.loop-i.bytes = length-map c.loop-i.bytes (λ (b : ℕ). bit_value (bit_at b k)) in
    let longs : length (values_at row c.args.nets.now) ≡ length c.args.nets.now = length-map c.args.nets.now (value_at row) in
    sym (take_all c.loop-i.i (turn_row c.loop-i.bytes k) (omega arith))
    ∙ (c.loop-i.invariant.told k low ∙ take_all c.loop-i.i (values_at row c.args.nets.now) (let e = c.requires.one_each in omega arith))
