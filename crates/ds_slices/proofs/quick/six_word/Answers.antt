use Rattle.std.proofs.Common.{◌≡◌, ◌∙◌, ◌+◌, ◌*◌, ℕ, List, length, get_or, ap, arith}
use Rattle.std.specs.Int.{bit_at}
use Rattle.std.proofs.lemmas.List.{get_or_default}
use Rattle.ds_cover.specs.Packed.{bits_by}
use Rattle.ds_slices.proofs.PickedBits.{six_bits}
use Rattle.ds_slices.proofs.quick.six_word.Goals as goal

pub returns-then-inputs-2 : goal.returns-then-inputs-2
returns-then-inputs-2 c = λ k below.
    let words : List ℕ = c.args.words.now in
    let nets : List ℕ = c.args.quick.now.nets in
    let long : length c.args.quick.now.nets ≡ 6 = search in
    let n0 : c.index.result ≡ get_or nets 0 0 = (let one = c.index.ensures in let two = c.index-quick-0.is in let three = get_or_default nets 0 c.index-quick-0.result 0 (omega arith) in cc) in
    let b0 : bit_at (get_or words c.index.result 0) k ≡ bit_at (get_or words (get_or nets 0 0) 0) k = ap (λ (n : ℕ). bit_at (get_or words n 0) k) n0 in
    let n1 : c.index-2.result ≡ get_or nets 1 0 = (let one = c.index-2.ensures in let two = c.index-quick-1.is in let three = get_or_default nets 1 c.index-quick-1.result 0 (omega arith) in cc) in
    let b1 : bit_at (get_or words c.index-2.result 0) k ≡ bit_at (get_or words (get_or nets 1 0) 0) k = ap (λ (n : ℕ). bit_at (get_or words n 0) k) n1 in
    let n2 : c.index-3.result ≡ get_or nets 2 0 = (let one = c.index-3.ensures in let two = c.index-quick-2.is in let three = get_or_default nets 2 c.index-quick-2.result 0 (omega arith) in cc) in
    let b2 : bit_at (get_or words c.index-3.result 0) k ≡ bit_at (get_or words (get_or nets 2 0) 0) k = ap (λ (n : ℕ). bit_at (get_or words n 0) k) n2 in
    let n3 : c.index-4.result ≡ get_or nets 3 0 = (let one = c.index-4.ensures in let two = c.index-quick-3.is in let three = get_or_default nets 3 c.index-quick-3.result 0 (omega arith) in cc) in
    let b3 : bit_at (get_or words c.index-4.result 0) k ≡ bit_at (get_or words (get_or nets 3 0) 0) k = ap (λ (n : ℕ). bit_at (get_or words n 0) k) n3 in
    let n4 : c.index-5.result ≡ get_or nets 4 0 = (let one = c.index-5.ensures in let two = c.index-quick-4.is in let three = get_or_default nets 4 c.index-quick-4.result 0 (omega arith) in cc) in
    let b4 : bit_at (get_or words c.index-5.result 0) k ≡ bit_at (get_or words (get_or nets 4 0) 0) k = ap (λ (n : ℕ). bit_at (get_or words n 0) k) n4 in
    let n5 : c.index-6.result ≡ get_or nets 5 0 = (let one = c.index-6.ensures in let two = c.index-quick-5.is in let three = get_or_default nets 5 c.index-quick-5.result 0 (omega arith) in cc) in
    let b5 : bit_at (get_or words c.index-6.result 0) k ≡ bit_at (get_or words (get_or nets 5 0) 0) k = ap (λ (n : ℕ). bit_at (get_or words n 0) k) n5 in
    let e4 : get_or words c.index-5.result 0 ≡ get_or words c.index-4.result 0 = c.if-inputs.true in
    let e5 : get_or words c.index-6.result 0 ≡ get_or words c.index-4.result 0 = c.if-inputs-2.true in
    let f4 : bit_at (get_or words c.index-5.result 0) k ≡ bit_at (get_or words c.index-4.result 0) k = ap (λ (w : ℕ). bit_at w k) e4 in
    let f5 : bit_at (get_or words c.index-6.result 0) k ≡ bit_at (get_or words c.index-4.result 0) k = ap (λ (w : ℕ). bit_at w k) e5 in
    let sum = six_bits (λ net. bit_at (get_or words net 0) k) nets long in
    let all : bit_at (get_or words c.index.result 0) k + 2 * bit_at (get_or words c.index-2.result 0) k + 4 * bit_at (get_or words c.index-3.result 0) k + 56 * bit_at (get_or words c.index-4.result 0) k ≡ bits_by (λ net. bit_at (get_or words net 0) k) nets = omega arith in
    c.four.ensures k below ∙ ap (bit_at c.args.quick.now.truth) all

pub returns-else-inputs : goal.returns-else-inputs
returns-else-inputs c = λ k below.
    let words : List ℕ = c.args.words.now in
    let nets : List ℕ = c.args.quick.now.nets in
    let long : length c.args.quick.now.nets ≡ 6 = search in
    let n0 : c.index.result ≡ get_or nets 0 0 = (let one = c.index.ensures in let two = c.index-quick-0.is in let three = get_or_default nets 0 c.index-quick-0.result 0 (omega arith) in cc) in
    let b0 : bit_at (get_or words c.index.result 0) k ≡ bit_at (get_or words (get_or nets 0 0) 0) k = ap (λ (n : ℕ). bit_at (get_or words n 0) k) n0 in
    let n1 : c.index-2.result ≡ get_or nets 1 0 = (let one = c.index-2.ensures in let two = c.index-quick-1.is in let three = get_or_default nets 1 c.index-quick-1.result 0 (omega arith) in cc) in
    let b1 : bit_at (get_or words c.index-2.result 0) k ≡ bit_at (get_or words (get_or nets 1 0) 0) k = ap (λ (n : ℕ). bit_at (get_or words n 0) k) n1 in
    let n2 : c.index-3.result ≡ get_or nets 2 0 = (let one = c.index-3.ensures in let two = c.index-quick-2.is in let three = get_or_default nets 2 c.index-quick-2.result 0 (omega arith) in cc) in
    let b2 : bit_at (get_or words c.index-3.result 0) k ≡ bit_at (get_or words (get_or nets 2 0) 0) k = ap (λ (n : ℕ). bit_at (get_or words n 0) k) n2 in
    let n3 : c.index-4.result ≡ get_or nets 3 0 = (let one = c.index-4.ensures in let two = c.index-quick-3.is in let three = get_or_default nets 3 c.index-quick-3.result 0 (omega arith) in cc) in
    let b3 : bit_at (get_or words c.index-4.result 0) k ≡ bit_at (get_or words (get_or nets 3 0) 0) k = ap (λ (n : ℕ). bit_at (get_or words n 0) k) n3 in
    let n4 : c.index-5.result ≡ get_or nets 4 0 = (let one = c.index-5.ensures in let two = c.index-quick-4.is in let three = get_or_default nets 4 c.index-quick-4.result 0 (omega arith) in cc) in
    let b4 : bit_at (get_or words c.index-5.result 0) k ≡ bit_at (get_or words (get_or nets 4 0) 0) k = ap (λ (n : ℕ). bit_at (get_or words n 0) k) n4 in
    let n5 : c.index-6.result ≡ get_or nets 5 0 = (let one = c.index-6.ensures in let two = c.index-quick-5.is in let three = get_or_default nets 5 c.index-quick-5.result 0 (omega arith) in cc) in
    let b5 : bit_at (get_or words c.index-6.result 0) k ≡ bit_at (get_or words (get_or nets 5 0) 0) k = ap (λ (n : ℕ). bit_at (get_or words n 0) k) n5 in
    let sum = six_bits (λ net. bit_at (get_or words net 0) k) nets long in
    let all : bit_at (get_or words c.index.result 0) k + 2 * bit_at (get_or words c.index-2.result 0) k + 4 * bit_at (get_or words c.index-3.result 0) k + 8 * bit_at (get_or words c.index-4.result 0) k + 16 * bit_at (get_or words c.index-5.result 0) k + 32 * bit_at (get_or words c.index-6.result 0) k ≡ bits_by (λ net. bit_at (get_or words net 0) k) nets = omega arith in
    c.six.ensures k below ∙ ap (bit_at c.args.quick.now.truth) all
