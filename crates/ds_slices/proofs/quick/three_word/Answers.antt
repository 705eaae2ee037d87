use Rattle.std.proofs.Common.{◌≡◌, ◌∙◌, ◌+◌, ◌*◌, ℕ, List, length, get_or, ap, arith}
use Rattle.std.specs.Int.{bit_at}
use Rattle.std.proofs.lemmas.List.{get_or_default}
use Rattle.ds_cover.specs.Packed.{bits_by}
use Rattle.ds_slices.proofs.PickedBits.{six_bits}
use Rattle.ds_slices.proofs.quick.three_word.Goals as goal

pub returns-then-c-b : goal.returns-then-c-b
returns-then-c-b c = λ k below.
    let words : List ℕ = c.args.words.now in
    let nets : List ℕ = c.args.quick.now.nets in
    let long : length c.args.quick.now.nets ≡ 6 = search in
    let n0 : c.index.result ≡ get_or nets 0 0 = (let one = c.index.ensures in let two = c.index-quick-0.is in let three = get_or_default nets 0 c.index-quick-0.result 0 (omega arith) in cc) in
    let b0 : bit_at (get_or words c.index.result 0) k ≡ bit_at (get_or words (get_or nets 0 0) 0) k = ap (λ (n : ℕ). bit_at (get_or words n 0) k) n0 in
    let n1 : c.index-2.result ≡ get_or nets 1 0 = (let one = c.index-2.ensures in let two = c.index-quick-1.is in let three = get_or_default nets 1 c.index-quick-1.result 0 (omega arith) in cc) in
    let b1 : bit_at (get_or words c.index-2.result 0) k ≡ bit_at (get_or words (get_or nets 1 0) 0) k = ap (λ (n : ℕ). bit_at (get_or words n 0) k) n1 in
    let n2 : c.index-3.result ≡ get_or nets 2 0 = (let one = c.index-3.ensures in let two = c.index-quick-2.is in let three = get_or_default nets 2 c.index-quick-2.result 0 (omega arith) in cc) in
    let b2 : bit_at (get_or words c.index-3.result 0) k ≡ bit_at (get_or words (get_or nets 2 0) 0) k = ap (λ (n : ℕ). bit_at (get_or words n 0) k) n2 in
    let (t3, t4, t5) = c.requires.three in
    let u3 : bit_at (get_or words (get_or nets 3 0) 0) k ≡ bit_at (get_or words (get_or nets 2 0) 0) k = ap (λ (n : ℕ). bit_at (get_or words n 0) k) t3 in
    let u4 : bit_at (get_or words (get_or nets 4 0) 0) k ≡ bit_at (get_or words (get_or nets 2 0) 0) k = ap (λ (n : ℕ). bit_at (get_or words n 0) k) t4 in
    let u5 : bit_at (get_or words (get_or nets 5 0) 0) k ≡ bit_at (get_or words (get_or nets 2 0) 0) k = ap (λ (n : ℕ). bit_at (get_or words n 0) k) t5 in
    let e : get_or words c.index-3.result 0 ≡ get_or words c.index-2.result 0 = c.if-c-b.true in
    let f : bit_at (get_or words c.index-3.result 0) k ≡ bit_at (get_or words c.index-2.result 0) k = ap (λ (w : ℕ). bit_at w k) e in
    let sum = six_bits (λ net. bit_at (get_or words net 0) k) nets long in
    let all : bit_at (get_or words c.index.result 0) k + 62 * bit_at (get_or words c.index-2.result 0) k ≡ bits_by (λ net. bit_at (get_or words net 0) k) nets = omega arith in
    c.two.ensures k below ∙ ap (bit_at c.args.quick.now.truth) all

pub returns-else-c-b : goal.returns-else-c-b
returns-else-c-b c = λ k below.
    let words : List ℕ = c.args.words.now in
    let nets : List ℕ = c.args.quick.now.nets in
    let long : length c.args.quick.now.nets ≡ 6 = search in
    let n0 : c.index.result ≡ get_or nets 0 0 = (let one = c.index.ensures in let two = c.index-quick-0.is in let three = get_or_default nets 0 c.index-quick-0.result 0 (omega arith) in cc) in
    let b0 : bit_at (get_or words c.index.result 0) k ≡ bit_at (get_or words (get_or nets 0 0) 0) k = ap (λ (n : ℕ). bit_at (get_or words n 0) k) n0 in
    let n1 : c.index-2.result ≡ get_or nets 1 0 = (let one = c.index-2.ensures in let two = c.index-quick-1.is in let three = get_or_default nets 1 c.index-quick-1.result 0 (omega arith) in cc) in
    let b1 : bit_at (get_or words c.index-2.result 0) k ≡ bit_at (get_or words (get_or nets 1 0) 0) k = ap (λ (n : ℕ). bit_at (get_or words n 0) k) n1 in
    let n2 : c.index-3.result ≡ get_or nets 2 0 = (let one = c.index-3.ensures in let two = c.index-quick-2.is in let three = get_or_default nets 2 c.index-quick-2.result 0 (omega arith) in cc) in
    let b2 : bit_at (get_or words c.index-3.result 0) k ≡ bit_at (get_or words (get_or nets 2 0) 0) k = ap (λ (n : ℕ). bit_at (get_or words n 0) k) n2 in
    let (t3, t4, t5) = c.requires.three in
    let u3 : bit_at (get_or words (get_or nets 3 0) 0) k ≡ bit_at (get_or words (get_or nets 2 0) 0) k = ap (λ (n : ℕ). bit_at (get_or words n 0) k) t3 in
    let u4 : bit_at (get_or words (get_or nets 4 0) 0) k ≡ bit_at (get_or words (get_or nets 2 0) 0) k = ap (λ (n : ℕ). bit_at (get_or words n 0) k) t4 in
    let u5 : bit_at (get_or words (get_or nets 5 0) 0) k ≡ bit_at (get_or words (get_or nets 2 0) 0) k = ap (λ (n : ℕ). bit_at (get_or words n 0) k) t5 in
    let sum = six_bits (λ net. bit_at (get_or words net 0) k) nets long in
    let all : bit_at (get_or words c.index.result 0) k + 2 * bit_at (get_or words c.index-2.result 0) k + 60 * bit_at (get_or words c.index-3.result 0) k ≡ bits_by (λ net. bit_at (get_or words net 0) k) nets = omega arith in
    c.three.ensures k below ∙ ap (bit_at c.args.quick.now.truth) all
