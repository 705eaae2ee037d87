-- A word for six inputs, folded to that of fewer.
use Rattle.std.proofs.Common.{◌≡◌, ◌≢◌, ℕ, zero, suc, ◌+◌, ◌-◌, ◌*◌, ◌^◌, ◌<◌, ◌≤◌, ◌/◌, ◌%◌, List, [], ◌∷◌, ◌++◌, length, map, take, refl, ap, arith, sym, ◌∙◌, subst, inl, inr}
use Rattle.std.specs.Prelude.{All, replicate}
use Rattle.std.specs.Int.{bit_at}
use Rattle.std.proofs.Math.Nat.{add-mul-div_left, add-mul-mod_self_left, div-div-eq-div-mul, div-eq_of_lt, mod-add-div, mod-lt, mul_assoc}
use Rattle.std.proofs.lemmas.Nat.{pow-add, pow_pos}
use Rattle.std.proofs.lemmas.Bool.{cases_lt}
use Rattle.std.proofs.lemmas.List.{length-map, map-append}
use Rattle.std.proofs.lemmas.List.Elements.{All-append, All-cons, All-head, All-nil, All-tail}
use Rattle.ds_base.specs.Word.{code_of}
use Rattle.ds_base.specs.Values.{AreKnown, Row}
use Rattle.ds_base.specs.declared.value.Value.{Value}
use Rattle.ds_base.specs.declared.value.Value.TheVariants.{Zero, One, Unknown}
use Rattle.ds_cover.specs.Cover.{value_at, values_at}
use Rattle.ds_cover.specs.Bank.{Driven}
use Rattle.ds_cover.specs.Packed.{bits_by, one_bit}
use Rattle.ds_cover.specs.Kept.{IsQuick, bit_value, six_nets}
use Rattle.ds_cover.specs.Small.{IsFolded, Small, StandsFor}
use Rattle.ds_cover.specs.Series.{FitsSize}
use Rattle.ds_cover.specs.declared.entry.Quick.{Quick}
use Rattle.ds_cover.proofs.Bits.{bits_by-within, one_bit-few}
use Rattle.ds_cover.proofs.TablesByRun.{All-unmap}

-- known values have one code and one bit
known_codes : (values : Row) → AreKnown values → bits_by code_of values ≡ bits_by one_bit values
known_codes [] known = refl
known_codes (Zero ∷ values) known = ap (λ (n : ℕ). 0 + 2 * n) (known_codes values (All-tail (λ value. value ≢ Unknown) Zero values known))
known_codes (One ∷ values) known = ap (λ (n : ℕ). 1 + 2 * n) (known_codes values (All-tail (λ value. value ≢ Unknown) One values known))
known_codes (Unknown ∷ values) known = absurd (All-head (λ value. value ≢ Unknown) Unknown values known refl)

-- a bit of a number is that of its lower part
bit_low : (b d r z : ℕ) → bit_at (r + 2 ^ (b + (d + 1)) * z) b ≡ bit_at r b
bit_low b d r z =
    let e : 2 ^ (b + (d + 1)) * z ≡ 2 ^ b * (2 * (2 ^ d * z)) =
    ap (λ (n : ℕ). n * z) (pow-add 2 b (d + 1)) ∙ (mul_assoc (2 ^ b) (2 ^ (d + 1)) z
    ∙ ap (λ (n : ℕ). 2 ^ b * n) (ap (λ (n : ℕ). n * z) (pow-add 2 d 1) ∙ grind (arith))) in
    let f : (r + 2 ^ b * (2 * (2 ^ d * z))) / 2 ^ b ≡ r / 2 ^ b + 2 * (2 ^ d * z) = add-mul-div_left r (2 * (2 ^ d * z)) (pow_pos b) in
    ap (λ (n : ℕ). (r + n) / 2 ^ b % 2) e ∙ (ap (λ (n : ℕ). n % 2) f ∙ add-mul-mod_self_left (r / 2 ^ b) 2 (2 ^ d * z))

-- the lower bits of a folded word are those of the word
fold_low : (b h t y : ℕ) → b < h → bit_at (t % 2 ^ h + 2 ^ h * y) b ≡ bit_at t b
fold_low b h t y low =
    let d : ℕ = h - (b + 1) in
    let e : h ≡ b + (h - (b + 1) + 1) = omega (low, arith) in
    let one : bit_at (t % 2 ^ h + 2 ^ h * y) b ≡ bit_at (t % 2 ^ h) b = ap (λ (n : ℕ). bit_at (t % 2 ^ h + 2 ^ n * y) b) e ∙ bit_low b d (t % 2 ^ h) y in
    let two : bit_at (t % 2 ^ h + 2 ^ h * (t / 2 ^ h)) b ≡ bit_at (t % 2 ^ h) b = ap (λ (n : ℕ). bit_at (t % 2 ^ h + 2 ^ n * (t / 2 ^ h)) b) e ∙ bit_low b d (t % 2 ^ h) (t / 2 ^ h) in
    one ∙ (sym two ∙ ap (λ (n : ℕ). bit_at n b) (mod-add-div t (2 ^ h)))

-- the upper ones are those from a place on
fold_high : (b h k t : ℕ) → bit_at (t % 2 ^ h + 2 ^ h * (t / 2 ^ k)) (h + b) ≡ bit_at t (k + b)
fold_high b h k t =
    let low : t % 2 ^ h / 2 ^ h ≡ 0 = div-eq_of_lt (mod-lt t (pow_pos h)) in
    let own : (t % 2 ^ h + 2 ^ h * (t / 2 ^ k)) / 2 ^ h ≡ t / 2 ^ k = add-mul-div_left (t % 2 ^ h) (t / 2 ^ k) (pow_pos h) ∙ (ap (λ (n : ℕ). n + t / 2 ^ k) low ∙ omega arith) in
    ap (λ (n : ℕ). (t % 2 ^ h + 2 ^ h * (t / 2 ^ k)) / n % 2) (pow-add 2 h b)
    ∙ (ap (λ (n : ℕ). n % 2) (sym (div-div-eq-div-mul (t % 2 ^ h + 2 ^ h * (t / 2 ^ k)) (2 ^ h) (2 ^ b)) ∙ (ap (λ (n : ℕ). n / 2 ^ b) own ∙ div-div-eq-div-mul t (2 ^ k) (2 ^ b)))
    ∙ ap (λ (n : ℕ). t / n % 2) (sym (pow-add 2 k b)))

pub bits_append : (xs ys : Row) → bits_by one_bit (xs ++ ys) ≡ bits_by one_bit xs + 2 ^ length xs * bits_by one_bit ys
bits_append [] ys = omega arith
bits_append (x ∷ xs) ys =
    let n : ℕ = bits_by one_bit ys in
    let double : 2 ^ suc (length xs) ≡ 2 * 2 ^ length xs = omega arith in
    let rest : 2 ^ suc (length xs) * bits_by one_bit ys ≡ 2 * (2 ^ length xs * bits_by one_bit ys) = ap (λ m. m * n) double ∙ mul_assoc 2 (2 ^ length xs) n in
    ap (λ m. one_bit x + 2 * m) (bits_append xs ys) ∙ omega (rest, arith)

All-map : {A B : Type 0} (f : A → B) (P : B → Type 0) (xs : List A) → All (λ x. P (f x)) xs → All P (map f xs)
All-map f P [] all = All-nil P
All-map f P (x ∷ xs) all = All-cons P (f x) (map f xs) (All-head (λ x. P (f x)) x xs all) (All-map f P xs (All-tail (λ x. P (f x)) x xs all))

All-replicate : {A : Type 0} (P : A → Type 0) (x : A) → P x → (m : ℕ) → All P (replicate m x)
All-replicate P x is zero = All-nil P
All-replicate P x is (suc m) = All-cons P x (replicate m x) is (All-replicate P x is m)

map-replicate : {A B : Type 0} (f : A → B) (x : A) (m : ℕ) → map f (replicate m x) ≡ replicate m (f x)
map-replicate f x zero = refl
map-replicate f x (suc m) = ap (λ ys. f x ∷ ys) (map-replicate f x m)

-- it is the table, where it reads some inputs and one that is the last of six again and again
module _ (quick : Quick) (t : Driven) (small : Small) (is_quick : IsQuick quick t.cover) (drives : quick.output ≡ t.output) (xs : List ℕ) (x m h : ℕ)
    (output : small.output ≡ quick.output) (truth : small.truth ≡ quick.truth % 2 ^ h + 2 ^ h * (quick.truth / 2 ^ (64 - h))) (own : small.nets ≡ xs ++ x ∷ []) (six : quick.nets ≡ xs ++ replicate m x)
    (half : 2 ^ length xs ≡ h) (zeros : bits_by one_bit (replicate m Zero) ≡ 0) (ones : h * bits_by one_bit (replicate m One) ≡ 64 - h)
    (each : (P : ℕ → Type 0) → All P t.cover.inputs → All P xs × P x) where
  bit_is : (low : ℕ) (v : Value) → low < h → v ≢ Unknown → bit_at small.truth (low + h * bits_by one_bit (v ∷ [])) ≡ bit_at quick.truth (low + h * bits_by one_bit (replicate m v))
  bit_is low Zero inside known =
      let here : low + h * 0 ≡ low = grind (arith) in
      ap (bit_at small.truth) here ∙ (ap (λ n. bit_at n low) truth ∙ (fold_low low h quick.truth (quick.truth / 2 ^ (64 - h)) inside
      ∙ ap (bit_at quick.truth) (sym (ap (λ n. low + h * n) zeros ∙ here))))
  bit_is low One inside known =
      let here : low + h * 1 ≡ h + low = grind (arith) in
      let there : 64 - h + low ≡ low + h * bits_by one_bit (replicate m One) = omega (ones, arith) in
      ap (bit_at small.truth) here ∙ (ap (λ n. bit_at n (h + low)) truth ∙ (fold_high low h (64 - h) quick.truth ∙ ap (bit_at quick.truth) there))
  bit_is low Unknown inside known = absurd (known refl)

  module _ (nets : Row) (all : AreKnown (values_at nets t.cover.inputs)) where
    abbrev vs : Row
    vs = values_at nets xs

    abbrev v : Value
    v = value_at nets x

    known : AreKnown (values_at nets xs) × value_at nets x ≢ Unknown
    known =
        let (these, this) = each (λ net. value_at nets net ≢ Unknown) (All-unmap (value_at nets) (λ value. value ≢ Unknown) t.cover.inputs all) in
        (All-map (value_at nets) (λ value. value ≢ Unknown) xs these, this)

    few : AreKnown (vs ++ v ∷ [])
    few = All-append (λ value. value ≢ Unknown) vs (v ∷ []) known.0 (All-cons (λ value. value ≢ Unknown) v [] known.1 (All-nil (λ value. value ≢ Unknown)))

    many : AreKnown (vs ++ replicate m v)
    many = All-append (λ value. value ≢ Unknown) vs (replicate m v) known.0 (All-replicate (λ value. value ≢ Unknown) v known.1 m)

    few_are : values_at nets small.nets ≡ vs ++ v ∷ []
    few_are = ap (values_at nets) own ∙ map-append (value_at nets) xs (x ∷ [])

    many_are : values_at nets quick.nets ≡ vs ++ replicate m v
    many_are = ap (values_at nets) six ∙ (map-append (value_at nets) xs (replicate m x) ∙ ap (λ (ws : Row). vs ++ ws) (map-replicate (value_at nets) x m))

    high : 2 ^ length vs ≡ h
    high = ap (λ n. 2 ^ n) (length-map xs (value_at nets)) ∙ half

    inside : bits_by one_bit vs < h
    inside = (let low : bits_by one_bit vs < 2 ^ length vs = bits_by-within one_bit one_bit-few vs (length vs) (omega arith) in subst (λ n. bits_by one_bit vs < n) high low)

    few_bits : bits_by code_of (values_at nets small.nets) ≡ bits_by one_bit vs + h * bits_by one_bit (v ∷ [])
    few_bits = ap (bits_by code_of) few_are ∙ (known_codes (vs ++ v ∷ []) few ∙ (bits_append vs (v ∷ []) ∙ ap (λ n. bits_by one_bit vs + n * bits_by one_bit (v ∷ [])) high))

    many_bits : bits_by one_bit (values_at nets quick.nets) ≡ bits_by one_bit vs + h * bits_by one_bit (replicate m v)
    many_bits = ap (bits_by one_bit) many_are ∙ (bits_append vs (replicate m v) ∙ ap (λ n. bits_by one_bit vs + n * bits_by one_bit (replicate m v)) high)

    value_is : bit_value (bit_at small.truth (bits_by code_of (values_at nets small.nets))) ≡ bit_value (bit_at quick.truth (bits_by one_bit (values_at nets quick.nets)))
    value_is = ap bit_value (ap (bit_at small.truth) few_bits ∙ (bit_is (bits_by one_bit vs) v inside known.1 ∙ ap (bit_at quick.truth) (sym many_bits)))

  stands : StandsFor small t
  stands = record {
    within = λ count within.
        let (these, this) = each (λ net. net < count) within in
        subst (λ ns. All (λ net. net < count) ns) (sym own) (All-append (λ net. net < count) xs (x ∷ []) these (All-cons (λ net. net < count) x [] this (All-nil (λ net. net < count))));
    value = λ nets all. value_is nets all ∙ is_quick.truth nets (subst AreKnown (sym (many_are nets all)) (many nets all));
    drives = output ∙ drives;
  }

-- some items and the one behind them
each_of : (inputs xs : List ℕ) (x : ℕ) → inputs ≡ xs ++ x ∷ [] → (P : ℕ → Type 0) → All P inputs → All P xs × P x
each_of inputs xs x is P all = split xs (subst (All P) is all)
  where
    split : (ys : List ℕ) → All P (ys ++ x ∷ []) → All P ys × P x
    split [] all = (All-nil P, All-head P x [] all)
    split (y ∷ ys) all =
        let (these, this) = split ys (All-tail P y (ys ++ x ∷ []) all) in
        (All-cons P y ys (All-head P y (ys ++ x ∷ []) all) these, this)

width_two : (width n : ℕ) → 2 ≤ width → FitsSize width n → n ≤ 2 → width ≡ 2
width_two width n low fits few = elim (cases_lt 2 width) [
  | inl wide ↦ absurd (let e = fits.1 wide in omega (e, wide, few, arith))
  | inr is ↦ omega (is, low, arith)
]

pub stands_for : (quick : Quick) (t : Driven) (small : Small) (width : ℕ) → 2 ≤ width → width ≤ 6 → IsQuick quick t.cover → quick.output ≡ t.output → IsFolded width quick small
    → FitsSize width (length t.cover.inputs) → StandsFor small t
stands_for quick t small width low most is_quick drives folded fits = by_inputs t.cover.inputs refl
  where
    six : quick.nets ≡ six_nets t.cover.inputs
    six = is_quick.nets_are

    at : (w : ℕ) → width ≡ w → IsFolded w quick small
    at w is = subst (λ (n : ℕ). IsFolded n quick small) is folded

    wide : (n : ℕ) → length t.cover.inputs ≡ n → 2 < n → IsFolded n quick small
    wide n is many = at n (let f = fits.0 in let e = fits.1 (omega (fits.0, is, many, arith)) in omega (e, is, arith))

    by_inputs : (inputs : List ℕ) → t.cover.inputs ≡ inputs → StandsFor small t
    by_inputs [] is = absurd (let some : 0 < length t.cover.inputs = is_quick.some in let none : length t.cover.inputs ≡ 0 = ap length is in omega arith)
    by_inputs (a ∷ []) is =
        let f = at 2 (width_two width (length t.cover.inputs) low fits (let n : length t.cover.inputs ≡ 1 = ap length is in omega (n, arith))) in
        stands quick t small is_quick drives (a ∷ []) a 5 2 f.output f.truth (f.nets ∙ ap (take 2) (six ∙ ap six_nets is)) (six ∙ ap six_nets is) refl refl refl
        (λ P all. let one : All P (a ∷ []) = subst (All P) is all in (one, All-head P a [] one))
    by_inputs (a ∷ b ∷ []) is =
        let f = at 2 (width_two width (length t.cover.inputs) low fits (let n : length t.cover.inputs ≡ 2 = ap length is in omega (n, arith))) in
        stands quick t small is_quick drives (a ∷ []) b 5 2 f.output f.truth (f.nets ∙ ap (take 2) (six ∙ ap six_nets is)) (six ∙ ap six_nets is) refl refl refl (each_of t.cover.inputs (a ∷ []) b is)
    by_inputs (a ∷ b ∷ c ∷ []) is =
        let f = wide 3 (ap length is) (omega arith) in
        stands quick t small is_quick drives (a ∷ b ∷ []) c 4 4 f.output f.truth (f.nets ∙ ap (take 3) (six ∙ ap six_nets is)) (six ∙ ap six_nets is) refl refl refl (each_of t.cover.inputs (a ∷ b ∷ []) c is)
    by_inputs (a ∷ b ∷ c ∷ d ∷ []) is =
        let f = wide 4 (ap length is) (omega arith) in
        stands quick t small is_quick drives (a ∷ b ∷ c ∷ []) d 3 8 f.output f.truth (f.nets ∙ ap (take 4) (six ∙ ap six_nets is)) (six ∙ ap six_nets is) refl refl refl (each_of t.cover.inputs (a ∷ b ∷ c ∷ []) d is)
    by_inputs (a ∷ b ∷ c ∷ d ∷ e ∷ []) is =
        let f = wide 5 (ap length is) (omega arith) in
        stands quick t small is_quick drives (a ∷ b ∷ c ∷ d ∷ []) e 2 16 f.output f.truth (f.nets ∙ ap (take 5) (six ∙ ap six_nets is)) (six ∙ ap six_nets is) refl refl refl (each_of t.cover.inputs (a ∷ b ∷ c ∷ d ∷ []) e is)
    by_inputs (a ∷ b ∷ c ∷ d ∷ e ∷ g ∷ []) is =
        let f = wide 6 (ap length is) (omega arith) in
        stands quick t small is_quick drives (a ∷ b ∷ c ∷ d ∷ e ∷ []) g 1 32 f.output f.truth (f.nets ∙ ap (take 6) (six ∙ ap six_nets is)) (six ∙ ap six_nets is) refl refl refl (each_of t.cover.inputs (a ∷ b ∷ c ∷ d ∷ e ∷ []) g is)
    by_inputs (a ∷ b ∷ c ∷ d ∷ e ∷ g ∷ k ∷ rest) is = absurd (let n : length t.cover.inputs ≡ length (a ∷ b ∷ c ∷ d ∷ e ∷ g ∷ k ∷ rest) = ap length is in let f = fits.0 in omega (n, f, most, arith))
