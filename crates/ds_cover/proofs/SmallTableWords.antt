-- The word of a table of few inputs.
use Rattle.std.proofs.Common.{◌≡◌, ◌≢◌, ℕ, ◌-◌, ◌<◌, ◌≤◌, ◌==◌, Bool, true, false, if◌then◌else◌, min, List, [], ◌∷◌, length, take, drop, get_or, map, refl, ap, arith, sym, ◌∙◌, subst}
use Rattle.std.specs.Prelude.{All}
use Rattle.std.specs.Int.RustNames.{bit_and, bit_or}
use Rattle.std.proofs.lemmas.List.{take_all, length-map, take-map}
use Rattle.std.proofs.lemmas.List.Elements.{All-cons, All-head, All-tail}
use Rattle.std.proofs.lemmas.Nat.{and_le_r}
use Rattle.ds_base.specs.Values.{AreKnown, Row, either}
use Rattle.ds_base.specs.declared.value.Value.{Value}
use Rattle.ds_base.specs.declared.value.Value.TheVariants.{Zero, One, Unknown}
use Rattle.ds_cover.specs.Cover.{signed, value_at, values_at}
use Rattle.ds_cover.specs.Packed.{bits_by, contradicted, doubted, mask_value, masks_value, unknown_bit, verdict, words_of_values}
use Rattle.ds_cover.specs.Kept.{AreThree, IsQuick, IsSingle, IsTruth, singles_value, six_nets}
use Rattle.ds_cover.specs.declared.entry.Quick.{Quick}
use Rattle.ds_cover.specs.declared.mask.Mask.{Mask}
use Rattle.ds_cover.specs.declared.value_word.ValueWord.{ValueWord}

-- a value that is zero or one
abbrev Known : Value → Type 0
Known value = value ≢ Unknown

zero_known : Known Zero
zero_known e = cc

one_known : Known One
one_known e = cc

pub either_known : (a b : Value) → Known a → Known b → Known (either a b)
either_known Zero b p q = q
either_known One b p q = one_known
either_known Unknown b p q = absurd (p refl)

pub signed_known : (on : Bool) (a : Value) → Known a → Known (signed on a)
signed_known true a p = p
signed_known false Zero p = one_known
signed_known false One p = zero_known
signed_known false Unknown p = absurd (p refl)

sure_verdict : (c : Bool) → Known (if c then One else Zero)
sure_verdict true = one_known
sure_verdict false = zero_known

pub mask_known : (mask : Mask) (word : ValueWord) → word.unknown ≡ 0 → Known (mask_value mask word)
mask_known mask word none =
    let sure : doubted mask word ≡ 0 = (let e = ap (bit_and (bit_or mask.needs_one mask.needs_zero)) none in let l = and_le_r (bit_or mask.needs_one mask.needs_zero) 0 in omega arith) in
    subst (λ (n : ℕ). Known (verdict (contradicted mask word) n)) (sym sure) (sure_verdict (contradicted mask word == 0))

pub singles_known : (masks : List Mask) (word : ValueWord) → word.unknown ≡ 0 → Known (singles_value masks word)
singles_known [] word none = zero_known
singles_known (mask ∷ masks) word none = either_known (mask_value mask word) (singles_value masks word) (mask_known mask word none) (singles_known masks word none)

pub no_unknowns : (values : Row) → AreKnown values → bits_by unknown_bit values ≡ 0
no_unknowns [] known = refl
no_unknowns (Zero ∷ values) known = (let e = no_unknowns values (All-tail Known Zero values known) in omega arith)
no_unknowns (One ∷ values) known = (let e = no_unknowns values (All-tail Known One values known) in omega arith)
no_unknowns (Unknown ∷ values) known = absurd (All-head Known Unknown values known refl)

-- rows of one mask each, over few values
pub singles_are : (masks : List Mask) (values : Row) → All IsSingle masks → length values ≤ 64 → masks_value values One masks ≡ singles_value masks (words_of_values values)
singles_are [] values single short = refl
singles_are (mask ∷ masks) values single short =
    let head = All-head IsSingle mask masks single in
    let whole : take 64 (drop mask.first values) ≡ values = ap (λ (n : ℕ). take 64 (drop n values)) head.starts ∙ take_all 64 values short in
    let rest = singles_are masks values (All-tail IsSingle mask masks single) short in
    ap (λ (b : Bool). if b then either (mask_value mask (words_of_values (take 64 (drop mask.first values)))) (masks_value values One masks) else masks_value values (mask_value mask (words_of_values (take 64 (drop mask.first values)))) masks) head.ends
    ∙ (ap (λ (r : Row). either (mask_value mask (words_of_values r)) (masks_value values One masks)) whole ∙ ap (either (mask_value mask (words_of_values values))) rest)

-- the six nets begin with the inputs
six_take : (inputs : List ℕ) → 0 < length inputs → length inputs ≤ 6 → take (length inputs) (six_nets inputs) ≡ inputs
six_take [] some few = absurd (omega arith)
six_take (a ∷ []) some few = refl
six_take (a ∷ b ∷ []) some few = refl
six_take (a ∷ b ∷ c ∷ []) some few = refl
six_take (a ∷ b ∷ c ∷ d ∷ []) some few = refl
six_take (a ∷ b ∷ c ∷ d ∷ e ∷ []) some few = refl
six_take (a ∷ b ∷ c ∷ d ∷ e ∷ f ∷ []) some few = refl
six_take (a ∷ b ∷ c ∷ d ∷ e ∷ f ∷ g ∷ rest) some few = absurd (omega arith)

all_six : (n a b c d e f : ℕ) → a < n → b < n → c < n → d < n → e < n → f < n → All (λ net. net < n) (a ∷ b ∷ c ∷ d ∷ e ∷ f ∷ [])
all_six n a b c d e f p q r s t u =
    All-cons (λ net. net < n) a (b ∷ c ∷ d ∷ e ∷ f ∷ []) p (All-cons (λ net. net < n) b (c ∷ d ∷ e ∷ f ∷ []) q (All-cons (λ net. net < n) c (d ∷ e ∷ f ∷ []) r
    (All-cons (λ net. net < n) d (e ∷ f ∷ []) s (All-cons (λ net. net < n) e (f ∷ []) t (All-cons (λ net. net < n) f [] u (λ k g inside. absurd (omega arith)))))))

six_within : (inputs : List ℕ) (n : ℕ) → 0 < length inputs → All (λ net. net < n) inputs → All (λ net. net < n) (six_nets inputs)
six_within inputs n some within =
    let at : (i : ℕ) → get_or inputs (min (length inputs - 1) i) 0 < n = λ i. within (min (length inputs - 1) i) 0 (omega arith) in
    all_six n _ _ _ _ _ _ (at 0) (at 1) (at 2) (at 3) (at 4) (at 5)

-- of three inputs at most, all from the third on are the last one
six_three : (inputs : List ℕ) → length inputs ≤ 3 → AreThree (six_nets inputs)
six_three [] few = (refl, refl, refl)
six_three (a ∷ []) few = (refl, refl, refl)
six_three (a ∷ b ∷ []) few = (refl, refl, refl)
six_three (a ∷ b ∷ c ∷ []) few = (refl, refl, refl)
six_three (a ∷ b ∷ c ∷ d ∷ rest) few = absurd (omega arith)

-- a table of one to six inputs by its word
pub quick_is : (inputs : List ℕ) (masks : List Mask) (on : Bool) (quick : Quick) → 0 < length inputs → length inputs ≤ 6 → All IsSingle masks
    → (quick.at_most_three ≡ true → length inputs ≤ 3)
    → ((values : Row) → masks_value values One masks ≡ masks_value (take (length inputs) values) One masks)
    → IsTruth masks on quick.truth → quick.nets ≡ six_nets inputs → IsQuick quick (record { inputs = inputs; masks = masks; on = on })
quick_is inputs masks on quick some few single small reads truth is = record {
  within = λ nets within. subst (λ (ns : List ℕ). All (λ net. net < length nets) ns) (sym is) (six_within inputs (length nets) some within);
  truth = λ nets known.
      let values = values_at nets quick.nets in
      let six : length values ≡ 6 = length-map quick.nets (value_at nets) ∙ ap (λ (ns : List ℕ). length ns) is in
      let own : take (length inputs) values ≡ values_at nets inputs = take-map (value_at nets) (length inputs) quick.nets
      ∙ ap (map (value_at nets)) (ap (take (length inputs)) is ∙ six_take inputs some few) in
      truth values six known
      ∙ ap (signed on) (sym (singles_are masks values single (omega arith)) ∙ (reads values ∙ ap (λ (r : Row). masks_value r One masks) own));
  three = λ yes. subst AreThree (sym is) (six_three inputs (small yes));
  nets_are = is;
  some = some;
  most = few;
  single = single;
  reads = reads;
}
