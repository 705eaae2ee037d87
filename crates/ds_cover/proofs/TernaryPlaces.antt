-- Places of three values, and what the word of a table has there.
use Rattle.std.proofs.Common.{◌≡◌, ℕ, suc, ◌+◌, ◌*◌, ◌^◌, ◌<◌, ◌≤◌, ◌/◌, ◌%◌, List, [], ◌∷◌, length, take, drop, get_or, set, refl, ap, arith, sym, ◌∙◌}
use Rattle.std.specs.Prelude.{All}
use Rattle.std.proofs.Math.Seq.{drop-cons}
use Rattle.ds_base.specs.Values.{Row}
use Rattle.ds_base.proofs.PackedWords.{code_of-few}
use Rattle.ds_base.specs.declared.value.Value.{Value}
use Rattle.ds_base.specs.declared.value.Value.TheVariants.{Zero, One, Unknown}
use Rattle.ds_cover.specs.Cover.{signed, value_at, values_at}
use Rattle.ds_cover.specs.Bank.{Driven}
use Rattle.ds_cover.specs.Packed.{masks_value, packed_value, words_of_values}
use Rattle.ds_cover.specs.Kept.{IsSingle, singles_value}
use Rattle.ds_cover.specs.Ternary.{IsWordOf, code_value, three_at}
use Rattle.ds_cover.specs.Small.{Small, Worded, after_worded, paired, ternary_place, value_in_27, values_of_word, worded_value}
use Rattle.std.proofs.lemmas.List.FromFn.{get_or-map-range_with_len}
use Rattle.ds_base.specs.Word.{code_of}
use Rattle.ds_cover.proofs.SmallTableWords.{singles_are}

code_is : (u : Value) → code_value (code_of u) ≡ u
code_is Zero = refl
code_is One = refl
code_is Unknown = refl

pub three_low : (u v w : Value) → ternary_place (u ∷ v ∷ w ∷ []) < 27
three_low u v w = (let a = code_of-few u in let b = code_of-few v in let c = code_of-few w in omega arith)

pub three_is : (u v w : Value) → three_at (ternary_place (u ∷ v ∷ w ∷ [])) ≡ u ∷ v ∷ w ∷ []
three_is u v w =
    let place : ℕ = ternary_place (u ∷ v ∷ w ∷ []) in
    let a = code_of-few u in
    let b = code_of-few v in
    let c = code_of-few w in
    let first : ternary_place (u ∷ v ∷ w ∷ []) % 3 ≡ code_of u = omega (a, b, c, arith) in
    let next : ternary_place (u ∷ v ∷ w ∷ []) / 3 % 3 ≡ code_of v = omega (a, b, c, arith) in
    let last : ternary_place (u ∷ v ∷ w ∷ []) / 9 ≡ code_of w = omega (a, b, c, arith) in
    ap (λ (x : Value). x ∷ code_value (place / 3 % 3) ∷ code_value (place / 9) ∷ []) (ap code_value first ∙ code_is u)
    ∙ (ap (λ (x : Value). u ∷ x ∷ code_value (place / 9) ∷ []) (ap code_value next ∙ code_is v)
    ∙ ap (λ (x : Value). u ∷ v ∷ x ∷ []) (ap code_value last ∙ code_is w))

-- the values for two inputs are those for three, the last one repeated
pub nine_is : (word : ℕ) (u v : Value) → get_or (values_of_word 2 word) (ternary_place (u ∷ v ∷ [])) Zero ≡ value_in_27 word (ternary_place (u ∷ v ∷ v ∷ []))
nine_is word Zero Zero = refl
nine_is word Zero One = refl
nine_is word Zero Unknown = refl
nine_is word One Zero = refl
nine_is word One One = refl
nine_is word One Unknown = refl
nine_is word Unknown Zero = refl
nine_is word Unknown One = refl
nine_is word Unknown Unknown = refl

-- those for three stand at their places
pub three_of : (word : ℕ) (u v w : Value) → get_or (values_of_word 3 word) (ternary_place (u ∷ v ∷ w ∷ [])) Zero ≡ value_in_27 word (ternary_place (u ∷ v ∷ w ∷ []))
three_of word u v w = get_or-map-range_with_len (value_in_27 word) 0 27 (ternary_place (u ∷ v ∷ w ∷ [])) (ternary_place (u ∷ v ∷ w ∷ [])) Zero (three_low u v w) (omega arith)

-- the word of a table, where the values of its nets stand at a place, and begin with those of its inputs
pub word_for : (t : Driven) (word : ℕ) (nets : Row) (place : ℕ) (values : Row) → IsWordOf t.cover.masks t.cover.on word → All IsSingle t.cover.masks
    → ((values : Row) → masks_value values One t.cover.masks ≡ masks_value (take (length t.cover.inputs) values) One t.cover.masks)
    → place < 27 → three_at place ≡ values → length values ≤ 64 → take (length t.cover.inputs) values ≡ values_at nets t.cover.inputs
    → code_value (word / 2 ^ (2 * place) % 4) ≡ packed_value t.cover nets
word_for t word nets place values is single reads low at short own =
    is place low
    ∙ (ap (λ vs. signed t.cover.on (singles_value t.cover.masks (words_of_values vs))) at
    ∙ ap (signed t.cover.on) (sym (singles_are t.cover.masks values single short) ∙ (reads values ∙ ap (λ vs. masks_value vs One t.cover.masks) own)))

-- one table of a list with words
pub paired-step : {A W : Type 0} (f : A → W → Worded) (tables : List A) (words : List W) (i : ℕ) (t : A) (w : W) (nets : Row) → i < length tables → length words ≡ length tables
    → t ≡ get_or tables i t → w ≡ get_or words i w
    → after_worded (paired f (drop i tables) (drop i words)) nets
    ≡ after_worded (paired f (drop (i + 1) tables) (drop (i + 1) words)) (set nets (f t w).small.output (worded_value (f t w) nets))
paired-step f tables words i t w nets inside same at at' =
    let here : drop i tables ≡ t ∷ drop (suc i) tables = drop-cons tables i t inside ∙ ap (λ x. x ∷ drop (suc i) tables) (sym at) in
    let there : drop i words ≡ w ∷ drop (suc i) words = drop-cons words i w (omega arith) ∙ ap (λ x. x ∷ drop (suc i) words) (sym at') in
    let m : suc i ≡ i + 1 = omega arith in
    ap (λ ts. after_worded (paired f ts (drop i words)) nets) here
    ∙ (ap (λ ws. after_worded (paired f (t ∷ drop (suc i) tables) ws) nets) there
    ∙ ap (λ n. after_worded (paired f (drop n tables) (drop n words)) (set nets (f t w).small.output (worded_value (f t w) nets))) m)

-- the word of a table of three inputs, by the codes of their values
pub worded_at : (word : ℕ) (small : Small) (nets : Row) (result : Value) (a b c i j k d e f : ℕ) → length small.nets ≡ 3 → i ≡ get_or small.nets 0 d → j ≡ get_or small.nets 1 e → k ≡ get_or small.nets 2 f
    → a ≡ code_of (value_at nets i) → b ≡ code_of (value_at nets j) → c ≡ code_of (value_at nets k) → result ≡ value_in_27 word (a + 3 * b + 9 * c)
    → result ≡ worded_value (record { small = small; values = values_of_word 3 word }) nets
worded_at word small nets result a b c i j k d e f three i-is j-is k-is a-is b-is c-is is =
    is ∙ placed small.nets three i-is j-is k-is
  where
    placed : (ids : List ℕ) → length ids ≡ 3 → i ≡ get_or ids 0 d → j ≡ get_or ids 1 e → k ≡ get_or ids 2 f → value_in_27 word (a + 3 * b + 9 * c) ≡ get_or (values_of_word 3 word) (ternary_place (values_at nets ids)) Zero
    placed [] size x y z = absurd (omega arith)
    placed (p ∷ []) size x y z = absurd (omega arith)
    placed (p ∷ q ∷ []) size x y z = absurd (omega arith)
    placed (p ∷ q ∷ r ∷ []) size x y z =
        let at : a + 3 * b + 9 * c ≡ ternary_place (value_at nets p ∷ value_at nets q ∷ value_at nets r ∷ []) =
        omega (a-is ∙ ap (λ (n : ℕ). code_of (value_at nets n)) x, b-is ∙ ap (λ (n : ℕ). code_of (value_at nets n)) y, c-is ∙ ap (λ (n : ℕ). code_of (value_at nets n)) z, arith) in
        ap (value_in_27 word) at ∙ sym (three_of word (value_at nets p) (value_at nets q) (value_at nets r))
    placed (p ∷ q ∷ r ∷ s ∷ ids) size x y z = absurd (omega arith)
