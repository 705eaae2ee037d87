-- What a table of up to three inputs is for all values.
use Rattle.std.proofs.Common.{◌≡◌, ℕ, zero, suc, ◌<◌, ◌≤◌, List, [], ◌∷◌, length, take, get_or, refl, ap, arith, sym, ◌∙◌}
use Rattle.ds_base.specs.Values.{Row}
use Rattle.ds_base.specs.declared.value.Value.{Value}
use Rattle.ds_base.specs.declared.value.Value.TheVariants.{Zero}
use Rattle.ds_cover.specs.Cover.{value_at, values_at}
use Rattle.ds_cover.specs.Bank.{Driven}
use Rattle.ds_cover.specs.Kept.{IsQuick, six_nets}
use Rattle.ds_cover.specs.Packed.{packed_value}
use Rattle.ds_cover.specs.Ternary.{IsWordOf}
use Rattle.ds_cover.specs.Series.{FitsSize}
use Rattle.ds_cover.specs.Small.{IsFolded, Small, WordsFor, ternary_place, value_in_27, values_of_word}
use Rattle.ds_cover.specs.declared.entry.Quick.{Quick}
use Rattle.ds_cover.proofs.TernaryPlaces.{nine_is, three_is, three_low, three_of, word_for}

module _ (quick : Quick) (t : Driven) (small : Small) (word : ℕ) (is_quick : IsQuick quick t.cover) (drives : quick.output ≡ t.output) (is_word : IsWordOf t.cover.masks t.cover.on word) where
  -- the word at three values that begin with those of the inputs
  at_three : (nets : Row) (u v w : Value) → length t.cover.inputs ≤ 3 → take (length t.cover.inputs) (u ∷ v ∷ w ∷ []) ≡ values_at nets t.cover.inputs → value_in_27 word (ternary_place (u ∷ v ∷ w ∷ [])) ≡ packed_value t.cover nets
  at_three nets u v w few own = word_for t word nets (ternary_place (u ∷ v ∷ w ∷ [])) (u ∷ v ∷ w ∷ []) is_word is_quick.single is_quick.reads (three_low u v w) (three_is u v w) (omega arith) own

  module _ (folded : IsFolded 2 quick small) (a b : ℕ) (nets_are : six_nets t.cover.inputs ≡ a ∷ b ∷ b ∷ b ∷ b ∷ b ∷ []) (few : length t.cover.inputs ≤ 3)
      (own : (nets : Row) → take (length t.cover.inputs) (value_at nets a ∷ value_at nets b ∷ value_at nets b ∷ []) ≡ values_at nets t.cover.inputs) where
    two_words : WordsFor (record { small = small; values = values_of_word 2 word }) t
    two_words = record {
      value = λ nets.
          ap (λ (ns : List ℕ). get_or (values_of_word 2 word) (ternary_place (values_at nets ns)) Zero) (folded.nets ∙ ap (take 2) (is_quick.nets_are ∙ nets_are))
          ∙ (nine_is word (value_at nets a) (value_at nets b) ∙ at_three nets (value_at nets a) (value_at nets b) (value_at nets b) few (own nets));
      drives = folded.output ∙ drives;
    }

  of_two : IsFolded 2 quick small → (inputs : List ℕ) → t.cover.inputs ≡ inputs → length inputs ≤ 2 → WordsFor (record { small = small; values = values_of_word 2 word }) t
  of_two folded [] is few = absurd (let some : 0 < length t.cover.inputs = is_quick.some in let none : length t.cover.inputs ≡ 0 = ap length is in omega arith)
  of_two folded (a ∷ []) is few =
      let size : length t.cover.inputs ≡ 1 = ap length is in
      two_words folded a a (ap six_nets is) (omega (size, arith)) (λ nets. ap (λ (ns : List ℕ). take (length ns) (value_at nets a ∷ value_at nets a ∷ value_at nets a ∷ [])) is ∙ sym (ap (values_at nets) is))
  of_two folded (a ∷ b ∷ []) is few =
      let size : length t.cover.inputs ≡ 2 = ap length is in
      two_words folded a b (ap six_nets is) (omega (size, arith)) (λ nets. ap (λ (ns : List ℕ). take (length ns) (value_at nets a ∷ value_at nets b ∷ value_at nets b ∷ [])) is ∙ sym (ap (values_at nets) is))
  of_two folded (a ∷ b ∷ d ∷ rest) is few = absurd (omega arith)

  of_three : IsFolded 3 quick small → (inputs : List ℕ) → t.cover.inputs ≡ inputs → length inputs ≡ 3 → WordsFor (record { small = small; values = values_of_word 3 word }) t
  of_three folded [] is few = absurd (omega arith)
  of_three folded (a ∷ []) is few = absurd (omega arith)
  of_three folded (a ∷ b ∷ []) is few = absurd (omega arith)
  of_three folded (a ∷ b ∷ c ∷ []) is few = record {
    value = λ nets.
        let size : length t.cover.inputs ≡ 3 = ap length is in
        ap (λ (ns : List ℕ). get_or (values_of_word 3 word) (ternary_place (values_at nets ns)) Zero) (folded.nets ∙ ap (take 3) (is_quick.nets_are ∙ ap six_nets is))
        ∙ (three_of word (value_at nets a) (value_at nets b) (value_at nets c)
        ∙ at_three nets (value_at nets a) (value_at nets b) (value_at nets c) (omega (size, arith))
        (ap (λ (ns : List ℕ). take (length ns) (value_at nets a ∷ value_at nets b ∷ value_at nets c ∷ [])) is ∙ sym (ap (values_at nets) is)));
    drives = folded.output ∙ drives;
  }
  of_three folded (a ∷ b ∷ c ∷ d ∷ rest) is few = absurd (omega arith)

pub words_for : (quick : Quick) (t : Driven) (small : Small) (word width : ℕ) → 2 ≤ width → width ≤ 3 → IsQuick quick t.cover → quick.output ≡ t.output → IsFolded width quick small
    → IsWordOf t.cover.masks t.cover.on word → FitsSize width (length t.cover.inputs) → WordsFor (record { small = small; values = values_of_word width word }) t
words_for quick t small word zero low few is_quick drives folded is_word fits = absurd (omega (low, arith))
words_for quick t small word (suc zero) low few is_quick drives folded is_word fits = absurd (omega (low, arith))
words_for quick t small word (suc (suc zero)) low few is_quick drives folded is_word fits = of_two quick t small word is_quick drives is_word folded t.cover.inputs refl fits.0
words_for quick t small word (suc (suc (suc zero))) low few is_quick drives folded is_word fits = of_three quick t small word is_quick drives is_word folded t.cover.inputs refl (fits.1 (omega arith))
words_for quick t small word (suc (suc (suc (suc width)))) low few is_quick drives folded is_word fits = absurd (omega (few, arith))
