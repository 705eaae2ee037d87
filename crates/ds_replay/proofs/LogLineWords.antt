-- The words of a line.
use Rattle.std.proofs.Common.{◌≡◌, ◌∙◌, ℕ, Bool, true, false, List, None, Some, inl, inr, ap, sym, if◌then◌else◌}
use Rattle.std.specs.Str.Parse.{digits_value}
use Rattle.std.proofs.lemmas.Option.{none-some, same_Some}
use Rattle.std.proofs.lemmas.Bool.{cases_Bool}
use Rattle.ds_replay.specs.Word.{is_firing, second_word, turn_of}

-- what is known where a line has a number
pub number_is : (words : List (List ℕ)) (turn : ℕ) → turn_of words ≡ Some turn → (is_firing words ≡ true) × (digits_value 10 (second_word words) ≡ turn)
number_is words turn e = elim (cases_Bool (is_firing words)) [
  | inl firing ↦ (firing, same_Some _ _ (sym (ap (λ (b : Bool). if b then Some (digits_value 10 (second_word words)) else None) firing) ∙ e))
  | inr not_so ↦ absurd (none-some turn (sym (ap (λ (b : Bool). if b then Some (digits_value 10 (second_word words)) else None) not_so) ∙ e))
]

-- what is known where it has none
pub no_number : (words : List (List ℕ)) → turn_of words ≡ None → is_firing words ≡ false
no_number words e = elim (cases_Bool (is_firing words)) [
  | inl firing ↦ absurd (none-some (digits_value 10 (second_word words))
      (sym e ∙ ap (λ (b : Bool). if b then Some (digits_value 10 (second_word words)) else None) firing))
  | inr not_so ↦ not_so
]
