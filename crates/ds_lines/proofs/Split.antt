-- The first physical line of a text.
use Rattle.std.proofs.Common.{◌≡◌, ℕ, ◌+◌, ◌-◌, ◌<◌, ◌≤◌, List, [], ◌∷◌}
use Rattle.std.proofs.Common.{length, take, drop, refl, ap, ◌∙◌, arith}
use Rattle.std.proofs.Common.{inl, inr}
use Rattle.std.specs.List.{slice_split, onto_first, position_or_len}
use Rattle.std.proofs.lemmas.List.{take_rest}
use Rattle.std.proofs.lemmas.List.Splits.{slice_split_first, slice_split-cons_no}
use Rattle.std.proofs.lemmas.Bool.{cases_Bool}
use Rattle.ds_lines.specs.Line.{is_newline}

pub split_first : (text : List ℕ) (n : ℕ) → n ≡ position_or_len is_newline text → n < length text
    → slice_split is_newline text ≡ take n text ∷ slice_split is_newline (take (length text -
    (n + 1)) (drop (n + 1) text))
split_first text n is less =
    let less_p : position_or_len is_newline text < length text = omega arith in
    rw (take_rest text (n + 1), is) (slice_split_first is_newline text 0 less_p)

pub split_none : (text : List ℕ) → length text ≤ position_or_len is_newline text
    → slice_split is_newline text ≡ text ∷ []
split_none [] long = refl
split_none (byte ∷ text) long = elim (cases_Bool (is_newline byte)) [
  | inl here ↦ absurd (let e : position_or_len is_newline (byte ∷ text) ≡ 0 = rw here refl in
      omega arith)
  | inr other ↦ (
      let e : position_or_len is_newline (byte ∷ text) ≡ 1 + position_or_len is_newline text =
      rw other refl in
      let less : length text ≤ position_or_len is_newline text = omega arith in
      slice_split-cons_no is_newline byte text other ∙ ap (onto_first byte) (split_none text less))
]
