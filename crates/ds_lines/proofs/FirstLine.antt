-- The first physical line of a text, and its comment.
use Rattle.std.proofs.Common.{◌≡◌, ℕ, zero, suc, ◌+◌, ◌≤◌, Bool, false, List, [], ◌∷◌, length}
use Rattle.std.proofs.Common.{take, drop, refl, sym, ap, ◌∙◌, arith, inl, inr}
use Rattle.std.specs.List.{slice_split, before_first, position_or_len}
use Rattle.std.proofs.lemmas.Bool.{cases_Bool, or_parts}
use Rattle.std.proofs.lemmas.List.{take_all}
use Rattle.ds_lines.specs.Line.{uncommented, is_newline, is_hash}
use Rattle.ds_lines.specs.Draft.{is_stop}
use Rattle.ds_lines.proofs.Split.{split_none}
use Rattle.ds_lines.proofs.FirstLineWords.{first-more, take_one_more}

pub position_le : (p : ℕ → Bool) (text : List ℕ) → position_or_len p text ≤ length text
position_le p [] = omega arith
position_le p (byte ∷ text) = elim (cases_Bool (p byte)) [
  | inl here ↦ (let e : position_or_len p (byte ∷ text) ≡ 0 = rw here refl in omega arith)
  | inr other ↦ (
      let e : position_or_len p (byte ∷ text) ≡ 1 + position_or_len p text = rw other refl in
      let less = position_le p text in omega arith)
]

-- the end of a line stands behind what is before its comment
pub newline_behind : (text : List ℕ) (n : ℕ) → n ≡ position_or_len is_stop text
    → position_or_len is_newline text ≡ n + position_or_len is_newline (drop n text)
newline_behind [] n is = rw is refl
newline_behind (byte ∷ text) n is = elim (cases_Bool (is_stop byte)) [
  | inl stop ↦ (let e : n ≡ 0 = is ∙ rw stop refl in rw e (let z : position_or_len is_newline (byte
      ∷ text) ≡ 0 + position_or_len is_newline (byte ∷ text) = omega arith in z))
  | inr on ↦ (
      let m : ℕ = position_or_len is_stop text in
      let other : is_newline byte ≡ false = (or_parts (is_newline byte) (is_hash byte) on).0 in
      let e : position_or_len is_stop (byte ∷ text) ≡ 1 + m = rw on refl in
      let s : n ≡ suc m = omega arith in
      let at : position_or_len is_newline (byte ∷ text) ≡ 1 + position_or_len is_newline text =
      rw other refl in
      let more = newline_behind text m refl in
      rw s (let z : position_or_len is_newline (byte ∷ text) ≡ suc m + position_or_len is_newline
      (drop m text) = omega arith in z))
]

-- a line of which there is one more byte
line_more : (p : ℕ → Bool) (byte : ℕ) (text : List ℕ) → p byte ≡ false → before_first p (byte
    ∷ text) ≡ byte ∷ before_first p text
line_more p byte text other =
    let e : position_or_len p (byte ∷ text) ≡ 1 + position_or_len p text = rw other refl in
    ap (λ (n : ℕ). take n (byte ∷ text)) e ∙ take_one_more (position_or_len p text) byte text

-- the first line without its comment
pub uncommented_first : (text : List ℕ) → uncommented (before_first is_newline text)
    ≡ before_first is_stop text
uncommented_first [] = refl
uncommented_first (byte ∷ text) = elim (cases_Bool (is_newline byte)) [
  | inl end ↦ (
      let none : before_first is_newline (byte ∷ text) ≡ [] = rw end refl in
      let nothing : before_first is_stop (byte ∷ text) ≡ [] = rw end refl in
      ap uncommented none ∙ sym nothing)
  | inr inside ↦ elim (cases_Bool (is_hash byte)) [
    | inl hash ↦ (
        let some : before_first is_newline (byte ∷ text) ≡ byte ∷ before_first is_newline text =
        line_more is_newline byte text inside in
        let cut : uncommented (byte ∷ before_first is_newline text) ≡ [] = rw hash refl in
        let nothing : before_first is_stop (byte ∷ text) ≡ [] = rw (inside, hash) refl in
        ap uncommented some ∙ (cut ∙ sym nothing))
    | inr plain ↦ (
        let on : is_stop byte ≡ false = rw (inside, plain) refl in
        ap uncommented (line_more is_newline byte text inside)
        ∙ (line_more is_hash byte (before_first is_newline text) plain
        ∙ (ap (λ (l : List ℕ). byte ∷ l) (uncommented_first text)
        ∙ sym (line_more is_stop byte text on))))
  ]
]

-- the start of what is before a comment has none
pub first_take : (text : List ℕ) (n : ℕ) → n ≤ position_or_len is_stop text
    → before_first is_stop (take n text) ≡ take n text
first_take text zero less = refl
first_take [] (suc n) less = refl
first_take (byte ∷ text) (suc n) less = elim (cases_Bool (is_stop byte)) [
  | inl stop ↦ absurd (let e : position_or_len is_stop (byte ∷ text) ≡ 0 = rw stop refl in
      omega arith)
  | inr on ↦ (
      let e : position_or_len is_stop (byte ∷ text) ≡ 1 + position_or_len is_stop text =
      rw on refl in
      let fewer : n ≤ position_or_len is_stop text = omega arith in
      first-more byte (take n text) on ∙ ap (λ (l : List ℕ). byte ∷ l) (first_take text n fewer))
]

-- a text without a second line is its first
pub split_alone : (text : List ℕ) → length text ≤ position_or_len is_newline text
    → slice_split is_newline text ≡ before_first is_newline text ∷ []
split_alone text long = split_none text long ∙ ap (λ (l : List ℕ). l ∷ []) (sym (take_all
    (position_or_len is_newline text) text long))
