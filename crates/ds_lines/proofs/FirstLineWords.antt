-- The words of a text's first line.
use Rattle.std.proofs.Common.{◌≡◌, ℕ, suc, ◌+◌, ◌-◌, ◌<◌, true, false, List, [], ◌∷◌}
use Rattle.std.proofs.Common.{◌++◌, length, take, drop, get_or, refl, sym, ap, ◌∙◌, arith, inl, inr}
use Rattle.std.specs.List.{slice_split, onto_first, filter, before_first, position_or_len}
use Rattle.std.proofs.lemmas.Bool.{cases_Bool, or_parts}
use Rattle.std.proofs.lemmas.List.{append-nil}
use Rattle.std.proofs.Math.Seq.{take-suc}
use Rattle.ds_lines.specs.Line.{words_of, is_blank, is_some}
use Rattle.ds_lines.specs.Draft.{is_stop, ends_word}
use Rattle.ds_lines.proofs.JoinedLines.{split-append, filter-append}

-- a blank before words
pub words_of-blank : (byte : ℕ) (bytes : List ℕ) → is_blank byte ≡ true → words_of (byte ∷ bytes)
    ≡ words_of bytes
words_of-blank byte bytes is = rw is refl

-- a blank behind words
words_of-blank_last : (bytes : List ℕ) (byte : ℕ) → is_blank byte ≡ true → words_of (bytes ++ byte
    ∷ []) ≡ words_of bytes
words_of-blank_last bytes byte is = ap (filter is_some) (split-append is_blank bytes byte [] is)
    ∙ (filter-append (slice_split is_blank bytes) ([] ∷ []) ∙ append-nil (words_of bytes))

-- one blank less at the end
pub words_of-take : (line : List ℕ) (kept d : ℕ) → kept < length line → is_blank
    (get_or line kept d) ≡ true → words_of (take (suc kept) line) ≡ words_of (take kept line)
words_of-take line kept d less is = ap words_of (take-suc line kept d less)
    ∙ words_of-blank_last (take kept line) (get_or line kept d) is

pub take_one_more : (n byte : ℕ) (bytes : List ℕ) → take (1 + n) (byte ∷ bytes) ≡ byte ∷ take n bytes
take_one_more n byte bytes = (let e : 1 + n ≡ suc n = omega arith in
    ap (λ (k : ℕ). take k (byte ∷ bytes)) e)

drop_one_more : (n byte : ℕ) (bytes : List ℕ) → drop (1 + n) (byte ∷ bytes) ≡ drop n bytes
drop_one_more n byte bytes = (let e : 1 + n ≡ suc n = omega arith in
    ap (λ (k : ℕ). drop k (byte ∷ bytes)) e)

-- a first line goes on with a byte that is no end of it
pub first-more : (byte : ℕ) (bytes : List ℕ) → is_stop byte ≡ false → before_first is_stop (byte
    ∷ bytes) ≡ byte ∷ before_first is_stop bytes
first-more byte bytes other =
    let e : position_or_len is_stop (byte ∷ bytes) ≡ 1 + position_or_len is_stop bytes =
    rw other refl in
    ap (λ (n : ℕ). take n (byte ∷ bytes)) e
    ∙ take_one_more (position_or_len is_stop bytes) byte bytes

-- the parts that blanks make of a first line: a word, and what is behind it
abbrev pub Parts : List ℕ → ℕ → Type 0
Parts text n = (parts : List (List ℕ)) × (slice_split is_blank (before_first is_stop text)
    ≡ take n text ∷ parts) × (filter is_some parts ≡ words_of (before_first is_stop (drop n text)))

parts_of-more : (byte : ℕ) (text : List ℕ) → is_stop byte ≡ false → Parts text
    (position_or_len ends_word text) → Parts (byte ∷ text) (position_or_len ends_word (byte ∷ text))
parts_of-more byte text on (parts, is, behind) =
    let line : List ℕ = before_first is_stop text in
    let whole : before_first is_stop (byte ∷ text) ≡ byte ∷ line = first-more byte text on in
    elim (cases_Bool (is_blank byte)) [
      | inl blank ↦ (
          let at : position_or_len ends_word (byte ∷ text) ≡ 0 = rw blank refl in
          let words : words_of (before_first is_stop (byte ∷ text)) ≡ words_of line =
          ap words_of whole ∙ words_of-blank byte line blank in
          let split : slice_split is_blank (byte ∷ line) ≡ [] ∷ slice_split is_blank line =
          rw blank refl in
          rw at ((slice_split is_blank line, ap (slice_split is_blank) whole ∙ split, sym words)))
      | inr other ↦ (
          let n : ℕ = position_or_len ends_word text in
          let at : position_or_len ends_word (byte ∷ text) ≡ 1 + n = rw (other, on) refl in
          let split : slice_split is_blank (byte ∷ line) ≡ onto_first byte
          (slice_split is_blank line) = rw other refl in
          rw at ((
            parts,
            ap (slice_split is_blank) whole ∙ (split ∙ (ap (onto_first byte) is
                ∙ ap (λ (w : List ℕ). w ∷ parts) (sym (take_one_more n byte text)))),
            behind ∙ ap (λ (l : List ℕ). words_of (before_first is_stop l)) (sym
                (drop_one_more n byte text)),
          )))
    ]

parts_of : (text : List ℕ) → Parts text (position_or_len ends_word text)
parts_of [] = ([], refl, refl)
parts_of (byte ∷ text) = elim (cases_Bool (is_stop byte)) [
  | inl stop ↦ (
      let none : before_first is_stop (byte ∷ text) ≡ [] = rw stop refl in
      let at : position_or_len ends_word (byte ∷ text) ≡ 0 = elim (cases_Bool (is_blank byte)) [
        | inl blank ↦ rw blank refl
        | inr other ↦ rw (other, stop) refl
      ] in
      rw at (([], ap (slice_split is_blank) none, sym (ap words_of none))))
  | inr on ↦ parts_of-more byte text on (parts_of text)
]

-- a word that a first line begins with, and what is behind it
pub words_of-first : (text : List ℕ) (n : ℕ) → n ≡ position_or_len ends_word text → 0 < n
    → words_of (before_first is_stop text) ≡ take n text ∷ words_of (before_first is_stop
    (drop n text))
words_of-first [] n is some = absurd (omega arith)
words_of-first (byte ∷ text) n is some =
    let (parts, split, behind) = parts_of (byte ∷ text) in
    let e : n ≡ suc (n - 1) = omega arith in
    let full : is_some (take n (byte ∷ text)) ≡ true =
    ap (λ (k : ℕ). is_some (take k (byte ∷ text))) e in
    ap (filter is_some) (split ∙ ap (λ (k : ℕ). take k (byte ∷ text) ∷ parts) (sym is))
    ∙ (rw full refl ∙ ap (λ (ws : List (List ℕ)). take n (byte ∷ text) ∷ ws) (behind
    ∙ ap (λ (k : ℕ). words_of (before_first is_stop (drop k (byte ∷ text)))) (sym is)))

-- the end of a first line stands behind its first word
pub stop_behind : (text : List ℕ) → position_or_len is_stop text ≡ position_or_len ends_word text
    + position_or_len is_stop (drop (position_or_len ends_word text) text)
stop_behind [] = refl
stop_behind (byte ∷ text) = elim (cases_Bool (ends_word byte)) [
  | inl ends ↦ (let at : position_or_len ends_word (byte ∷ text) ≡ 0 = rw ends refl in
      rw at (let e : position_or_len is_stop (byte ∷ text) ≡ 0 + position_or_len is_stop (byte
      ∷ text) = omega arith in e))
  | inr other ↦ (
      let n : ℕ = position_or_len ends_word text in
      let on : is_stop byte ≡ false = (or_parts (is_blank byte) (is_stop byte) other).1 in
      let at : position_or_len ends_word (byte ∷ text) ≡ 1 + n = rw other refl in
      let here : position_or_len is_stop (byte ∷ text) ≡ 1 + position_or_len is_stop text =
      rw on refl in
      let rest : position_or_len is_stop (drop (1 + n) (byte ∷ text)) ≡ position_or_len is_stop
      (drop n text) = ap (position_or_len is_stop) (drop_one_more n byte text) in
      let more = stop_behind text in
      rw (at, rest) (let e : position_or_len is_stop (byte ∷ text) ≡ 1 + n + position_or_len is_stop
      (drop n text) = omega arith in e))
]
