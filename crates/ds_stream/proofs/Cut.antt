-- What is cut at the end of a line.
use Rattle.std.proofs.Common.{◌≡◌, ◌∙◌, ℕ, zero, suc, ◌+◌, Bool, true, false, List, [], ◌∷◌, ◌++◌, All, length, take, drop, reverse, refl, ap, sym, subst, arith, inl, inr, ◌⊎◌, append_assoc, append-nil, length-append, take_at, drop_at, zero-add}
use Rattle.std.specs.Prelude.{◌||◌}
use Rattle.std.specs.List.{list_any, position_or_len, prefix_len, suffix_len}
use Rattle.std.proofs.lemmas.Bool.{cases_Bool, cond-true, cond-false, false≢true}
use Rattle.std.proofs.lemmas.List.{length-reverse, reverse-append}
use Rattle.std.proofs.lemmas.List.Elements.{All-nil, All-cons, All-head, All-tail, All-append}
use Rattle.std.proofs.lemmas.List.Folds.{list_any-append}
use Rattle.ds_lines.specs.Line.{is_backslash, is_blank, is_end, is_hash, is_joined, kept_len, trimmed, uncommented}

-- only blanks and `\`
abbrev pub AreEnds : List ℕ → Type 0
AreEnds bytes = All (λ b. is_end b ≡ true) bytes

ends-reverse : (bytes : List ℕ) → AreEnds bytes → AreEnds (reverse bytes)
ends-reverse [] ends = ends
ends-reverse (byte ∷ bytes) ends =
    subst AreEnds (sym (reverse-append (byte ∷ []) bytes))
    (All-append (λ b. is_end b ≡ true) (reverse bytes) (byte ∷ []) (ends-reverse bytes (All-tail (λ b. is_end b ≡ true) byte bytes ends))
    (All-cons (λ b. is_end b ≡ true) byte [] (All-head (λ b. is_end b ≡ true) byte bytes ends) (All-nil (λ b. is_end b ≡ true))))

prefix_len-append : (xs ys : List ℕ) → AreEnds xs → prefix_len is_end (xs ++ ys) ≡ length xs + prefix_len is_end ys
prefix_len-append [] ys ends = sym (zero-add _)
prefix_len-append (x ∷ xs) ys ends =
    let more = prefix_len-append xs ys (All-tail (λ b. is_end b ≡ true) x xs ends) in
    cond-true (is_end x) _ 0 (All-head (λ b. is_end b ≡ true) x xs ends) ∙ omega arith

suffix_len-all : (xs : List ℕ) → AreEnds xs → suffix_len is_end xs ≡ length xs
suffix_len-all xs ends =
    let all = prefix_len-append (reverse xs) [] (ends-reverse xs ends) in
    ap (prefix_len is_end) (sym (append-nil (reverse xs))) ∙ all ∙ omega (arith, length-reverse xs)

suffix_len-at : (xs : List ℕ) (y : ℕ) (ys : List ℕ) → is_end y ≡ false → AreEnds ys → suffix_len is_end (xs ++ y ∷ ys) ≡ length ys
suffix_len-at xs y ys kept ends =
    let turned : reverse (xs ++ y ∷ ys) ≡ reverse ys ++ (y ∷ reverse xs) =
    reverse-append xs (y ∷ ys) ∙ ap (λ (zs : List ℕ). zs ++ reverse xs) (reverse-append (y ∷ []) ys) ∙ append_assoc (reverse ys) (y ∷ []) (reverse xs) in
    let none : prefix_len is_end (y ∷ reverse xs) ≡ 0 = cond-false (is_end y) _ 0 kept in
    ap (prefix_len is_end) turned ∙ prefix_len-append (reverse ys) _ (ends-reverse ys ends) ∙ omega (arith, length-reverse ys)

-- bytes are only blanks and `\`, or there is a last other one
pub cut_of : (bytes : List ℕ) → AreEnds bytes ⊎ ((front : List ℕ) × (last : ℕ) × (back : List ℕ) × (bytes ≡ front ++ last ∷ back) × (is_end last ≡ false) × AreEnds back)
cut_of [] = inl (All-nil (λ b. is_end b ≡ true))
cut_of (byte ∷ bytes) = elim (cut_of bytes) [
  | inr cut ↦ (let (front, last, back, is, kept, ends) = cut in inr (byte ∷ front, last, back, ap (λ (l : List ℕ). byte ∷ l) is, kept, ends))
  | inl all ↦ elim (cases_Bool (is_end byte)) [
    | inl end ↦ inl (All-cons (λ b. is_end b ≡ true) byte bytes end all)
    | inr kept ↦ inr ([], byte, bytes, refl, kept, all)
  ]
]

kept_at : (front : List ℕ) (last : ℕ) (back : List ℕ) → is_end last ≡ false → AreEnds back → length (front ++ last ∷ []) ≡ kept_len (front ++ last ∷ back)
kept_at front last back kept ends =
    omega (arith, suffix_len-at front last back kept ends, length-append front (last ∷ back), length-append front (last ∷ []))

pub trimmed_at : (front : List ℕ) (last : ℕ) (back : List ℕ) → is_end last ≡ false → AreEnds back → trimmed (front ++ last ∷ back) ≡ front ++ last ∷ []
trimmed_at front last back kept ends =
    ap (λ (l : List ℕ). take (kept_len (front ++ last ∷ back)) l) (sym (append_assoc front (last ∷ []) back))
    ∙ take_at (front ++ last ∷ []) back (kept_len (front ++ last ∷ back)) (kept_at front last back kept ends)

pub joined_at : (front : List ℕ) (last : ℕ) (back : List ℕ) → is_end last ≡ false → AreEnds back → is_joined (front ++ last ∷ back) ≡ list_any is_backslash back
joined_at front last back kept ends =
    ap (list_any is_backslash) (ap (λ (l : List ℕ). drop (kept_len (front ++ last ∷ back)) l) (sym (append_assoc front (last ∷ []) back))
    ∙ drop_at (front ++ last ∷ []) back (kept_len (front ++ last ∷ back)) (kept_at front last back kept ends))

pub trimmed_ends : (bytes : List ℕ) → AreEnds bytes → trimmed bytes ≡ []
trimmed_ends bytes ends =
    let none : kept_len bytes ≡ 0 = omega (arith, suffix_len-all bytes ends) in
    ap (λ (n : ℕ). take n bytes) none

pub joined_ends : (bytes : List ℕ) → AreEnds bytes → is_joined bytes ≡ list_any is_backslash bytes
joined_ends bytes ends =
    let none : kept_len bytes ≡ 0 = omega (arith, suffix_len-all bytes ends) in
    ap (λ (n : ℕ). list_any is_backslash (drop n bytes)) none

-- ends behind a line
pub trimmed-ends : (line more : List ℕ) → AreEnds more → trimmed (line ++ more) ≡ trimmed line
trimmed-ends line more ends = elim (cut_of line) [
  | inl all ↦ trimmed_ends (line ++ more) (All-append (λ b. is_end b ≡ true) line more all ends) ∙ sym (trimmed_ends line all)
  | inr cut ↦ (let (front, last, back, is, kept, are) = cut in
      subst (λ (l : List ℕ). trimmed (l ++ more) ≡ trimmed l) (sym is)
      (ap trimmed (append_assoc front (last ∷ back) more)
      ∙ (trimmed_at front last (back ++ more) kept (All-append (λ b. is_end b ≡ true) back more are ends)
      ∙ sym (trimmed_at front last back kept are))))
]

pub joined-ends : (line more : List ℕ) → AreEnds more → is_joined (line ++ more) ≡ (is_joined line || list_any is_backslash more)
joined-ends line more ends = elim (cut_of line) [
  | inl all ↦ joined_ends (line ++ more) (All-append (λ b. is_end b ≡ true) line more all ends)
      ∙ (list_any-append is_backslash line more
      ∙ ap (λ (b : Bool). b || list_any is_backslash more) (sym (joined_ends line all)))
  | inr cut ↦ (let (front, last, back, is, kept, are) = cut in
      subst (λ (l : List ℕ). is_joined (l ++ more) ≡ (is_joined l || list_any is_backslash more)) (sym is)
      (ap is_joined (append_assoc front (last ∷ back) more)
      ∙ (joined_at front last (back ++ more) kept (All-append (λ b. is_end b ≡ true) back more are ends)
      ∙ (list_any-append is_backslash back more
      ∙ ap (λ (b : Bool). b || list_any is_backslash more) (sym (joined_at front last back kept are))))))
]

-- bytes with a last other one behind a line
pub trimmed-at : (line front : List ℕ) (last : ℕ) (back : List ℕ) → is_end last ≡ false → AreEnds back → trimmed (line ++ (front ++ last ∷ back)) ≡ (line ++ front) ++ last ∷ []
trimmed-at line front last back kept ends = ap trimmed (sym (append_assoc line front (last ∷ back))) ∙ trimmed_at (line ++ front) last back kept ends

pub joined-at : (line front : List ℕ) (last : ℕ) (back : List ℕ) → is_end last ≡ false → AreEnds back → is_joined (line ++ (front ++ last ∷ back)) ≡ list_any is_backslash back
joined-at line front last back kept ends = ap is_joined (sym (append_assoc line front (last ∷ back))) ∙ joined_at (line ++ front) last back kept ends

pub trimmed_twice : (line : List ℕ) → trimmed (trimmed line) ≡ trimmed line
trimmed_twice line = elim (cut_of line) [
  | inl all ↦ ap trimmed (trimmed_ends line all) ∙ (trimmed_ends [] (All-nil (λ b. is_end b ≡ true)) ∙ sym (trimmed_ends line all))
  | inr cut ↦ (let (front, last, back, is, kept, are) = cut in
      let once : trimmed line ≡ front ++ last ∷ [] = ap trimmed is ∙ trimmed_at front last back kept are in
      ap trimmed once ∙ (trimmed_at front last [] kept (All-nil (λ b. is_end b ≡ true)) ∙ sym once))
]

-- a line without `#` before others
pub uncommented-behind : (line more : List ℕ) → list_any is_hash line ≡ false → uncommented (line ++ more) ≡ line ++ uncommented more
uncommented-behind [] more none = refl
uncommented-behind (byte ∷ line) more none = elim (cases_Bool (is_hash byte)) [
  | inl here ↦ absurd (let h : list_any is_hash (byte ∷ line) ≡ true = rw here refl in false≢true (sym none ∙ h))
  | inr other ↦ (let behind : list_any is_hash line ≡ false = rw other at none in
      let n = position_or_len is_hash (line ++ more) in
      let e : 1 + n ≡ suc n = omega arith in
      rw other (ap (λ (k : ℕ). take k (byte ∷ (line ++ more))) e ∙ ap (λ (l : List ℕ). byte ∷ l) (uncommented-behind line more behind)))
]

-- what does not end a line is no blank
pub no_blank : (byte : ℕ) → is_end byte ≡ false → is_blank byte ≡ false
no_blank byte kept = elim (cases_Bool (is_blank byte)) [
  | inr other ↦ other
  | inl here ↦ absurd (let h : is_end byte ≡ true = rw here refl in false≢true (sym kept ∙ h))
]

pub blank_ends : (byte : ℕ) → is_blank byte ≡ true → is_end byte ≡ true
blank_ends byte blank = rw blank refl

any_front : (p : ℕ → Bool) (n : ℕ) (xs : List ℕ) → list_any p xs ≡ false → list_any p (take n xs) ≡ false
any_front p zero xs none = refl
any_front p (suc n) [] none = refl
any_front p (suc n) (x ∷ xs) none = elim (cases_Bool (p x)) [
  | inl here ↦ absurd (let h : list_any p (x ∷ xs) ≡ true = rw here refl in false≢true (sym none ∙ h))
  | inr other ↦ (let behind : list_any p xs ≡ false = rw other at none in rw other (any_front p n xs behind))
]

-- a front of a line has no more `#`
pub plain_front : (n : ℕ) (line : List ℕ) → list_any is_hash line ≡ false → list_any is_hash (take n line) ≡ false
plain_front n line none = any_front is_hash n line none
