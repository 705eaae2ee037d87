-- Names of nets of copies.
use Rattle.std.proofs.Common.{◌≡◌, ◌≢◌, ◌⊎◌, ◌∙◌, inl, inr, ℕ, suc, ◌+◌, ◌-◌, ◌<◌, ◌≤◌, ◌^◌, true, ◌&&◌, ◌||◌, ◌==◌, List, [], ◌∷◌, ◌++◌, length, get_or, take, drop, refl, sym, ap, ap₂, arith, append_assoc}
use Rattle.std.specs.Prelude.{decimal, not, nat_lt}
use Rattle.std.specs.List.{list_all, position_or_len}
use Rattle.std.proofs.lemmas.List.{drop_more, length-append, length-drop, take-append-drop}
use Rattle.std.proofs.Math.Seq.{take-append_seam, take-length}
use Rattle.ds_rows.specs.Number.{is_decimal, is_short_number}
use Rattle.std.specs.Str.{bytes_eq}
use Rattle.std.specs.Str.Parse.{AllDigits, digits_value}
use Rattle.std.proofs.lemmas.Bool.{cases_eq, eq-eqb, ne_eqb, or_cases, or_left, or_right, and_from, cond-true, cond-false, le-ltb, lt-ltb}
use Rattle.std.proofs.lemmas.Fmt.{decimal_injective, decimal_is_IsNumeral, decimal_nonempty, digits_decimal, length-decimal-le}
use Rattle.std.proofs.lemmas.Slice.Eq.{bytes_eq-Decides}
use Rattle.std.proofs.lemmas.Str.Parse.{digit_at, numerals_by_value, tells_digits}
use Rattle.ds_design.specs.declared.design.Net.{Net}
use Rattle.ds_rows.specs.Nets.{net_text}
use Rattle.ds_groups.specs.Copy.{copied, IsOfNoCopy}
use Rattle.ds_groups.specs.Latest.{drives, driven_net, HaveShortCopies}
use Rattle.ds_groups.proofs.Matching.{bool_same}
use Rattle.ds_groups.proofs.Takings.{drives_from, drives_to}

-- without `/`
abbrev pub HasNoSlash : List ℕ → Type 0
HasNoSlash [] = Unit {0}
HasNoSlash (byte ∷ text) = (byte ≢ 47) × HasNoSlash text

digits_plain : (ds : List ℕ) → AllDigits 10 ds → HasNoSlash ds
digits_plain [] all = tt
digits_plain (d ∷ ds) all = (
  λ e. let (low, high) = digit_at (d ∷ ds) 0 all (omega arith) in omega arith,
  digits_plain ds all.1,
)

pub decimal_plain : (n : ℕ) → n < 2 ^ 64 → HasNoSlash (decimal n)
decimal_plain n small = digits_plain (decimal n) (digits_decimal (numerals_by_value (AllDigits 10) tells_digits) n small)

pub split_unique : (xs ys a b : List ℕ) → HasNoSlash xs → HasNoSlash ys → xs ++ 47 ∷ a ≡ ys ++ 47 ∷ b → (xs ≡ ys) × (a ≡ b)
split_unique [] [] a b plain plain_too e = (refl, cc)
split_unique [] (y ∷ ys) a b plain (other, plain_too) e = absurd (other (let h : 47 ≡ y = cc in sym h))
split_unique (x ∷ xs) [] a b (other, plain) plain_too e = absurd (other (let h : x ≡ 47 = cc in h))
split_unique (x ∷ xs) (y ∷ ys) a b (one, plain) (other, plain_too) e =
    let h : x ≡ y = cc in
    let t : xs ++ 47 ∷ a ≡ ys ++ 47 ∷ b = cc in
    let (same, rest) = split_unique xs ys a b plain plain_too t in
    (ap₂ (λ (z : ℕ) (zs : List ℕ). z ∷ zs) h same, rest)

pub one_copy : (j k : ℕ) (a b : List ℕ) → j < 2 ^ 32 → k < 2 ^ 32 → copied j a ≡ copied k b → (decimal j ≡ decimal k) × (a ≡ b)
one_copy j k a b few few_too e = split_unique (decimal j) (decimal k) a b (decimal_plain j (omega arith)) (decimal_plain k (omega arith))
    (sym (append_assoc (decimal j) (47 ∷ []) a) ∙ (e ∙ append_assoc (decimal k) (47 ∷ []) b))

-- the name of a net of a copy
net_copied : (net : Net) → 0 < net.copy → net_text net ≡ copied net.copy net.name
net_copied net above = rw (ne_eqb net.copy 0 (λ e. absurd (omega arith))) refl

net_own : (net : Net) → net.copy ≡ 0 → net_text net ≡ net.name
net_own net zero_so = rw (eq-eqb net.copy 0 zero_so) refl

-- a word by the nets that it names
module _ (nets : List Net) (word : List ℕ) (short : HaveShortCopies nets) where
  own_there : (r : ℕ) → drives nets (record { copy = 0; name = word }) r ≡ true → bytes_eq word (net_text (driven_net nets r)) ≡ true
  own_there r is = (bytes_eq-Decides word (net_text (driven_net nets r))).1
      (ap (λ (n : Net). net_text n) (sym (drives_to nets (record { copy = 0; name = word }) r is)))

  own_or_copied : (r : ℕ) → bytes_eq word (net_text (driven_net nets r)) ≡ true
      → (drives nets (record { copy = 0; name = word }) r ≡ true) ⊎ ((0 < (driven_net nets r).copy) × (word ≡ copied (driven_net nets r).copy (driven_net nets r).name))
  own_or_copied r is =
      let e : word ≡ net_text (driven_net nets r) = (bytes_eq-Decides word (net_text (driven_net nets r))).0 is in
      elim (cases_eq (driven_net nets r).copy 0) [
        | inl main ↦ inl (drives_from nets (record { copy = 0; name = word }) r
            (ap (λ (k : ℕ). record { copy = k; name = (driven_net nets r).name }) main
            ∙ ap (λ (t : List ℕ). record { copy = 0; name = t }) (sym (e ∙ net_own (driven_net nets r) main))))
        | inr other ↦ inr (let h : 0 < (driven_net nets r).copy = omega arith in (h, e ∙ net_copied (driven_net nets r) h))
      ]

  pub named_none : IsOfNoCopy word → (r : ℕ) → drives nets (record { copy = 0; name = word }) r ≡ bytes_eq word (net_text (driven_net nets r))
  named_none none r = bool_same (drives nets (record { copy = 0; name = word }) r) (bytes_eq word (net_text (driven_net nets r)))
      (own_there r)
      (λ is. elim (own_or_copied r is) [
        | inl own ↦ own
        | inr (above, e) ↦ absurd (none (driven_net nets r).copy (driven_net nets r).name above (short r) e)
      ])

  pub named_copied : (copy : ℕ) (name : List ℕ) → 0 < copy → copy < 2 ^ 32 → word ≡ copied copy name → (r : ℕ)
      → (drives nets (record { copy = 0; name = word }) r || drives nets (record { copy = copy; name = name }) r) ≡ bytes_eq word (net_text (driven_net nets r))
  named_copied copy name above few is r = bool_same (drives nets (record { copy = 0; name = word }) r || drives nets (record { copy = copy; name = name }) r) (bytes_eq word (net_text (driven_net nets r)))
      (λ so. elim (or_cases (drives nets (record { copy = 0; name = word }) r) (drives nets (record { copy = copy; name = name }) r) so) [
        | inl own ↦ own_there r own
        | inr other ↦ (bytes_eq-Decides word (net_text (driven_net nets r))).1
            (is ∙ sym (ap (λ (n : Net). net_text n) (drives_to nets (record { copy = copy; name = name }) r other) ∙ net_copied (record { copy = copy; name = name }) above))
      ])
      (λ there. elim (own_or_copied r there) [
        | inl own ↦ or_left (drives nets (record { copy = 0; name = word }) r) (drives nets (record { copy = copy; name = name }) r) own
        | inr (over, e) ↦ (
            let (digits, rest) = one_copy (driven_net nets r).copy copy (driven_net nets r).name name (short r) few (sym e ∙ is) in
            let same : (driven_net nets r).copy ≡ copy = decimal_injective (driven_net nets r).copy copy (let h : (driven_net nets r).copy < 2 ^ 32 = short r in omega arith) (omega arith) digits in
            or_right (drives nets (record { copy = 0; name = word }) r) (drives nets (record { copy = copy; name = name }) r)
            (drives_from nets (record { copy = copy; name = name }) r
            (ap (λ (k : ℕ). record { copy = k; name = (driven_net nets r).name }) same ∙ ap (λ (t : List ℕ). record { copy = copy; name = t }) rest)))
      ])

-- where the first `/` stands
pub slash_place : (xs a : List ℕ) → HasNoSlash xs → position_or_len (λ b. b == 47) (xs ++ 47 ∷ a) ≡ length xs
slash_place [] a plain = refl
slash_place (x ∷ xs) a (other, plain) =
    let h : position_or_len (λ b. b == 47) (xs ++ 47 ∷ a) ≡ length xs = slash_place xs a plain in
    cond-true (not (x == 47)) (1 + position_or_len (λ b. b == 47) (xs ++ 47 ∷ a)) 0 (ap not (ne_eqb x 47 other)) ∙ omega (arith, h)

pub slash_there : (word : List ℕ) → position_or_len (λ b. b == 47) word < length word → get_or word (position_or_len (λ b. b == 47) word) 0 ≡ 47
slash_there [] low = absurd (omega arith)
slash_there (x ∷ xs) low = elim (cases_eq x 47) [
  | inl here ↦ (
      let e : position_or_len (λ b. b == 47) (x ∷ xs) ≡ 0 = cond-false (not (x == 47)) (1 + position_or_len (λ b. b == 47) xs) 0 (ap not (eq-eqb x 47 here)) in
      ap (λ (n : ℕ). get_or (x ∷ xs) n 0) e ∙ here)
  | inr other ↦ (
      let e : position_or_len (λ b. b == 47) (x ∷ xs) ≡ 1 + position_or_len (λ b. b == 47) xs =
      cond-true (not (x == 47)) (1 + position_or_len (λ b. b == 47) xs) 0 (ap not (ne_eqb x 47 other)) in
      let f : position_or_len (λ b. b == 47) (x ∷ xs) ≡ suc (position_or_len (λ b. b == 47) xs) = omega (arith, e) in
      ap (λ (n : ℕ). get_or (x ∷ xs) n 0) f ∙ slash_there xs (omega (arith, f)))
]

-- a word of a copy has its number before its first `/`
pub copied_place : (word name : List ℕ) (copy : ℕ) → copy < 2 ^ 32 → word ≡ copied copy name
    → position_or_len (λ b. b == 47) word ≡ length (decimal copy)
copied_place word name copy few is =
    ap (λ (w : List ℕ). position_or_len (λ b. b == 47) w) (is ∙ append_assoc (decimal copy) (47 ∷ []) name)
    ∙ slash_place (decimal copy) name (decimal_plain copy (omega arith))

pub copied_low : (word name : List ℕ) (copy place : ℕ) → copy < 2 ^ 32 → word ≡ copied copy name → place ≡ position_or_len (λ b. b == 47) word → place < length word
copied_low word name copy place few is at =
    let e : position_or_len (λ b. b == 47) word ≡ length (decimal copy) = copied_place word name copy few is in
    let n : length word ≡ length (decimal copy) + (length name + 1) =
    ap length (is ∙ append_assoc (decimal copy) (47 ∷ []) name) ∙ length-append (decimal copy) (47 ∷ name) ∙ (let h : length (decimal copy) + length (47 ∷ name) ≡ length (decimal copy) + (length name + 1) = omega arith in h) in
    omega (arith, e, n, at)

pub copied_digits : (word name : List ℕ) (copy place : ℕ) → copy < 2 ^ 32 → word ≡ copied copy name → place ≡ position_or_len (λ b. b == 47) word → take place word ≡ decimal copy
copied_digits word name copy place few is at =
    ap₂ (λ (n : ℕ) (w : List ℕ). take n w) (at ∙ copied_place word name copy few is) (is ∙ append_assoc (decimal copy) (47 ∷ []) name)
    ∙ take-append_seam (decimal copy) (47 ∷ name)

-- a word that is cut at its first `/`
pub cut_at : (word : List ℕ) (copy place : ℕ) → place ≡ position_or_len (λ b. b == 47) word → place < length word → take place word ≡ decimal copy
    → word ≡ copied copy (take (length word - (place + 1)) (drop (place + 1) word))
cut_at word copy place at low digits =
    let slash : get_or word place 0 ≡ 47 = ap (λ (n : ℕ). get_or word n 0) at ∙ slash_there word (omega (arith, at)) in
    let rest : take (length word - (place + 1)) (drop (place + 1) word) ≡ drop (place + 1) word =
    ap (λ (n : ℕ). take n (drop (place + 1) word)) (sym (length-drop (place + 1) word)) ∙ take-length (drop (place + 1) word) in
    sym (take-append-drop place word)
    ∙ ap₂ (λ (a b : List ℕ). a ++ b) digits (drop_more word place 0 low ∙ ap (λ (b : ℕ). b ∷ drop (place + 1) word) slash)
    ∙ ap (λ (t : List ℕ). decimal copy ++ 47 ∷ t) (sym rest)
    ∙ sym (append_assoc (decimal copy) (47 ∷ []) (take (length word - (place + 1)) (drop (place + 1) word)))

-- the digits of a copy's number
digits_are : (ds : List ℕ) → AllDigits 10 ds → list_all is_decimal ds ≡ true
digits_are [] all = refl
digits_are (d ∷ ds) all =
    let (low, high) = digit_at (d ∷ ds) 0 all (omega arith) in
    and_from (is_decimal d) (list_all is_decimal ds)
    (and_from (not (nat_lt d 48)) (nat_lt d 58) (ap not (le-ltb d 48 low)) (lt-ltb d 58 (omega arith))) (digits_are ds all.1)

pub short_number : (copy : ℕ) → copy < 2 ^ 32 → is_short_number (decimal copy) ≡ true
short_number copy few =
    and_from (nat_lt 0 (length (decimal copy))) (nat_lt (length (decimal copy)) 11 && list_all is_decimal (decimal copy))
    (lt-ltb 0 (length (decimal copy)) (decimal_nonempty copy (omega arith)))
    (and_from (nat_lt (length (decimal copy)) 11) (list_all is_decimal (decimal copy))
    (lt-ltb (length (decimal copy)) 11 (let h : length (decimal copy) ≤ 10 = length-decimal-le 10 copy (omega arith) (omega arith) (omega arith) in omega arith))
    (digits_are (decimal copy) (digits_decimal (numerals_by_value (AllDigits 10) tells_digits) copy (omega arith))))

pub number_value : (copy : ℕ) → copy < 2 ^ 32 → digits_value 10 (decimal copy) ≡ copy
number_value copy few = (decimal_is_IsNumeral copy (omega arith)).1
