-- Bytes that are taken one by one.
use Rattle.std.proofs.Common.{◌≡◌, ◌∙◌, ℕ, zero, suc, ◌+◌, ◌≤◌, ◌<◌, Bool, true, false, List, [], ◌∷◌, ◌++◌, Some, Result, Ok, Err, length, take, refl, ap, sym, subst, arith, inl, inr, append_assoc}
use Rattle.std.specs.Prelude.{nat_lt, if◌then◌else◌, MatchResult, OnOk}
use Rattle.std.specs.List.{list_any, position_or_len}
use Rattle.std.proofs.lemmas.Bool.{cases_Bool, eqb-true, lt-ltb, false≢true}
use Rattle.ds_lines.specs.Line.{is_hash, is_newline, joins, uncommented, words_in}
use Rattle.ds_stream.specs.Stream.{Behind, Placed, longest, placed_in, placed_of, window}
use Rattle.ds_stream.specs.Alike.{IsLike}
use Rattle.ds_stream.specs.Filling.{TakesLine, Filled, TakesBytes, TellsWhy, with_front, on_text}
use Rattle.ds_stream.proofs.Likeness.{like_window}
use Rattle.ds_stream.specs.declared.fault.NextFault.{NextFault}
use Rattle.ds_stream.specs.declared.fault.NextFault.TheVariants.{Memory, TooLong}

-- before a comment
pub uncommented_hash : (bytes more : List ℕ) → list_any is_hash bytes ≡ false → uncommented (bytes ++ 35 ∷ more) ≡ bytes
uncommented_hash [] more none = refl
uncommented_hash (byte ∷ bytes) more none = elim (cases_Bool (is_hash byte)) [
  | inl here ↦ absurd (let h : list_any is_hash (byte ∷ bytes) ≡ true = rw here refl in false≢true (sym none ∙ h))
  | inr other ↦ (let behind : list_any is_hash bytes ≡ false = rw other at none in
      let n = position_or_len is_hash (bytes ++ 35 ∷ more) in
      let e : 1 + n ≡ suc n = omega arith in
      rw other (ap (λ (k : ℕ). take k (byte ∷ (bytes ++ 35 ∷ more))) e ∙ ap (λ (l : List ℕ). byte ∷ l) (uncommented_hash bytes more behind)))
]

-- the bytes of a line, with a comment or without
abbrev pub seen_line : Bool → List ℕ → List ℕ
seen_line comment bytes = if comment then bytes ++ 35 ∷ [] else bytes

-- what a comment has is nothing to the lines
pub placed_comment : (first : ℕ) (words : List (List ℕ)) (bytes m n : List ℕ) (place lines : ℕ) (text : List ℕ) → list_any is_hash bytes ≡ false
    → placed_in first words (bytes ++ 35 ∷ m) place lines text ≡ placed_in first words (bytes ++ 35 ∷ n) place lines text
unfolding words_in joins
placed_comment first words bytes m n place lines [] none = rw (uncommented_hash bytes m none, uncommented_hash bytes n none) refl
placed_comment first words bytes m n place lines (byte ∷ text) none = elim (cases_Bool (is_newline byte)) [
  | inl newline ↦ rw (newline, uncommented_hash bytes m none, uncommented_hash bytes n none) refl
  | inr other ↦ rw other (
      ap (λ (l : List ℕ). placed_in first words l (place + 1) lines text) (append_assoc bytes (35 ∷ m) (byte ∷ []))
      ∙ (placed_comment first words bytes (m ++ byte ∷ []) (n ++ byte ∷ []) (place + 1) lines text none
      ∙ ap (λ (l : List ℕ). placed_in first words l (place + 1) lines text) (sym (append_assoc bytes (35 ∷ n) (byte ∷ [])))))
]

-- `#` begins a comment, or is in one
pub placed_hash : (first : ℕ) (words : List (List ℕ)) (comment : Bool) (bytes : List ℕ) (place lines : ℕ) (text : List ℕ) → list_any is_hash bytes ≡ false
    → placed_in first words (bytes ++ 35 ∷ []) (place + 1) lines text ≡ placed_in first words (seen_line comment bytes) place lines (35 ∷ text)
placed_hash first words true bytes place lines text none =
    placed_comment first words bytes [] (35 ∷ []) (place + 1) lines text none
    ∙ ap (λ (l : List ℕ). placed_in first words l (place + 1) lines text) (sym (append_assoc bytes (35 ∷ []) (35 ∷ [])))
placed_hash first words false bytes place lines text none = refl

-- a byte in a comment is left out
pub placed_behind_hash : (first : ℕ) (words : List (List ℕ)) (bytes : List ℕ) (place lines byte : ℕ) (text : List ℕ) → list_any is_hash bytes ≡ false → is_newline byte ≡ false
    → placed_in first words (bytes ++ 35 ∷ []) (place + 1) lines text ≡ placed_in first words (bytes ++ 35 ∷ []) place lines (byte ∷ text)
placed_behind_hash first words bytes place lines byte text none other =
    rw other (placed_comment first words bytes [] (byte ∷ []) (place + 1) lines text none
    ∙ ap (λ (l : List ℕ). placed_in first words l (place + 1) lines text) (sym (append_assoc bytes (35 ∷ []) (byte ∷ []))))

-- each line ends at a place or behind it
abbrev pub AreFrom : ℕ → List Placed → Type 0
AreFrom least [] = Unit {0}
AreFrom least (p ∷ ps) = (least ≤ p.behind.place) × AreFrom least ps

placed_of_from : (least first : ℕ) (words : List (List ℕ)) (behind : Behind) (ps : List Placed) → least ≤ behind.place → AreFrom least ps → AreFrom least (placed_of first words behind ++ ps)
placed_of_from least first [] behind ps here are = are
placed_of_from least first (word ∷ words) behind ps here are = (here, are)

last_from : (least first : ℕ) (words : List (List ℕ)) (behind : Behind) → least ≤ behind.place → AreFrom least (placed_of first words behind)
last_from least first [] behind here = tt
last_from least first (word ∷ words) behind here = (here, tt)

are_from : (least first : ℕ) (words : List (List ℕ)) (line : List ℕ) (place lines : ℕ) (text : List ℕ) → least ≤ place
    → AreFrom least (placed_in first words line place lines text)
are_from least first words line place lines [] few = last_from least first (words ++ words_in line) (record { place = place; lines = lines + 1 }) few
are_from least first words line place lines (byte ∷ text) few = elim (cases_Bool (is_newline byte)) [
  | inr other ↦ rw other (are_from least first words (line ++ byte ∷ []) (place + 1) lines text (omega (arith, few)))
  | inl newline ↦ rw newline (elim (cases_Bool (joins line)) [
    | inl yes_joins ↦ rw yes_joins (are_from least first (words ++ words_in line) [] (place + 1) (lines + 1) text (omega (arith, few)))
    | inr ends ↦ rw ends (placed_of_from least first (words ++ words_in line) (record { place = place + 1; lines = lines + 1 })
        (placed_in (lines + 2) [] [] (place + 1) (lines + 1) text) (omega (arith, few))
        (are_from least (lines + 2) [] [] (place + 1) (lines + 1) text (omega (arith, few))))
  ])
]

are_behind : (least first : ℕ) (words : List (List ℕ)) (line : List ℕ) (place lines byte : ℕ) (text : List ℕ) → least ≤ place + 1
    → AreFrom least (placed_in first words line place lines (byte ∷ text))
are_behind least first words line place lines byte text few = elim (cases_Bool (is_newline byte)) [
  | inr other ↦ rw other (are_from least first words (line ++ byte ∷ []) (place + 1) lines text few)
  | inl newline ↦ rw newline (elim (cases_Bool (joins line)) [
    | inl yes_joins ↦ rw yes_joins (are_from least first (words ++ words_in line) [] (place + 1) (lines + 1) text few)
    | inr ends ↦ rw ends (placed_of_from least first (words ++ words_in line) (record { place = place + 1; lines = lines + 1 })
        (placed_in (lines + 2) [] [] (place + 1) (lines + 1) text) few
        (are_from least (lines + 2) [] [] (place + 1) (lines + 1) text few))
  ])
]

pub some_from : (f : Filled) (rest : List ℕ) → 0 < length rest → AreFrom (f.place + 1) (placed_in f.first [] f.line f.place f.lines rest)
some_from f [] some = absurd (omega (arith, some))
some_from f (byte ∷ rest) some = are_behind (f.place + 1) f.first [] f.line f.place f.lines byte rest (omega arith)

-- a window of lines that all end past the longest text, in a text that does
window-past : (width most size count : ℕ) (behind : Behind) (seen : ℕ) (ps : List Placed) → 0 < count → 281474976710656 < size → AreFrom 281474976710657 ps
    → (window width most size count behind seen ps).stop ≡ Some TooLong
window-past width most size zero behind seen ps some long are = absurd (omega (arith, some))
window-past width most size (suc count) behind seen [] some long are =
    let is : nat_lt longest size ≡ true = lt-ltb 281474976710656 size long in rw is refl
window-past width most size (suc count) behind seen (p ∷ ps) some long are =
    let is : nat_lt longest p.behind.place ≡ true = lt-ltb 281474976710656 p.behind.place (omega (arith, are.0)) in rw is refl

pub too_long : (f : Filled) (byte : ℕ) (size : ℕ) (rest : List ℕ) → 0 < f.missing → 281474976710656 ≤ f.place → size ≡ f.place + 1 + length rest
    → (on_text f size (byte ∷ rest)).stop ≡ Some TooLong
too_long f byte size rest some long is =
    window-past f.width f.most size f.missing f.behind f.seen (placed_in f.first [] f.line f.place f.lines (byte ∷ rest)) some (omega (arith, long, is))
    (are_behind 281474976710657 f.first [] f.line f.place f.lines byte rest (omega (arith, long)))

-- a byte in a comment
pub placed_seen : (first : ℕ) (words : List (List ℕ)) (comment : Bool) (bytes : List ℕ) (place lines byte : ℕ) (text : List ℕ) → list_any is_hash bytes ≡ false
    → comment ≡ true → is_newline byte ≡ false
    → placed_in first words (seen_line comment bytes) (place + 1) lines text ≡ placed_in first words (seen_line comment bytes) place lines (byte ∷ text)
placed_seen first words comment bytes place lines byte text none is other = rw is (placed_behind_hash first words bytes place lines byte text none other)

-- a byte is taken where others mean the same
pub like_taken : (f : Filled) (line : List ℕ) (byte size : ℕ) (rest : List ℕ) → is_newline byte ≡ false → IsLike f.width [] line [] (f.line ++ byte ∷ [])
    → on_text (record f { line = line; place = f.place + 1 }) size rest ≡ on_text f size (byte ∷ rest)
like_taken f line byte size rest other like =
    rw other (ap (with_front f.rows) (like_window f.width f.most size f.missing f.behind f.seen f.first [] line [] (f.line ++ byte ∷ []) (f.place + 1) f.lines rest like))

-- a line that joins the next one is taken with its newline
pub join_taken : (f : Filled) (line : List ℕ) (size : ℕ) (rest : List ℕ) → joins f.line ≡ true → IsLike f.width [] line (words_in f.line) []
    → on_text (record f { line = line; place = f.place + 1; lines = f.lines + 1 }) size rest ≡ on_text f size (10 ∷ rest)
join_taken f line size rest yes_joins like =
    rw yes_joins (ap (with_front f.rows) (like_window f.width f.most size f.missing f.behind f.seen f.first [] line (words_in f.line) [] (f.place + 1) (f.lines + 1) rest like))

-- a line that ends is taken with its newline, once its row is given
pub line_taken : (f g : Filled) (u : Unit {0}) (size : ℕ) (rest : List ℕ) → joins f.line ≡ false → TakesLine (Ok u) (record f { place = f.place + 1; lines = f.lines + 1 }) g
    → g.first ≡ f.lines + 1 + 1 → g.line ≡ [] → g.place ≡ f.place + 1 → g.lines ≡ f.lines + 1
    → on_text g size rest ≡ on_text f size (10 ∷ rest)
line_taken f g u size rest ends takes first line place lines =
    let two : f.lines + 2 ≡ f.lines + 1 + 1 = omega arith in
    rw (ends, two) (rw (first, line, place, lines) (takes size (placed_in (f.lines + 1 + 1) [] [] (f.place + 1) (f.lines + 1) rest)))

pub not_newline : (byte : ℕ) → (byte ≡ 10 → ⊥) → is_newline byte ≡ false
not_newline byte other = elim (cases_Bool (is_newline byte)) [
  | inl here ↦ absurd (other (eqb-true byte 10 here))
  | inr none ↦ none
]

pub join_takes : (r : Result (Unit {0}) NextFault) (f g : Filled) → joins f.line ≡ true → OnOk r (IsLike f.width [] g.line (words_in f.line) [])
    → MatchResult r (λ done. g ≡ record f { line = g.line; place = f.place + 1; lines = f.lines + 1 }) (λ why. why ≡ Memory) → TakesBytes r f g (10 ∷ [])
join_takes (Ok done) f g yes_joins like same = λ size rest.
    ap (λ (h : Filled). on_text h size rest) same ∙ join_taken f g.line size rest yes_joins like
join_takes (Err why) f g yes_joins like same = λ size rest is. subst (λ (w : NextFault). TellsWhy w (on_text f size (10 ∷ rest)).stop) (sym same) tt

pub keep_takes : (r : Result (Unit {0}) NextFault) (f g : Filled) (byte : ℕ) → is_newline byte ≡ false → OnOk r (IsLike f.width [] g.line [] (f.line ++ byte ∷ []))
    → MatchResult r (λ done. g ≡ record f { line = g.line; place = f.place + 1 }) (λ why. why ≡ Memory) → TakesBytes r f g (byte ∷ [])
keep_takes (Ok done) f g byte other like same = λ size rest.
    ap (λ (h : Filled). on_text h size rest) same ∙ like_taken f g.line byte size rest other like
keep_takes (Err why) f g byte other like same = λ size rest is. subst (λ (w : NextFault). TellsWhy w (on_text f size (byte ∷ rest)).stop) (sym same) tt
