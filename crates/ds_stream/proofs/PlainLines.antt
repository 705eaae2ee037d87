-- A line of bits alone, which is taken whole.
use Rattle.std.proofs.Common.{◌≡◌, ◌∙◌, ℕ, zero, suc, ◌+◌, ◌-◌, ◌<◌, ◌==◌, true, false, List, [], ◌∷◌, ◌++◌, None, length, take, map, refl, ap, sym, subst, arith, inl, inr, append_assoc, append-nil}
use Rattle.std.specs.Prelude.{nat_lt}
use Rattle.std.specs.List.{list_all, list_any}
use Rattle.std.proofs.lemmas.Bool.{cases_Bool, eq-eqb, eqb-true, false≢true, lt-ltb}
use Rattle.std.proofs.lemmas.List.{length-take-le, take_more}
use Rattle.std.proofs.lemmas.List.Elements.{All-nil}
use Rattle.ds_base.specs.Values.{Row}
use Rattle.ds_lines.specs.Line.{is_blank, is_end, is_hash, is_joined, is_newline, is_some, joins, trimmed, uncommented, words_in, words_of}
use Rattle.ds_rows.specs.Vector.{has_bits, has_width, is_bit, row_of, value_of_character}
use Rattle.ds_stream.specs.Bounded.{fault_under}
use Rattle.ds_stream.specs.Filling.{Filled, on_lines, on_text}
use Rattle.ds_stream.specs.Plain.{IsPlainLine}
use Rattle.ds_stream.specs.Stream.{Placed, placed_in}
use Rattle.ds_stream.proofs.TakenLine.{takes_with}
use Rattle.ds_stream.proofs.Cut.{joined_at, trimmed_at, uncommented-behind}
use Rattle.ds_stream.proofs.TakenBytes.{line_taken}
use Rattle.ds_stream.proofs.WrongWidthLines.{one_word}

-- a byte that parts neither lines nor words
record IsOrdinary (byte : ℕ) : Type 0 where
  pub newline : is_newline byte ≡ false
  pub hash : is_hash byte ≡ false
  pub blank : is_blank byte ≡ false
  pub end : is_end byte ≡ false

ordinary : (byte : ℕ) → is_bit byte ≡ true → IsOrdinary byte
ordinary byte bit = elim (cases_Bool (byte == 48)) [
  | inl here ↦ subst IsOrdinary (sym (eqb-true byte 48 here)) (record { newline = refl; hash = refl; blank = refl; end = refl })
  | inr other ↦ elim (cases_Bool (byte == 49)) [
    | inl here ↦ subst IsOrdinary (sym (eqb-true byte 49 here)) (record { newline = refl; hash = refl; blank = refl; end = refl })
    | inr neither ↦ (let here : (byte == 120) ≡ true = rw (other, neither) at bit in
        subst IsOrdinary (sym (eqb-true byte 120 here)) (record { newline = refl; hash = refl; blank = refl; end = refl }))
  ]
]

bits_cons : (byte : ℕ) (bytes : List ℕ) → list_all is_bit (byte ∷ bytes) ≡ true → (is_bit byte ≡ true) × (list_all is_bit bytes ≡ true)
bits_cons byte bytes bits = elim (cases_Bool (is_bit byte)) [
  | inl bit ↦ (bit, rw bit at bits)
  | inr none ↦ absurd (let e : false ≡ true = rw none at bits in false≢true e)
]

-- bits are passed one by one
placed_bits : (first : ℕ) (words : List (List ℕ)) (line word : List ℕ) (place lines : ℕ) (text : List ℕ) → list_all is_bit word ≡ true
    → placed_in first words (line ++ word) (place + length word) lines text ≡ placed_in first words line place lines (word ++ text)
placed_bits first words line [] place lines text bits =
    let same : place + 0 ≡ place = omega arith in
    ap (λ (l : List ℕ). placed_in first words l (place + 0) lines text) (append-nil line) ∙ ap (λ (p : ℕ). placed_in first words line p lines text) same
placed_bits first words line (byte ∷ word) place lines text bits =
    let (bit, more) = bits_cons byte word bits in
    let next : place + suc (length word) ≡ place + 1 + length word = omega arith in
    rw ((ordinary byte bit).newline) (ap (λ (p : ℕ). placed_in first words (line ++ byte ∷ word) p lines text) next
    ∙ (ap (λ (l : List ℕ). placed_in first words l (place + 1 + length word) lines text) (sym (append_assoc line (byte ∷ []) word))
    ∙ placed_bits first words (line ++ byte ∷ []) word (place + 1) lines text more))

no_hash : (word : List ℕ) → list_all is_bit word ≡ true → list_any is_hash word ≡ false
no_hash [] bits = refl
no_hash (byte ∷ word) bits = let (bit, more) = bits_cons byte word bits in rw ((ordinary byte bit).hash) (no_hash word more)

no_blank_in : (word : List ℕ) → list_all is_bit word ≡ true → list_any is_blank word ≡ false
no_blank_in [] bits = refl
no_blank_in (byte ∷ word) bits = let (bit, more) = bits_cons byte word bits in rw ((ordinary byte bit).blank) (no_blank_in word more)

-- bytes have a last one
last_of : (byte : ℕ) (bytes : List ℕ) → (front : List ℕ) × (last : ℕ) × (byte ∷ bytes ≡ front ++ last ∷ [])
last_of byte [] = ([], byte, refl)
last_of byte (next ∷ bytes) = let (front, last, is) = last_of next bytes in (byte ∷ front, last, ap (λ (l : List ℕ). byte ∷ l) is)

last_bit : (front : List ℕ) (last : ℕ) → list_all is_bit (front ++ last ∷ []) ≡ true → is_bit last ≡ true
last_bit [] last bits = (bits_cons last [] bits).0
last_bit (byte ∷ front) last bits = last_bit front last (bits_cons byte (front ++ last ∷ []) bits).1

-- nothing is cut at its end
uncut : (word : List ℕ) → 0 < length word → list_all is_bit word ≡ true → (trimmed word ≡ word) × (is_joined word ≡ false)
uncut [] some bits = absurd (omega (arith, some))
uncut (byte ∷ bytes) some bits =
    let (front, last, is) = last_of byte bytes in
    let bit = last_bit front last (ap (list_all is_bit) (sym is) ∙ bits) in
    let kept = (ordinary last bit).end in
    let none = All-nil (λ b. is_end b ≡ true) in
    (ap trimmed is ∙ (trimmed_at front last [] kept none ∙ sym is), ap is_joined is ∙ joined_at front last [] kept none)

no_comment_in : (word : List ℕ) → list_all is_bit word ≡ true → uncommented word ≡ word
no_comment_in word bits = ap uncommented (sym (append-nil word)) ∙ (uncommented-behind word [] (no_hash word bits) ∙ append-nil word)

words_bits : (word : List ℕ) → 0 < length word → list_all is_bit word ≡ true → words_in word ≡ word ∷ []
unfolding words_in
words_bits word some bits = ap (λ (l : List ℕ). words_of (trimmed l)) (no_comment_in word bits)
    ∙ (ap words_of (uncut word some bits).0 ∙ one_word word (no_blank_in word bits) some)

joins_bits : (word : List ℕ) → 0 < length word → list_all is_bit word ≡ true → joins word ≡ false
unfolding joins
joins_bits word some bits = ap is_joined (no_comment_in word bits) ∙ (uncut word some bits).1

no_fault : (most width seen : ℕ) (word : List ℕ) → seen < most → 0 < width → length word ≡ width → list_all is_bit word ≡ true → fault_under most width seen (word ∷ []) ≡ None
unfolding has_width has_bits
no_fault most zero seen word few some is bits = absurd (omega (arith, some))
no_fault most (suc w) seen word few some is bits =
    let room : nat_lt seen most ≡ true = lt-ltb seen most few in
    let other : (suc w == 0) ≡ false = grind arith in
    let wide : (length word == suc w) ≡ true = eq-eqb (length word) (suc w) is in
    rw (room, other, wide, bits) refl

row_bits : (width : ℕ) (word : List ℕ) → 0 < width → map value_of_character word ≡ row_of width (word ∷ [])
unfolding row_of
row_bits zero word some = absurd (omega (arith, some))
row_bits (suc w) word some = let other : (suc w == 0) ≡ false = grind arith in rw other refl

-- what is read behind a plain line
abbrev pub behind_plain : Filled → Row → ℕ → Filled
behind_plain f row place = record f {
  rows = f.rows ++ row ∷ [];
  seen = f.seen + 1;
  missing = f.missing - 1;
  behind = record { place = place; lines = f.lines + 1 };
  first = f.lines + 1 + 1;
  line = [];
  place = place;
  lines = f.lines + 1;
}

-- a word and its newline
front_plain : (f : Filled) (bytes : List ℕ) → IsPlainLine f bytes → take (f.width + 1) bytes ≡ take f.width bytes ++ 10 ∷ []
front_plain f bytes plain = take_more bytes f.width 0 plain.whole ∙ ap (λ (b : ℕ). take f.width bytes ++ b ∷ []) plain.newline

-- a word of bits is taken, and then its newline
word_taken : (f : Filled) (row : Row) (word : List ℕ) (size : ℕ) (rest : List ℕ) → 0 < f.missing → f.line ≡ [] → 0 < f.width → f.seen < f.most
    → f.place + f.width < 281474976710656 → length word ≡ f.width → list_all is_bit word ≡ true → row ≡ map value_of_character word
    → on_text (behind_plain f row (f.place + f.width + 1)) size rest ≡ on_text f size (word ++ 10 ∷ rest)
word_taken f row word size rest missing fresh some few room wide bits is =
    let h : Filled = record f { line = word; place = f.place + f.width } in
    let long : 0 < length word = omega (arith, some, wide) in
    let words = words_bits word long bits in
    let none : fault_under f.most f.width f.seen (words_in word) ≡ None = ap (fault_under f.most f.width f.seen) words ∙ no_fault f.most f.width f.seen word few some wide bits in
    let same : row ≡ row_of f.width (words_in word) = is ∙ (row_bits f.width word some ∙ ap (row_of f.width) (sym words)) in
    let g : Filled = behind_plain f row (f.place + f.width + 1) in
    line_taken h g tt size rest (joins_bits word long bits)
    (λ n lines. takes_with (record h { place = f.place + f.width + 1; lines = f.lines + 1 }) row n lines missing (omega (arith, room)) (ap is_some words) none same)
    refl refl refl refl
    ∙ (ap (λ (ps : List Placed). on_lines f size ps)
    (ap (λ (p : ℕ). placed_in f.first [] word p f.lines (10 ∷ rest)) (ap (λ (n : ℕ). f.place + n) (sym wide))
    ∙ (placed_bits f.first [] [] word f.place f.lines (10 ∷ rest) bits
    ∙ ap (λ (l : List ℕ). placed_in f.first [] l f.place f.lines (word ++ 10 ∷ rest)) (sym fresh))))

-- a plain line is taken
pub plain_taken : (f : Filled) (row : Row) (bytes : List ℕ) (place size : ℕ) (rest : List ℕ) → 0 < f.missing → IsPlainLine f bytes → row ≡ map value_of_character (take f.width bytes)
    → place ≡ f.place + f.width + 1
    → on_text (behind_plain f row place) size rest ≡ on_text f size (take (f.width + 1) bytes ++ rest)
plain_taken f row bytes place size rest missing plain is at =
    let word = take f.width bytes in
    let whole = plain.whole in
    let wide : length word ≡ f.width = length-take-le f.width bytes (omega (arith, whole)) in
    ap (λ (p : ℕ). on_text (behind_plain f row p) size rest) at
    ∙ (word_taken f row word size rest missing plain.ready.fresh plain.ready.some plain.ready.few plain.ready.room wide plain.bits is
    ∙ ap (on_text f size) (sym (append_assoc word (10 ∷ []) rest) ∙ ap (λ (l : List ℕ). l ++ rest) (sym (front_plain f bytes plain))))
