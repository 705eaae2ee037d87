-- The values that stand in the words of rows.
use Rattle.std.proofs.Common.{◌≡◌, ◌∙◌, ℕ, zero, suc, ◌+◌, ◌*◌, ◌/◌, ◌%◌, ◌^◌, ◌<◌, ◌≤◌, List, [], ◌∷◌, ◌++◌, length, get_or, map, take, drop, refl, arith, ap, sym}
use Rattle.std.specs.List.{range_with_len}
use Rattle.std.proofs.Math.Nat.{div-div-eq-div-mul, mul-div_cancel, suc-mul, zero-mul}
use Rattle.std.proofs.lemmas.Grind.{pow_more}
use Rattle.std.proofs.lemmas.List.{append-nil, get_or-append-add, get_or-drop, get_or-map, get_or-take, get_or_append_left, length-append, length-map}
use Rattle.std.proofs.lemmas.List.Concat.{flat_map-append}
use Rattle.std.proofs.lemmas.List.FromFn.{get_or-map-range_with_len, length-map-range_with_len, map-range_with_len_more}
use Rattle.std.proofs.lemmas.Nat.{div-mul-add, mod-mul-add}
use Rattle.ds_base.specs.Values.{Row}
use Rattle.ds_base.specs.Word.{code_of, number_of_values, word_of}
use Rattle.ds_base.specs.declared.value.Value.TheVariants.{Zero}
use Rattle.ds_base.proofs.PackedWords.{code_of-few}
use Rattle.ds_cover.specs.Cover.{value_at}
use Rattle.ds_design.specs.Trace.{values_text}
use Rattle.ds_rows.specs.Log.{at_place, value_words}
use Rattle.ds_rows.proofs.RowText.{value_chars, values_text-some}

-- the words of a row
abbrev words_in : ℕ → Row → List ℕ
words_in n row = map (word_of row) (range_with_len 0 n)

-- so many words a row
length-value_words : (n : ℕ) (rows : List Row) → length (value_words n rows) ≡ length rows * n
length-value_words n [] = sym (zero-mul n)
length-value_words n (row ∷ rows) =
    let first : length (words_in n row) ≡ n = length-map-range_with_len (word_of row) 0 n in
    let rest : length (value_words n rows) ≡ length rows * n = length-value_words n rows in
    let step : suc (length rows) * n ≡ length rows * n + n = suc-mul (length rows) n in
    length-append (words_in n row) (value_words n rows) ∙ (let sum : length (words_in n row) + length (value_words n rows) ≡ suc (length rows) * n = omega arith in sum)

-- a value at a place for each row
pub places_long : (n place : ℕ) (words : List ℕ) (rows : List Row) → place < 32 * n → words ≡ value_words n rows
    → length (at_place place rows) ≡ length words / n
places_long n place words rows at is =
    length-map rows (λ row. value_at row place)
    ∙ sym (ap (λ (ws : List ℕ). length ws / n) is ∙ (ap (λ (l : ℕ). l / n) (length-value_words n rows) ∙ mul-div_cancel (length rows) (omega arith)))

-- a word of a row, among the words of all rows
word_at : (n k i : ℕ) (rows : List Row) → i < n → k < length rows → get_or (value_words n rows) (k * n + i) 0 ≡ word_of (get_or rows k []) i
word_at n k i [] low inside = absurd (omega arith)
word_at n zero i (row ∷ rows) low inside =
    let long : length (words_in n row) ≡ n = length-map-range_with_len (word_of row) 0 n in
    let none : 0 * n ≡ 0 = zero-mul n in
    let here : 0 * n + i ≡ i = omega arith in
    ap (λ (j : ℕ). get_or (words_in n row ++ value_words n rows) j 0) here
    ∙ (get_or_append_left (words_in n row) (value_words n rows) 0 i (omega arith)
    ∙ get_or-map-range_with_len (word_of row) 0 n i i 0 low (omega arith))
word_at n (suc k) i (row ∷ rows) low inside =
    let long : length (words_in n row) ≡ n = length-map-range_with_len (word_of row) 0 n in
    let step : suc k * n ≡ k * n + n = suc-mul k n in
    let there : suc k * n + i ≡ length (words_in n row) + (k * n + i) = omega arith in
    ap (λ (j : ℕ). get_or (words_in n row ++ value_words n rows) j 0) there
    ∙ (get_or-append-add (words_in n row) (value_words n rows) (k * n + i) 0
    ∙ word_at n k i rows low (omega arith))

-- a code is the rest of a number that is four times another and the code
code_first : (code more : ℕ) → code ≤ 2 → ((code + 4 * more) % 4 ≡ code) × ((code + 4 * more) / 4 ≡ more)
code_first code more few =
    let split : code + 4 * more ≡ more * 4 + code = omega arith in (
      ap (λ (n : ℕ). n % 4) split ∙ mod-mul-add more 4 code (omega arith),
      ap (λ (n : ℕ). n / 4) split ∙ div-mul-add more 4 code (omega arith),
    )

-- two bits more
four_powers : (j : ℕ) → 2 ^ (2 * suc j) ≡ 4 * 2 ^ (2 * j)
four_powers j =
    let up : 2 * suc j ≡ 2 * j + 1 + 1 = omega arith in
    let one : 2 ^ (2 * j + 1 + 1) ≡ 2 ^ (2 * j + 1) * 2 = pow_more 2 (2 * j + 1) in
    let two : 2 ^ (2 * j + 1) ≡ 2 ^ (2 * j) * 2 = pow_more 2 (2 * j) in
    ap (λ (n : ℕ). 2 ^ n) up ∙ (let e : 2 ^ (2 * j + 1 + 1) ≡ 4 * 2 ^ (2 * j) = omega (one, two, arith) in e)

-- the code of a value in the number of some, 0 behind them
code_in : (values : Row) (j : ℕ) → number_of_values values / 2 ^ (2 * j) % 4 ≡ code_of (get_or values j Zero)
code_in [] zero = refl
code_in [] (suc j) =
    ap (λ (n : ℕ). 0 / n % 4) (four_powers j) ∙ (ap (λ (n : ℕ). n % 4) (sym (div-div-eq-div-mul 0 4 (2 ^ (2 * j)))) ∙ code_in [] j)
code_in (v ∷ values) zero =
    let all : number_of_values (v ∷ values) / 2 ^ (2 * 0) ≡ number_of_values (v ∷ values) =
    (let none : 2 * 0 ≡ 0 = omega arith in ap (λ (n : ℕ). number_of_values (v ∷ values) / 2 ^ n) none ∙ (let e : number_of_values (v ∷ values) / 1 ≡ number_of_values (v ∷ values) = omega arith in e)) in
    ap (λ (n : ℕ). n % 4) all ∙ (code_first (code_of v) (number_of_values values) (code_of-few v)).0
code_in (v ∷ values) (suc j) =
    ap (λ (n : ℕ). number_of_values (v ∷ values) / n % 4) (four_powers j)
    ∙ (ap (λ (n : ℕ). n % 4) (sym (div-div-eq-div-mul (number_of_values (v ∷ values)) 4 (2 ^ (2 * j)))
    ∙ ap (λ (n : ℕ). n / 2 ^ (2 * j)) (code_first (code_of v) (number_of_values values) (code_of-few v)).1)
    ∙ code_in values j)

-- the code of the value at a place, in its word
code_at : (row : Row) (place : ℕ) → word_of row (place / 32) / 2 ^ (2 * (place % 32)) % 4 ≡ code_of (value_at row place)
code_at row place =
    let cut : 32 * (place / 32) + place % 32 ≡ place = omega arith in
    code_in (take 32 (drop (32 * (place / 32)) row)) (place % 32)
    ∙ ap code_of (get_or-take 32 (drop (32 * (place / 32)) row) (place % 32) Zero (omega arith)
    ∙ (get_or-drop (32 * (place / 32)) row (place % 32) Zero ∙ ap (λ (n : ℕ). get_or row n Zero) cut))

-- a value is read from the word of its row, among the words of all rows
pub code_told : (n place k : ℕ) (words : List ℕ) (rows : List Row) → place < 32 * n → k < length words / n → words ≡ value_words n rows
    → get_or words (k * n + place / 32) 0 / 2 ^ (2 * (place % 32)) % 4 ≡ code_of (get_or (at_place place rows) k Zero)
code_told n place k words rows at inside is =
    let long : length (at_place place rows) ≡ length words / n = places_long n place words rows at is in
    let many : length (at_place place rows) ≡ length rows = length-map rows (λ row. value_at row place) in
    ap (λ (ws : List ℕ). get_or ws (k * n + place / 32) 0 / 2 ^ (2 * (place % 32)) % 4) is
    ∙ (ap (λ (w : ℕ). w / 2 ^ (2 * (place % 32)) % 4) (word_at n k (place / 32) rows (omega arith) (omega arith))
    ∙ (code_at (get_or rows k []) place
    ∙ ap code_of (sym (get_or-map (λ row. value_at row place) rows k [] Zero (omega arith)))))

-- all rows are the text of their values
pub all_places : (n place : ℕ) (words : List ℕ) (rows : List Row) (done : ℕ) → place < 32 * n → words ≡ value_words n rows
    → 0 < length words / n → done ≡ length words / n → value_chars (take done (at_place place rows)) ≡ values_text (at_place place rows)
all_places n place words rows done at is some all =
    let long : length (at_place place rows) ≡ length words / n = places_long n place words rows at is in
    ap (λ (k : ℕ). value_chars (take k (at_place place rows))) (all ∙ sym long) ∙ values_text-some (at_place place rows) (omega arith)

-- no rows
pub no_places : (n place : ℕ) (words : List ℕ) (rows : List Row) → place < 32 * n → words ≡ value_words n rows → length words / n ≡ 0
    → values_text [] ≡ values_text (at_place place rows)
no_places n place words rows at is none = ap values_text (sym (empty (at_place place rows) (places_long n place words rows at is ∙ none)))
  where
    empty : (values : Row) → length values ≡ 0 → values ≡ []
    empty [] long = refl
    empty (value ∷ values) long = absurd (omega arith)

-- one row more
pub value_words_more : (n first k : ℕ) (f : ℕ → Row) → value_words n (map f (range_with_len first (k + 1)))
    ≡ value_words n (map f (range_with_len first k)) ++ map (word_of (f (first + k))) (range_with_len 0 n)
value_words_more n first k f =
    ap (value_words n) (map-range_with_len_more f first k (first + k) refl)
    ∙ (flat_map-append (words_in n) (map f (range_with_len first k)) (f (first + k) ∷ [])
    ∙ ap (λ (ws : List ℕ). value_words n (map f (range_with_len first k)) ++ ws) (append-nil (words_in n (f (first + k)))))
