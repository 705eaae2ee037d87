-- The rows of a latch, piece by piece.
use Rattle.std.proofs.Common.{◌≡◌, ◌∙◌, ℕ, zero, suc, ◌+◌, ◌*◌, ◌/◌, ◌%◌, ◌<◌, List, [], ◌∷◌, ◌++◌, length, map, drop, get_or, refl, arith, ap, sym}
use Rattle.std.specs.List.{range_with_len}
use Rattle.std.proofs.lemmas.List.{append_assoc, append-nil, get_or-drop, get_or-take, map-append, take-take}
use Rattle.std.proofs.lemmas.List.FromFn.{length-map-range_with_len, map-range_with_len_more}
use Rattle.std.proofs.lemmas.Simd.{map-map}
use Rattle.ds_base.specs.Values.{Row}
use Rattle.ds_base.specs.Word.{number_of_values, word_of}
use Rattle.ds_base.specs.declared.value.Value.{Value}
use Rattle.ds_base.specs.declared.value.Value.TheVariants.{Zero}
use Rattle.ds_cover.specs.Cover.{value_at}
use Rattle.ds_design.specs.Trace.{value_text, values_text}
use Rattle.ds_rows.specs.Log.{at_place, value_words}
use Rattle.ds_rows.proofs.ValueWords.{value_words_more}
use Rattle.ds_rule.specs.Run.{Run}
use Rattle.ds_rule.specs.Words.{value, node_values}
use Rattle.ds_run.specs.LatchRows.{word_values}

-- a word of a value is that of its part
value-part : (run : Run) (l i k : ℕ) → value run l k i ≡ word_of (word_values run l i k) 0
unfolding value
value-part run l i k = ap number_of_values
    (sym (take-take 32 32 (drop (32 * i) (node_values run l k)) (omega arith)))

-- one word more
pub words_more : (run : Run) (l i from n w : ℕ) (words : List ℕ) → w ≡ value run l (from + n + 1) i
    → words ≡ value_words 1 (map (word_values run l i) (range_with_len (from + 1) n))
    → words ++ w ∷ []
    ≡ value_words 1 (map (word_values run l i) (range_with_len (from + 1) (n + 1)))
words_more run l i from n w words is so_far = let k : from + n + 1 ≡ from + 1 + n = omega arith in
    ap (λ (xs : List ℕ). xs ++ w ∷ []) so_far
    ∙ (ap (λ (x : ℕ). value_words 1 (map (word_values run l i) (range_with_len (from + 1) n)) ++ x ∷ [])
    (is ∙ (value-part run l i (from + n + 1)
    ∙ ap (λ (m : ℕ). word_of (word_values run l i m) 0) k))
    ∙ sym (value_words_more 1 (from + 1) n (word_values run l i)))

-- the value at a place of each value of a node
abbrev pub values_of : Run → ℕ → ℕ → ℕ → Value
values_of run l place k = value_at (node_values run l k) place

-- a value stands in its part
value-in-part : (run : Run) (l place k : ℕ)
    → value_at (word_values run l (place / 32) k) (place % 32) ≡ values_of run l place k
value-in-part run l place k = let row : Row = node_values run l k in
    let cut : 32 * (place / 32) + place % 32 ≡ place = omega arith in
    get_or-take 32 (drop (32 * (place / 32)) row) (place % 32) Zero (omega arith)
    ∙ (get_or-drop (32 * (place / 32)) row (place % 32) Zero
    ∙ ap (λ (n : ℕ). get_or row n Zero) cut)

pub map_same : {A B : Type 0} (f g : A → B) → ((x : A) → f x ≡ g x) → (xs : List A) → map f xs ≡ map g xs
map_same f g same [] = refl
map_same f g same (x ∷ xs) = ap (λ y. y ∷ map f xs) (same x)
    ∙ ap (λ ys. g x ∷ ys) (map_same f g same xs)

pub places-of : (run : Run) (l place : ℕ) (ks : List ℕ)
    → at_place place (map (node_values run l) ks) ≡ map (values_of run l place) ks
places-of run l place ks = map-map (λ (row : Row). value_at row place) (node_values run l) ks

places-part : (run : Run) (l place : ℕ) (ks : List ℕ)
    → at_place (place % 32) (map (word_values run l (place / 32)) ks)
    ≡ map (values_of run l place) ks
places-part run l place ks =
    map-map (λ (row : Row). value_at row (place % 32)) (word_values run l (place / 32)) ks
    ∙ map_same (λ k. value_at (word_values run l (place / 32) k) (place % 32)) (values_of run l place)
    (value-in-part run l place) ks

-- two ranges, one behind the other
map-ranges : {A : Type 0} (f : ℕ → A) (a m n : ℕ) → map f (range_with_len a m)
    ++ map f (range_with_len (a + m) n) ≡ map f (range_with_len a (m + n))
map-ranges f a m zero = let e : m ≡ m + zero = omega arith in
    append-nil (map f (range_with_len a m)) ∙ ap (λ (x : ℕ). map f (range_with_len a x)) e
map-ranges f a m (suc n) = let e : n + 1 ≡ suc n = omega arith in
    let e' : m + n + 1 ≡ m + suc n = omega arith in
    ap (λ (x : ℕ). map f (range_with_len a m) ++ map f (range_with_len (a + m) x)) (sym e)
    ∙ (ap (λ ys. map f (range_with_len a m) ++ ys)
    (map-range_with_len_more f (a + m) n (a + m + n) refl)
    ∙ (sym (append_assoc (map f (range_with_len a m)) (map f (range_with_len (a + m) n))
    (f (a + m + n) ∷ []))
    ∙ (ap (λ ys. ys ++ f (a + m + n) ∷ []) (map-ranges f a m n)
    ∙ (sym (map-range_with_len_more f a (m + n) (a + m + n) (omega arith))
    ∙ ap (λ (x : ℕ). map f (range_with_len a x)) e'))))

text-some : (xs : Row) → 0 < length xs → values_text xs ≡ map value_text xs
text-some [] h = absurd (omega arith)
text-some (x ∷ xs) h = refl

length-of : (f : ℕ → Value) (a n : ℕ) → length (map f (range_with_len a n)) ≡ n
length-of f a n = length-map-range_with_len f a n

-- the characters of the rows so far, and then those of the next ones
pub text_more : (run : Run) (l place done count : ℕ) → 0 < count
    → map value_text (map (values_of run l place) (range_with_len 1 done))
    ++ values_text (at_place (place % 32)
    (map (word_values run l (place / 32)) (range_with_len (done + 1) count)))
    ≡ map value_text (map (values_of run l place) (range_with_len 1 (done + count)))
text_more run l place done count some = let g : ℕ → Value = values_of run l place in
    let e : done + 1 ≡ 1 + done = omega arith in
    let part : Row = map g (range_with_len (1 + done) count) in
    ap (λ (xs : Row). map value_text (map g (range_with_len 1 done)) ++ values_text xs)
    (places-part run l place (range_with_len (done + 1) count)
    ∙ ap (λ (x : ℕ). map g (range_with_len x count)) e)
    ∙ (ap (λ (xs : List ℕ). map value_text (map g (range_with_len 1 done)) ++ xs)
    (text-some part (omega (arith, length-of g (1 + done) count)))
    ∙ (sym (map-append value_text (map g (range_with_len 1 done)) part)
    ∙ ap (λ (xs : Row). map value_text xs) (map-ranges g 1 done count)))

-- and of all of them
pub text_all : (run : Run) (l place rows : ℕ) → 0 < rows
    → map value_text (map (values_of run l place) (range_with_len 1 rows))
    ≡ values_text (at_place place (map (node_values run l) (range_with_len 1 rows)))
text_all run l place rows some = sym (ap values_text (places-of run l place (range_with_len 1 rows))
    ∙ text-some (map (values_of run l place) (range_with_len 1 rows))
    (omega (arith, length-of (values_of run l place) 1 rows)))
