-- The lines of a short text, a physical line at a time.
use Rattle.std.proofs.Common.{◌≡◌, ◌∙◌, ℕ, ◌+◌, Bool, true, false, List, [], ◌∷◌, ◌++◌, length, refl, ap, sym, arith, inl, inr, append_assoc}
use Rattle.std.specs.Prelude.{codes, if◌then◌else◌}
use Rattle.std.proofs.lemmas.Bool.{cases_Bool}
use Rattle.std.proofs.lemmas.List.{append-nil}
use Rattle.ds_lines.specs.Line.{is_newline, joins, words_in}
use Rattle.ds_stream.specs.Stream.{Placed, placed_in, placed_of}
use Rattle.ds_stream.specs.StreamWorked.{worked_places}

-- there is no newline
abbrev has_none : List ℕ → Bool
has_none [] = true
has_none (byte ∷ bytes) = if is_newline byte then false else has_none bytes

-- bytes of the current physical line
onto_line : (first : ℕ) (words : List (List ℕ)) (line : List ℕ) (place lines : ℕ) (front text : List ℕ) → has_none front ≡ true
    → placed_in first words line place lines (front ++ text) ≡ placed_in first words (line ++ front) (place + length front) lines text
onto_line first words line place lines [] text none =
    let same : place ≡ place + 0 = omega arith in
    ap (λ (l : List ℕ). placed_in first words l place lines text) (sym (append-nil line)) ∙ ap (λ (p : ℕ). placed_in first words (line ++ []) p lines text) same
onto_line first words line place lines (byte ∷ front) text none = elim (cases_Bool (is_newline byte)) [
  | inl newline ↦ absurd (let bad : false ≡ true = sym (ap (λ (b : Bool). if b then false else has_none front) newline) ∙ none in cc)
  | inr other ↦ (
      let next : place + 1 + length front ≡ place + length (byte ∷ front) = omega arith in
      let rest : has_none front ≡ true = sym (ap (λ (b : Bool). if b then false else has_none front) other) ∙ none in
      rw other (onto_line first words (line ++ byte ∷ []) (place + 1) lines front text rest
      ∙ (ap (λ (l : List ℕ). placed_in first words l (place + 1 + length front) lines text) (append_assoc line (byte ∷ []) front)
      ∙ ap (λ (p : ℕ). placed_in first words (line ++ byte ∷ front) p lines text) next)))
]

-- a physical line that goes on in the next one
goes_on : (first : ℕ) (words : List (List ℕ)) (line : List ℕ) (place lines : ℕ) (text : List ℕ) → joins line ≡ true
    → placed_in first words line place lines (10 ∷ text) ≡ placed_in first (words ++ words_in line) [] (place + 1) (lines + 1) text
goes_on first words line place lines text e = rw e refl

-- and one that ends the line
ends : (first : ℕ) (words : List (List ℕ)) (line : List ℕ) (place lines : ℕ) (text : List ℕ) → joins line ≡ false
    → placed_in first words line place lines (10 ∷ text)
    ≡ placed_of first (words ++ words_in line) (record { place = place + 1; lines = lines + 1 }) ++ placed_in (lines + 2) [] [] (place + 1) (lines + 1) text
ends first words line place lines text e = rw e refl

-- a comment
comment : joins (codes "# a") ≡ false
unfolding joins
comment = refl

comment_words : words_in (codes "# a") ≡ []
unfolding words_in
comment_words = refl

-- a line that is joined to the next
joined : joins (codes "1\\") ≡ true
unfolding joins
joined = refl

joined_words : words_in (codes "1\\") ≡ codes "1" ∷ []
unfolding words_in
joined_words = refl

-- a line that no `\` in a comment joins
apart : joins (codes " 0 # b\\") ≡ false
unfolding joins
apart = refl

apart_words : words_in (codes " 0 # b\\") ≡ codes "0" ∷ []
unfolding words_in
apart_words = refl

-- an empty line, and one that the text ends
bare : joins [] ≡ false
unfolding joins
bare = refl

bare_words : words_in [] ≡ []
unfolding words_in
bare_words = refl

last_words : words_in (codes "01") ≡ codes "01" ∷ []
unfolding words_in
last_words = refl

first_part : placed_in 1 [] [] 0 0 (codes "# a\n1\\\n 0 # b\\\n\n01") ≡ placed_in 2 [] [] 4 1 (codes "1\\\n 0 # b\\\n\n01")
first_part = onto_line 1 [] [] 0 0 (codes "# a") (codes "\n1\\\n 0 # b\\\n\n01") refl
    ∙ (ends 1 [] (codes "# a") 3 0 (codes "1\\\n 0 # b\\\n\n01") comment
    ∙ ap (λ (ws : List (List ℕ)). placed_of 1 ws (record { place = 4; lines = 1 }) ++ placed_in 2 [] [] 4 1 (codes "1\\\n 0 # b\\\n\n01")) comment_words)

second_part : placed_in 2 [] [] 4 1 (codes "1\\\n 0 # b\\\n\n01") ≡ placed_in 2 (codes "1" ∷ []) [] 7 2 (codes " 0 # b\\\n\n01")
second_part = onto_line 2 [] [] 4 1 (codes "1\\") (codes "\n 0 # b\\\n\n01") refl
    ∙ (goes_on 2 [] (codes "1\\") 6 1 (codes " 0 # b\\\n\n01") joined
    ∙ ap (λ (ws : List (List ℕ)). placed_in 2 ws [] 7 2 (codes " 0 # b\\\n\n01")) joined_words)

-- the first line with words
abbrev a_line : Placed
a_line = record { line = record { number = 2; words = codes "1" ∷ codes "0" ∷ [] }; behind = record { place = 15; lines = 3 } }

third_part : placed_in 2 (codes "1" ∷ []) [] 7 2 (codes " 0 # b\\\n\n01") ≡ a_line ∷ placed_in 4 [] [] 15 3 (codes "\n01")
third_part = onto_line 2 (codes "1" ∷ []) [] 7 2 (codes " 0 # b\\") (codes "\n\n01") refl
    ∙ (ends 2 (codes "1" ∷ []) (codes " 0 # b\\") 14 2 (codes "\n01") apart
    ∙ ap (λ (ws : List (List ℕ)). placed_of 2 (codes "1" ∷ ws) (record { place = 15; lines = 3 }) ++ placed_in 4 [] [] 15 3 (codes "\n01")) apart_words)

fourth_part : placed_in 4 [] [] 15 3 (codes "\n01") ≡ placed_in 5 [] [] 16 4 (codes "01")
fourth_part = ends 4 [] [] 15 3 (codes "01") bare
    ∙ ap (λ (ws : List (List ℕ)). placed_of 4 ws (record { place = 16; lines = 4 }) ++ placed_in 5 [] [] 16 4 (codes "01")) bare_words

fifth_part : placed_in 5 [] [] 16 4 (codes "01") ≡ record { line = record { number = 5; words = codes "01" ∷ [] }; behind = record { place = 18; lines = 5 } } ∷ []
fifth_part = ap (λ (ws : List (List ℕ)). placed_of 5 ws (record { place = 18; lines = 5 })) last_words

pub lines_worked : worked_places ≡ a_line ∷ record { line = record { number = 5; words = codes "01" ∷ [] }; behind = record { place = 18; lines = 5 } } ∷ []
lines_worked = first_part ∙ (second_part ∙ (third_part ∙ ap (λ (ps : List Placed). a_line ∷ ps) (fourth_part ∙ fifth_part)))
