-- The lines of a stream: without where they end, and behind one of them.
use Rattle.std.proofs.Common.{◌≡◌, ◌∙◌, ℕ, ◌+◌, Bool, List, [], ◌∷◌, ◌++◌, map, refl, ap, sym, arith, inl, inr, append_assoc}
use Rattle.std.specs.Prelude.{if◌then◌else◌}
use Rattle.std.specs.List.{slice_split, onto_first}
use Rattle.std.proofs.lemmas.Bool.{cases_Bool}
use Rattle.std.proofs.lemmas.List.{append-nil}
use Rattle.ds_lines.specs.Line.{Line, is_newline, joins, line_of, lines_from, lines_of, words_in}
use Rattle.ds_stream.specs.Stream.{Behind, Placed, placed_in, placed_lines, placed_of}

-- bytes before the first of these
abbrev pub prefixed : List ℕ → List (List ℕ) → List (List ℕ)
prefixed bytes [] = []
prefixed bytes (part ∷ parts) = (bytes ++ part) ∷ parts

-- a split has a first part
split_some : (p : ℕ → Bool) (bytes : List ℕ) → (part : List ℕ) × (parts : List (List ℕ)) × (slice_split p bytes ≡ part ∷ parts)
split_some p [] = ([], [], refl)
split_some p (byte ∷ bytes) = elim (cases_Bool (p byte)) [
  | inl here ↦ ([], slice_split p bytes, rw here refl)
  | inr other ↦ (let (part, parts, is) = split_some p bytes in (byte ∷ part, parts, rw (other, is) refl))
]

line_of_placed : (first : ℕ) (words : List (List ℕ)) (behind : Behind) → map (λ p. p.line) (placed_of first words behind) ≡ line_of first words
line_of_placed first [] behind = refl
line_of_placed first (word ∷ words) behind = refl

map-append : (ps qs : List Placed) → map (λ p. p.line) (ps ++ qs) ≡ map (λ p. p.line) ps ++ map (λ p. p.line) qs
map-append [] qs = refl
map-append (p ∷ ps) qs = ap (λ (ls : List Line). p.line ∷ ls) (map-append ps qs)

prefixed-none : (text : List ℕ) → prefixed [] (slice_split is_newline text) ≡ slice_split is_newline text
prefixed-none text = let (part, parts, is) = split_some is_newline text in rw is refl

prefixed-newline : (line text : List ℕ) → prefixed line ([] ∷ slice_split is_newline text) ≡ line ∷ slice_split is_newline text
prefixed-newline line text = ap (λ (l : List ℕ). l ∷ slice_split is_newline text) (append-nil line)

prefixed-byte : (line : List ℕ) (byte : ℕ) (text : List ℕ) → prefixed line (onto_first byte (slice_split is_newline text)) ≡ prefixed (line ++ byte ∷ []) (slice_split is_newline text)
prefixed-byte line byte text = let (part, parts, is) = split_some is_newline text in
    rw is (ap (λ (l : List ℕ). l ∷ parts) (sym (append_assoc line (byte ∷ []) part)))

last_line : (first : ℕ) (words : List (List ℕ)) (line : List ℕ) (number : ℕ) (behind : Behind)
    → map (λ p. p.line) (placed_of first (words ++ words_in line) behind) ≡ lines_from first words number (line ∷ [])
last_line first words line number behind = elim (cases_Bool (joins line)) [
  | inl yes_joins ↦ rw yes_joins (line_of_placed first (words ++ words_in line) behind)
  | inr ends ↦ rw ends (line_of_placed first (words ++ words_in line) behind ∙ sym (append-nil (line_of first (words ++ words_in line))))
]

pub map-placed : (first : ℕ) (words : List (List ℕ)) (line : List ℕ) (place lines : ℕ) (text : List ℕ)
    → map (λ p. p.line) (placed_in first words line place lines text) ≡ lines_from first words (lines + 1) (prefixed line (slice_split is_newline text))
map-placed first words line place lines [] =
    let behind : Behind = record { place = place; lines = lines + 1 } in
    let one : prefixed line ([] ∷ []) ≡ line ∷ [] = ap (λ (l : List ℕ). l ∷ []) (append-nil line) in
    last_line first words line (lines + 1) behind ∙ ap (lines_from first words (lines + 1)) (sym one)
map-placed first words line place lines (byte ∷ text) = elim (cases_Bool (is_newline byte)) [
  | inr other ↦ rw other (map-placed first words (line ++ byte ∷ []) (place + 1) lines text
      ∙ ap (lines_from first words (lines + 1)) (sym (prefixed-byte line byte text)))
  | inl newline ↦ rw newline ((let P : map (λ p. p.line) (if joins line then placed_in first (words ++ words_in line) [] (place + 1) (lines + 1) text else placed_of first (words ++ words_in line) (record { place = place + 1; lines = lines + 1 }) ++ placed_in (lines + 2) [] [] (place + 1) (lines + 1) text) ≡ lines_from first words (lines + 1) (line ∷ slice_split is_newline text) = elim (cases_Bool (joins line)) [
    | inl yes_joins ↦ rw yes_joins (map-placed first (words ++ words_in line) [] (place + 1) (lines + 1) text
        ∙ ap (lines_from first (words ++ words_in line) (lines + 1 + 1)) (prefixed-none text))
    | inr ends ↦ rw ends (
        let behind : Behind = record { place = place + 1; lines = lines + 1 } in
        let two : lines + 2 ≡ lines + 1 + 1 = omega arith in
        map-append (placed_of first (words ++ words_in line) behind) (placed_in (lines + 2) [] [] (place + 1) (lines + 1) text)
        ∙ (ap (λ (ls : List Line). ls ++ map (λ p. p.line) (placed_in (lines + 2) [] [] (place + 1) (lines + 1) text)) (line_of_placed first (words ++ words_in line) behind)
        ∙ ap (λ (ls : List Line). line_of first (words ++ words_in line) ++ ls)
        (map-placed (lines + 2) [] [] (place + 1) (lines + 1) text ∙ (ap (lines_from (lines + 2) [] (lines + 1 + 1)) (prefixed-none text)
        ∙ ap (λ (n : ℕ). lines_from n [] (lines + 1 + 1) (slice_split is_newline text)) two))))
  ] in P) ∙ ap (lines_from first words (lines + 1)) (sym (prefixed-newline line text)))
]

pub are_lines : (text : List ℕ) → map (λ p. p.line) (placed_lines text) ≡ lines_of text
are_lines text = map-placed 1 [] [] 0 0 text ∙ ap (lines_from 1 [] 1) (prefixed-none text)
