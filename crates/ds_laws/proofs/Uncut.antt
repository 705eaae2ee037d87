-- Lines of words of which the last one does not end in a `\`.
use Rattle.std.proofs.Common.{◌≡◌, ℕ, ◌<◌, true, false, List, [], ◌∷◌, ◌++◌, length, map, inl, inr, refl, arith, ap}
use Rattle.std.specs.Prelude.{All}
use Rattle.std.specs.List.{AllByRecursion}
use Rattle.std.proofs.lemmas.Bool.{cases_Bool, eqb-true}
use Rattle.std.proofs.lemmas.List.Elements.{recursion_from_All}
use Rattle.ds_lines.specs.Line.{is_backslash, is_blank}
use Rattle.ds_lines.specs.Print.{is_apart, IsPlain, IsWord}
use Rattle.ds_lines.proofs.ByteClasses.{lacks_parts, no_blank}
use Rattle.ds_lines.proofs.UncutWords.{EndsUncut, IsUncut, both_false, plain_line}
use Rattle.ds_laws.specs.Grouping.{EndsInBackslash}

-- a word that does not end in a `\`
uncut_word : (word : List ℕ) → IsWord word → ¬ EndsInBackslash word → IsUncut word
uncut_word [] is other = absurd (let some : false ≡ true = is.some in cc)
uncut_word (byte ∷ []) is other =
    elim (cases_Bool (is_backslash byte)) [
      | inl here ↦ absurd (other ([], ap (λ (b : ℕ). b ∷ []) (eqb-true byte 92 here)))
      | inr free ↦ both_false (is_blank byte) (is_backslash byte) (no_blank byte (lacks_parts is_apart byte [] is.none).0) free
    ]
uncut_word (byte ∷ next ∷ word) is other =
    uncut_word (next ∷ word) (record { some = refl; none = (lacks_parts is_apart byte (next ∷ word) is.none).1 })
    (λ ends. let (front, same) = ends in other (byte ∷ front, ap (λ (t : List ℕ). byte ∷ t) same))

module _ (name : ℕ → List ℕ) (count : ℕ) (each : (r : ℕ) → r < count → IsWord (name r)) where
  -- a line of names
  names_words : (registers : List ℕ) → AllByRecursion (λ r. r < count) registers → AllByRecursion IsWord (map name registers)
  names_words [] low = tt
  names_words (r ∷ registers) (low, rest) = (each r low, names_words registers rest)

  -- nothing is cut of it where its last name does not end in a `\`
  abbrev EndsWell : List ℕ → Type 0
  EndsWell registers = (front : List ℕ) (last : ℕ) → registers ≡ front ++ last ∷ [] → ¬ EndsInBackslash (name last)

  names_uncut : (registers : List ℕ) → 0 < length registers → AllByRecursion (λ r. r < count) registers → EndsWell registers → EndsUncut (map name registers)
  names_uncut [] some low ends = absurd (omega (some, arith))
  names_uncut (r ∷ []) some (low, rest) ends = uncut_word (name r) (each r low) (ends [] r refl)
  names_uncut (r ∷ next ∷ registers) some (low, rest) ends =
      names_uncut (next ∷ registers) (omega arith) rest (λ front last is. ends (r ∷ front) last (ap (λ (t : List ℕ). r ∷ t) is))

  -- so it is read as these names
  pub line_is_plain : (registers : List ℕ) → 0 < length registers → All (λ r. r < count) registers → EndsWell registers → IsPlain (map name registers)
  line_is_plain registers some low ends =
      let all : AllByRecursion (λ r. r < count) registers = recursion_from_All (λ r. r < count) registers low in
      plain_line (map name registers) (names_words registers all) (names_uncut registers some all ends)
