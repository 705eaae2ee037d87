-- Beginnings of lines that mean the same, whatever follows.
use Rattle.std.specs.Prelude.{◌≡◌, ◌⊎◌, ◌<◌, ℕ, Bool, true, false, List, [], ◌∷◌}
use Rattle.std.specs.Prelude.{◌++◌, length, slice_index_or, if◌then◌else◌}
use Rattle.std.specs.List.{list_any}
use Rattle.ds_lines.specs.Line.{is_blank, is_hash, is_some, joins, words_in}
use Rattle.ds_rows.specs.Vector.{has_width}

-- words that are no vector of this width, whatever words follow
pub record AreWrong (width : ℕ) (words : List (List ℕ)) : Type 0 where
  pub some : is_some words ≡ true
  pub wrong : (more : List (List ℕ)) → has_width width (words ++ more) ≡ false

-- the same words, or both are wrong
abbrev pub AreAlike : ℕ → List (List ℕ) → List (List ℕ) → Type 0
AreAlike width words others = (words ≡ others) ⊎ (AreWrong width words × AreWrong width others)

-- a current line with these words and these bytes, and another one: with the same bytes behind
-- them, both join the next line or neither, and their words are alike
pub record IsLike (width : ℕ) (words : List (List ℕ)) (line : List ℕ) (others : List (List ℕ))
    (other : List ℕ) : Type 0 where
  pub joins_as : (more : List ℕ) → joins (line ++ more) ≡ joins (other ++ more)
  pub words_as : (more : List ℕ)
      → AreAlike width (words ++ words_in (line ++ more)) (others ++ words_in (other ++ more))

-- bytes that begin with no blank and have no comment
pub record IsBegun (line : List ℕ) : Type 0 where
  pub plain : list_any is_hash line ≡ false
  pub begins : is_blank (slice_index_or line 0 0) ≡ false

-- such bytes, more than a vector of this width has, and more than one
pub record IsFull (width : ℕ) (line : List ℕ) : Type 0 where
  pub begun : IsBegun line
  pub several : 1 < length line
  pub wide : width < length line

-- what bytes tell of a line, behind which a `\` may stand, and a comment may have begun
abbrev pub told_line : Bool → Bool → List ℕ → List ℕ
told_line comment joined line =
    let whole = if joined then line ++ 92 ∷ [] else line in
    if comment then whole ++ 35 ∷ [] else whole
