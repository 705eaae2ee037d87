-- Texts that are put together piece by piece.
use Rattle.std.specs.Prelude.{ℕ, zero, suc, List, [], ◌∷◌, ◌++◌, codes}

-- the pieces of the numbers below a count, one after another
abbrev pub all_below : (ℕ → List ℕ) → ℕ → List ℕ
all_below piece zero = []
all_below piece (suc n) = all_below piece n ++ piece n

-- a line that begins with a word; no line where nothing stands behind it
abbrev pub line_with : List ℕ → List ℕ → List ℕ
line_with word [] = []
line_with word (byte ∷ rest) = word ++ (byte ∷ rest) ++ codes "\n"
