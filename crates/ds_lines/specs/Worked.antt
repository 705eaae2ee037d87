-- The lines of a text, worked by hand.
use Rattle.std.specs.Prelude.{◌≡◌, ℕ, List, [], ◌∷◌, ◌++◌, codes}
use Rattle.ds_lines.specs.Line.{Line, lines_of}

-- a text of these physical lines, each with its end
abbrev pub physical : List (List ℕ) → List ℕ
physical [] = []
physical (line ∷ lines) = line ++ 10 ∷ physical lines

-- a comment alone that ends with a `\`; a line that goes on behind its comment, behind a line of a
-- `\` alone; an empty line; a `\` inside a word, with a tab and a carriage return around; a line
-- that the text ends
abbrev pub worked_lines_text : List ℕ
worked_lines_text = physical (
    codes "# names \\"
    ∷ codes ".names a \\ # b \\"
    ∷ codes "\\"
    ∷ codes "  c d#e"
    ∷ []
    ∷ (9 ∷ codes "1\\1- 1" ++ 13 ∷ [])
    ∷ []) ++ codes ".end"

-- its lines
abbrev pub worked_lines : List Line
worked_lines =
    record { number = 2; words = codes ".names" ∷ codes "a" ∷ codes "c" ∷ codes "d" ∷ [] }
    ∷ record { number = 6; words = codes "1\\1-" ∷ codes "1" ∷ [] }
    ∷ record { number = 7; words = codes ".end" ∷ [] }
    ∷ []

-- the text has these lines
abbrev pub TextIsWorked : Type 0
TextIsWorked = lines_of worked_lines_text ≡ worked_lines
