-- What follows of the definitions.
use Rattle.std.specs.Prelude.{◌≡◌, ◌+◌, ℕ, List, [], ◌∷◌, ◌++◌, length, false}
use Rattle.std.specs.List.{AllByRecursion}
use Rattle.ds_lines.specs.Line.{lines_of, lines_from}
use Rattle.ds_lines.specs.Joined.{joined_lines}
use Rattle.ds_lines.specs.Print.{text_of, numbered_lines, IsPlain}
use Rattle.ds_lines.specs.Window.{ends_open}

-- a line that is joined is the line of one text, a blank between its parts
abbrev pub JoinedWithABlank : Type 0
JoinedWithABlank = (text : List ℕ) → lines_of text ≡ joined_lines text

-- a text that prints lines has these lines
abbrev pub PrintedLinesAreRead : Type 0
PrintedLinesAreRead = (lines : List (List (List ℕ))) → AllByRecursion IsPlain lines
    → lines_of (text_of lines) ≡ numbered_lines 1 lines

-- behind a physical line that joins nothing the lines go on as those of a text of its own
abbrev pub InTwoParts : Type 0
InTwoParts = (first : ℕ) (words : List (List ℕ)) (number : ℕ) (line : List ℕ)
    (lines more : List (List ℕ)) → ends_open (line ∷ lines) ≡ false
    → let next = number + length lines + 1 in
    lines_from first words number (line ∷ lines ++ more)
    ≡ lines_from first words number (line ∷ lines) ++ lines_from next [] next more
