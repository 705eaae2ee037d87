-- Patterns: a star stands for any bytes, none included, and each other byte for itself.
use Rattle.std.specs.Prelude.{ℕ, Bool, true, false, List, [], ◌∷◌, ◌==◌, ◌&&◌, if◌then◌else◌}
use Rattle.std.specs.List.{list_any}

-- `*`
abbrev pub is_star : ℕ → Bool
is_star byte = byte == 42

-- nothing is left
abbrev pub is_empty : List ℕ → Bool
is_empty [] = true
is_empty (byte ∷ text) = false

-- a text begins with a byte, and what comes behind passes a test
abbrev pub begins : ℕ → (List ℕ → Bool) → List ℕ → Bool
begins byte test [] = false
begins byte test (first ∷ text) = (byte == first) && test text

-- a text, and each text that is left of it where bytes are taken from its front
abbrev pub endings : List ℕ → List (List ℕ)
endings [] = [] ∷ []
endings (byte ∷ text) = (byte ∷ text) ∷ endings text

-- a text has the form of a pattern: behind a star comes some ending of the text
abbrev pub has_form : List ℕ → List ℕ → Bool
has_form [] text = is_empty text
has_form (byte ∷ pattern) text =
    if is_star byte then list_any (has_form pattern) (endings text)
    else begins byte (has_form pattern) text
