-- Words that are names of nets of copies.
use Rattle.std.specs.Prelude.{◌≢◌, ℕ, ◌<◌, ◌^◌, List, ◌++◌, codes, decimal}

-- a word is the name of a net of this copy, behind the copy's number
abbrev pub copied : ℕ → List ℕ → List ℕ
copied copy name = decimal copy ++ codes "/" ++ name

-- a word is no name of a net of a copy
abbrev pub IsOfNoCopy : List ℕ → Type 0
IsOfNoCopy word = (copy : ℕ) (name : List ℕ) → 0 < copy → copy < 2 ^ 32 → word ≢ copied copy name
