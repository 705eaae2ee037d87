-- A list with a piece replaced, and what stands in front of what there is now.
use Rattle.std.specs.Prelude.{◌≡◌, ℕ, ◌+◌, List, ◌++◌, length, take, drop, Option, None, Some}

-- a list with a piece in place of what was there from a place on
abbrev pub replaced : List ℕ → ℕ → List ℕ → List ℕ
replaced bytes at piece = take at bytes ++ piece ++ drop (at + length piece) bytes

-- as many of the first bytes as there were before
abbrev pub front : Option (List ℕ) → Option (List ℕ) → Option (List ℕ)
front None now = now
front (Some bytes) None = None
front (Some bytes) (Some more) = Some (take (length bytes) more)

-- what there was before stands in front
abbrev pub Grew : Option (List ℕ) → Option (List ℕ) → Type 0
Grew before now = front before now ≡ before

-- and whatever stood in front still does
abbrev pub GrewOn : Option (List ℕ) → Option (List ℕ) → Type 0
GrewOn old new = (before : Option (List ℕ)) → Grew before old → Grew before new
