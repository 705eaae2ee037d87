-- What stands under a name, and what a read gives of it.
use Rattle.std.specs.Prelude.{◌≡◌, ◌↔◌, ℕ, ◌<◌, ◌≤◌, List, ◌++◌, length, take, drop}

-- the object does not tell; nothing stands there; or these bytes do
pub data Held : Type 0 where
  untold : Held
  absent : Held
  bytes : List ℕ → Held

-- the first n places of the buffer got the bytes at this place, and the others are as they were
pub record ReadsFrom (held : List ℕ) (at n : ℕ) (old new : List ℕ) : Type 0 where
  pub copied : new ≡ take n (drop at held) ++ drop n old
  pub some : at < length held → 0 < length old → 0 < n

-- the same where the bytes are told, and nothing where they are not
abbrev pub ReadsHeld : Held → ℕ → ℕ → List ℕ → List ℕ → Type 0
ReadsHeld untold at n old new = Unit {0}
ReadsHeld absent at n old new = ⊥
ReadsHeld (bytes held) at n old new = ReadsFrom held at n old new

-- the first bytes that are held, at most so many
abbrev pub FrontIsHeld : Held → ℕ → List ℕ → Type 0
FrontIsHeld untold most front = Unit {0}
FrontIsHeld absent most front = ⊥
FrontIsHeld (bytes held) most front = front ≡ take most held

-- of a file that was read up to one byte past a limit: it has more than the limit exactly where
-- more was read, and else what was read is all of it
abbrev pub IsReadTo : Held → ℕ → List ℕ → Type 0
IsReadTo untold limit front = Unit {0}
IsReadTo absent limit front = ⊥
IsReadTo (bytes held) limit front = (limit < length front ↔ limit < length held)
    × (length front ≤ limit → front ≡ held)
