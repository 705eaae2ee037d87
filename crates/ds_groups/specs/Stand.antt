-- How far a text has been read along a pattern.
use Rattle.std.specs.Prelude.{◌≡◌, ◌≢◌, ⊤, ℕ, ◌+◌, ◌-◌, ◌<◌, ◌≤◌, Bool, false, List, ◌∷◌, ◌++◌}
use Rattle.std.specs.Prelude.{length, take, drop, slice_index}
use Rattle.ds_groups.specs.Match.{has_form}
use Rattle.ds_groups.specs.declared.stand.Stand.{Stand}
use Rattle.ds_groups.specs.declared.stand.Stand.TheVariants.{Lost, Fixed, Floating}

-- behind a star, what has so many bytes of the next piece at its end goes on with these bytes
abbrev pub matches_behind : List ℕ → ℕ → List ℕ → Bool
matches_behind piece held rest = has_form (42 ∷ piece) (take held piece ++ rest)

-- what comes next makes a text of the pattern
abbrev pub goes_on : List ℕ → Stand → List ℕ → Bool
goes_on word Lost rest = false
goes_on word (Fixed at) rest = has_form (drop at word) rest
goes_on word (Floating start held) rest = matches_behind (drop start word) held rest

-- no star stands at this place
abbrev pub IsNoStar : List ℕ → ℕ → Type 0
IsNoStar word at = slice_index word at ≢ 42

-- behind a star or at the front, so many bytes without one
pub record IsPiece (word : List ℕ) (start held : ℕ) : Type 0 where
  pub within : start + held ≤ length word
  pub behind : 0 < start → slice_index word (start - 1) ≡ 42
  pub plain : (k : ℕ) → k < held → IsNoStar word (start + k)

-- stars stand from a place on up to another one
pub record IsBehindStars (word : List ℕ) (from behind : ℕ) : Type 0 where
  pub star : slice_index word from ≡ 42
  pub within : from < length word
  pub below : from < behind
  pub piece : IsPiece word behind 0
  pub plain : IsNoStar word behind
  pub same : (rest : List ℕ)
      → has_form (42 ∷ drop behind word) rest ≡ has_form (drop from word) rest

-- what is kept at a place in a pattern: it stands before no star
abbrev pub IsStand : List ℕ → Stand → Type 0
IsStand word Lost = ⊤
IsStand word (Fixed at) = (at ≤ length word) × IsNoStar word at
IsStand word (Floating start held) = (0 < start) × IsPiece word start held
    × IsNoStar word (start + held)

-- where the first of so many bytes of a piece is given up, so many of them are still held
pub record Falls (piece : List ℕ) (held fall : ℕ) : Type 0 where
  pub less : fall < held
  pub same : (rest : List ℕ)
      → has_form (42 ∷ piece) (drop 1 (take held piece) ++ rest) ≡ matches_behind piece fall rest

-- for each place of a word before the last of so many how much is still held there
abbrev pub AreFalls : List ℕ → List ℕ → ℕ → Type 0
AreFalls word falls count = (start held : ℕ) → IsPiece word start held → 0 < held
    → start + held < count → Falls (drop start word) held (slice_index falls (start + held))
