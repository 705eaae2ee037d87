-- The tail of a pattern, and what a text that matches has of it.
use Rattle.std.specs.Prelude.{◌≡◌, ℕ, ◌+◌, ◌<◌, ◌≤◌, true, false, List, length, drop, slice_index}
use Rattle.ds_groups.specs.Match.{has_form}
use Rattle.ds_groups.specs.declared.tail.Tail.{Tail}

-- bytes stand at a place of a text
abbrev pub AreBytesAt : List ℕ → List ℕ → ℕ → Type 0
AreBytesAt bytes text place =
    (k : ℕ) → k < length bytes → slice_index text (place + k) ≡ slice_index bytes k

-- a text has a tail at a place: before it enough bytes, or just so many where no star is before it;
-- and nothing behind it where no star is behind it
pub record HasTail (tail : Tail) (text : List ℕ) : Type 0 where
  pub place : ℕ
  pub within : place + length tail.bytes.now ≤ length text
  pub before : tail.before ≤ place
  pub first : tail.starred_before ≡ false → place ≡ tail.before
  pub last : tail.starred_behind ≡ false → place + length tail.bytes.now ≡ length text
  pub stands : AreBytesAt tail.bytes.now text place

-- each text of a pattern has its tail
abbrev pub IsTail : List ℕ → Tail → Type 0
IsTail word tail = (text : List ℕ) → has_form word text ≡ true → HasTail tail text

-- what is left of a text behind some place matches what is left of a pattern; so many bytes are
-- before the place, or just as many as in the pattern where those are no stars
pub record GoesOnAt (word : List ℕ) (at before : ℕ) (text : List ℕ) : Type 0 where
  pub place : ℕ
  pub within : place ≤ length text
  pub enough : before ≤ place
  pub exact : before ≡ at → place ≡ at
  pub rest : has_form (drop at word) (drop place text) ≡ true

-- so many bytes before a place are no stars: each text of the pattern has as many before the rest
pub record ArePlainBefore (word : List ℕ) (at before : ℕ) : Type 0 where
  pub few : before ≤ at
  pub each : (text : List ℕ) → has_form word text ≡ true → GoesOnAt word at before text
