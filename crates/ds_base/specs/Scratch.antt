-- A row to work in with the turns of its slots, and what it remembers.
use Rattle.std.specs.Prelude.{◌≡◌, ◌≢◌, ℕ, ◌-◌, ◌<◌, All, Bool, List, [], false, length, true}
use Rattle.std.specs.Prelude.{slice_index, slice_index_or, slice_set}
use Rattle.ds_base.specs.Values.{Row}
use Rattle.ds_base.specs.declared.value.Value.{Value}
use Rattle.ds_base.specs.declared.value.Value.TheVariants.{Zero}
use Rattle.ds_base.specs.Turns.{IsSameOrLost}

-- what a scratch shows: the value of each net, the turn of each slot, 0 where it has none, and
-- whether its values are those of the turn before too
pub record Kept : Type 0 where
  pub nets : Row
  pub turns : List ℕ
  pub stayed : List Bool

-- there is such a slot
pub record HasSlot (slot : ℕ) (k : Kept) : Type 0 where
  pub turn : slot < length k.turns
  pub stayed : slot < length k.stayed

-- the slot is noted for the turn over the same row; the other slots keep their turns, or have none
-- where they had another turn than this one
pub record IsNoted (slot turn : ℕ) (stays : Bool) (old new : Kept) : Type 0 where
  pub nets : new.nets ≡ old.nets
  pub turns : length new.turns ≡ length old.turns
  pub stayed : new.stayed ≡ slice_set old.stayed slot stays
  pub here : slice_index new.turns slot ≡ turn
  pub others : (s : ℕ) → s ≢ slot
      → IsSameOrLost turn (slice_index old.turns s) (slice_index new.turns s)

-- what is to be remembered: how many nets there are, which are in each slot, and the values of all
-- nets in each turn, from turn 1 on
pub record Memory : Type 0 where
  pub nets : ℕ
  pub slots : List (List ℕ)
  pub rows : List Row

-- the value of a net in a turn
abbrev pub value_in : Memory → ℕ → ℕ → Value
value_in m turn net = slice_index_or (slice_index_or m.rows (turn - 1) []) net Zero

-- these nets hold their values of the turn
abbrev pub HoldsTurn : Memory → Row → ℕ → List ℕ → Type 0
HoldsTurn m nets turn slot = All (λ net. slice_index_or nets net Zero ≡ value_in m turn net) slot

-- each slot that has a turn holds that turn's values, and where it has stayed those of the turn
-- before
pub record Remembers (m : Memory) (k : Kept) : Type 0 where
  pub nets : length k.nets ≡ m.nets
  pub turns : length k.turns ≡ length m.slots
  pub stayed : length k.stayed ≡ length m.slots
  pub each : (s : ℕ) → s < length m.slots → 0 < slice_index k.turns s
      → HoldsTurn m k.nets (slice_index k.turns s) (slice_index_or m.slots s [])
  pub before : (s : ℕ) → s < length m.slots → 1 < slice_index k.turns s
      → slice_index_or k.stayed s false ≡ true
      → HoldsTurn m k.nets (slice_index k.turns s - 1) (slice_index_or m.slots s [])
