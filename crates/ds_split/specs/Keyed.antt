-- Registers by keys: those of one cluster have one key.
use Rattle.std.specs.Prelude.{◌≡◌, ◌↔◌, ◌⊎◌, ℕ, ◌+◌, ◌-◌, ◌<◌, List, length, All, Contains, ◌==◌}
use Rattle.std.specs.Prelude.{if◌then◌else◌, slice_index, slice_set}
use Rattle.ds_split.specs.Groups.{group}

-- two registers have one key
abbrev pub HaveOneKey : List ℕ → ℕ → ℕ → Type 0
HaveOneKey keys a b = slice_index keys a ≡ slice_index keys b

-- the keys of so many registers, below a bound: two registers have one key exactly where they
-- belong together
pub record AreKeys (belong : ℕ → ℕ → Type 0) (count most : ℕ) (keys : List ℕ) : Type 0 where
  pub one_each : length keys ≡ count
  pub few : All (λ key. key < most) keys
  pub same : (a b : ℕ) → a < count → b < count → belong a b ↔ HaveOneKey keys a b

-- for each of so many registers its group among the first ones, one more than its place; 0 where
-- none of them has it
pub record AreHolders (count most : ℕ) (groups : List (List ℕ)) (holders : List ℕ) : Type 0 where
  pub one_each : length holders ≡ count
  pub held : (i r : ℕ) → i < most → Contains (group groups i) r → slice_index holders r ≡ i + 1
  pub from : (r i : ℕ) → slice_index holders r ≡ i + 1 → (i < most) × Contains (group groups i) r

-- a register's key: the place of the group that has it, else its key by the mode behind all these
abbrev pub mixed_key : ℕ → ℕ → ℕ → ℕ
mixed_key groups holder key = if holder == 0 then groups + key else (holder - 1)

-- the keys of registers, by the groups that have them and their keys by the mode
pub record AreMixed (groups : ℕ) (holders keys mixed : List ℕ) : Type 0 where
  pub one_each : length mixed ≡ length holders
  pub each : (r : ℕ) → r < length holders
      → slice_index mixed r ≡ mixed_key groups (slice_index holders r) (slice_index keys r)

-- the place of the cluster of a key, from a list that has one more than it for each key: the next
-- one where the list has 0
abbrev pub IsPlaceOf : List ℕ → ℕ → ℕ → ℕ → Type 0
IsPlaceOf places key next place =
    ((slice_index places key ≡ 0) × (place ≡ next)) ⊎ (slice_index places key ≡ place + 1)
