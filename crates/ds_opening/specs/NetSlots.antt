-- The slot in which each net is.
use Rattle.std.specs.Prelude.{◌≡◌, ◌⊎◌, ℕ, ◌+◌, ◌-◌, ◌<◌, ◌^◌, List, [], length, All, Contains}
use Rattle.std.specs.Prelude.{slice_index, slice_index_or}

-- the slot of each net is as before, or it is this one and the net is one of these
pub record IsAssigned (slot : ℕ) (nets old new : List ℕ) : Type 0 where
  pub same : length new ≡ length old
  pub each : (net : ℕ) → (slice_index new net ≡ slice_index old net)
      ⊎ ((slice_index new net ≡ slot) × Contains nets net)

-- the slot of each net is as before, or it is that of a list that has the net; the lists have the
-- slots from the first on
pub record AreNetsAssigned (first : ℕ) (lists : List (List ℕ)) (old new : List ℕ) : Type 0 where
  pub same : length new ≡ length old
  pub each : (net : ℕ) → (slice_index new net ≡ slice_index old net)
      ⊎ ((j : ℕ) × (j < length lists) × (slice_index new net ≡ first + j)
      × Contains (slice_index_or lists j []) net)

-- for each of so many nets a slot that has the net, or 2 ^ 64 - 1 where there is none
pub record AreNetSlots (slots : List (List ℕ)) (count : ℕ) (net_slots : List ℕ) : Type 0 where
  pub one_each : length net_slots ≡ count
  pub low : All (λ s. (s < length slots) ⊎ (s ≡ 2 ^ 64 - 1)) net_slots
  pub has : (net : ℕ) → net < count → slice_index net_slots net < length slots
      → Contains (slice_index_or slots (slice_index net_slots net) []) net
