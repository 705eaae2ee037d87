-- Clusters by their places, as they are built.
use Rattle.std.specs.Prelude.{◌≡◌, ℕ, ◌<◌, List, [], ◌∷◌, ◌++◌, length, ltb, AllPairs, Contains}
use Rattle.std.specs.Prelude.{slice_index, slice_index_or, slice_set, if◌then◌else◌}

-- the registers of the cluster at a place, none behind the last
abbrev pub group : List (List ℕ) → ℕ → List ℕ
group groups i = slice_index_or groups i []

-- with a register in the cluster at a place, or in a new one behind the last
abbrev pub with_member : List (List ℕ) → ℕ → ℕ → List (List ℕ)
with_member groups place r =
    if ltb place (length groups) then slice_set groups place (group groups place ++ r ∷ [])
    else groups ++ (r ∷ []) ∷ []

-- the first registers in clusters
pub record AreGroups (belong : ℕ → ℕ → Type 0) (count : ℕ) (groups : List (List ℕ)) : Type 0 where
  pub covered : (r : ℕ) → r < count → (i : ℕ) × (i < length groups) × Contains (group groups i) r
  pub within : (i r : ℕ) → Contains (group groups i) r → r < count
  pub together : (i a b : ℕ) → Contains (group groups i) a → Contains (group groups i) b
      → belong a b
  pub apart : (i j a b : ℕ) → Contains (group groups i) a → Contains (group groups j) b → belong a b
      → i ≡ j
  pub some : (i : ℕ) → i < length groups → 0 < length (group groups i)
  pub rising : (i : ℕ) → AllPairs (λ a b. a < b) (group groups i)
  pub by_first : (i j : ℕ) → i < j → j < length groups
      → slice_index (group groups i) 0 < slice_index (group groups j) 0
