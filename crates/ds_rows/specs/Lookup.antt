-- The first places of texts of which several may be the same.
use Rattle.std.specs.Prelude.{◌≡◌, ℕ, ◌<◌, ◌≤◌, List, length, slice_index}
use Rattle.ds_lines.specs.Names.{place_of_name}

-- the names are the texts, each once; a text has its first place beside its name, and another text
-- has neither
pub record AreFirsts (texts names : List (List ℕ)) (firsts : List ℕ) : Type 0 where
  pub one_each : length firsts ≡ length names
  pub found : (word : List ℕ) → place_of_name names word < length names
      → (slice_index firsts (place_of_name names word) ≡ place_of_name texts word)
      × (place_of_name texts word < length texts)
  pub missing : (word : List ℕ) → length names ≤ place_of_name names word
      → length texts ≤ place_of_name texts word
