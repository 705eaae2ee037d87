-- What stands between the names of a cluster's registers.
use Rattle.std.specs.Prelude.{ℕ, zero, suc, List, [], ◌∷◌}

-- a blank before each name but the first
abbrev pub blank_before : ℕ → List ℕ
blank_before zero = []
blank_before (suc k) = 32 ∷ []
