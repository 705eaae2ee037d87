-- The greatest of some numbers.
use Rattle.std.specs.Prelude.{ℕ, List, [], ◌∷◌, max}

-- the greatest of the numbers, 0 where there are none
abbrev pub greatest : List ℕ → ℕ
greatest [] = 0
greatest (x ∷ xs) = max x (greatest xs)
