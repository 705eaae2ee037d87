-- The turns of slots, as bytes behind a base.
use Rattle.std.specs.Prelude.{◌≡◌, ◌≢◌, ◌⊎◌, ℕ, zero, suc, ◌+◌, List, map}

-- the turn that a byte stands for behind a base; 0 stands for none
abbrev pub noted_turn : ℕ → ℕ → ℕ
noted_turn base zero = 0
noted_turn base (suc n) = base + suc n

-- the turns that these bytes stand for
abbrev pub noted_turns : ℕ → List ℕ → List ℕ
noted_turns base bytes = map (noted_turn base) bytes

-- the same turn as before, or none
abbrev pub IsSameOrNone : ℕ → ℕ → Type 0
IsSameOrNone old new = (new ≡ old) ⊎ (new ≡ 0)

-- the same turn as before, or none where it was another than this one
abbrev pub IsSameOrLost : ℕ → ℕ → ℕ → Type 0
IsSameOrLost turn old new = (new ≡ old) ⊎ ((new ≡ 0) × (old ≢ turn))
