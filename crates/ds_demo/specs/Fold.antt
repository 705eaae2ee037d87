-- A sum of a text: each byte counts by its place.
use Rattle.std.specs.Prelude.{ℕ, ◌+◌, ◌*◌, ◌%◌, ◌^◌, List, [], ◌∷◌}

-- the sum so far, and the place of the last byte, both modulo 2 ^ 64
pub record Folded : Type 0 where
  pub sum : ℕ
  pub place : ℕ

-- of no bytes
abbrev pub nothing : Folded
nothing = record { sum = 0; place = 0 }

-- with a byte more
abbrev pub with_byte : Folded → ℕ → Folded
with_byte f byte = record {
  sum = (f.sum + byte * (f.place + 1)) % 2 ^ 64;
  place = (f.place + 1) % 2 ^ 64;
}

-- with more bytes
unfoldable pub fold_after : Folded → List ℕ → Folded
fold_after f [] = f
fold_after f (byte ∷ bytes) = fold_after (with_byte f byte) bytes

-- each byte times its place, where the first one stands at this place
unfoldable pub sum_from : ℕ → List ℕ → ℕ
sum_from place [] = 0
sum_from place (byte ∷ bytes) = byte * place + sum_from (place + 1) bytes

-- the sum of the bytes of a text, each times its place counted from 1, modulo 2 ^ 64
unfoldable pub fold_of : List ℕ → ℕ
fold_of text = sum_from 1 text % 2 ^ 64
