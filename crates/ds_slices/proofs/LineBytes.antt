-- Bytes of nets, one after another.
use Rattle.std.proofs.Common.{◌≡◌, ◌∙◌, ℕ, ◌+◌, ◌*◌, ◌<◌, List, [], ◌∷◌, ◌++◌, length, take, get_or, set, ap, sym, arith}
use Rattle.std.specs.Int.{bit_at}
use Rattle.std.proofs.lemmas.List.{get_or-map, length-map, map-set, take_more, take_more_set}
use Rattle.ds_base.specs.Values.{Row}
use Rattle.ds_base.specs.declared.value.Value.{Value}
use Rattle.ds_base.specs.declared.value.Value.TheVariants.{Zero}
use Rattle.ds_cover.specs.Cover.{value_at, values_at}
use Rattle.ds_cover.specs.Kept.{bit_value}
use Rattle.ds_slices.specs.Turns.{turn_row}
use Rattle.ds_slices.proofs.TurnBits.{value_in}

pub byte_more : (words nets bytes : List ℕ) (block k i byte : ℕ) → k < 8 → i < length bytes → length bytes ≡ length nets
    → ((j : ℕ) → j < 8 → bit_at byte j ≡ bit_at (get_or words (get_or nets i 0) 0) (8 * block + j))
    → take i (turn_row bytes k) ≡ take i (values_at (turn_row words (8 * block + k)) nets)
    → take (i + 1) (turn_row (set bytes i byte) k) ≡ take (i + 1) (values_at (turn_row words (8 * block + k)) nets)
byte_more words nets bytes block k i byte low inside one_each is before =
    let row : Row = turn_row words (8 * block + k) in
    let f : ℕ → Value = λ b. bit_value (bit_at b k) in
    let long : length (turn_row bytes k) ≡ length bytes = length-map bytes f in
    let longs : length (values_at row nets) ≡ length nets = length-map nets (value_at row) in
    let value : f byte ≡ get_or (values_at row nets) i Zero =
    ap bit_value (is k low) ∙ (sym (value_in words (8 * block + k) (get_or nets i 0)) ∙ sym (get_or-map (value_at row) nets i 0 Zero (omega arith))) in
    ap (λ (vs : Row). take (i + 1) vs) (map-set f bytes i byte)
    ∙ (take_more_set (turn_row bytes k) i (f byte) (omega arith)
    ∙ (ap (λ (vs : Row). vs ++ f byte ∷ []) before
    ∙ (ap (λ (v : Value). take i (values_at row nets) ++ v ∷ []) value
    ∙ sym (take_more (values_at row nets) i Zero (omega arith)))))
