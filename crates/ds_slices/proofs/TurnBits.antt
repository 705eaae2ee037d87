-- Bits of words as values of turns.
use Rattle.std.proofs.Common.{◌≡◌, ◌≢◌, ◌∙◌, ℕ, zero, suc, ◌+◌, ◌-◌, ◌*◌, ◌/◌, ◌%◌, ◌^◌, ◌<◌, ◌≤◌, List, length, get_or, refl, sym, ap, arith, inl, inr}
use Rattle.std.specs.Int.{bit_at}
use Rattle.std.proofs.lemmas.Bool.{cases_eq, cases_lt}
use Rattle.std.proofs.lemmas.List.{get_or-map, get_or_past, length-map}
use Rattle.std.proofs.lemmas.List.Elements.{All-map}
use Rattle.std.proofs.lemmas.Nat.{and_mask}
use Rattle.std.proofs.lemmas.Nat.Bits.{bit_at-lt, bit_at-suc, bit_at-zero, bit_at_and, bit_at_lowest, bit_at_ones}
use Rattle.ds_base.specs.Values.{AreKnown}
use Rattle.ds_base.specs.declared.value.Value.{Value}
use Rattle.ds_base.specs.declared.value.Value.TheVariants.{Zero, One, Unknown}
use Rattle.ds_cover.specs.Cover.{value_at, values_at}
use Rattle.ds_cover.specs.Kept.{bit_value}
use Rattle.ds_cover.specs.Packed.{one_bit}
use Rattle.ds_cover.proofs.TableValues.{one_known, zero_known}
use Rattle.ds_design.specs.Trace.{value_text}
use Rattle.ds_slices.specs.Turns.{IsShifted, turn_row}

-- the value of a net in a turn is a bit of its word
pub value_in : (words : List ℕ) (k net : ℕ) → value_at (turn_row words k) net ≡ bit_value (bit_at (get_or words net 0) k)
value_in words k net = elim (cases_lt net (length words)) [
  | inl inside ↦ get_or-map (λ (word : ℕ). bit_value (bit_at word k)) words net 0 Zero inside
  | inr past ↦
      let long : length (turn_row words k) ≡ length words = length-map words (λ (word : ℕ). bit_value (bit_at word k)) in
      get_or_past (turn_row words k) net Zero (omega arith)
      ∙ sym (ap (λ (word : ℕ). bit_value (bit_at word k)) (get_or_past words net 0 past) ∙ ap bit_value (bit_at-zero k))
]

-- a bit, and the value of it
pub one_bit-value : (b : ℕ) → b < 2 → one_bit (bit_value b) ≡ b
one_bit-value zero few = refl
one_bit-value (suc zero) few = refl
one_bit-value (suc (suc b)) few = absurd (omega arith)

pub value-one_bit : (v : Value) → v ≢ Unknown → bit_value (one_bit v) ≡ v
value-one_bit Zero known = refl
value-one_bit One known = refl
value-one_bit Unknown known = absurd (known refl)

pub bit_known : (b : ℕ) → b < 2 → bit_value b ≢ Unknown
bit_known zero few e = zero_known e
bit_known (suc zero) few e = one_known e
bit_known (suc (suc b)) few e = absurd (omega arith)

-- the values of turns are known
pub turns_known : (words : List ℕ) (k : ℕ) (these : List ℕ) → AreKnown (values_at (turn_row words k) these)
turns_known words k these =
    All-map (λ value. value ≢ Unknown) (value_at (turn_row words k)) these
    (λ j d inside e. bit_known (bit_at (get_or words (get_or these j d) 0) k) (bit_at-lt (get_or words (get_or these j d) 0) k) (sym (value_in words k (get_or these j d)) ∙ e))

-- as it is printed
pub printed_bit : (b : ℕ) → b < 2 → 48 + b ≡ value_text (bit_value b)
printed_bit zero few = refl
printed_bit (suc zero) few = refl
printed_bit (suc (suc b)) few = absurd (omega arith)

-- the low bits of a number
pub bit_at-low : (w n k : ℕ) → k < w → bit_at (n % 2 ^ w) k ≡ bit_at n k
bit_at-low w n k below =
    ap (λ (x : ℕ). bit_at x k) (sym (and_mask n w))
    ∙ (bit_at_and n (2 ^ w - 1) k ∙ omega (arith, bit_at_ones w k below, bit_at-lt n k))

-- a word that is moved by one place
pub moved_zero : (n : ℕ) → bit_at (n * 2 ^ 1 % 2 ^ 64) 0 ≡ 0
moved_zero n = bit_at-low 64 (n * 2 ^ 1) 0 (omega arith) ∙ (bit_at_lowest (n * 2 ^ 1) ∙ omega arith)

pub moved_suc : (n k : ℕ) → suc k < 64 → bit_at (n * 2 ^ 1 % 2 ^ 64) (suc k) ≡ bit_at n k
moved_suc n k below =
    let half : n * 2 ^ 1 / 2 ≡ n = omega arith in
    bit_at-low 64 (n * 2 ^ 1) (suc k) below ∙ (bit_at-suc (n * 2 ^ 1) k ∙ ap (λ (x : ℕ). bit_at x k) half)

-- with a value in front
pub shifted : (fed word : ℕ) (first : Value) → first ≢ Unknown
    → ((k : ℕ) → k ≢ 0 → bit_at word k ≡ bit_at (fed * 2 ^ 1 % 2 ^ 64) k)
    → (bit_at (fed * 2 ^ 1 % 2 ^ 64) 0 ≡ 0 → bit_at word 0 ≡ one_bit first) → IsShifted first fed word
shifted fed word first known same set = record {
  begins = ap bit_value (set (moved_zero fed)) ∙ value-one_bit first known;
  later = λ k below. same (suc k) (λ e. absurd (omega arith)) ∙ moved_suc fed k below;
}

-- bits that are set one after another
pub record AreBits (f : ℕ → Value) (turn word : ℕ) : Type 0 where
  pub told : (k : ℕ) → k < turn → bit_at word k ≡ one_bit (f k)
  pub free : (k : ℕ) → turn ≤ k → bit_at word k ≡ 0

pub no_bits : (f : ℕ → Value) → AreBits f 0 0
no_bits f = record { told = λ k below. absurd (omega arith); free = λ k above. bit_at-zero k }

pub more_bits : (f : ℕ → Value) (turn old new : ℕ) → AreBits f turn old
    → ((k : ℕ) → k ≢ turn → bit_at new k ≡ bit_at old k) → (bit_at old turn ≡ 0 → bit_at new turn ≡ one_bit (f turn))
    → AreBits f (turn + 1) new
more_bits f turn old new before same here = record {
  told = λ k below. elim (cases_eq k turn) [
    | inl e ↦ ap (bit_at new) e ∙ (here (before.free turn (omega arith)) ∙ ap (λ (j : ℕ). one_bit (f j)) (sym e))
    | inr ne ↦ same k ne ∙ before.told k (omega arith)
  ];
  free = λ k above. same k (λ e. absurd (omega arith)) ∙ before.free k (omega arith);
}
