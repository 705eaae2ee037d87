-- The run of the tests meets what a run must, and its rows by number.
use Rattle.std.proofs.Common.{◌≡◌, ◌<◌, ◌≤◌, ◌+◌, ◌*◌, ℕ, zero, suc, [], ◌∷◌, length, get_or, refl, sym, ap, ◌∙◌, arith}
use Rattle.std.proofs.lemmas.List.{get_or-replicate}
use mathlib.Core.Option.{some-ne-none}
use Rattle.ds_base.specs.Values.{Row}
use Rattle.ds_base.specs.declared.value.Value.TheVariants.{Zero}
use Rattle.ds_base.specs.Word.{word_of}
use Rattle.ds_rule.specs.Plays.{listed}
use Rattle.ds_rule.specs.Rows.{row}
use Rattle.ds_rule.specs.Words.{width, size, value, node_values}
use Rattle.ds_rule.specs.Sound.{IsSound}
use Rattle.ds_table_tests.specs.Trio.{trio}

-- the values of a node in a turn
zero_at : (l k : ℕ) → l < 3 → k ≤ 2 → node_values trio l k ≡ Zero ∷ []
zero_at l k h h' = let below : k * 3 + l < 9 = omega (arith, h, h') in
    get_or-replicate 9 (k * 3 + l) (Zero ∷ []) [] below

pub one_word : (l : ℕ) → l < 3 → width trio l ≡ 1
unfolding width
one_word l h = get_or-replicate 3 l 1 0 h

one_at_most : (l : ℕ) → width trio l ≤ 1
unfolding width
one_at_most zero = omega arith
one_at_most (suc zero) = omega arith
one_at_most (suc (suc zero)) = omega arith
one_at_most (suc (suc (suc l))) = omega arith

one_value : (l k : ℕ) → l < 3 → k ≤ 2 → length (node_values trio l k) ≡ get_or trio.lengths l 0
one_value l k h h' =
    ap (λ (r : Row). length r) (zero_at l k h h') ∙ sym (get_or-replicate 3 l 1 0 h)

pub sound : IsSound trio
unfolding size
sound = record {
  few = omega arith;
  few_arcs = omega arith;
  short = omega arith;
  near = omega arith;
  among = omega arith;
  narrow = omega arith;
  sized = omega arith;
  reads = λ l. omega arith;
  stores = λ l. omega (arith, one_at_most l);
  named = λ k d inside. absurd (omega arith);
  rows_of_all = refl;
  same_length = one_value;
  by_consumer = λ j k h h'. absurd (omega arith);
  orders = λ k e at. absurd (some-ne-none e (sym at));
}

-- the row of a turn, and the word before the first
pub zero_row : (l k : ℕ) → l < 3 → k ≤ 2 → row trio l k ≡ 0 ∷ []
unfolding value
zero_row l k h h' = ap (λ (n : ℕ). listed (value trio l k) n) (one_word l h)
    ∙ ap (λ (r : Row). word_of r 0 ∷ []) (zero_at l k h h')

pub zero_first : (l i : ℕ) → l < 3 → i < width trio l → value trio l 0 i ≡ 0
unfolding value
zero_first l zero h near = ap (λ (r : Row). word_of r 0) (zero_at l 0 h (omega arith))
zero_first l (suc i) h near = absurd (omega (arith, near, one_word l h))
