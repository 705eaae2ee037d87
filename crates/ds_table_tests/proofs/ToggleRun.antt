-- The run of the tests meets what a run must, and its rows by number.
use Rattle.std.proofs.Common.{All, ◌≡◌, ◌<◌, ◌≤◌, ◌+◌, ◌%◌, ◌*◌, ℕ, zero, suc, List, [], ◌∷◌, length, sym, subst, refl, arith, cond, Bool, true, false, ◌==◌}
use mathlib.Core.Option.{some, some-injective, some-ne-none}
use lib.ListN.{get_elem?}
use Rattle.ds_marked.specs.declared.marked.Arc.{Arc}
use Rattle.ds_rule.specs.declared.table_run.DataEdge.{DataEdge}
use Rattle.ds_rule.specs.Run.{node_of, opening, closing}
use Rattle.ds_rule.specs.Words.{width, size, value, node_values}
use Rattle.ds_rule.specs.Sound.{IsSound, HasOrders, read_words, edge_at}
use Rattle.ds_rule.specs.Rows.{row}
use Rattle.ds_table_tests.specs.Toggle.{arc, edge, toggle}

named : All (λ a. (node_of toggle a.source < 2) × (node_of toggle a.target < 2)) toggle.arcs
unfolding node_of
named zero d inside = (omega arith, omega arith)
named (suc zero) d inside = (omega arith, omega arith)
named (suc (suc zero)) d inside = (omega arith, omega arith)
named (suc (suc (suc zero))) d inside = (omega arith, omega arith)
named (suc (suc (suc (suc zero)))) d inside = (omega arith, omega arith)
named (suc (suc (suc (suc (suc zero))))) d inside = (omega arith, omega arith)
named (suc (suc (suc (suc (suc (suc zero)))))) d inside = (omega arith, omega arith)
named (suc (suc (suc (suc (suc (suc (suc zero))))))) d inside = (omega arith, omega arith)
named (suc (suc (suc (suc (suc (suc (suc (suc k)))))))) d inside = absurd (omega arith)

-- each row has one word
one_word : (l : ℕ) → width toggle l ≤ 1
unfolding width
one_word zero = omega arith
one_word (suc zero) = omega arith
one_word (suc (suc l)) = omega arith

picked : (b : Bool) (n : ℕ) → n ≤ 2 → cond b n 0 ≤ 2
picked true n h = h
picked false n h = omega arith

few_reads : (l : ℕ) → read_words toggle l 2 < 9223372036854775808
few_reads l = let a = picked (0 == l) (1 + width toggle 1) (omega (arith, one_word 1)) in
    let b = picked (1 == l) (1 + width toggle 0) (omega (arith, one_word 0)) in omega arith

orders : (k : ℕ) (e : DataEdge) → get_elem? toggle.edges k ≡ some e → HasOrders toggle e
unfolding opening closing
orders zero e at = subst (HasOrders toggle) (some-injective (edge 1 0 0) e at) (record {
  tokens_few = omega arith;
  from = omega arith;
  into = omega arith;
  apart = λ t. omega (arith, t);
  there = λ counts agreed. agreed 6 (arc 2 0 0) (omega arith);
  back = λ counts agreed. agreed 7 (arc 1 2 1) (omega arith);
})
orders (suc zero) e at = subst (HasOrders toggle) (some-injective (edge 0 1 1) e at) (record {
  tokens_few = omega arith;
  from = omega arith;
  into = omega arith;
  apart = λ t. omega (arith, t);
  there = λ counts agreed. agreed 4 (arc 0 2 1) (omega arith);
  back = λ counts agreed. agreed 5 (arc 3 0 0) (omega arith);
})
orders (suc (suc k)) e at = absurd (some-ne-none e (sym at))

by_consumer : (j k : ℕ) → j ≤ k → k < 2 → (edge_at toggle j).consumer ≤ (edge_at toggle k).consumer
by_consumer zero k h h' = omega arith
by_consumer (suc zero) zero h h' = absurd (omega arith)
by_consumer (suc zero) (suc zero) h h' = omega arith
by_consumer (suc zero) (suc (suc k)) h h' = absurd (omega arith)
by_consumer (suc (suc j)) k h h' = absurd (omega arith)

same_length : (l k : ℕ) → l < 2 → k ≤ 2 → length
    (node_values toggle l k) ≡ Rattle.std.proofs.Common.slice_index toggle.lengths l
same_length zero zero h h' = refl
same_length zero (suc zero) h h' = refl
same_length zero (suc (suc zero)) h h' = refl
same_length (suc zero) zero h h' = refl
same_length (suc zero) (suc zero) h h' = refl
same_length (suc zero) (suc (suc zero)) h h' = refl
same_length zero (suc (suc (suc k))) h h' = absurd (omega arith)
same_length (suc zero) (suc (suc (suc k))) h h' = absurd (omega arith)
same_length (suc (suc l)) k h h' = absurd (omega arith)

pub sound : IsSound toggle
unfolding size
sound = record {
  few = omega arith;
  few_arcs = omega arith;
  short = omega arith;
  near = omega arith;
  among = omega arith;
  narrow = omega arith;
  sized = omega arith;
  reads = few_reads;
  stores = λ l. omega (arith, one_word l);
  named = named;
  rows_of_all = refl;
  same_length = same_length;
  by_consumer = by_consumer;
  orders = orders;
}

-- the row of a turn, and the one before the first
pub row_of : (l k : ℕ) → l < 2 → 0 < k → k ≤ 2 → row toggle l k ≡ k % 2 ∷ []
unfolding value width
row_of l zero a b c = absurd (omega arith)
row_of zero (suc zero) a b c = refl
row_of zero (suc (suc zero)) a b c = refl
row_of (suc zero) (suc zero) a b c = refl
row_of (suc zero) (suc (suc zero)) a b c = refl
row_of (suc (suc l)) (suc k) a b c = absurd (omega arith)
row_of zero (suc (suc (suc k))) a b c = absurd (omega arith)
row_of (suc zero) (suc (suc (suc k))) a b c = absurd (omega arith)

pub wide_one : (l : ℕ) → l < 2 → width toggle l ≡ 1
unfolding width
wide_one zero h = refl
wide_one (suc zero) h = refl
wide_one (suc (suc l)) h = absurd (omega arith)

pub first_zero : (l i : ℕ) → l < 2 → i < width toggle l → value toggle l 0 i ≡ 0
unfolding value width
first_zero zero zero a b = refl
first_zero (suc zero) zero a b = refl
first_zero zero (suc i) a b = absurd (omega arith)
first_zero (suc zero) (suc i) a b = absurd (omega arith)
first_zero (suc (suc l)) i a b = absurd (omega arith)
