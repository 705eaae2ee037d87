-- The words of stored rows, row by row.
use Rattle.std.proofs.Common.{◌≡◌, ◌<◌, ◌≤◌, ℕ, List, [], ◌∷◌}
use Rattle.std.proofs.Common.{length, ap, arith, refl}
use mathlib.Core.Logic.{dite}
use native.Mathlib.Decide.{ℕ_discrete}
use Rattle.ds_base.specs.Word.{word_of}
use Rattle.ds_rule.specs.Run.{Run, node_of}
use Rattle.ds_rule.specs.Words.{value, node_values}
use Rattle.ds_rule.specs.Log.{count_in_log, IsLegalList, Recorded}
use Rattle.ds_rule.proofs.LogCounts.{count_in_log-here, count_in_log-else, length-tickets_in_log}

-- no event stands more often in a legal list than the limit says
pub times_most : (run : Run) (e : ℕ) (xs : List ℕ) → IsLegalList run xs → count_in_log e xs ≤ run.limit
times_most run e [] h = omega arith
times_most run e (x ∷ xs) h = dite (ℕ_discrete x e)
    (λ s. omega (arith, count_in_log-here e x xs s, h.1.below, ap (λ (y : ℕ). count_in_log y xs) s))
    (λ n. omega (arith, count_in_log-else e x xs n, times_most run e xs h.0))

pub tickets_most : (run : Run) (ts : ℕ → List ℕ) (many e : ℕ) → Recorded run ts many
    → node_of run e < run.nodes → length (ts e) ≤ run.limit
tickets_most run ts many e r near =
    omega (
      arith,
      ap (λ (xs : List ℕ). length xs) (r.all e near),
      length-tickets_in_log e r.log,
      times_most run e r.log r.legal,
    )

-- a word of a value
pub value-word : (run : Run) (l k i : ℕ) → value run l k i ≡ word_of (node_values run l k) i
unfolding value
value-word run l k i = refl
