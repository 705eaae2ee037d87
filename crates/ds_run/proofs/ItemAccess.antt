-- What holds of each item of a list holds of one by `get_elem?`.
use Rattle.std.proofs.Common.{◌≡◌, ℕ, List, subst, All}
use mathlib.Core.Option.{some}
use lib.ListN.{get_elem?}
use Rattle.ds_rule.proofs.GetElemLemmas.{at_below, at_get}

module _ {A : Type 0} (P : A → Type 0) where
  pub all_at : (xs : List A) → All P xs → (k : ℕ) (a : A) → get_elem? xs k ≡ some a → P a
  all_at xs all k a at = subst P (at_get xs k a a at) (all k a (at_below xs k a at))
