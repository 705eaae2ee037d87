-- Orders by one relation as orders by another.
use Rattle.std.proofs.Common.{◌≡◌, ◌∙◌, ◌<◌, ℕ, List, [], ◌∷◌, inl, inr, sym}
use Rattle.ds_rank.specs.Order.{IsWalk, IsCycle, IsRanks}

-- a walk by one relation is one by another that holds wherever the first does
pub walk_by : (R S : ℕ → ℕ → Type 0) → ((u v : ℕ) → R u v → S u v)
    → (a : ℕ) (xs : List ℕ) (b : ℕ) → IsWalk R a xs b → IsWalk S a xs b
walk_by R S f a [] b h = f a b h
walk_by R S f a (x ∷ xs) b h = (f a x h.0, walk_by R S f x xs b h.1)

-- the same of a cycle
pub cycle_by : (R S : ℕ → ℕ → Type 0) → ((u v : ℕ) → R u v → S u v) → (xs : List ℕ) → IsCycle R xs → IsCycle S xs
cycle_by R S f [] h = h
cycle_by R S f (x ∷ xs) h = (walk_by R S f x xs x h.0, h.1, h.2)

-- ranks by one relation are ranks by another that holds where the first does, and no more
pub ranks_by : (R S : ℕ → ℕ → Type 0) → ((u v : ℕ) → R u v → S u v) → ((u v : ℕ) → S u v → R u v)
    → (m n : ℕ) (floor floor2 : ℕ → ℕ) (ranks : List ℕ) → m ≡ n → ((v : ℕ) → v < n → floor v ≡ floor2 v)
    → IsRanks R m floor ranks → IsRanks S n floor2 ranks
ranks_by R S f g m n floor floor2 ranks same floors h = record {
  size = h.size ∙ same;
  least = λ v lt. rw (sym (floors v lt)) (h.least v (rw same lt));
  above = λ u v s. h.above u v (g u v s);
  tight = λ v lt. elim (h.tight v (rw same lt)) [
    | inl e ↦ inl (e ∙ floors v lt)
    | inr (u, r, e) ↦ inr (u, f u v r, e)
  ];
}
