-- Whether one net reaches another is decided, along the rank of an accepted circuit.
use Rattle.std.proofs.Common.{◌≡◌, ◌⊎◌, inl, inr, ℕ, zero, suc, ◌<◌, get_or, refl, subst, arith}
use Rattle.std.specs.Prelude.{All, Any}
use Rattle.std.proofs.lemmas.Bool.{cases_eq}
use Rattle.ds_design.specs.Accepted.{IsAccepted}
use Rattle.ds_design.specs.Circuit.{Circuit}
use Rattle.ds_design.specs.Reach.{Reaches, here, through}
use Rattle.ds_design.specs.declared.design.Gate.{Gate}
use Rattle.ds_graph_laws.proofs.Chosen.{cases_within}

-- a net reaches another by way of the table that drives it
abbrev ReachesBy : Circuit → ℕ → ℕ → Gate → Type 0
ReachesBy c a b t = (t.output ≡ b) × Any (λ net. Reaches c a net) t.table.inputs

by_table : (c : Circuit) (a b : ℕ) → Any (ReachesBy c a b) c.tables → Reaches c a b
by_table c a b (k, t, inside, is, (drives, (j, net, low, at, path))) = through path (k, t, inside, is, ((j, low, at), drives))

-- a net that is reached is the same net, or reached by way of its table
last : (c : Circuit) (a b : ℕ) → Reaches c a b → (a ≡ b) ⊎ Any (ReachesBy c a b) c.tables
last c a _ here = inl refl
last c a d (through {b = b} path (k, t, inside, is, ((j, low, at), drives))) = inr (k, t, inside, is, (drives, (j, b, low, at, path)))

module _ (c : Circuit) (accepted : IsAccepted c) where
  -- by way of one table, where it is decided for the nets of a lower rank
  table_cases : (a b : ℕ) (t : Gate) → ((net : ℕ) → accepted.rank net < accepted.rank b → Reaches c a net ⊎ (¬ Reaches c a net))
      → All (λ net. accepted.rank net < accepted.rank t.output) t.table.inputs → ReachesBy c a b t ⊎ (¬ ReachesBy c a b t)
  table_cases a b t cases rises = elim (cases_eq t.output b) [
    | inl drives ↦ elim (cases_within (λ net. Reaches c a net) t.table.inputs (λ k d inside.
        cases (get_or t.table.inputs k d)
        (subst (λ (n : ℕ). accepted.rank (get_or t.table.inputs k d) < accepted.rank n) drives (rises k d inside)))) [
          | inl some ↦ inl (drives, some)
          | inr none ↦ inr (λ is. none is.1)
        ]
    | inr other ↦ inr (λ is. other is.0)
  ]

  below_cases : (most a b : ℕ) → accepted.rank b < most → Reaches c a b ⊎ (¬ Reaches c a b)
  below_cases zero a b low = absurd (omega arith)
  below_cases (suc most) a b low = elim (cases_eq a b) [
    | inl same ↦ inl (subst (λ (n : ℕ). Reaches c a n) same here)
    | inr other ↦ elim (cases_within (ReachesBy c a b) c.tables (λ k d inside.
        table_cases a b (get_or c.tables k d) (λ net less. below_cases most a net (omega arith)) (accepted.rises k d inside))) [
          | inl some ↦ inl (by_table c a b some)
          | inr none ↦ inr (λ path. elim (last c a b path) [ inl same ↦ other same | inr some ↦ none some ])
        ]
  ]

  -- one net reaches another or does not
  pub reach_cases : (a b : ℕ) → Reaches c a b ⊎ (¬ Reaches c a b)
  reach_cases a b = below_cases (suc (accepted.rank b)) a b (omega arith)
