-- Rounds in which each node is raised above the sources of the edges into it.
use Rattle.std.proofs.Common.{◌≡◌, ◌≢◌, ◌⊎◌, ◌+◌, ◌≤◌, ◌==◌, true, ℕ, zero, suc, List, [], ◌∷◌, if◌then◌else◌, inl, inr, refl, ap, ◌∙◌, arith}
use Rattle.std.specs.Prelude.{max}
use Rattle.std.proofs.lemmas.Bool.{cases_eq, cases_lt, eq-eqb}
use Rattle.std.proofs.lemmas.Bool.Decides.{eqb_tells}
use Rattle.ds_rank.specs.declared.edge.Edge.{Edge}
use Rattle.ds_rank.specs.Order.{HasEdge}

-- the greatest of a number and of one more than the values of the sources of the edges into a node
abbrev pub raise : List Edge → (ℕ → ℕ) → ℕ → ℕ → ℕ
raise [] f low v = low
raise (e ∷ es) f low v = max (if e.target == v then f e.source + 1 else 0) (raise es f low v)

-- the values of the nodes after so many rounds, from the floors on
abbrev pub level : List Edge → (ℕ → ℕ) → ℕ → ℕ → ℕ
level edges floor zero v = floor v
level edges floor (suc k) v = raise edges (level edges floor k) (floor v) v

-- an edge behind the first one
behind : (e : Edge) (es : List Edge) (u v : ℕ) → HasEdge es u v → HasEdge (e ∷ es) u v
behind e es u v (k, inside, source, target) = (suc k, omega arith, source, target)

-- what is raised is no lower
pub raise_low : (es : List Edge) (f : ℕ → ℕ) (low v : ℕ) → low ≤ raise es f low v
raise_low [] f low v = omega arith
raise_low (e ∷ es) f low v = omega (arith, raise_low es f low v)

-- it is above the source of each edge into the node
pub raise_above : (es : List Edge) (f : ℕ → ℕ) (low u v : ℕ) → HasEdge es u v → f u + 1 ≤ raise es f low v
raise_above [] f low u v (k, inside, source, target) = absurd (omega arith)
raise_above (e ∷ es) f low u v (zero, inside, source, target) =
    let into : (e.target == v) ≡ true = eq-eqb e.target v target in
    let same : f e.source ≡ f u = ap f source in
    rw into (omega arith)
raise_above (e ∷ es) f low u v (suc k, inside, source, target) =
    let rest = raise_above es f low u v (k, omega arith, source, target) in omega (arith, rest)

-- it is the number itself, or one more than the value of such a source
abbrev IsTight : List Edge → (ℕ → ℕ) → ℕ → ℕ → ℕ → Type 0
IsTight es f low v value = (value ≡ low) ⊎ ((u : ℕ) × HasEdge es u v × (value ≡ f u + 1))

-- a further edge
tight_behind : (e : Edge) (es : List Edge) (f : ℕ → ℕ) (low v value more : ℕ) → more ≡ value → IsTight es f low v value → IsTight (e ∷ es) f low v more
tight_behind e es f low v value more same (inl is) = inl (same ∙ is)
tight_behind e es f low v value more same (inr (u, leads, is)) = inr (u, behind e es u v leads, same ∙ is)

-- what is raised is so
pub raise_tight : (es : List Edge) (f : ℕ → ℕ) (low v : ℕ) → IsTight es f low v (raise es f low v)
raise_tight [] f low v = inl refl
raise_tight (e ∷ es) f low v = elim (eqb_tells e.target v) [
  | inl (is, into) ↦ elim (cases_lt (raise es f low v) (f e.source + 1)) [
    | inl lower ↦ inr (e.source, (0, omega arith, refl, into), rw is (omega arith))
    | inr higher ↦ tight_behind e es f low v (raise es f low v) (raise (e ∷ es) f low v) (rw is (omega arith)) (raise_tight es f low v)
  ]
  | inr (is, apart) ↦ tight_behind e es f low v (raise es f low v) (raise (e ∷ es) f low v) (rw is (omega arith)) (raise_tight es f low v)
]

-- where two values raise a node differently, they differ at the source of an edge into it
pub raise_moves : (es : List Edge) (f g : ℕ → ℕ) (low v : ℕ) → raise es f low v ≢ raise es g low v
    → (u : ℕ) × HasEdge es u v × (f u ≢ g u)
raise_moves [] f g low v moves = absurd (moves refl)
raise_moves (e ∷ es) f g low v moves = elim (cases_eq (raise es f low v) (raise es g low v)) [
  | inl same ↦ elim (eqb_tells e.target v) [
    | inl (is, into) ↦ elim (cases_eq (f e.source) (g e.source)) [
      | inl agree ↦ absurd (moves (rw (same, agree) refl))
      | inr differ ↦ (e.source, (0, omega arith, refl, into), differ)
    ]
    | inr (is, apart) ↦ absurd (moves (rw (is, same) refl))
  ]
  | inr differ ↦ let (u, leads, moved) = raise_moves es f g low v differ in (u, behind e es u v leads, moved)
]
