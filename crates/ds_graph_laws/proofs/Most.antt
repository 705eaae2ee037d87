-- A list of arcs with the greatest value among those that are asked for.
use Rattle.std.proofs.Common.{◌≡◌, ◌⊎◌, ◌≤◌, ℕ, List, [], ◌∷◌, length, inl, inr, zero, suc, arith, refl, sym, subst}
use Rattle.std.specs.List.{Contains}
use Rattle.std.proofs.lemmas.Bool.{cases_eq, cases_lt}
use Rattle.ds_period.specs.declared.timed.Timed.{Timed}
use Rattle.ds_period.specs.Walk.{IsChain}

-- the list is asked for, and none that is has a greater value
pub record IsMost (f : List Timed → ℕ) (S : List Timed → Type 0) (w : List Timed) : Type 0 where
  pub such : S w
  pub most : (v : List Timed) → S v → f v ≤ f w

-- no list is asked for, or one of them has the greatest value
abbrev pub HasMost : (List Timed → ℕ) → (List Timed → Type 0) → Type 0
HasMost f S = ((w : List Timed) → S w → ⊥) ⊎ ((w : List Timed) × IsMost f S w)

-- the same lists asked for in other words
most_same : (f : List Timed → ℕ) (S T : List Timed → Type 0) → ((w : List Timed) → S w → T w)
    → ((w : List Timed) → T w → S w) → HasMost f S → HasMost f T
most_same f S T to from (inl never) = inl (λ w t. never w (from w t))
most_same f S T to from (inr (w, m)) = inr (w, record { such = to w m.such; most = λ v t. m.most v (from v t) })

-- lists of either kind
most_either : (f : List Timed → ℕ) (S T : List Timed → Type 0) → HasMost f S → HasMost f T → HasMost f (λ w. S w ⊎ T w)
most_either f S T (inl never) (inl neither) = inl (λ w e. elim e [ inl s ↦ never w s | inr t ↦ neither w t ])
most_either f S T (inl never) (inr (v, n)) = inr (
  v,
  record {
    such = inr n.such;
    most = λ u e. elim e [ inl s ↦ absurd (never u s) | inr t ↦ n.most u t ];
  },
)
most_either f S T (inr (w, m)) (inl neither) = inr (
  w,
  record {
    such = inl m.such;
    most = λ u e. elim e [ inl s ↦ m.most u s | inr t ↦ absurd (neither u t) ];
  },
)
most_either f S T (inr (w, m)) (inr (v, n)) = elim (cases_lt (f w) (f v)) [
  | inl lt ↦ inr (
    v,
    record {
      such = inr n.such;
      most = λ u e. elim e [ inl s ↦ (let le : f u ≤ f w = m.most u s in omega arith) | inr t ↦ n.most u t ];
    },
  )
  | inr ge ↦ inr (
    w,
    record {
      such = inl m.such;
      most = λ u e. elim e [ inl s ↦ m.most u s | inr t ↦ (let le : f u ≤ f v = n.most u t in omega arith) ];
    },
  )
]

-- the list begins with this arc, and what is behind it is asked for
abbrev pub BeginsWith : Timed → (Timed → List Timed → Type 0) → List Timed → Type 0
BeginsWith a S [] = ⊥
BeginsWith a S (x ∷ w) = (a ≡ x) × S x w

-- the list begins with one of these arcs, and what is behind it is asked for
abbrev pub StartsAmong : List Timed → (Timed → List Timed → Type 0) → List Timed → Type 0
StartsAmong arcs S [] = ⊥
StartsAmong arcs S (x ∷ w) = Contains arcs x × S x w

-- lists that begin with one arc
most_behind : (f : List Timed → ℕ) (S : Timed → List Timed → Type 0) (a : Timed)
    → HasMost (λ w. f (a ∷ w)) (S a) → HasMost f (BeginsWith a S)
most_behind f S a (inl never) = inl go
  where
    go : (w : List Timed) → BeginsWith a S w → ⊥
    go [] b = b
    go (x ∷ w) (e, s) = never w (subst (λ (y : Timed). S y w) (sym e) s)
most_behind f S a (inr (w, m)) = inr (a ∷ w, record { such = (refl, m.such); most = go })
  where
    go : (v : List Timed) → BeginsWith a S v → f v ≤ f (a ∷ w)
    go [] b = absurd b
    go (x ∷ v) (e, s) = subst (λ (y : Timed). f (y ∷ v) ≤ f (a ∷ w)) e (m.most v (subst (λ (y : Timed). S y v) (sym e) s))

-- lists that begin with one of several arcs
pub most_starts : (arcs : List Timed) (f : List Timed → ℕ) (S : Timed → List Timed → Type 0)
    → ((a : Timed) → HasMost (λ w. f (a ∷ w)) (S a)) → HasMost f (StartsAmong arcs S)
most_starts [] f S each = inl go
  where
    go : (w : List Timed) → StartsAmong [] S w → ⊥
    go [] s = s
    go (x ∷ w) ((k, inside, is), s) = absurd (omega arith)
most_starts (a ∷ arcs) f S each =
    most_same f (λ w. BeginsWith a S w ⊎ StartsAmong arcs S w) (StartsAmong (a ∷ arcs) S) to from
    (most_either f (BeginsWith a S) (StartsAmong arcs S) (most_behind f S a (each a)) (most_starts arcs f S each))
  where
    to : (w : List Timed) → BeginsWith a S w ⊎ StartsAmong arcs S w → StartsAmong (a ∷ arcs) S w
    to [] (inl b) = b
    to [] (inr s) = s
    to (x ∷ w) (inl (e, s)) = ((0, omega arith, e), s)
    to (x ∷ w) (inr ((k, inside, is), s)) = ((suc k, omega arith, is), s)

    from : (w : List Timed) → StartsAmong (a ∷ arcs) S w → BeginsWith a S w ⊎ StartsAmong arcs S w
    from [] s = inr s
    from (x ∷ w) ((zero, inside, is), s) = inl (is, s)
    from (x ∷ w) ((suc k, inside, is), s) = inr ((k, omega arith, is), s)

-- the walk is no longer than that
abbrev pub IsShortWalk : List Timed → ℕ → ℕ → ℕ → List Timed → Type 0
IsShortWalk arcs n a b w = IsChain arcs a w b × (length w ≤ n)

-- the walk without an arc
most_empty : (arcs : List Timed) (f : List Timed → ℕ) (a b : ℕ) → HasMost f (IsShortWalk arcs 0 a b)
most_empty arcs f a b = elim (cases_eq a b) [
  | inl e ↦ inr ([], record { such = (e, omega arith); most = go })
  | inr other ↦ inl (none other)
]
  where
    go : (v : List Timed) → IsShortWalk arcs 0 a b v → f v ≤ f []
    go [] s = omega arith
    go (x ∷ v) s = absurd (omega arith)

    none : (a ≡ b → ⊥) → (v : List Timed) → IsShortWalk arcs 0 a b v → ⊥
    none other [] s = other s.0
    none other (x ∷ v) s = absurd (omega arith)

-- an arc that begins where the walk is to begin, and a walk on from its end
abbrev pub GoesOnFrom : List Timed → ℕ → ℕ → ℕ → Timed → List Timed → Type 0
GoesOnFrom arcs n a b x w = (x.source ≡ a) × IsShortWalk arcs n x.target b w

-- walks of so many arcs at most
pub most_short : (arcs : List Timed) (n : ℕ) (f : List Timed → ℕ) (a b : ℕ) → HasMost f (IsShortWalk arcs n a b)
most_short arcs zero f a b = most_empty arcs f a b
most_short arcs (suc n) f a b =
    most_same f (λ w. IsShortWalk arcs 0 a b w ⊎ StartsAmong arcs (GoesOnFrom arcs n a b) w) (IsShortWalk arcs (suc n) a b) to from
    (most_either f (IsShortWalk arcs 0 a b) (StartsAmong arcs (GoesOnFrom arcs n a b)) (most_empty arcs f a b)
    (most_starts arcs f (GoesOnFrom arcs n a b) (λ x. next x (most_short arcs n (λ w. f (x ∷ w)) x.target b))))
  where
    to : (w : List Timed) → IsShortWalk arcs 0 a b w ⊎ StartsAmong arcs (GoesOnFrom arcs n a b) w → IsShortWalk arcs (suc n) a b w
    to [] (inl s) = (s.0, omega arith)
    to [] (inr s) = absurd s
    to (x ∷ w) (inl s) = absurd (omega arith)
    to (x ∷ w) (inr (inside, s)) = ((inside, s.0, s.1.0), omega (arith, s.1.1))

    from : (w : List Timed) → IsShortWalk arcs (suc n) a b w → IsShortWalk arcs 0 a b w ⊎ StartsAmong arcs (GoesOnFrom arcs n a b) w
    from [] s = inl (s.0, omega arith)
    from (x ∷ w) ((inside, source, rest), le) = inr (inside, (source, (rest, omega arith)))

    next : (x : Timed) → HasMost (λ w. f (x ∷ w)) (IsShortWalk arcs n x.target b) → HasMost (λ w. f (x ∷ w)) (GoesOnFrom arcs n a b x)
    next x most = elim (cases_eq x.source a) [
      | inl e ↦ most_same (λ w. f (x ∷ w)) (IsShortWalk arcs n x.target b) (GoesOnFrom arcs n a b x) (λ w s. (e, s)) (λ w s. s.1) most
      | inr other ↦ inl (λ w s. other s.0)
    ]
