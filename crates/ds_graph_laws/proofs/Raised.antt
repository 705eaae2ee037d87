-- Potentials under the greatest ratio.
use Rattle.std.proofs.Common.{◌≡◌, ◌⊎◌, ◌∙◌, ◌<◌, ◌≤◌, ◌+◌, ◌-◌, ◌*◌, ℕ, List, [], ◌∷◌, ◌++◌, length, inl, inr, zero, suc, arith, ap, refl}
use Rattle.std.specs.List.{Contains}
use Rattle.std.proofs.lemmas.Bool.{cases_lt}
use Rattle.ds_period.specs.declared.timed.Timed.{Timed}
use Rattle.ds_period.specs.Walk.{IsChain, IsGreatest, IsPotential, Rises, walk_delay, walk_tokens}
use Rattle.ds_period.specs.Search.{AreEvents}
use Rattle.ds_period.proofs.PotentialBounds.{mul_sum}
use Rattle.ds_period.proofs.Raise.{chain_join, delay_join, tokens_join}
use Rattle.ds_graph_laws.proofs.Most.{HasMost, IsShortWalk, StartsAmong, most_short, most_starts}
use Rattle.ds_graph_laws.proofs.Repeated.{delay_parts, tokens_parts, length_parts, outside_chain}
use Rattle.ds_graph_laws.proofs.Ratios.{repeated_or_short}

-- the weight of a walk, 0 where its tokens outweigh its delay
abbrev pub weight_over : ℕ → ℕ → List Timed → ℕ
weight_over p q xs = q * walk_delay xs - p * walk_tokens xs

-- a number that is met by a walk into the event, and that no short walk into it exceeds
pub record IsShortPotential (arcs : List Timed) (count p q v h : ℕ) : Type 0 where
  pub most : (a : ℕ) (xs : List Timed) → IsChain arcs a xs v → length xs ≤ count → q * walk_delay xs ≤ h + p * walk_tokens xs
  pub met : (a : ℕ) × (xs : List Timed) × IsChain arcs a xs v × (h + p * walk_tokens xs ≡ q * walk_delay xs)

-- walks into an event that begin with an arc
abbrev pub EntersWithin : List Timed → ℕ → ℕ → List Timed → Type 0
EntersWithin arcs n v = StartsAmong arcs (λ x w. IsShortWalk arcs n x.target v w)

enters_by : (arcs : List Timed) (n v a : ℕ) (x : Timed) (xs : List Timed) → IsChain arcs a (x ∷ xs) v → length (x ∷ xs) ≤ n → EntersWithin arcs n v (x ∷ xs)
enters_by arcs n v a x xs (inside, source, rest) le = (inside, (rest, omega arith))

-- each event has such a number
short_potential : (arcs : List Timed) (count p q v : ℕ) → (h : ℕ) × IsShortPotential arcs count p q v h
short_potential arcs count p q v =
    go (most_starts arcs (weight_over p q) (λ x w. IsShortWalk arcs count x.target v w)
    (λ x. most_short arcs count (λ w. weight_over p q (x ∷ w)) x.target v))
  where
    go : HasMost (weight_over p q) (EntersWithin arcs count v) → (h : ℕ) × IsShortPotential arcs count p q v h
    go (inl never) = (0, record { most = most; met = (v, [], refl, omega arith) })
      where
        most : (a : ℕ) (xs : List Timed) → IsChain arcs a xs v → length xs ≤ count → q * walk_delay xs ≤ 0 + p * walk_tokens xs
        most a [] chain le = omega arith
        most a (x ∷ xs) chain le = absurd (never (x ∷ xs) (enters_by arcs count v a x xs chain le))
    go (inr ([], m)) = absurd m.such
    go (inr (y ∷ w, m)) = (weight_over p q (y ∷ w), record { most = most; met = met (cases_lt (q * walk_delay (y ∷ w)) (p * walk_tokens (y ∷ w))) })
      where
        most : (a : ℕ) (xs : List Timed) → IsChain arcs a xs v → length xs ≤ count
            → q * walk_delay xs ≤ weight_over p q (y ∷ w) + p * walk_tokens xs
        most a [] chain le = omega arith
        most a (x ∷ xs) chain le = let bound = m.most (x ∷ xs) (enters_by arcs count v a x xs chain le) in omega arith

        met : (q * walk_delay (y ∷ w) < p * walk_tokens (y ∷ w)) ⊎ (p * walk_tokens (y ∷ w) ≤ q * walk_delay (y ∷ w))
            → (a : ℕ) × (xs : List Timed) × IsChain arcs a xs v × (weight_over p q (y ∷ w) + p * walk_tokens xs ≡ q * walk_delay xs)
        met (inl lt) = (v, [], refl, omega arith)
        met (inr le) = (y.source, y ∷ w, (m.such.0, refl, m.such.1.0), omega arith)

-- no walk into the event exceeds it
most_by_short : (arcs : List Timed) (count p q v h : ℕ) → AreEvents count arcs → IsGreatest arcs p q → IsShortPotential arcs count p q v h
    → (n a : ℕ) (xs : List Timed) → IsChain arcs a xs v → length xs ≤ n → q * walk_delay xs ≤ h + p * walk_tokens xs
most_by_short arcs count p q v h ends greatest s zero a xs chain le = s.most a xs chain (omega arith)
most_by_short arcs count p q v h ends greatest s (suc n) a xs chain le = elim (repeated_or_short arcs count ends a xs v chain) [
  | inr few ↦ s.most a xs chain few
  | inl r ↦
      let parts = length_parts arcs a xs v r in
      let one = greatest r.at r.circle r.around in
      let two = most_by_short arcs count p q v h ends greatest s n a (r.before ++ r.behind) (outside_chain arcs a xs v r) (omega (arith, r.some)) in
      let delays : q * walk_delay xs ≡ q * walk_delay r.circle + q * walk_delay (r.before ++ r.behind) =
      ap (λ (k : ℕ). q * k) (delay_parts arcs a xs v r) ∙ mul_sum q (walk_delay r.circle) (walk_delay (r.before ++ r.behind)) in
      let tokens : p * walk_tokens xs ≡ p * walk_tokens r.circle + p * walk_tokens (r.before ++ r.behind) =
      ap (λ (k : ℕ). p * k) (tokens_parts arcs a xs v r) ∙ mul_sum p (walk_tokens r.circle) (walk_tokens (r.before ++ r.behind)) in
      omega arith
]

-- each event has a potential
pub some_potential : (arcs : List Timed) (count p q : ℕ) → AreEvents count arcs → IsGreatest arcs p q
    → (v : ℕ) → (h : ℕ) × IsPotential arcs p q v h
some_potential arcs count p q ends greatest v =
    let (h, s) = short_potential arcs count p q v in (
      h,
      record {
        most = λ a xs chain. most_by_short arcs count p q v h ends greatest s (length xs) a xs chain (omega arith);
        met = s.met;
      },
    )

-- potentials rise along each arc
pub potentials_rise : (arcs : List Timed) (p q : ℕ) (h : ℕ → ℕ) (x : Timed) → Contains arcs x
    → IsPotential arcs p q x.source (h x.source) → IsPotential arcs p q x.target (h x.target) → Rises p q h x
potentials_rise arcs p q h x inside begin end =
    let (a, xs, chain, met) = begin.met in
    let on = chain_join arcs a xs x.source (x ∷ []) x.target chain (inside, refl, refl) in
    let bound = end.most a (xs ++ x ∷ []) on in
    let d : walk_delay (xs ++ x ∷ []) ≡ walk_delay xs + x.delay = delay_join xs (x ∷ []) ∙ omega arith in
    let t : walk_tokens (xs ++ x ∷ []) ≡ walk_tokens xs + x.tokens = tokens_join xs (x ∷ []) ∙ omega arith in
    let delays : q * walk_delay (xs ++ x ∷ []) ≡ q * walk_delay xs + q * x.delay = ap (λ (k : ℕ). q * k) d ∙ mul_sum q (walk_delay xs) x.delay in
    let tokens : p * walk_tokens (xs ++ x ∷ []) ≡ p * walk_tokens xs + p * x.tokens = ap (λ (k : ℕ). p * k) t ∙ mul_sum p (walk_tokens xs) x.tokens in
    omega arith
