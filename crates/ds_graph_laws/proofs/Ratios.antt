-- Some closed walk has the greatest ratio.
use Rattle.std.proofs.Common.{◌≡◌, ◌⊎◌, ◌<◌, ◌≤◌, ◌+◌, ◌*◌, ◌/◌, ℕ, List, [], ◌∷◌, ◌++◌, ◌∙◌, length, length-append, inl, inr, zero, suc, arith, ap, refl, sym, subst}
use Rattle.std.specs.List.{Contains}
use Rattle.std.proofs.Math.Nat.{mul-le-mul, mul-le-mul_left}
use Rattle.std.proofs.lemmas.Bool.{cases_lt}
use Rattle.ds_period.specs.declared.timed.Timed.{Timed}
use Rattle.ds_period.specs.Walk.{IsChain, IsGreatest, walk_delay, walk_tokens}
use Rattle.ds_period.specs.Search.{AreEvents}
use Rattle.ds_period.specs.Found.{IsLowest}
use Rattle.ds_period.specs.Period.{HasTokens}
use Rattle.ds_period.proofs.PotentialBounds.{mul_sum}
use Rattle.ds_period.proofs.Ratio.{ratios_rise}
use Rattle.ds_graph_laws.proofs.Most.{HasMost, IsShortWalk, StartsAmong, most_short, most_starts}
use Rattle.ds_graph_laws.proofs.Repeated.{IsRepeated, delay_parts, tokens_parts, length_parts, outside_chain, repeated_or_distinct, short_distinct}

-- an arc has no more tokens than all arcs
arc_tokens : (arcs : List Timed) (x : Timed) → Contains arcs x → x.tokens ≤ walk_tokens arcs
arc_tokens [] x (k, inside, is) = absurd (omega arith)
arc_tokens (y ∷ ys) x (zero, inside, is) = let same : y.tokens ≡ x.tokens = ap (λ (z : Timed). z.tokens) is in omega arith
arc_tokens (y ∷ ys) x (suc k, inside, is) = let rest = arc_tokens ys x (k, omega arith, is) in omega arith

-- a walk has no more tokens than all arcs have, for each of its arcs
walk_bound : (arcs : List Timed) (a : ℕ) (xs : List Timed) (b : ℕ) → IsChain arcs a xs b
    → walk_tokens xs ≤ length xs * walk_tokens arcs
walk_bound arcs a [] b e = omega arith
walk_bound arcs a (x ∷ xs) b (inside, source, rest) =
    let here = arc_tokens arcs x inside in
    let there = walk_bound arcs x.target xs b rest in
    let size : length (x ∷ xs) * walk_tokens arcs ≡ walk_tokens arcs + length xs * walk_tokens arcs = omega arith in
    omega arith

-- no walk of so many arcs has more tokens
abbrev pub most_tokens : List Timed → ℕ → ℕ
most_tokens arcs n = n * walk_tokens arcs

bounded_tokens : (arcs : List Timed) (n a : ℕ) (xs : List Timed) (b : ℕ) → IsChain arcs a xs b → length xs ≤ n
    → walk_tokens xs ≤ most_tokens arcs n
bounded_tokens arcs n a xs b chain le =
    let bound = walk_bound arcs a xs b chain in
    let up : length xs * walk_tokens arcs ≤ n * walk_tokens arcs = mul-le-mul le (omega arith) in
    omega arith

-- the whole part of the ratio of a walk, scaled up
abbrev pub scaled_ratio : ℕ → List Timed → ℕ
scaled_ratio scale xs = scale * walk_delay xs / walk_tokens xs

-- where it is no greater, the ratio is not
ratio_by_scaled : (most : ℕ) (xs ys : List Timed) → 0 < walk_tokens xs → 0 < walk_tokens ys → walk_tokens xs ≤ most → walk_tokens ys ≤ most
    → scaled_ratio (most * most) ys ≤ scaled_ratio (most * most) xs → walk_delay ys * walk_tokens xs ≤ walk_delay xs * walk_tokens ys
ratio_by_scaled most xs ys some also few fewer le = elim (cases_lt (walk_delay xs * walk_tokens ys) (walk_delay ys * walk_tokens xs)) [
  | inl lt ↦
      let room : walk_tokens xs * walk_tokens ys ≤ most * most = mul-le-mul few fewer in
      let rise = ratios_rise (most * most) (walk_delay xs) (walk_tokens xs) (walk_delay ys) (walk_tokens ys) some also room (omega arith) in
      absurd (omega arith)
  | inr not_less ↦ not_less
]

-- a closed walk whose ratio no closed walk of so many arcs exceeds
pub record IsBest (arcs : List Timed) (n : ℕ) : Type 0 where
  pub start : ℕ
  pub walk : List Timed
  pub chain : IsChain arcs start walk start
  pub some : 0 < walk_tokens walk
  pub most : (a : ℕ) (xs : List Timed) → IsChain arcs a xs a → length xs ≤ n
      → walk_delay xs * walk_tokens walk ≤ walk_delay walk * walk_tokens xs

-- a closed walk that begins with an arc
abbrev pub ClosesWithin : List Timed → ℕ → List Timed → Type 0
ClosesWithin arcs n = StartsAmong arcs (λ x w. IsShortWalk arcs n x.target x.source w)

closes_by : (arcs : List Timed) (n a : ℕ) (xs : List Timed) → IsChain arcs a xs a → 0 < length xs → length xs ≤ n → ClosesWithin arcs n xs
closes_by arcs n a [] chain some le = absurd (omega arith)
closes_by arcs n a (x ∷ xs) (inside, source, rest) some le =
    (inside, (subst (λ (u : ℕ). IsChain arcs x.target xs u) (sym source) rest, omega arith))

-- of closed walks that are short one has the greatest ratio
pub some_best : (arcs : List Timed) (n : ℕ) → HasTokens arcs → (a : ℕ) (xs : List Timed) → IsChain arcs a xs a → 0 < length xs
    → length xs ≤ n → IsBest arcs n
some_best arcs n tokens a xs chain some le =
    go (most_starts arcs (scaled_ratio scale) (λ x w. IsShortWalk arcs n x.target x.source w)
    (λ x. most_short arcs n (λ w. scaled_ratio scale (x ∷ w)) x.target x.source))
  where
    scale : ℕ
    scale = most_tokens arcs (suc n) * most_tokens arcs (suc n)

    go : HasMost (scaled_ratio scale) (ClosesWithin arcs n) → IsBest arcs n
    go (inl never) = absurd (never xs (closes_by arcs n a xs chain some le))
    go (inr ([], m)) = absurd m.such
    go (inr (x ∷ w, m)) =
        let closed : IsChain arcs x.source (x ∷ w) x.source = (m.such.0, refl, m.such.1.0) in
        let pos = tokens x.source (x ∷ w) closed (omega arith) in
        let few = bounded_tokens arcs (suc n) x.source (x ∷ w) x.source closed (omega (arith, m.such.1.1)) in
        record {
          start = x.source;
          walk = x ∷ w;
          chain = closed;
          some = pos;
          most = λ b ys around short. elim (cases_lt 0 (length ys)) [
            | inl many ↦ ratio_by_scaled (most_tokens arcs (suc n)) (x ∷ w) ys pos (tokens b ys around many) few
                (bounded_tokens arcs (suc n) b ys b around (omega arith)) (m.most ys (closes_by arcs n b ys around many short))
            | inr none ↦ empty ys none
          ];
        }
      where
        empty : (ys : List Timed) → length ys ≤ 0 → walk_delay ys * walk_tokens (x ∷ w) ≤ walk_delay (x ∷ w) * walk_tokens ys
        empty [] none = omega arith
        empty (y ∷ ys) none = absurd (omega arith)

-- a walk is no longer than there are events, or has a closed walk in it
pub repeated_or_short : (arcs : List Timed) (count : ℕ) → AreEvents count arcs → (a : ℕ) (xs : List Timed) (b : ℕ) → IsChain arcs a xs b
    → IsRepeated arcs a xs b ⊎ (length xs ≤ count)
repeated_or_short arcs count ends a xs b chain = elim (repeated_or_distinct arcs a xs b chain) [
  | inl r ↦ inl r
  | inr distinct ↦ inr (short_distinct arcs count ends a xs b chain distinct)
]

-- where no short closed walk is above p / q, none is
pub greatest_by_short : (arcs : List Timed) (count p q : ℕ) → AreEvents count arcs
    → ((a : ℕ) (xs : List Timed) → IsChain arcs a xs a → length xs ≤ count → q * walk_delay xs ≤ p * walk_tokens xs)
    → (n a : ℕ) (xs : List Timed) → IsChain arcs a xs a → length xs ≤ n → q * walk_delay xs ≤ p * walk_tokens xs
greatest_by_short arcs count p q ends short zero a xs chain le = short a xs chain (omega arith)
greatest_by_short arcs count p q ends short (suc n) a xs chain le = elim (repeated_or_short arcs count ends a xs a chain) [
  | inr few ↦ short a xs chain few
  | inl r ↦
      let parts = length_parts arcs a xs a r in
      let more : length (r.before ++ r.behind) ≡ length r.before + length r.behind = length-append r.before r.behind in
      let one = greatest_by_short arcs count p q ends short n r.at r.circle r.around (omega (arith, r.more)) in
      let two = greatest_by_short arcs count p q ends short n a (r.before ++ r.behind) (outside_chain arcs a xs a r) (omega (arith, r.some)) in
      let delays : q * walk_delay xs ≡ q * walk_delay r.circle + q * walk_delay (r.before ++ r.behind) =
      ap (λ (k : ℕ). q * k) (delay_parts arcs a xs a r) ∙ mul_sum q (walk_delay r.circle) (walk_delay (r.before ++ r.behind)) in
      let tokens : p * walk_tokens xs ≡ p * walk_tokens r.circle + p * walk_tokens (r.before ++ r.behind) =
      ap (λ (k : ℕ). p * k) (tokens_parts arcs a xs a r) ∙ mul_sum p (walk_tokens r.circle) (walk_tokens (r.before ++ r.behind)) in
      omega arith
]

-- where a ratio in lowest terms is no less than another, the terms say so
ratio_by_lowest : (d t p q e s : ℕ) → IsLowest d t p q → e * t ≤ d * s → q * e ≤ p * s
ratio_by_lowest d t p q e s l le = elim (cases_lt (p * s) (q * e)) [
  | inl lt ↦
      let up : l.divisor * (p * s + 1) ≤ l.divisor * (q * e) = mul-le-mul_left l.divisor (omega arith) in
      let delays : d * s ≡ p * l.divisor * s = ap (λ (k : ℕ). k * s) (sym l.delay_is) in
      let tokens : e * t ≡ e * (q * l.divisor) = ap (λ (k : ℕ). e * k) (sym l.tokens_is) in
      absurd (omega (arith, l.some))
  | inr not_less ↦ not_less
]

-- a ratio has its lowest terms
pub ratio_reached : (d t p q : ℕ) → IsLowest d t p q → q * d ≡ p * t
ratio_reached d t p q l =
    let delays : q * d ≡ q * (p * l.divisor) = ap (λ (k : ℕ). q * k) (sym l.delay_is) in
    let tokens : p * t ≡ p * (q * l.divisor) = ap (λ (k : ℕ). p * k) (sym l.tokens_is) in
    omega arith

-- no closed walk is above the best one
pub greatest_by_best : (arcs : List Timed) (count p q : ℕ) → AreEvents count arcs → (best : IsBest arcs count)
    → IsLowest (walk_delay best.walk) (walk_tokens best.walk) p q → IsGreatest arcs p q
greatest_by_best arcs count p q ends best l a xs chain =
    greatest_by_short arcs count p q ends
    (λ b ys around short. ratio_by_lowest (walk_delay best.walk) (walk_tokens best.walk) p q (walk_delay ys) (walk_tokens ys) l (best.most b ys around short))
    (length xs) a xs chain (omega arith)
