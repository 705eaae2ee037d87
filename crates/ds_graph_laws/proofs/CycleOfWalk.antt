-- In each closed walk there is a cycle, with no less a ratio where none is greater.
use Rattle.std.proofs.Common.{◌≡◌, ◌⊎◌, ◌<◌, ◌≤◌, ◌+◌, ◌*◌, ℕ, List, [], ◌∷◌, ◌++◌, length, length-append, inl, inr, zero, suc, arith, ap, refl, sym, subst}
use Rattle.std.specs.List.{All, Contains}
use Rattle.std.proofs.lemmas.Bool.{cases_lt}
use Rattle.std.proofs.lemmas.List.Elements.{Contains-append_cases, Contains-append_left, Contains-append_right}
use Rattle.ds_rank.specs.Order.{IsCycle, IsDistinct, IsWalk}
use Rattle.ds_period.specs.declared.timed.Timed.{Timed}
use Rattle.ds_period.specs.Walk.{IsChain, IsGreatest, walk_delay, walk_tokens}
use Rattle.ds_period.specs.Found.{HasArc, sources_of}
use Rattle.ds_period.proofs.Raise.{chain_join, delay_join, tokens_join}
use Rattle.ds_graph_laws.proofs.Repeated.{IsRepeated, chain_cut, delay_parts, tokens_parts, length_parts, outside_chain, repeated_or_distinct}

-- no arc of these has a source below this number
abbrev pub AreSourcesFrom : ℕ → List Timed → Type 0
AreSourcesFrom u xs = (x : Timed) → Contains xs x → u ≤ x.source

-- one arc more
from_cons : (u : ℕ) (x : Timed) (xs : List Timed) → u ≤ x.source → AreSourcesFrom u xs → AreSourcesFrom u (x ∷ xs)
from_cons u x xs here rest y (zero, inside, is) = subst (λ (z : Timed). u ≤ z.source) is here
from_cons u x xs here rest y (suc k, inside, is) = rest y (k, omega arith, is)

-- what is said of the arcs is said of the sources
from_sources : (u : ℕ) (xs : List Timed) → AreSourcesFrom u xs → All (λ v. u ≤ v) (sources_of xs)
from_sources u [] from k d inside = absurd (omega arith)
from_sources u (x ∷ xs) from zero d inside = from x (0, omega arith, refl)
from_sources u (x ∷ xs) from (suc k) d inside = from_sources u xs (λ y (j, under, is). from y (suc j, omega arith, is)) k d (omega arith)

-- an arc with the least source, and what stands before and behind it
pub record HasLeastSource (xs : List Timed) : Type 0 where
  pub before : List Timed
  pub least : Timed
  pub behind : List Timed
  pub whole : xs ≡ before ++ (least ∷ behind)
  pub low : AreSourcesFrom least.source xs

-- among some arcs one has the least source
least_of : (x : Timed) (xs : List Timed) → HasLeastSource (x ∷ xs)
least_of x [] = record { before = []; least = x; behind = []; whole = refl; low = from_cons x.source x [] (omega arith) (λ y (k, inside, is). absurd (omega arith)) }
least_of x (y ∷ ys) = go (least_of y ys)
  where
    go : HasLeastSource (y ∷ ys) → HasLeastSource (x ∷ y ∷ ys)
    go l = elim (cases_lt l.least.source x.source) [
      | inl lt ↦ record {
        before = x ∷ l.before;
        least = l.least;
        behind = l.behind;
        whole = ap (λ (zs : List Timed). x ∷ zs) l.whole;
        low = from_cons l.least.source x (y ∷ ys) (omega arith) l.low;
      }
      | inr le ↦ record {
        before = [];
        least = x;
        behind = y ∷ ys;
        whole = refl;
        low = from_cons x.source x (y ∷ ys) (omega arith) (λ z inside. (let far = l.low z inside in omega arith));
      }
    ]

-- a closed walk that begins at its least source, as long as another, with as much delay and as many tokens
pub record IsTurnedWalk (arcs : List Timed) (xs : List Timed) : Type 0 where
  pub first : Timed
  pub rest : List Timed
  pub chain : IsChain arcs first.source (first ∷ rest) first.source
  pub low : All (λ v. first.source ≤ v) (sources_of rest)
  pub long : length (first ∷ rest) ≡ length xs
  pub delay_is : walk_delay (first ∷ rest) ≡ walk_delay xs
  pub tokens_is : walk_tokens (first ∷ rest) ≡ walk_tokens xs

-- a closed walk may begin at its least source
turned : (arcs : List Timed) (a : ℕ) (x : Timed) (xs : List Timed) → IsChain arcs a (x ∷ xs) a → IsTurnedWalk arcs (x ∷ xs)
turned arcs a x xs chain =
    let l = least_of x xs in
    let whole_chain = subst (λ (ys : List Timed). IsChain arcs a ys a) l.whole chain in
    let c = chain_cut arcs a l.before (l.least ∷ l.behind) a whole_chain in
    let (inside, source, rest) = c.last in
    let before : IsChain arcs a l.before l.least.source = subst (λ (u : ℕ). IsChain arcs a l.before u) (sym source) c.first in
    record {
      first = l.least;
      rest = l.behind ++ l.before;
      chain = (inside, refl, chain_join arcs l.least.target l.behind a l.before l.least.source rest before);
      low = from_sources l.least.source (l.behind ++ l.before) (λ y there. low l y (Contains-append_cases l.behind l.before y there));
      long =
          let e : length (x ∷ xs) ≡ length (l.before ++ (l.least ∷ l.behind)) = ap (λ (ys : List Timed). length ys) l.whole in
          let one = length-append l.before (l.least ∷ l.behind) in
          let two = length-append l.behind l.before in
          omega arith;
      delay_is =
          let e : walk_delay (x ∷ xs) ≡ walk_delay (l.before ++ (l.least ∷ l.behind)) = ap walk_delay l.whole in
          let one = delay_join l.before (l.least ∷ l.behind) in
          let two = delay_join l.behind l.before in
          omega arith;
      tokens_is =
          let e : walk_tokens (x ∷ xs) ≡ walk_tokens (l.before ++ (l.least ∷ l.behind)) = ap walk_tokens l.whole in
          let one = tokens_join l.before (l.least ∷ l.behind) in
          let two = tokens_join l.behind l.before in
          omega arith;
    }
  where
    low : (l : HasLeastSource (x ∷ xs)) (y : Timed) → Contains l.behind y ⊎ Contains l.before y → l.least.source ≤ y.source
    low l y (inl (k, inside, is)) = l.low y (subst (λ (ys : List Timed). Contains ys y) (sym l.whole)
        (Contains-append_right l.before (l.least ∷ l.behind) y (suc k, omega arith, is)))
    low l y (inr there) = l.low y (subst (λ (ys : List Timed). Contains ys y) (sym l.whole)
        (Contains-append_left l.before (l.least ∷ l.behind) y there))

-- a closed walk through different events, begun at the least, with the ratio p / q
pub record IsRound (arcs : List Timed) (p q : ℕ) : Type 0 where
  pub first : Timed
  pub rest : List Timed
  pub chain : IsChain arcs first.source (first ∷ rest) first.source
  pub low : All (λ v. first.source ≤ v) (sources_of rest)
  pub distinct : IsDistinct (sources_of (first ∷ rest))
  pub ratio : q * walk_delay (first ∷ rest) ≡ p * walk_tokens (first ∷ rest)

-- where no closed walk is above p / q, one that has p / q has it in each of its closed walks
ratio_of_part : (arcs : List Timed) (p q : ℕ) → IsGreatest arcs p q → (a : ℕ) (xs : List Timed) (r : IsRepeated arcs a xs a)
    → q * walk_delay xs ≡ p * walk_tokens xs → q * walk_delay r.circle ≡ p * walk_tokens r.circle
ratio_of_part arcs p q greatest a xs r ratio =
    let one : q * walk_delay r.circle ≤ p * walk_tokens r.circle = greatest r.at r.circle r.around in
    let two : q * walk_delay (r.before ++ r.behind) ≤ p * walk_tokens (r.before ++ r.behind) =
    greatest a (r.before ++ r.behind) (outside_chain arcs a xs a r) in
    let delays : q * walk_delay xs ≡ q * (walk_delay r.circle + walk_delay (r.before ++ r.behind)) = ap (λ (n : ℕ). q * n) (delay_parts arcs a xs a r) in
    let tokens : p * walk_tokens xs ≡ p * (walk_tokens r.circle + walk_tokens (r.before ++ r.behind)) = ap (λ (n : ℕ). p * n) (tokens_parts arcs a xs a r) in
    omega arith

-- in a closed walk that has the greatest ratio there is a cycle that has it
pub round_in : (arcs : List Timed) (p q : ℕ) → IsGreatest arcs p q → (n a : ℕ) (xs : List Timed) → IsChain arcs a xs a
    → 0 < length xs → length xs ≤ n → q * walk_delay xs ≡ p * walk_tokens xs → IsRound arcs p q
round_in arcs p q greatest zero a xs chain some most ratio = absurd (omega arith)
round_in arcs p q greatest (suc n) a [] chain some most ratio = absurd (omega arith)
round_in arcs p q greatest (suc n) a (x ∷ xs) chain some most ratio =
    let t = turned arcs a x xs chain in
    let same : q * walk_delay (t.first ∷ t.rest) ≡ p * walk_tokens (t.first ∷ t.rest) =
    rw (t.delay_is, t.tokens_is) ratio in
    elim (repeated_or_distinct arcs t.first.source (t.first ∷ t.rest) t.first.source t.chain) [
      | inl r ↦
          let parts = length_parts arcs t.first.source (t.first ∷ t.rest) t.first.source r in
          let more : length (r.before ++ r.behind) ≡ length r.before + length r.behind = length-append r.before r.behind in
          round_in arcs p q greatest n r.at r.circle r.around r.some (omega (arith, r.more, t.long))
          (ratio_of_part arcs p q greatest t.first.source (t.first ∷ t.rest) r same)
      | inr distinct ↦ record { first = t.first; rest = t.rest; chain = t.chain; low = t.low; distinct = distinct; ratio = same }
    ]

-- a walk passes from source to source
walk_of : (arcs : List Timed) (x : Timed) (xs : List Timed) (b : ℕ) → Contains arcs x → IsChain arcs x.target xs b
    → IsWalk (HasArc arcs) x.source (sources_of xs) b
walk_of arcs x [] b (k, inside, is) e = (k, x, inside, is, (refl, e))
walk_of arcs x (y ∷ ys) b (k, inside, is) (there, source, rest) =
    ((k, x, inside, is, (refl, sym source)), walk_of arcs y ys b there rest)

-- its sources are a cycle
pub round_cycle : (arcs : List Timed) (p q : ℕ) (r : IsRound arcs p q) → IsCycle (HasArc arcs) (sources_of (r.first ∷ r.rest))
round_cycle arcs p q r =
    let (inside, source, rest) = r.chain in
    (walk_of arcs r.first r.rest r.first.source inside rest, r.distinct, r.low)
