-- A walk that meets a source again has a closed walk in it.
use Rattle.std.proofs.Common.{◌≡◌, ◌≢◌, ◌⊎◌, ◌∙◌, ◌<◌, ◌≤◌, ◌+◌, ℕ, List, [], ◌∷◌, ◌++◌, length, length-append, get_or, true, false, inl, inr, zero, suc, arith, ap, refl, sym, subst}
use Rattle.std.specs.List.{Contains, AllByRecursion, list_any, IsDistinct as IsDistinctBy}
use Rattle.std.proofs.lemmas.Bool.{cases_eq}
use Rattle.std.proofs.lemmas.List.{get_or_default}
use Rattle.std.proofs.lemmas.List.Folds.{Any-from_list_any}
use Rattle.std.proofs.lemmas.Map.Steps.{length-le_from_distinct_below}
use Rattle.std.proofs.lemmas.Bool.Decides.{Decides-eqb, nat_tests}
use Rattle.std.proofs.Math.Dec.{eqb}
use Rattle.ds_rank.specs.Order.{IsDistinct}
use Rattle.ds_period.specs.declared.timed.Timed.{Timed}
use Rattle.ds_period.specs.Walk.{IsChain, walk_delay, walk_tokens}
use Rattle.ds_period.specs.Search.{AreEvents, no_arc, timed_at}
use Rattle.ds_period.specs.Found.{sources_of}
use Rattle.ds_period.proofs.Raise.{chain_join, delay_join, tokens_join}

-- a walk in two parts, and where they meet
pub record IsCutWalk (arcs : List Timed) (a : ℕ) (xs ys : List Timed) (b : ℕ) : Type 0 where
  pub at : ℕ
  pub first : IsChain arcs a xs at
  pub last : IsChain arcs at ys b

-- a walk along joined lists is cut where they join
pub chain_cut : (arcs : List Timed) (a : ℕ) (xs ys : List Timed) (b : ℕ) → IsChain arcs a (xs ++ ys) b → IsCutWalk arcs a xs ys b
chain_cut arcs a [] ys b chain = record { at = a; first = refl; last = chain }
chain_cut arcs a (x ∷ xs) ys b (inside, source, rest) =
    let cut = chain_cut arcs x.target xs ys b rest in
    record { at = cut.at; first = (inside, source, cut.first); last = cut.last }

-- a walk comes to an event and goes on from it
pub record IsMet (arcs : List Timed) (u a : ℕ) (xs : List Timed) (b : ℕ) : Type 0 where
  pub before : List Timed
  pub behind : List Timed
  pub whole : xs ≡ before ++ behind
  pub first : IsChain arcs a before u
  pub last : IsChain arcs u behind b
  pub more : 0 < length behind

-- the event is not among these
abbrev pub IsApart : ℕ → List ℕ → Type 0
IsApart u events = (i : ℕ) → i < length events → u ≢ get_or events i 0

-- one event more
apart_cons : (u v : ℕ) (events : List ℕ) → u ≢ v → IsApart u events → IsApart u (v ∷ events)
apart_cons u v events other apart zero inside = other
apart_cons u v events other apart (suc i) inside = apart i (omega arith)

-- an event is met or is no source
met_or_apart : (arcs : List Timed) (u a : ℕ) (xs : List Timed) (b : ℕ) → IsChain arcs a xs b
    → IsMet arcs u a xs b ⊎ IsApart u (sources_of xs)
met_or_apart arcs u a [] b e = inr (λ i inside. absurd (omega arith))
met_or_apart arcs u a (x ∷ xs) b (inside, source, rest) = go (cases_eq x.source u) (met_or_apart arcs u x.target xs b rest)
  where
    go : (x.source ≡ u) ⊎ (x.source ≢ u) → IsMet arcs u x.target xs b ⊎ IsApart u (sources_of xs)
        → IsMet arcs u a (x ∷ xs) b ⊎ IsApart u (x.source ∷ sources_of xs)
    go (inl e) others = inl (record {
      before = [];
      behind = x ∷ xs;
      whole = refl;
      first = sym source ∙ e;
      last = (inside, e, rest);
      more = omega arith;
    })
    go (inr other) (inl m) = inl (record {
      before = x ∷ m.before;
      behind = m.behind;
      whole = ap (λ (ys : List Timed). x ∷ ys) m.whole;
      first = (inside, source, m.first);
      last = m.last;
      more = m.more;
    })
    go (inr other) (inr apart) = inr (apart_cons u x.source (sources_of xs) (λ e. other (sym e)) apart)

-- a walk with a closed walk in it
pub record IsRepeated (arcs : List Timed) (a : ℕ) (xs : List Timed) (b : ℕ) : Type 0 where
  pub at : ℕ
  pub before : List Timed
  pub circle : List Timed
  pub behind : List Timed
  pub whole : xs ≡ before ++ (circle ++ behind)
  pub first : IsChain arcs a before at
  pub around : IsChain arcs at circle at
  pub last : IsChain arcs at behind b
  pub some : 0 < length circle
  pub more : 0 < length behind

-- one event more, and none stands twice
distinct_cons : (u : ℕ) (events : List ℕ) → IsApart u events → IsDistinct events → IsDistinct (u ∷ events)
distinct_cons u events apart distinct zero zero before inside = absurd (omega arith)
distinct_cons u events apart distinct zero (suc j) before inside = apart j (omega arith)
distinct_cons u events apart distinct (suc i) zero before inside = absurd (omega arith)
distinct_cons u events apart distinct (suc i) (suc j) before inside = distinct i j (omega arith) (omega arith)

-- a closed walk is in it, or no source stands twice
pub repeated_or_distinct : (arcs : List Timed) (a : ℕ) (xs : List Timed) (b : ℕ) → IsChain arcs a xs b
    → IsRepeated arcs a xs b ⊎ IsDistinct (sources_of xs)
repeated_or_distinct arcs a [] b e = inr (λ i j before inside. absurd (omega arith))
repeated_or_distinct arcs a (x ∷ xs) b (inside, source, rest) =
    go (repeated_or_distinct arcs x.target xs b rest) (met_or_apart arcs x.source x.target xs b rest)
  where
    go : IsRepeated arcs x.target xs b ⊎ IsDistinct (sources_of xs) → IsMet arcs x.source x.target xs b ⊎ IsApart x.source (sources_of xs)
        → IsRepeated arcs a (x ∷ xs) b ⊎ IsDistinct (x.source ∷ sources_of xs)
    go (inl r) others = inl (record {
      at = r.at;
      before = x ∷ r.before;
      circle = r.circle;
      behind = r.behind;
      whole = ap (λ (ys : List Timed). x ∷ ys) r.whole;
      first = (inside, source, r.first);
      around = r.around;
      last = r.last;
      some = r.some;
      more = r.more;
    })
    go (inr distinct) (inl m) = inl (record {
      at = x.source;
      before = [];
      circle = x ∷ m.before;
      behind = m.behind;
      whole = ap (λ (ys : List Timed). x ∷ ys) m.whole;
      first = sym source;
      around = (inside, refl, m.first);
      last = m.last;
      some = omega arith;
      more = m.more;
    })
    go (inr distinct) (inr apart) = inr (distinct_cons x.source (sources_of xs) apart distinct)

module _ (arcs : List Timed) (a : ℕ) (xs : List Timed) (b : ℕ) (r : IsRepeated arcs a xs b) where
  -- the walk without the closed walk is a walk
  pub outside_chain : IsChain arcs a (r.before ++ r.behind) b
  outside_chain = chain_join arcs a r.before r.at r.behind b r.first r.last

  -- the two have the delay of the whole
  pub delay_parts : walk_delay xs ≡ walk_delay r.circle + walk_delay (r.before ++ r.behind)
  delay_parts =
      let e : walk_delay xs ≡ walk_delay (r.before ++ (r.circle ++ r.behind)) = ap walk_delay r.whole in
      let one = delay_join r.before (r.circle ++ r.behind) in
      let two = delay_join r.circle r.behind in
      let three = delay_join r.before r.behind in
      omega arith

  -- and its tokens
  pub tokens_parts : walk_tokens xs ≡ walk_tokens r.circle + walk_tokens (r.before ++ r.behind)
  tokens_parts =
      let e : walk_tokens xs ≡ walk_tokens (r.before ++ (r.circle ++ r.behind)) = ap walk_tokens r.whole in
      let one = tokens_join r.before (r.circle ++ r.behind) in
      let two = tokens_join r.circle r.behind in
      let three = tokens_join r.before r.behind in
      omega arith

  -- and its length
  pub length_parts : length xs ≡ length r.circle + length (r.before ++ r.behind)
  length_parts =
      let e : length xs ≡ length (r.before ++ (r.circle ++ r.behind)) = ap (λ (ys : List Timed). length ys) r.whole in
      let one = length-append r.before (r.circle ++ r.behind) in
      let two = length-append r.circle r.behind in
      let three = length-append r.before r.behind in
      omega arith

-- the sources of a walk are as many as its arcs
pub sources_length : (xs : List Timed) → length (sources_of xs) ≡ length xs
sources_length [] = refl
sources_length (x ∷ xs) = let rest = sources_length xs in omega arith

-- the ends of an arc are events
pub ends_of : (arcs : List Timed) (count : ℕ) → AreEvents count arcs → (x : Timed) → Contains arcs x → (x.source < count) × (x.target < count)
ends_of arcs count ends x (k, inside, is) =
    let at : timed_at arcs k ≡ x = get_or_default arcs k no_arc x inside ∙ is in
    subst (λ (y : Timed). (y.source < count) × (y.target < count)) at (ends k inside)

-- the sources of a walk are events
pub sources_below : (arcs : List Timed) (count : ℕ) → AreEvents count arcs → (a : ℕ) (xs : List Timed) (b : ℕ) → IsChain arcs a xs b
    → (i : ℕ) → i < length (sources_of xs) → get_or (sources_of xs) i 0 < count
sources_below arcs count ends a [] b e i inside = absurd (omega arith)
sources_below arcs count ends a (x ∷ xs) b (here, source, rest) zero inside = (ends_of arcs count ends x here).0
sources_below arcs count ends a (x ∷ xs) b (here, source, rest) (suc i) inside = sources_below arcs count ends x.target xs b rest i (omega arith)

-- events of which none stands twice, as tests say it
tests_apart : (u : ℕ) (events : List ℕ) → IsApart u events → AllByRecursion (λ v. eqb u v ≡ false) events
tests_apart u [] apart = tt
tests_apart u (v ∷ events) apart =
    (grind (arith, nat_tests, apart 0 (omega arith)), tests_apart u events (λ i inside. apart (suc i) (omega arith)))

tests_distinct : (events : List ℕ) → IsDistinct events → IsDistinctBy eqb events
unfolding IsDistinctBy
tests_distinct [] distinct = tt
tests_distinct (v ∷ events) distinct = (
  tests_apart v events (λ i inside. distinct 0 (suc i) (omega arith) (omega arith)),
  tests_distinct events (λ i j before inside. distinct (suc i) (suc j) (omega arith) (omega arith)),
)

-- so many events below a number are no more than it says
few_distinct : (events : List ℕ) (count : ℕ) → IsDistinct events → ((i : ℕ) → i < length events → get_or events i 0 < count)
    → length events ≤ count
few_distinct events count distinct below = length-le_from_distinct_below events count (tests_distinct events distinct) go
  where
    go : (u : ℕ) → list_any (eqb u) events ≡ true → u < count
    go u has =
        let (k, v, inside, is, e) = Any-from_list_any (eqb u) events has in
        let same : u ≡ v = (Decides-eqb u v).0 e in
        let low = below k inside in
        let at : get_or events k 0 ≡ v = get_or_default events k 0 v inside ∙ is in
        omega arith

-- a walk through different events is no longer than there are events
pub short_distinct : (arcs : List Timed) (count : ℕ) → AreEvents count arcs → (a : ℕ) (xs : List Timed) (b : ℕ) → IsChain arcs a xs b
    → IsDistinct (sources_of xs) → length xs ≤ count
short_distinct arcs count ends a xs b chain distinct =
    let few = few_distinct (sources_of xs) count distinct (sources_below arcs count ends a xs b chain) in
    omega (arith, sources_length xs)
