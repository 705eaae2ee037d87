-- What masks say of walks.
use Rattle.std.proofs.Common.{◌≡◌, ◌∙◌, ◌<◌, ◌≤◌, ◌+◌, ◌-◌, ◌*◌, ℕ, List, length, get_or, inl, inr, arith, subst, sym, refl, ap, None, Some, Option, sum, ◌^◌, false}
use Rattle.std.specs.Prelude.{Contains, All}
use Rattle.std.specs.List.{AllWithin}
use Rattle.std.specs.Int.{bit_at}
use Rattle.std.specs.Option.{is_some}
use Rattle.std.proofs.lemmas.Bool.{cases_lt, false≢true}
use Rattle.std.proofs.lemmas.List.{get_or_default}
use Rattle.std.proofs.lemmas.List.Sums.{sum_by-le}
use Rattle.std.proofs.lemmas.List.Elements.{All-contains}
use Rattle.ds_marked.specs.Graph.{AreEnds, Graph, Walk, stay, along}
use Rattle.ds_marked.specs.declared.marked.Arc.{Arc}
use Rattle.ds_accept.specs.Given.{IsGiven, IsFirstUnmet, IsFirstUnmetBelow}
use Rattle.ds_accept.specs.Masks.{AreAllIn, AreBegun, AreWalks, IsBlock, AreAllClosed, IsClosedAt, IsFirstNotFound, IsFoundBy, IsReachedAt, along_arcs}
use Rattle.ds_accept.proofs.SweepSteps.{one_place}

-- a walk along some arcs is one along others that have them all
pub walk_in : (g h : Graph) → AreAllIn g.arcs h.arcs → (u v sum : ℕ) → Walk g u v sum → Walk h u v sum
walk_in g h all _ _ _ stay = stay
walk_in g h all _ _ _ (along {u} {v} {w} {sum} {tokens} walk (k, arc, inside, is, p)) =
    let at : Contains h.arcs arc = All-contains (Contains h.arcs) g.arcs arc all (k, inside, is) in
    along (walk_in g h all u v sum walk) (at.0, arc, at.1, at.2, p)

-- where all arcs are closed, a walk is found
pub reaches : (arcs : List Arc) (events bound : ℕ) (masks : List ℕ) → AreAllClosed arcs events bound bound masks → (bit u v sum : ℕ)
    → Walk (along_arcs arcs) u v sum → IsReachedAt events masks 0 u bit → sum < bound → IsReachedAt events masks sum v bit
reaches arcs events bound masks closed bit _ _ _ stay start low = start
reaches arcs events bound masks closed bit _ _ _ (along {u} {v} {w} {sum} {tokens} walk (k, arc, inside, is, (source, target, few))) start low =
    let before : IsReachedAt events masks sum v bit = reaches arcs events bound masks closed bit u v sum walk start (omega arith) in
    let step : IsClosedAt events bound masks sum arc = All-contains (IsClosedAt events bound masks sum) arcs arc (closed sum (omega arith)) (k, inside, is) in
    let there : IsReachedAt events masks (sum + arc.tokens) arc.target bit = step (omega arith) bit (subst (λ (v : ℕ). IsReachedAt events masks sum v bit) (sym source) before) in
    subst (λ (t : ℕ). IsReachedAt events masks (sum + t) w bit) few (subst (λ (w : ℕ). IsReachedAt events masks (sum + arc.tokens) w bit) target there)

-- the masks before the first sweep are walks without arcs
pub begun_walks : (arcs : List Arc) (sources : List ℕ) (events bound : ℕ) (masks : List ℕ) → ((b : ℕ) → b < length sources → get_or sources b 0 < events)
    → AreBegun sources (length sources) masks → AreWalks arcs sources events bound masks
begun_walks arcs sources events bound masks near begun token_sum v bit low near_v reached =
    let is = (begun (token_sum * events + v) bit).0 reached in
    let inside : bit < length sources = is.0 in
    let at : get_or sources bit 0 ≡ token_sum * events + v = is.1 in
    let same : (token_sum ≡ 0) × (v ≡ get_or sources bit 0) = one_place events token_sum v 0 (get_or sources bit 0) near_v (near bit inside) (sym at ∙ zero_place (get_or sources bit 0) events) in (
      inside,
      subst (λ (l : ℕ). Walk (along_arcs arcs) (get_or sources bit 0) v l) (sym same.0)
          (subst (λ (v : ℕ). Walk (along_arcs arcs) (get_or sources bit 0) v 0) (sym same.1) stay),
    )
  where
    zero_place : (s n : ℕ) → s ≡ 0 * n + s
    zero_place s n = omega arith

pub begun_starts : (sources : List ℕ) (events : ℕ) (masks : List ℕ) → AreBegun sources (length sources) masks
    → (b : ℕ) → b < length sources → IsReachedAt events masks 0 (get_or sources b 0) b
begun_starts sources events masks begun b inside =
    let e : 0 * events + get_or sources b 0 ≡ get_or sources b 0 = omega arith in
    ap (λ (i : ℕ). bit_at (get_or masks i 0) b) e ∙ (begun (get_or sources b 0) b).1 (inside, refl)

-- orders of a block
module _ (arcs : List Arc) (events bound : ℕ) (masks : List ℕ) (asked : List Arc) (from : ℕ) (sources bits : List ℕ)
    (ends : AreEnds events asked) (tokens : All (λ arc. arc.tokens < bound) asked) (block : IsBlock asked from sources bits)
    (walks : AreWalks arcs sources events bound masks) where
  -- an order that is found is given
  given_at : (k : ℕ) (d : Arc) → k < length bits → IsFoundBy events masks (get_or asked (from + k) d) (get_or bits k 0) → IsGiven (along_arcs arcs) (get_or asked (from + k) d)
  given_at k d inside (token_sum, low, reached) =
      let order : Arc = get_or asked (from + k) d in
      let place : from + k < length asked = omega (arith, block.size) in
      let near = ends (from + k) d place in
      let few = tokens (from + k) d place in
      let walk = walks token_sum order.target (get_or bits k 0) (omega arith) near.1 reached in
      (token_sum, low, subst (λ (u : ℕ). Walk (along_arcs arcs) u order.target token_sum) (block.has_source k inside d) walk.1)

  -- one that is not found is not given, where all arcs are closed
  not_given_at : AreAllClosed arcs events bound bound masks → ((b : ℕ) → b < length sources → IsReachedAt events masks 0 (get_or sources b 0) b)
      → (k : ℕ) (d : Arc) → k < length bits → ¬ IsFoundBy events masks (get_or asked (from + k) d) (get_or bits k 0) → ¬ IsGiven (along_arcs arcs) (get_or asked (from + k) d)
  not_given_at closed starts k d inside none (sum, low, walk) =
      let order : Arc = get_or asked (from + k) d in
      let place : from + k < length asked = omega (arith, block.size) in
      let few = tokens (from + k) d place in
      let bit : ℕ = get_or bits k 0 in
      let start : IsReachedAt events masks 0 order.source bit = subst (λ (u : ℕ). IsReachedAt events masks 0 u bit) (block.has_source k inside d) (starts bit (block.has_bit k inside)) in
      none (sum, low, reaches arcs events bound masks closed bit order.source order.target sum walk start (omega arith))

  shifted : (P : Arc → Type 0) (k : ℕ) (d : Arc) → from ≤ k → P (get_or asked (from + (k - from)) d) → P (get_or asked k d)
  shifted P k d low p = (let e : from + (k - from) ≡ k = omega arith in subst (λ (i : ℕ). P (get_or asked i d)) e p)

  unshifted : (P : Arc → Type 0) (k : ℕ) (d : Arc) → from ≤ k → P (get_or asked k d) → P (get_or asked (from + (k - from)) d)
  unshifted P k d low p = (let e : k ≡ from + (k - from) = omega arith in subst (λ (i : ℕ). P (get_or asked i d)) e p)

  -- where all are found, all are given
  pub unmet_none : IsFirstNotFound events masks asked from bits None → IsFirstUnmetBelow (along_arcs arcs) asked from (from + length bits) None
  unmet_none all k d low high = shifted (IsGiven (along_arcs arcs)) k d low (given_at (k - from) d (omega arith) (all (k - from) (omega arith) d))

  pub unmet_none_by : (first : Option ℕ) → is_some first ≡ false → IsFirstNotFound events masks asked from bits first → IsFirstUnmetBelow (along_arcs arcs) asked from (from + length bits) None
  unmet_none_by None e all = unmet_none all
  unmet_none_by (Some place) e all = absurd (false≢true (sym e))

  -- after a sweep without a change, the first that is not found is the first that is not given
  pub unmet_first : AreAllClosed arcs events bound bound masks → ((b : ℕ) → b < length sources → IsReachedAt events masks 0 (get_or sources b 0) b)
      → (first : Option ℕ) → IsFirstNotFound events masks asked from bits first → IsFirstUnmetBelow (along_arcs arcs) asked from (from + length bits) first
  unmet_first closed starts None all = unmet_none all
  unmet_first closed starts (Some place) (low, high, none, before) = (
    high,
    low,
    (
      λ d. shifted (λ order. ¬ IsGiven (along_arcs arcs) order) place d low
          (not_given_at closed starts (place - from) d (omega arith)
          (unshifted (λ order. ¬ IsFoundBy events masks order (get_or bits (place - from) 0)) place d low (none d))),
      λ k d lower upper. shifted (IsGiven (along_arcs arcs)) k d lower (given_at (k - from) d (omega arith) (before (k - from) (omega arith) d)),
    ),
  )

-- a source of a block is an event
pub source_near : (events : ℕ) (asked : List Arc) (from : ℕ) (sources bits : List ℕ) → AreEnds events asked → IsBlock asked from sources bits
    → (k d : ℕ) → k < length sources → get_or sources k d < events
source_near events asked from sources bits ends block k d inside =
    let (j, low, at) = block.inside k d inside in
    let any : Arc = record { source = 0; target = 0; tokens = 0 } in
    subst (λ (v : ℕ). v < events) (at any) (ends j any low).0

-- masks whose sum has grown are nearer to the greatest ones
pub smaller : (old new : List ℕ) → length new ≡ length old → sum old < sum new → ((i : ℕ) → get_or new i 0 < 2 ^ 64)
    → length new * 2 ^ 64 - sum new < length old * 2 ^ 64 - sum old
smaller old new size more fits =
    let most : sum new ≤ length new * 2 ^ 64 = sum_by-le (λ x. x) (2 ^ 64) new
    (λ k d inside. let e : get_or new k d ≡ get_or new k 0 = get_or_default new k d 0 inside in let f : get_or new k 0 < 2 ^ 64 = fits k in omega arith) in
    let same : length new * 2 ^ 64 ≡ length old * 2 ^ 64 = ap (λ (n : ℕ). n * 2 ^ 64) size in
    less (sum old) (sum new) (length new * 2 ^ 64) (length old * 2 ^ 64) more most same
  where
    less : (a b m n : ℕ) → a < b → b ≤ m → m ≡ n → m - b < n - a
    less a b m n up most same = omega arith

-- orders by walks along the same arcs
module _ (g h : Graph) (forth : AreAllIn h.arcs g.arcs) (back : AreAllIn g.arcs h.arcs) where
  given_too : (order : Arc) → IsGiven h order → IsGiven g order
  given_too order (sum, low, walk) = (sum, low, walk_in h g forth order.source order.target sum walk)

  not_given_too : (order : Arc) → ¬ IsGiven h order → ¬ IsGiven g order
  not_given_too order none (sum, low, walk) = none (sum, low, walk_in g h back order.source order.target sum walk)

  module _ (asked : List Arc) (from to : ℕ) (before : AllWithin (IsGiven g) asked 0 from) where
    -- a block of orders that are all given
    pub unmet_on : IsFirstUnmetBelow h asked from to None → AllWithin (IsGiven g) asked 0 to
    unmet_on all k d low high = elim (cases_lt k from) [
      | inl under ↦ before k d low under
      | inr above ↦ given_too (get_or asked k d) (all k d above high)
    ]

    pub unmet_on_by : (first : Option ℕ) → first ≡ None → IsFirstUnmetBelow h asked from to first → AllWithin (IsGiven g) asked 0 to
    unmet_on_by first e all = unmet_on (subst (IsFirstUnmetBelow h asked from to) e all)

    -- the first order of a block that is not given
    pub unmet_whole : (k : ℕ) → to ≤ length asked → IsFirstUnmetBelow h asked from to (Some k) → IsFirstUnmet g asked (Some k)
    unmet_whole k size (high, low, (none, within)) = (
      omega arith,
      (
        λ d. not_given_too (get_or asked k d) (none d),
        λ j d zero_low under. elim (cases_lt j from) [
          | inl earlier ↦ before j d zero_low earlier
          | inr later ↦ given_too (get_or asked j d) (within j d later under)
        ],
      ),
    )

    pub unmet_whole_by : (first : Option ℕ) (k : ℕ) → first ≡ Some k → to ≤ length asked → IsFirstUnmetBelow h asked from to first → IsFirstUnmet g asked (Some k)
    unmet_whole_by first k e size is = unmet_whole k size (subst (IsFirstUnmetBelow h asked from to) e is)

  -- the first of all orders that is not given
  pub first_too : (asked : List Arc) (first : Option ℕ) → IsFirstUnmet h asked first → IsFirstUnmet g asked first
  first_too asked None all = λ k d inside. given_too (get_or asked k d) (all k d inside)
  first_too asked (Some place) (inside, (none, before)) = (
    inside,
    (
      λ d. not_given_too (get_or asked place d) (none d),
      λ k d low high. given_too (get_or asked k d) (before k d low high),
    ),
  )
