-- A cycle of parents is a closed walk with a greater ratio, and its sums.
use Rattle.std.proofs.Common.{◌≡◌, ◌∙◌, ◌<◌, ◌+◌, ◌-◌, ℕ, List, [], ◌∷◌, ◌++◌, length, get_or, arith, refl, subst, sym, ap, ap₂, take}
use Rattle.std.proofs.lemmas.List.{take_more, get_or_default}
use Rattle.std.proofs.lemmas.List.Elements.{Contains-get_or}
use Rattle.ds_rank.specs.Order.{IsCycle, IsWalk}
use Rattle.ds_rank.proofs.RelatedOrders.{cycle_by}
use Rattle.ds_period.specs.declared.timed.Timed.{Timed}
use Rattle.ds_period.specs.Walk.{IsChain, walk_delay, walk_tokens}
use Rattle.ds_period.specs.Found.{HasArc, IsAbove, sources_of}
use Rattle.ds_period.specs.Search.{IsParent, IsRaised, IsRaising, timed_at, arcs_into, no_arc}
use Rattle.ds_period.proofs.Raise.{delay_join, tokens_join, raised_join, raised_closed}

-- the arcs into joined lists
into_join : (arcs : List Timed) (parent xs ys : List ℕ)
    → arcs_into arcs parent (xs ++ ys) ≡ arcs_into arcs parent xs ++ arcs_into arcs parent ys
into_join arcs parent [] ys = refl
into_join arcs parent (x ∷ xs) ys =
    ap (λ (rest : List Timed). timed_at arcs (get_or parent x 0 - 1) ∷ rest) (into_join arcs parent xs ys)

-- the delay with one event more
pub delay_more : (arcs : List Timed) (parent events : List ℕ) (i : ℕ) → i < length events
    → walk_delay (arcs_into arcs parent (take (i + 1) events))
    ≡ walk_delay (arcs_into arcs parent (take i events)) + (timed_at arcs (get_or parent (get_or events i 0) 0 - 1)).delay
delay_more arcs parent events i lt =
    let x = get_or events i 0 in
    ap (λ (es : List ℕ). walk_delay (arcs_into arcs parent es)) (take_more events i 0 lt)
    ∙ ap walk_delay (into_join arcs parent (take i events) (x ∷ []))
    ∙ delay_join (arcs_into arcs parent (take i events)) (arcs_into arcs parent (x ∷ []))
    ∙ omega arith

-- the tokens with one event more
pub tokens_more : (arcs : List Timed) (parent events : List ℕ) (i : ℕ) → i < length events
    → walk_tokens (arcs_into arcs parent (take (i + 1) events))
    ≡ walk_tokens (arcs_into arcs parent (take i events)) + (timed_at arcs (get_or parent (get_or events i 0) 0 - 1)).tokens
tokens_more arcs parent events i lt =
    let x = get_or events i 0 in
    ap (λ (es : List ℕ). walk_tokens (arcs_into arcs parent es)) (take_more events i 0 lt)
    ∙ ap walk_tokens (into_join arcs parent (take i events) (x ∷ []))
    ∙ tokens_join (arcs_into arcs parent (take i events)) (arcs_into arcs parent (x ∷ []))
    ∙ omega arith

module _ (arcs : List Timed) (p q count : ℕ) (h parent : List ℕ) (r : IsRaising arcs p q count h parent) where
  -- the arc from a parent is an arc from it
  parent_arc : (u v : ℕ) → IsParent arcs parent count u v → HasArc arcs u v
  parent_arc u v (inside, some, source) =
      let place = r.place v inside some in (
        get_or parent v 0 - 1,
        timed_at arcs (get_or parent v 0 - 1),
        omega (arith, place.0),
        get_or_default arcs (get_or parent v 0 - 1) (timed_at arcs (get_or parent v 0 - 1)) no_arc (omega (arith, place.0)),
        (source, place.1),
      )

  -- one arc from a parent, and what it raises
  first : (u v : ℕ) → IsParent arcs parent count u v
      → IsChain arcs u (arcs_into arcs parent (v ∷ [])) v
      × IsRaised p q (λ w. get_or h w 0) r.stamp u v (walk_delay (arcs_into arcs parent (v ∷ []))) (walk_tokens (arcs_into arcs parent (v ∷ [])))
  first u v (inside, some, source) =
      let place = r.place v inside some in
      let k = get_or parent v 0 - 1 in
      let under : get_or parent v 0 - 1 < length arcs = omega (arith, place.0) in
      let delay : (timed_at arcs (get_or parent v 0 - 1)).delay ≡ walk_delay (arcs_into arcs parent (v ∷ [])) = omega arith in
      let tokens : (timed_at arcs (get_or parent v 0 - 1)).tokens ≡ walk_tokens (arcs_into arcs parent (v ∷ [])) = omega arith in (
        (Contains-get_or arcs k no_arc under, source, place.1),
        subst (λ (w : ℕ). IsRaised p q (λ w. get_or h w 0) r.stamp w v (walk_delay (arcs_into arcs parent (v ∷ []))) (walk_tokens (arcs_into arcs parent (v ∷ [])))) source
            (subst (λ (d : ℕ). IsRaised p q (λ w. get_or h w 0) r.stamp (timed_at arcs (get_or parent v 0 - 1)).source v d (walk_tokens (arcs_into arcs parent (v ∷ [])))) delay
            (subst (λ (t : ℕ). IsRaised p q (λ w. get_or h w 0) r.stamp (timed_at arcs (get_or parent v 0 - 1)).source v (timed_at arcs (get_or parent v 0 - 1)).delay t) tokens
            (r.raised v inside some))),
      )

  -- a walk through parents, and what it raises
  through : (a : ℕ) (xs : List ℕ) (b : ℕ) → IsWalk (IsParent arcs parent count) a xs b
      → IsChain arcs a (arcs_into arcs parent (xs ++ b ∷ [])) b
      × IsRaised p q (λ w. get_or h w 0) r.stamp a b (walk_delay (arcs_into arcs parent (xs ++ b ∷ []))) (walk_tokens (arcs_into arcs parent (xs ++ b ∷ [])))
  through a [] b is = first a b is
  through a (x ∷ xs) b (is, rest) =
      let (one, up) = first a x is in
      let (two, up2) = through x xs b rest in
      let place = r.place x is.0 is.1 in
      let joined = raised_join p q (λ w. get_or h w 0) r.stamp a x b (walk_delay (arcs_into arcs parent (x ∷ []))) (walk_tokens (arcs_into arcs parent (x ∷ [])))
      (walk_delay (arcs_into arcs parent (xs ++ b ∷ []))) (walk_tokens (arcs_into arcs parent (xs ++ b ∷ []))) up up2 in
      let delays : walk_delay (arcs_into arcs parent (x ∷ [])) + walk_delay (arcs_into arcs parent (xs ++ b ∷ [])) ≡ walk_delay (arcs_into arcs parent (x ∷ xs ++ b ∷ [])) = omega arith in
      let tokens : walk_tokens (arcs_into arcs parent (x ∷ [])) + walk_tokens (arcs_into arcs parent (xs ++ b ∷ [])) ≡ walk_tokens (arcs_into arcs parent (x ∷ xs ++ b ∷ [])) = omega arith in (
        (one.0, one.1, subst (λ (u : ℕ). IsChain arcs u (arcs_into arcs parent (xs ++ b ∷ [])) b) (sym place.1) two),
        subst (λ (d : ℕ). IsRaised p q (λ w. get_or h w 0) r.stamp a b d (walk_tokens (arcs_into arcs parent (x ∷ xs ++ b ∷ [])))) delays
            (subst (λ (t : ℕ). IsRaised p q (λ w. get_or h w 0) r.stamp a b (walk_delay (arcs_into arcs parent (x ∷ [])) + walk_delay (arcs_into arcs parent (xs ++ b ∷ []))) t) tokens joined),
      )

  -- the sources along it
  along : (a : ℕ) (xs : List ℕ) (b : ℕ) → IsWalk (IsParent arcs parent count) a xs b
      → sources_of (arcs_into arcs parent (xs ++ b ∷ [])) ≡ a ∷ xs
  along a [] b (inside, some, source) = ap (λ (u : ℕ). u ∷ []) source
  along a (x ∷ xs) b ((inside, some, source), rest) =
      ap₂ (λ (u : ℕ) (us : List ℕ). u ∷ us) source (along x xs b rest)

  -- a cycle of parents has a greater ratio than p / q
  pub circle_above : (events : List ℕ) (delay tokens : ℕ) → IsCycle (IsParent arcs parent count) events
      → delay ≡ walk_delay (arcs_into arcs parent events) → tokens ≡ walk_tokens (arcs_into arcs parent events)
      → IsAbove arcs p q events delay tokens
  circle_above [] delay tokens bad d t = absurd bad
  circle_above (x ∷ xs) delay tokens cycle d t =
      let (chain, up) = through x xs x cycle.0 in
      let greater = raised_closed p q (λ w. get_or h w 0) r.stamp x (walk_delay (arcs_into arcs parent (xs ++ x ∷ []))) (walk_tokens (arcs_into arcs parent (xs ++ x ∷ []))) up in
      let delays : delay ≡ walk_delay (arcs_into arcs parent (xs ++ x ∷ [])) =
      d ∙ (let e = delay_join (arcs_into arcs parent xs) (arcs_into arcs parent (x ∷ [])) in
      let f = ap walk_delay (into_join arcs parent xs (x ∷ [])) in omega arith) in
      let tokens_are : tokens ≡ walk_tokens (arcs_into arcs parent (xs ++ x ∷ [])) =
      t ∙ (let e = tokens_join (arcs_into arcs parent xs) (arcs_into arcs parent (x ∷ [])) in
      let f = ap walk_tokens (into_join arcs parent xs (x ∷ [])) in omega arith) in
      record {
        cycle = cycle_by (IsParent arcs parent count) (HasArc arcs) parent_arc (x ∷ xs) cycle;
        start = x;
        walk = arcs_into arcs parent (xs ++ x ∷ []);
        closed = chain;
        along = along x xs x cycle.0;
        delay_is = delays;
        tokens_is = tokens_are;
        above = rw (delays, tokens_are) greater;
      }
