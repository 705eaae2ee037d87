-- Least sums of tokens along walks, one arc after the other: a least walk goes along the arc or does not.
use Rattle.std.proofs.Common.{◌≡◌, ◌⊎◌, inl, inr, ℕ, zero, suc, ◌+◌, ◌<◌, ◌≤◌, List, [], ◌∷◌, Option, None, Some, refl, sym, subst, arith}
use Rattle.std.proofs.lemmas.Bool.{cases_eq, cases_lt}
use Rattle.ds_marked.specs.Graph.{Graph, IsArc, Walk, stay, along}
use Rattle.ds_marked.specs.declared.marked.Arc.{Arc}
use Rattle.ds_marked.specs.declared.marked.Event.{Event}
use Rattle.ds_accept.specs.Sums.{IsLeast}

module _ (events : List Event) where
  -- the events with these arcs
  abbrev pub with_arcs : List Arc → Graph
  with_arcs arcs = record { events = events; arcs = arcs }

  -- two walks, one behind the other
  joined : (arcs : List Arc) (u v w second : ℕ) → Walk (with_arcs arcs) v w second → (first : ℕ) → Walk (with_arcs arcs) u v first
      → Walk (with_arcs arcs) u w (first + second)
  joined arcs u _ _ _ (stay {u = v}) first walk = subst (λ (n : ℕ). Walk (with_arcs arcs) u v n) (let e : first ≡ first + 0 = omega arith in e) walk
  joined arcs u _ _ _ (along {u = v} {v = w} {w = x} {sum = sum} {tokens = tokens} more is) first walk =
      subst (λ (n : ℕ). Walk (with_arcs arcs) u x n) (let e : first + sum + tokens ≡ first + (sum + tokens) = omega arith in e)
      (along (joined arcs u v w sum more first walk) is)

  -- where there are no arcs, a walk stays
  stays : (u v sum : ℕ) → Walk (with_arcs []) u v sum → (u ≡ v) × (sum ≡ 0)
  stays _ _ _ stay = (refl, refl)
  stays _ _ _ (along walk (k, arc, inside, is, p)) = absurd (let low : k < 0 = inside in omega (low, arith))

  module _ (arc : Arc) (arcs : List Arc) where
    -- a walk by way of the arc, and the tokens that it has at least
    record ByWay (u v sum : ℕ) : Type 0 where
      before : ℕ
      behind : ℕ
      to : Walk (with_arcs arcs) u arc.source before
      on : Walk (with_arcs arcs) arc.target v behind
      most : before + arc.tokens + behind ≤ sum

    more_arc : (u v tokens : ℕ) → IsArc (with_arcs arcs) u v tokens → IsArc (with_arcs (arc ∷ arcs)) u v tokens
    more_arc u v tokens (k, x, inside, is, p) = (suc k, x, omega (inside, arith), is, p)

    more_walk : (u v sum : ℕ) → Walk (with_arcs arcs) u v sum → Walk (with_arcs (arc ∷ arcs)) u v sum
    more_walk _ _ _ stay = stay
    more_walk _ _ _ (along {u} {v} {w} {sum} {tokens} walk is) = along (more_walk u v sum walk) (more_arc v w tokens is)

    -- an arc of all is this one or one of the others
    which_arc : (u v tokens : ℕ) → IsArc (with_arcs (arc ∷ arcs)) u v tokens
        → ((arc.source ≡ u) × (arc.target ≡ v) × (arc.tokens ≡ tokens)) ⊎ IsArc (with_arcs arcs) u v tokens
    which_arc u v tokens (zero, x, inside, is, p) = inl (subst (λ (a : Arc). (a.source ≡ u) × (a.target ≡ v) × (a.tokens ≡ tokens)) (sym is) p)
    which_arc u v tokens (suc k, x, inside, is, p) = inr (k, x, omega (inside, arith), is, p)

    longer : (u v w sum tokens : ℕ) → Walk (with_arcs arcs) u v sum ⊎ ByWay u v sum
        → ((arc.source ≡ v) × (arc.target ≡ w) × (arc.tokens ≡ tokens)) ⊎ IsArc (with_arcs arcs) v w tokens
        → Walk (with_arcs arcs) u w (sum + tokens) ⊎ ByWay u w (sum + tokens)
    longer u v w sum tokens (inl walk) (inr is) = inl (along walk is)
    longer u v w sum tokens (inl walk) (inl (source, target, few)) = inr (record {
      before = sum;
      behind = 0;
      to = subst (λ (x : ℕ). Walk (with_arcs arcs) u x sum) (sym source) walk;
      on = subst (λ (x : ℕ). Walk (with_arcs arcs) arc.target x 0) target stay;
      most = omega (few, arith);
    })
    longer u v w sum tokens (inr way) (inr is) = inr (record {
      before = way.before;
      behind = way.behind + tokens;
      to = way.to;
      on = along way.on is;
      most = (let most : way.before + arc.tokens + way.behind ≤ sum = way.most in omega (most, arith));
    })
    longer u v w sum tokens (inr way) (inl (source, target, few)) = inr (record {
      before = way.before;
      behind = 0;
      to = way.to;
      on = subst (λ (x : ℕ). Walk (with_arcs arcs) arc.target x 0) target stay;
      most = (let most : way.before + arc.tokens + way.behind ≤ sum = way.most in omega (most, few, arith));
    })

    -- a walk goes by way of the arc or not
    which_way : (u v sum : ℕ) → Walk (with_arcs (arc ∷ arcs)) u v sum → Walk (with_arcs arcs) u v sum ⊎ ByWay u v sum
    which_way _ _ _ stay = inl stay
    which_way _ _ _ (along {u} {v} {w} {sum} {tokens} walk is) =
        longer u v w sum tokens (which_way u v sum walk) (which_arc v w tokens is)

    through : (u v a b : ℕ) → Walk (with_arcs arcs) u arc.source a → Walk (with_arcs arcs) arc.target v b → Walk (with_arcs (arc ∷ arcs)) u v (a + arc.tokens + b)
    through u v a b to on = joined (arc ∷ arcs) u arc.target v b (more_walk arc.target v b on) (a + arc.tokens)
        (along (more_walk u arc.source a to) (0, arc, omega arith, refl, (refl, refl, refl)))

    -- the least sum by way of the arc, or none where there is no such way
    abbrev IsLeastWay : ℕ → ℕ → Option ℕ → Type 0
    IsLeastWay u v None = (sum : ℕ) → ¬ ByWay u v sum
    IsLeastWay u v (Some least) = Walk (with_arcs (arc ∷ arcs)) u v least × ((sum : ℕ) → ByWay u v sum → least ≤ sum)

    least_way : (u v : ℕ) (a : Option ℕ) → IsLeast (with_arcs arcs) u arc.source a → (b : Option ℕ) → IsLeast (with_arcs arcs) arc.target v b
        → (o : Option ℕ) × IsLeastWay u v o
    least_way u v None none b also = (None, λ sum way. none way.before way.to)
    least_way u v (Some a) least None none = (None, λ sum way. none way.behind way.on)
    least_way u v (Some a) least (Some b) also = (
      Some (a + arc.tokens + b),
      (
        through u v a b least.0 also.0,
        λ sum way.
            let x : a ≤ way.before = least.1 way.before way.to in
            let y : b ≤ way.behind = also.1 way.behind way.on in
            let most : way.before + arc.tokens + way.behind ≤ sum = way.most in
            omega (x, y, most, arith),
      ),
    )

    -- the least of all walks is the lesser one of those that go by way of the arc and of those that do not
    lesser : (u v : ℕ) (d : Option ℕ) → IsLeast (with_arcs arcs) u v d → (o : Option ℕ) → IsLeastWay u v o
        → (least : Option ℕ) × IsLeast (with_arcs (arc ∷ arcs)) u v least
    lesser u v None none None no_way = (None, λ sum walk. elim (which_way u v sum walk) [ inl also ↦ none sum also | inr way ↦ no_way sum way ])
    lesser u v None none (Some m) way = (Some m, (way.0, λ sum walk. elim (which_way u v sum walk) [ inl also ↦ absurd (none sum also) | inr other ↦ way.1 sum other ]))
    lesser u v (Some d) least None no_way = (Some d, (more_walk u v d least.0, λ sum walk. elim (which_way u v sum walk) [ inl also ↦ least.1 sum also | inr way ↦ absurd (no_way sum way) ]))
    lesser u v (Some d) least (Some m) way = elim (cases_lt d m) [
      | inl under ↦ (
        Some d,
        (
          more_walk u v d least.0,
          λ sum walk. elim (which_way u v sum walk) [
            | inl also ↦ least.1 sum also
            | inr other ↦ (let low : m ≤ sum = way.1 sum other in omega (under, low, arith))
          ],
        ),
      )
      | inr above ↦ (
        Some m,
        (
          way.0,
          λ sum walk. elim (which_way u v sum walk) [
            | inl also ↦ (let low : d ≤ sum = least.1 sum also in omega (above, low, arith))
            | inr other ↦ way.1 sum other
          ],
        ),
      )
    ]

  -- between any two events there is a least sum, or there is no walk
  pub least_along : (arcs : List Arc) (u v : ℕ) → (least : Option ℕ) × IsLeast (with_arcs arcs) u v least
  least_along [] u v = elim (cases_eq u v) [
    | inl e ↦ (Some 0, (subst (λ (w : ℕ). Walk (with_arcs []) u w 0) e stay, λ sum walk. omega arith))
    | inr ne ↦ (None, λ sum walk. ne (stays u v sum walk).0)
  ]
  least_along (arc ∷ arcs) u v =
      let direct : (least : Option ℕ) × IsLeast (with_arcs arcs) u v least = least_along arcs u v in
      let to : (least : Option ℕ) × IsLeast (with_arcs arcs) u arc.source least = least_along arcs u arc.source in
      let on : (least : Option ℕ) × IsLeast (with_arcs arcs) arc.target v least = least_along arcs arc.target v in
      let way : (least : Option ℕ) × IsLeastWay arc arcs u v least = least_way arc arcs u v to.0 to.1 on.0 on.1 in
      lesser arc arcs u v direct.0 direct.1 way.0 way.1
