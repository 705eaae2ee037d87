-- Each step of a search keeps what the search has found out.
use Rattle.std.proofs.Common.{◌≡◌, ◌≢◌, ◌⊎◌, ◌∙◌, ◌<◌, ◌≤◌, ◌+◌, ◌-◌, ℕ, List, [], ◌∷◌, ◌++◌, length, get_or, inl, inr, arith, subst, sym, length-append, length-set, refl, take, sum, length-take, ap, sum_by}
use Rattle.std.specs.Prelude.{max}
use Rattle.std.proofs.Math.ListN.{set}
use Rattle.std.proofs.lemmas.List.Sums.{sum_by-set}
use Rattle.std.proofs.lemmas.Bool.{cases_eq, cases_lt}
use Rattle.std.proofs.lemmas.List.{get_or-take}
use Rattle.ds_base.specs.Greatest.{greatest}
use Rattle.ds_rank.specs.declared.edge.Edge.{Edge}
use Rattle.ds_rank.specs.Order.{HasEdge, source_at, target_at}
use Rattle.ds_rank.specs.Search.{EndsAreNodes, IsSearch, State, one_if_done, one_if_on}
use Rattle.ds_rank.proofs.SliceUpdates.{at_set, at_push, sum_set}

-- the state after the node at the end of the path is done
abbrev pub finished : State → ℕ → State
finished s node = record s { color = set s.color node 0; path = take (length s.path - 1) s.path }

-- the state after a new node has joined the path
abbrev pub entered : State → ℕ → State
entered s node = record s { color = set s.color node 1; path = s.path ++ node ∷ [] }

-- the state after edge p into the node, whose source is done
abbrev pub passed : State → ℕ → ℕ → ℕ → State
passed s node source p = record s {
  next = set s.next node (get_or s.link p 0);
  ranks = set s.ranks node (max (get_or s.ranks node 0) (get_or s.ranks source 0 + 1));
}

-- the greater of two numbers is one of them
max_cases : (a b : ℕ) → ((max a b ≡ a) × (b ≤ a)) ⊎ ((max a b ≡ b) × (a ≤ b))
max_cases a b = elim (cases_lt a b) [ inl lt ↦ inr (omega arith, omega arith) | inr le ↦ inl (omega arith, omega arith) ]

module _ (edges : List Edge) (floors : List ℕ) (s : State) (ends : EndsAreNodes (length floors) edges)
    (h : IsSearch edges floors s) where
  -- the node at the end of the path is done, where nothing is left to look at
  module _ (node : ℕ) (some : 0 < length s.path) (last : get_or s.path (length s.path - 1) 0 ≡ node)
      (left : get_or s.next node 0 ≡ 0) where
    f_top : (node < length floors) × (get_or s.color node 0 ≡ 1)
    f_top = let top = h.on_path (length s.path - 1) (omega arith) in
        (rw (sym last) top.0, rw (sym last) top.1)

    f_color : (v : ℕ) → get_or s.color v 0 ≡ 0 → get_or (set s.color node 0) v 0 ≡ 0
    f_color v is = elim (at_set s.color node 0 v (omega (arith, h.sizes, f_top))) [
      | inl (e, w) ↦ w
      | inr (ne, w) ↦ w ∙ is
    ]

    f_done : (v : ℕ) → v < length floors → get_or (set s.color node 0) v 0 ≡ 0 → get_or s.next v 0 ≡ 0
    f_done v lt = elim (at_set s.color node 0 v (omega (arith, h.sizes, f_top))) [
      | inl (e, w) ↦ λ _. rw e left
      | inr (ne, w) ↦ rw w (h.done v lt)
    ]

    f_size : length (take (length s.path - 1) s.path) ≡ length s.path - 1
    f_size = length-take (length s.path - 1) s.path ∙ omega arith

    f_take : (i : ℕ) → i < length (take (length s.path - 1) s.path)
        → (i + 1 < length s.path) × (get_or (take (length s.path - 1) s.path) i 0 ≡ get_or s.path i 0)
    f_take i lt = let under : i < length s.path - 1 = omega (arith, f_size) in
        (omega arith, get_or-take (length s.path - 1) s.path i 0 under)

    f_on : (i : ℕ) → i < length (take (length s.path - 1) s.path)
        → (get_or (take (length s.path - 1) s.path) i 0 < length floors)
        × (get_or (set s.color node 0) (get_or (take (length s.path - 1) s.path) i 0) 0 ≡ 1)
    f_on i lt =
        let t = f_take i lt in
        let old = h.on_path i (omega arith) in
        let apart : get_or s.path i 0 ≢ node = rw (sym last) (h.distinct i (length s.path - 1) (omega arith) (omega arith)) in
        rw t.1 (
          old.0,
          elim (at_set s.color node 0 (get_or s.path i 0) (omega (arith, h.sizes, f_top))) [
            | inl (e, w) ↦ absurd (apart e)
            | inr (ne, w) ↦ w ∙ old.1
          ],
        )

    f_chain : (i : ℕ) → i + 1 < length (take (length s.path - 1) s.path)
        → HasEdge edges (get_or (take (length s.path - 1) s.path) (i + 1) 0) (get_or (take (length s.path - 1) s.path) i 0)
    f_chain i lt =
        let a = f_take i (omega arith) in
        let b = f_take (i + 1) lt in
        rw (a.1, b.1) (h.chain i (omega arith))

    f_distinct : (i j : ℕ) → i < j → j < length (take (length s.path - 1) s.path)
        → get_or (take (length s.path - 1) s.path) i 0 ≢ get_or (take (length s.path - 1) s.path) j 0
    f_distinct i j ij lt =
        let a = f_take i (omega arith) in
        let b = f_take j lt in
        rw (a.1, b.1) (h.distinct i j ij (omega arith))

    f_listed : (v : ℕ) → v < length floors → get_or (set s.color node 0) v 0 ≡ 1
        → (i : ℕ) × (i < length (take (length s.path - 1) s.path)) × (get_or (take (length s.path - 1) s.path) i 0 ≡ v)
    f_listed v lt is = elim (at_set s.color node 0 v (omega (arith, h.sizes, f_top))) [
      | inl (e, w) ↦ absurd (omega arith)
      | inr (ne, w) ↦
          let (i, inside, at) = h.listed v lt (sym w ∙ is) in
          elim (cases_eq i (length s.path - 1)) [
            | inl e ↦ absurd (ne (sym at ∙ rw e last))
            | inr other ↦ let under : i < length (take (length s.path - 1) s.path) = omega (arith, f_size) in
                (i, under, (f_take i under).1 ∙ at)
          ]
    ]

    f_sum : sum (set s.color node 0) + 1 ≡ sum s.color
    f_sum = let e = sum_set s.color node 0 (omega (arith, h.sizes, f_top)) in omega (arith, f_top)

    pub lower_finished : (v : ℕ) → get_or (set s.color node 0) v 0 ≤ get_or s.color v 0
    lower_finished v = elim (at_set s.color node 0 v (omega (arith, h.sizes, f_top))) [
      | inl (e, w) ↦ omega arith
      | inr (ne, w) ↦ omega arith
    ]

    f_count : (sum_by one_if_done (set s.color node 0) ≡ sum_by one_if_done s.color + 1)
        × (sum_by one_if_on (set s.color node 0) + 1 ≡ sum_by one_if_on s.color)
    f_count =
        let a = sum_by-set one_if_done s.color node 0 0 (omega (arith, h.sizes, f_top)) in
        let b = sum_by-set one_if_on s.color node 0 0 (omega (arith, h.sizes, f_top)) in
        let c : one_if_done (get_or s.color node 0) ≡ 0 = ap one_if_done f_top.1 in
        let d : one_if_on (get_or s.color node 0) ≡ 1 = ap one_if_on f_top.1 in
        (omega arith, omega arith)

    f_few : (v : ℕ) → v < length floors → get_or (set s.color node 0) v 0 ≡ 0
        → get_or s.ranks v 0 + 1 ≤ greatest floors + sum_by one_if_done (set s.color node 0)
    f_few v lt = elim (at_set s.color node 0 v (omega (arith, h.sizes, f_top))) [
      | inl (e, w) ↦ λ is. omega (arith, h.few v lt, f_count)
      | inr (ne, w) ↦ λ is. omega (arith, h.few_done v lt (sym w ∙ is), f_count)
    ]

    pub keeps_finished : IsSearch edges floors (finished s node)
    keeps_finished = record {
      sizes = (h.sizes.0, h.sizes.1, length-set s.color node 0 ∙ h.sizes.2, h.sizes.3);
      back = h.back;
      same = h.same;
      none = h.none;
      inside = h.inside;
      own = h.own;
      past = λ v j lt low high is. let old = h.past v j lt low high is in (f_color (source_at edges j) old.0, old.1);
      floor = h.floor;
      tight = λ v lt. elim (h.tight v lt) [
        | inl e ↦ inl e
        | inr (j, inside, is, c, e) ↦ inr (j, inside, is, f_color (source_at edges j) c, e)
      ];
      done = f_done;
      range = λ v lt. (let low = lower_finished v in omega (arith, h.range v lt));
      on_path = f_on;
      chain = f_chain;
      distinct = f_distinct;
      listed = f_listed;
      few = λ v lt. omega (arith, h.few v lt, f_count);
      few_done = f_few;
      on_count = omega (arith, h.on_count, f_count, f_size);
    }

    pub less_finished : sum s.next + sum (set s.color node 0) < sum s.next + sum s.color
    less_finished = omega (arith, f_sum)

  -- a new node joins the path
  module _ (node : ℕ) (inside : node < length floors) (fresh : get_or s.color node 0 ≡ 2)
      (leads : 0 < length s.path → HasEdge edges node (get_or s.path (length s.path - 1) 0)) where
    e_other : (v : ℕ) → get_or s.color v 0 ≢ 2 → get_or (set s.color node 1) v 0 ≡ get_or s.color v 0
    e_other v apart = elim (at_set s.color node 1 v (omega (arith, h.sizes))) [
      | inl (e, w) ↦ absurd (apart (rw e fresh))
      | inr (ne, w) ↦ w
    ]

    e_color : (v : ℕ) → get_or s.color v 0 ≡ 0 → get_or (set s.color node 1) v 0 ≡ 0
    e_color v is = e_other v (omega arith) ∙ is

    e_done : (v : ℕ) → v < length floors → get_or (set s.color node 1) v 0 ≡ 0 → get_or s.next v 0 ≡ 0
    e_done v lt = elim (at_set s.color node 1 v (omega (arith, h.sizes))) [
      | inl (e, w) ↦ λ is. absurd (omega arith)
      | inr (ne, w) ↦ rw w (h.done v lt)
    ]

    e_size : length (s.path ++ node ∷ []) ≡ length s.path + 1
    e_size = omega (arith, length-append s.path (node ∷ []))

    e_on : (i : ℕ) → i < length (s.path ++ node ∷ [])
        → (get_or (s.path ++ node ∷ []) i 0 < length floors)
        × (get_or (set s.color node 1) (get_or (s.path ++ node ∷ []) i 0) 0 ≡ 1)
    e_on i lt = elim (at_push s.path node i (omega (arith, e_size))) [
      | inl (e, w) ↦ rw w (
        inside,
        elim (at_set s.color node 1 node (omega (arith, h.sizes))) [
          | inl (e2, w2) ↦ w2
          | inr (ne, w2) ↦ absurd (ne refl)
        ],
      )
      | inr (under, w) ↦ let old = h.on_path i under in rw w (old.0, e_other (get_or s.path i 0) (omega arith) ∙ old.1)
    ]

    e_chain : (i : ℕ) → i + 1 < length (s.path ++ node ∷ [])
        → HasEdge edges (get_or (s.path ++ node ∷ []) (i + 1) 0) (get_or (s.path ++ node ∷ []) i 0)
    e_chain i lt = elim (at_push s.path node i (omega (arith, e_size))) [
      | inl (e, w) ↦ absurd (omega (arith, e_size))
      | inr (under, w) ↦ elim (at_push s.path node (i + 1) (omega (arith, e_size))) [
        | inl (e, w2) ↦ let at : length s.path - 1 ≡ i = omega arith in
            rw (w, w2) (subst (λ (k : ℕ). HasEdge edges node (get_or s.path k 0)) at (leads (omega arith)))
        | inr (under2, w2) ↦ rw (w, w2) (h.chain i under2)
      ]
    ]

    e_distinct : (i j : ℕ) → i < j → j < length (s.path ++ node ∷ [])
        → get_or (s.path ++ node ∷ []) i 0 ≢ get_or (s.path ++ node ∷ []) j 0
    e_distinct i j ij lt = elim (at_push s.path node i (omega (arith, e_size))) [
      | inl (e, w) ↦ absurd (omega (arith, e_size))
      | inr (under, w) ↦ elim (at_push s.path node j (omega (arith, e_size))) [
        | inl (e, w2) ↦ rw (w, w2) (λ is.
            let one = (h.on_path i under).1 in
            let two : get_or s.color (get_or s.path i 0) 0 ≡ 2 = rw is fresh in
            absurd (omega arith))
        | inr (under2, w2) ↦ rw (w, w2) (h.distinct i j ij under2)
      ]
    ]

    e_listed : (v : ℕ) → v < length floors → get_or (set s.color node 1) v 0 ≡ 1
        → (i : ℕ) × (i < length (s.path ++ node ∷ [])) × (get_or (s.path ++ node ∷ []) i 0 ≡ v)
    e_listed v lt is = elim (at_set s.color node 1 v (omega (arith, h.sizes))) [
      | inl (e, w) ↦ (
        length s.path,
        omega (arith, e_size),
        elim (at_push s.path node (length s.path) (omega arith)) [
          | inl (e2, w2) ↦ w2 ∙ sym e
          | inr (under, w2) ↦ absurd (omega arith)
        ],
      )
      | inr (ne, w) ↦
          let (i, inside, at) = h.listed v lt (sym w ∙ is) in (
            i,
            omega (arith, e_size),
            elim (at_push s.path node i (omega arith)) [
              | inl (e2, w2) ↦ absurd (omega arith)
              | inr (under, w2) ↦ w2 ∙ at
            ],
          )
    ]

    e_sum : sum (set s.color node 1) + 1 ≡ sum s.color
    e_sum = let e = sum_set s.color node 1 (omega (arith, h.sizes)) in omega arith

    pub lower_entered : (v : ℕ) → get_or (set s.color node 1) v 0 ≤ get_or s.color v 0
    lower_entered v = elim (at_set s.color node 1 v (omega (arith, h.sizes))) [
      | inl (e, w) ↦ let two : get_or s.color v 0 ≡ 2 = rw e fresh in omega arith
      | inr (ne, w) ↦ omega arith
    ]

    e_count : (sum_by one_if_done (set s.color node 1) ≡ sum_by one_if_done s.color)
        × (sum_by one_if_on (set s.color node 1) ≡ sum_by one_if_on s.color + 1)
    e_count =
        let a = sum_by-set one_if_done s.color node 1 0 (omega (arith, h.sizes)) in
        let b = sum_by-set one_if_on s.color node 1 0 (omega (arith, h.sizes)) in
        let c : one_if_done (get_or s.color node 0) ≡ 0 = ap one_if_done fresh in
        let d : one_if_on (get_or s.color node 0) ≡ 0 = ap one_if_on fresh in
        (omega arith, omega arith)

    e_few : (v : ℕ) → v < length floors → get_or (set s.color node 1) v 0 ≡ 0
        → get_or s.ranks v 0 + 1 ≤ greatest floors + sum_by one_if_done (set s.color node 1)
    e_few v lt = elim (at_set s.color node 1 v (omega (arith, h.sizes))) [
      | inl (e, w) ↦ λ is. absurd (omega arith)
      | inr (ne, w) ↦ λ is. omega (arith, h.few_done v lt (sym w ∙ is), e_count)
    ]

    pub keeps_entered : IsSearch edges floors (entered s node)
    keeps_entered = record {
      sizes = (h.sizes.0, h.sizes.1, length-set s.color node 1 ∙ h.sizes.2, h.sizes.3);
      back = h.back;
      same = h.same;
      none = h.none;
      inside = h.inside;
      own = h.own;
      past = λ v j lt low high is. let old = h.past v j lt low high is in (e_color (source_at edges j) old.0, old.1);
      floor = h.floor;
      tight = λ v lt. elim (h.tight v lt) [
        | inl e ↦ inl e
        | inr (j, inside, is, c, e) ↦ inr (j, inside, is, e_color (source_at edges j) c, e)
      ];
      done = e_done;
      range = λ v lt. (let low = lower_entered v in omega (arith, h.range v lt));
      on_path = e_on;
      chain = e_chain;
      distinct = e_distinct;
      listed = e_listed;
      few = λ v lt. omega (arith, h.few v lt, e_count);
      few_done = e_few;
      on_count = omega (arith, h.on_count, e_count, e_size);
    }

    pub less_entered : sum s.next + sum (set s.color node 1) < sum s.next + sum s.color
    less_entered = omega (arith, e_sum)

  -- the node comes after a source that is done
  module _ (node p : ℕ) (inside : node < length floors) (open_node : get_or s.color node 0 ≡ 1)
      (at : get_or s.next node 0 ≡ p + 1) (source_done : get_or s.color (source_at edges p) 0 ≡ 0) where
    p_in : (p < length edges) × (target_at edges p ≡ node)
    p_in = (
      omega (arith, h.inside node inside),
      let back : p + 1 - 1 ≡ p = omega arith in
          let own : target_at edges (get_or s.next node 0 - 1) ≡ node = h.own node inside (omega arith) in
          subst (λ (k : ℕ). target_at edges k ≡ node) (rw at back) own,
    )

    p_rank : (v : ℕ) → get_or s.color v 0 ≡ 0
        → get_or (passed s node (source_at edges p) p).ranks v 0 ≡ get_or s.ranks v 0
    p_rank v is = elim (at_set s.ranks node (max (get_or s.ranks node 0) (get_or s.ranks (source_at edges p) 0 + 1)) v (omega (arith, h.sizes))) [
      | inl (e, w) ↦ let one : get_or s.color v 0 ≡ 1 = rw e open_node in absurd (omega arith)
      | inr (ne, w) ↦ w
    ]

    p_rank_node : get_or (passed s node (source_at edges p) p).ranks node 0
        ≡ max (get_or s.ranks node 0) (get_or s.ranks (source_at edges p) 0 + 1)
    p_rank_node = elim (at_set s.ranks node (max (get_or s.ranks node 0) (get_or s.ranks (source_at edges p) 0 + 1)) node (omega (arith, h.sizes))) [
      | inl (e, w) ↦ w
      | inr (ne, w) ↦ absurd (ne refl)
    ]

    p_up : (v : ℕ) → get_or s.ranks v 0 ≤ get_or (passed s node (source_at edges p) p).ranks v 0
    p_up v = elim (at_set s.ranks node (max (get_or s.ranks node 0) (get_or s.ranks (source_at edges p) 0 + 1)) v (omega (arith, h.sizes))) [
      | inl (e, w) ↦ rw (w, e) (omega arith)
      | inr (ne, w) ↦ omega arith
    ]

    p_inside : (v : ℕ) → v < length floors → get_or (passed s node (source_at edges p) p).next v 0 ≤ length edges
    p_inside v lt = elim (at_set s.next node (get_or s.link p 0) v (omega (arith, h.sizes))) [
      | inl (e, w) ↦ omega (arith, h.back p p_in.0, p_in.0)
      | inr (ne, w) ↦ rw w (h.inside v lt)
    ]

    p_own : (v : ℕ) → v < length floors → 0 < get_or (passed s node (source_at edges p) p).next v 0
        → target_at edges (get_or (passed s node (source_at edges p) p).next v 0 - 1) ≡ v
    p_own v lt = elim (at_set s.next node (get_or s.link p 0) v (omega (arith, h.sizes))) [
      | inl (e, w) ↦ rw (w, e) (λ some. h.same p p_in.0 some ∙ p_in.1)
      | inr (ne, w) ↦ rw w (h.own v lt)
    ]

    p_past_node : (j : ℕ) → get_or s.link p 0 ≤ j → j < length edges → target_at edges j ≡ node
        → (get_or s.color (source_at edges j) 0 ≡ 0)
        × (get_or s.ranks (source_at edges j) 0 + 1 ≤ max (get_or s.ranks node 0) (get_or s.ranks (source_at edges p) 0 + 1))
    p_past_node j low high is = elim (cases_lt j p) [
      | inl under ↦ absurd (h.none p j p_in.0 low under (is ∙ sym p_in.1))
      | inr over ↦ elim (cases_eq j p) [
        | inl e ↦ rw e (source_done, omega arith)
        | inr ne ↦ let old = h.past node j inside (omega arith) high is in (old.0, omega (arith, old.1))
      ]
    ]

    p_past : (v j : ℕ) → v < length floors → get_or (passed s node (source_at edges p) p).next v 0 ≤ j → j < length edges
        → target_at edges j ≡ v → (get_or s.color (source_at edges j) 0 ≡ 0)
        × (get_or (passed s node (source_at edges p) p).ranks (source_at edges j) 0 + 1 ≤ get_or (passed s node (source_at edges p) p).ranks v 0)
    p_past v j lt low high is = elim (at_set s.next node (get_or s.link p 0) v (omega (arith, h.sizes))) [
      | inl (e, w) ↦ let new = p_past_node j (omega arith) high (is ∙ e) in
          (new.0, rw (p_rank (source_at edges j) new.0, e, p_rank_node) new.1)
      | inr (ne, w) ↦ let old = h.past v j lt (omega arith) high is in
          (old.0, let up = p_up v in let kept = p_rank (source_at edges j) old.0 in omega (arith, old.1))
    ]

    p_floor : (v : ℕ) → v < length floors → get_or floors v 0 ≤ get_or (passed s node (source_at edges p) p).ranks v 0
    p_floor v lt = let up = p_up v in omega (arith, h.floor v lt)

    p_tight : (v : ℕ) → v < length floors
        → (get_or (passed s node (source_at edges p) p).ranks v 0 ≡ get_or floors v 0)
        ⊎ ((j : ℕ) × (j < length edges) × (target_at edges j ≡ v) × (get_or s.color (source_at edges j) 0 ≡ 0)
        × (get_or (passed s node (source_at edges p) p).ranks v 0 ≡ get_or (passed s node (source_at edges p) p).ranks (source_at edges j) 0 + 1))
    p_tight v lt = elim (cases_eq v node) [
      | inl e ↦ elim (max_cases (get_or s.ranks node 0) (get_or s.ranks (source_at edges p) 0 + 1)) [
        | inl (is, le) ↦ same v lt (rw e (p_rank_node ∙ is))
        | inr (is, le) ↦ inr (
          p,
          p_in.0,
          p_in.1 ∙ sym e,
          source_done,
          rw (e, p_rank (source_at edges p) source_done) (p_rank_node ∙ is),
        )
      ]
      | inr ne ↦ same v lt (elim (at_set s.ranks node (max (get_or s.ranks node 0) (get_or s.ranks (source_at edges p) 0 + 1)) v (omega (arith, h.sizes))) [
        | inl (e, w) ↦ absurd (ne e)
        | inr (ne2, w) ↦ w
      ])
    ]
      where
        same : (v : ℕ) → v < length floors → get_or (passed s node (source_at edges p) p).ranks v 0 ≡ get_or s.ranks v 0
            → (get_or (passed s node (source_at edges p) p).ranks v 0 ≡ get_or floors v 0)
            ⊎ ((j : ℕ) × (j < length edges) × (target_at edges j ≡ v) × (get_or s.color (source_at edges j) 0 ≡ 0)
            × (get_or (passed s node (source_at edges p) p).ranks v 0 ≡ get_or (passed s node (source_at edges p) p).ranks (source_at edges j) 0 + 1))
        same v lt kept = elim (h.tight v lt) [
          | inl e ↦ inl (kept ∙ e)
          | inr (j, inside, is, c, e) ↦ inr (j, inside, is, c, rw (p_rank (source_at edges j) c) (kept ∙ e))
        ]

    p_done : (v : ℕ) → v < length floors → get_or s.color v 0 ≡ 0 → get_or (passed s node (source_at edges p) p).next v 0 ≡ 0
    p_done v lt is = elim (at_set s.next node (get_or s.link p 0) v (omega (arith, h.sizes))) [
      | inl (e, w) ↦ let one : get_or s.color v 0 ≡ 1 = rw e open_node in absurd (omega arith)
      | inr (ne, w) ↦ w ∙ h.done v lt is
    ]

    p_sum : sum (set s.next node (get_or s.link p 0)) + 1 ≤ sum s.next
    p_sum = let e = sum_set s.next node (get_or s.link p 0) (omega (arith, h.sizes)) in omega (arith, h.back p p_in.0)

    p_few : (v : ℕ) → v < length floors
        → get_or (passed s node (source_at edges p) p).ranks v 0 ≤ greatest floors + sum_by one_if_done s.color
    p_few v lt = elim (at_set s.ranks node (max (get_or s.ranks node 0) (get_or s.ranks (source_at edges p) 0 + 1)) v (omega (arith, h.sizes))) [
      | inl (e, w) ↦ omega (arith, h.few node inside, h.few_done (source_at edges p) (ends p p_in.0).0 source_done)
      | inr (ne, w) ↦ omega (arith, h.few v lt)
    ]

    p_few_done : (v : ℕ) → v < length floors → get_or s.color v 0 ≡ 0
        → get_or (passed s node (source_at edges p) p).ranks v 0 + 1 ≤ greatest floors + sum_by one_if_done s.color
    p_few_done v lt is = let kept = p_rank v is in omega (arith, h.few_done v lt is)

    pub keeps_passed : IsSearch edges floors (passed s node (source_at edges p) p)
    keeps_passed = record {
      sizes = (h.sizes.0, length-set s.next node (get_or s.link p 0) ∙ h.sizes.1, h.sizes.2, length-set s.ranks node _ ∙ h.sizes.3);
      back = h.back;
      same = h.same;
      none = h.none;
      inside = p_inside;
      own = p_own;
      past = p_past;
      floor = p_floor;
      tight = p_tight;
      done = p_done;
      range = h.range;
      on_path = h.on_path;
      chain = h.chain;
      distinct = h.distinct;
      listed = h.listed;
      few = p_few;
      few_done = p_few_done;
      on_count = h.on_count;
    }

    pub less_passed : sum (set s.next node (get_or s.link p 0)) + sum s.color < sum s.next + sum s.color
    less_passed = omega (arith, p_sum)
