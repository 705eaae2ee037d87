-- A graph, and the same with the events of the nodes first.
use Rattle.std.proofs.Common.{◌≡◌, ◌≢◌, ◌⊎◌, inl, inr, ℕ, ◌+◌, ◌<◌, ◌≤◌, List, ◌++◌, length, length-append, get_or, map, refl, sym, ◌∙◌, ap, subst, arith, All, AllPairs, IsPermutation, slice_index, Some}
use Rattle.std.specs.Prelude.{Any, Contains}
use Rattle.std.proofs.lemmas.Bool.{cases_eq, cases_lt}
use Rattle.std.proofs.lemmas.List.{get_or-map, get_or_append_left, get_or_default, length-map}
use Rattle.std.proofs.lemmas.List.Elements.{All-contains, All-map}
use Rattle.std.proofs.lemmas.List.Sorted.{All-permutation, Contains-permutation, IsPermutation-sym}
use Rattle.ds_base.proofs.ListLemmas.{get_or-self}
use Rattle.ds_marked.specs.Graph.{Graph, AreEnds, IsArc, IsKept, StandsBefore, Walk, stay, along}
use Rattle.ds_marked.specs.declared.marked.Arc.{Arc}
use Rattle.ds_marked.specs.declared.marked.Event.{Event}
use Rattle.ds_latch.specs.Node.{Split}
use Rattle.ds_latch.specs.Plan.{IsPlan, IsSplit, Reorders, split_events}
use Rattle.ds_control.specs.Control.{AreOrders}
use Rattle.ds_rank.specs.Rank.{AreRanks}
use Rattle.ds_accept.specs.Given.{IsFirstUnmet, IsGiven}
use Rattle.ds_accept.specs.Accept.{AreGiven, AreThere, GivesOrder, IsAcceptable, EventStandsAt, extra_events}
use Rattle.ds_accept.specs.Fault.{IsFirstMissing, StandsFirst}
use Rattle.ds_accept.specs.Steps.{AreLeft, IsArcWithin, IsGivenBy, moved}
use Rattle.ds_accept.proofs.SubsetLength.{no_more, one_place, some_event}
use Rattle.ds_accept.proofs.Inverse.{inverse, inverse_is}
use Rattle.ds_accept.proofs.Others.{all_once, all_within}

module _ (s : Split) (g to : Graph) (number place : ℕ → ℕ) (kept : IsKept g) (once : AllPairs (λ a b. a ≢ b) (split_events s))
    (numbered : (p : ℕ) (d : Event) → p < length g.events → (number p < length to.events) × (get_or to.events (number p) d ≡ get_or g.events p d))
    (placed : (v : ℕ) → v < length (split_events s) → EventStandsAt s g v (place v))
    (events : to.events ≡ split_events s ++ extra_events s g) (arcs : IsPermutation (map (moved number) g.arcs) to.arcs) where
  pub there : AreThere s g
  there v d inside =
      let at : EventStandsAt s g v (place v) = placed v inside in
      (place v, at.inside, at.event (get_or (split_events s) v d) ∙ get_or-self (split_events s) v d inside)

  to_once : AllPairs (λ a b. a ≢ b) to.events
  to_once = subst (AllPairs (λ a b. a ≢ b)) (sym events) (all_once (split_events s) g.events once kept.once)

  -- the events of the nodes stand first
  stands_first : (v : ℕ) (d : Event) → v < length (split_events s) → (v < length to.events) × (get_or to.events v d ≡ get_or (split_events s) v d)
  stands_first v d low =
      let size : length to.events ≡ length (split_events s) + length (extra_events s g) = ap (λ (es : List Event). length es) events ∙ length-append (split_events s) (extra_events s g) in (
        omega (low, size, arith),
        ap (λ (es : List Event). get_or es v d) events ∙ get_or_append_left (split_events s) (extra_events s g) d v low,
      )

  number_is : (v p : ℕ) → EventStandsAt s g v p → number p ≡ v
  number_is v p at =
      let (low, same) = numbered p some_event at.inside in
      let (also, is) = stands_first v some_event at.number in
      one_place to.events to_once (number p) v some_event low also (same ∙ (at.event some_event ∙ sym is))

  -- and the other way round
  number_at : (v p : ℕ) → v < length (split_events s) → p < length g.events → number p ≡ v → EventStandsAt s g v p
  number_at v p low inside is = record {
    number = low;
    inside = inside;
    event = λ d. sym (numbered p d inside).1 ∙ (ap (λ (n : ℕ). get_or to.events n d) is ∙ (stands_first v d low).1);
  }

  -- no two events have one number
  one_number : (p q : ℕ) → p < length g.events → q < length g.events → number p ≡ number q → p ≡ q
  one_number p q low high same = one_place g.events kept.once p q some_event low high
      (sym (numbered p some_event low).1 ∙ (ap (λ (n : ℕ). get_or to.events n some_event) same ∙ (numbered q some_event high).1))

  -- an arc of the graph is one of the other, with its ends moved
  arc_down : (v w tokens : ℕ) → IsArc g v w tokens → IsArc to (number v) (number w) tokens
  arc_down v w tokens (k, arc, inside, is, (source, target, few)) =
      let (j, low, same) = Contains-permutation (map (moved number) g.arcs) to.arcs (moved number arc) arcs
      (k, rw (length-map g.arcs (moved number)) inside, get_or-map (moved number) g.arcs k arc (moved number arc) inside ∙ ap (moved number) is) in
      (j, moved number arc, low, same, (ap number source, ap number target, few))

  -- a walk of the graph is one of the other
  walk_down : (u v sum : ℕ) → Walk g u v sum → Walk to (number u) (number v) sum
  walk_down _ _ _ stay = stay
  walk_down _ _ _ (along {u} {v} {w} {sum} {tokens} walk arc) = along (walk_down u v sum walk) (arc_down v w tokens arc)

  -- what the graph gives, a walk of the other gives
  down : (u v tokens : ℕ) → GivesOrder s g u v tokens → (sum : ℕ) × Walk to u v sum × (sum ≤ tokens)
  down u v tokens gives = (
    gives.sum,
    subst (λ (x : ℕ). Walk to x v gives.sum) (number_is u gives.from gives.source)
        (subst (λ (y : ℕ). Walk to (number gives.from) y gives.sum) (number_is v gives.to gives.target) (walk_down gives.from gives.to gives.sum gives.walk)),
    gives.few,
  )

  -- what an arc of the other gives, the graph gives
  up : (u v tokens : ℕ) → u < length (split_events s) → v < length (split_events s) → Any (IsArcWithin u v tokens) to.arcs → GivesOrder s g u v tokens
  up u v tokens u_low v_low (j, arc, low, is, (source, target, few)) =
      let (k, below, same) = Contains-permutation to.arcs (map (moved number) g.arcs) arc (IsPermutation-sym (map (moved number) g.arcs) to.arcs arcs) (j, low, is) in
      let inside : k < length g.arcs = rw (length-map g.arcs (moved number)) at below in
      let x : Arc = get_or g.arcs k arc in
      let moved_is : moved number x ≡ arc = sym (get_or-map (moved number) g.arcs k arc arc inside) ∙ same in
      let ends : (x.source < length g.events) × (x.target < length g.events) = kept.ends k arc inside in
      let tokens_is : x.tokens ≡ arc.tokens = ap (λ (a : Arc). a.tokens) moved_is in record {
        from = x.source;
        to = x.target;
        source = number_at u x.source u_low ends.0 (ap (λ (a : Arc). a.source) moved_is ∙ source);
        target = number_at v x.target v_low ends.1 (ap (λ (a : Arc). a.target) moved_is ∙ target);
        sum = 0 + x.tokens;
        walk = along stay (k, x, inside, get_or-self g.arcs k arc inside, (refl, refl, refl));
        few = omega (few, tokens_is, arith);
      }

  -- an order that a walk gives
  walked : (order : Arc) → (order.source < length (split_events s)) × (order.target < length (split_events s))
      → IsGiven g (moved place order) → GivesOrder s g order.source order.target order.tokens
  walked order ends (sum, few, walk) = record {
    from = place order.source;
    to = place order.target;
    source = placed order.source ends.0;
    target = placed order.target ends.1;
    sum = sum;
    walk = walk;
    few = few;
  }

  place_at : (v p : ℕ) → EventStandsAt s g v p → p ≡ place v
  place_at v p at =
      let own : EventStandsAt s g v (place v) = placed v at.number in
      one_place g.events kept.once p (place v) some_event at.inside own.inside (at.event some_event ∙ sym (own.event some_event))

  -- and the other way round
  by_walk : (order : Arc) → GivesOrder s g order.source order.target order.tokens → IsGiven g (moved place order)
  by_walk order gives = (
    gives.sum,
    gives.few,
    subst (λ (x : ℕ). Walk g x (place order.target) gives.sum) (place_at order.source gives.from gives.source)
        (subst (λ (y : ℕ). Walk g gives.from y gives.sum) (place_at order.target gives.to gives.target) gives.walk),
  )

  pub acceptable : AreGiven s g → (ranks : List ℕ) → AreRanks g ranks → IsAcceptable s g
  acceptable given ranks are = record {
    there = there;
    given = given;
    rank = slice_index ranks;
    rises = λ k d inside free.
        let up : slice_index ranks (get_or g.arcs k d).source + 1 ≤ slice_index ranks (get_or g.arcs k d).target
        = are.above (get_or g.arcs k d).source (get_or g.arcs k d).target (k, get_or g.arcs k d, inside, get_or-self g.arcs k d inside, (refl, refl, free)) in
        omega (up, arith);
  }

  same_size : length to.events ≡ length g.events
  same_size =
      let all : All (Contains to.events) g.events = λ k d inside.
      let (low, same) = numbered k (get_or g.events k d) inside in (number k, low, same ∙ get_or-self g.events k d inside) in
      let most : length g.events ≤ length to.events = no_more g.events to.events kept.once all in
      let within : All (Contains g.events) to.events = subst (All (Contains g.events)) (sym events) (all_within (split_events s) g.events there) in
      let least : length to.events ≤ length g.events = no_more to.events g.events to_once within in
      omega (most, least, arith)

  pub reorders : Reorders g to
  reorders = record {
    place = number;
    as_many = same_size;
    events = numbered;
    arcs = arcs;
  }

  ends : AreEnds (length to.events) to.arcs
  ends = All-permutation (λ (arc : Arc). (arc.source < length to.events) × (arc.target < length to.events)) (map (moved number) g.arcs) to.arcs arcs
      (All-map (λ (arc : Arc). (arc.source < length to.events) × (arc.target < length to.events)) (moved number) g.arcs (λ k d inside.
      let both : ((get_or g.arcs k d).source < length g.events) × ((get_or g.arcs k d).target < length g.events) = kept.ends k d inside in
      ((numbered (get_or g.arcs k d).source some_event both.0).0, (numbered (get_or g.arcs k d).target some_event both.1).0)))

  -- the place of a number
  back : ℕ → ℕ
  back = inverse number (length g.events)

  back_is : (p : ℕ) → p < length g.events → back (number p) ≡ p
  unfolding back
  back_is p inside = inverse_is number (length g.events) one_number p inside

  pub plan : IsSplit s → IsAcceptable s g → IsPlan s to
  plan split acc = record {
    split = split;
    extra = extra_events s g;
    events = events;
    live = record {
      ends = ends;
      rank = λ v. acc.rank (back v);
      rises = All-permutation (λ (arc : Arc). arc.tokens ≡ 0 → acc.rank (back arc.source) < acc.rank (back arc.target)) (map (moved number) g.arcs) to.arcs arcs
          (All-map (λ (arc : Arc). arc.tokens ≡ 0 → acc.rank (back arc.source) < acc.rank (back arc.target)) (moved number) g.arcs (λ k d inside free.
          let both : ((get_or g.arcs k d).source < length g.events) × ((get_or g.arcs k d).target < length g.events) = kept.ends k d inside in
          rw (back_is (get_or g.arcs k d).source both.0, back_is (get_or g.arcs k d).target both.1) (acc.rises k d inside free)));
    };
    orders = λ u v tokens required. down u v tokens (acc.given u v tokens required);
  }

  -- an order by the parts of its arc
  by_parts : (arc : Arc) (u v tokens : ℕ) → arc.source ≡ u → arc.target ≡ v → arc.tokens ≡ tokens
      → GivesOrder s g arc.source arc.target arc.tokens → GivesOrder s g u v tokens
  by_parts arc u v tokens su tv kt gives =
      subst (λ (u : ℕ). GivesOrder s g u v tokens) su (subst (λ (v : ℕ). GivesOrder s g arc.source v tokens) tv
      (subst (λ (t : ℕ). GivesOrder s g arc.source arc.target t) kt gives))

  module _ (required : Graph) (orders : AreOrders s required) (sorted : AllPairs StandsBefore required.arcs)
      (inside_required : AreEnds (length (split_events s)) required.arcs) (left : List Arc) (are : AreLeft required.arcs to.arcs left) where
    required_ends : (arc : Arc) → Contains required.arcs arc → (arc.source < length (split_events s)) × (arc.target < length (split_events s))
    required_ends arc is = All-contains (λ (x : Arc). (x.source < length (split_events s)) × (x.target < length (split_events s))) required.arcs arc inside_required is

    -- an order that is left is a required one
    left_in : (k : ℕ) (d : Arc) → k < length left → Contains required.arcs (get_or left k d)
    left_in k d inside = are.some k d inside

    left_ends : (k : ℕ) (d : Arc) → k < length left
        → ((get_or left k d).source < length (split_events s)) × ((get_or left k d).target < length (split_events s))
    left_ends k d inside = required_ends (get_or left k d) (left_in k d inside)

    -- an order that is left is given where the walk of its places is
    given_left : (k : ℕ) (d : Arc) → k < length left → IsGiven g (get_or (map (moved place) left) k (moved place d))
        → GivesOrder s g (get_or left k d).source (get_or left k d).target (get_or left k d).tokens
    given_left k d inside is = walked (get_or left k d) (left_ends k d inside)
        (subst (IsGiven g) (get_or-map (moved place) left k d (moved place d) inside) is)

    pub given : All (IsGiven g) (map (moved place) left) → AreGiven s g
    given all u v tokens order =
        let (k, arc, inside, is, (su, tv, kt)) = (orders u v tokens).0 order in
        let low : (arc.source < length (split_events s)) × (arc.target < length (split_events s)) = required_ends arc (k, inside, is) in
        by_parts arc u v tokens su tv kt (elim (All-contains (λ o. IsGivenBy to.arcs o ⊎ Contains left o) required.arcs arc are.others (k, inside, is)) [
          | inl by ↦ up arc.source arc.target arc.tokens low.0 low.1 by
          | inr (j, near, at) ↦ subst (λ (x : Arc). GivesOrder s g x.source x.target x.tokens) at
              (given_left j arc near (all j (moved place arc) (rw (length-map left (moved place)) near)))
        ])

    -- what stands before an order that is left is left earlier
    earlier : (k j : ℕ) (order arc : Arc) → k < length left → get_or left k order ≡ order → j < length left
        → get_or left j arc ≡ arc → StandsFirst arc.source arc.target order.source order.target → j < k
    earlier k j order arc inside is low arc_is first = elim (cases_lt j k) [
      | inl below ↦ below
      | inr above ↦ absurd (elim (cases_eq k j) [
        | inl same ↦ (
            let one : arc ≡ order = sym arc_is ∙ (ap (λ (n : ℕ). get_or left n arc) (sym same) ∙ (get_or_default left k arc order inside ∙ is)) in
            let e : arc.source ≡ order.source = ap (λ (a : Arc). a.source) one in
            let f : arc.target ≡ order.target = ap (λ (a : Arc). a.target) one in
            elim first [ inl p ↦ absurd (omega (p, e, arith)) | inr (p, q) ↦ absurd (omega (q, f, arith)) ])
        | inr differs ↦ (
            let stands : StandsBefore order arc = subst (λ (x : Arc). StandsBefore x arc) (get_or_default left k arc order inside ∙ is)
            (subst (StandsBefore (get_or left k arc)) arc_is (are.sorted k j arc (omega arith) low)) in
            no_turn order arc stands first)
      ])
    ]
      where
        no_turn : (a b : Arc) → StandsBefore a b → StandsFirst b.source b.target a.source a.target → ⊥
        no_turn a b (inl p) (inl q) = absurd (omega (p, q, arith))
        no_turn a b (inl p) (inr (q, r)) = absurd (omega (p, q, arith))
        no_turn a b (inr (p, more)) (inl q) = absurd (omega (p, q, arith))
        no_turn a b (inr (p, inl x)) (inr (q, r)) = absurd (omega (x, r, arith))
        no_turn a b (inr (p, inr (x, t))) (inr (q, r)) = absurd (omega (x, r, arith))

    pub missing : (k : ℕ) (order : Arc) → order ≡ get_or left k order → IsFirstUnmet g (map (moved place) left) (Some k)
        → IsFirstMissing s g (place order.source) (place order.target) order.tokens
    missing k order is (high, (none, before)) =
        let inside : k < length left = rw (length-map left (moved place)) at high in
        let own : get_or left k order ≡ order = sym is in
        let (m, m_low, m_is) = subst (Contains required.arcs) own (left_in k order inside) in
        let ends : (order.source < length (split_events s)) × (order.target < length (split_events s))
        = subst (λ (x : Arc). (x.source < length (split_events s)) × (x.target < length (split_events s))) own (left_ends k order inside) in record {
          u = order.source;
          v = order.target;
          required = (orders order.source order.target order.tokens).1 (m, order, m_low, m_is, (refl, refl, refl));
          source = placed order.source ends.0;
          target = placed order.target ends.1;
          lacks = λ gives. none (moved place order) (subst (IsGiven g) (sym (get_or-map (moved place) left k order (moved place order) inside))
              (subst (λ (x : Arc). IsGiven g (moved place x)) is (by_walk order gives)));
          before = λ u v tokens other less.
              let (i, arc, low, arc_is, (su, tv, kt)) = (orders u v tokens).0 other in
              let both : (arc.source < length (split_events s)) × (arc.target < length (split_events s)) = required_ends arc (i, low, arc_is) in
              by_parts arc u v tokens su tv kt (elim (All-contains (λ o. IsGivenBy to.arcs o ⊎ Contains left o) required.arcs arc are.others (i, low, arc_is)) [
                | inl by ↦ up arc.source arc.target arc.tokens both.0 both.1 by
                | inr (j, near, at) ↦ (
                    let first : StandsFirst arc.source arc.target order.source order.target = rw (su, tv) less in
                    let below : j < k = earlier k j order arc inside own near at first in
                    subst (λ (x : Arc). GivesOrder s g x.source x.target x.tokens) at (given_left j arc near (before j (moved place arc) (omega arith) below)))
              ]);
        }
