-- Sums that are lowered: one arc, one step behind another, and the end.
use Rattle.std.proofs.Common.{◌≡◌, ◌≢◌, ◌∙◌, ◌⊎◌, ◌<◌, ◌≤◌, ◌+◌, ◌*◌, ◌^◌, ℕ, List, length, get_or, inl, inr, arith, subst, sym, refl, ap, get_or-set_same, get_or-set_other, length-set, Bool, true, false, Option, None, Some, replicate, zero, suc}
use Rattle.std.proofs.Math.ListN.{set}
use Rattle.std.specs.Prelude.{Contains, All}
use Rattle.std.proofs.lemmas.Bool.{cases_eq, cases_lt, false≢true}
use Rattle.std.proofs.lemmas.List.{length-replicate, get_or_default}
use Rattle.std.proofs.lemmas.List.Sums.{sum_by-set, sum_by-le}
use Rattle.std.proofs.lemmas.List.Elements.{All-contains}
use Rattle.ds_marked.specs.Graph.{Graph, Walk, stay, along, IsArc}
use Rattle.ds_marked.specs.declared.marked.Arc.{Arc}
use Rattle.ds_accept.specs.Masks.{AreAllIn, along_arcs}
use Rattle.ds_accept.specs.Sums.{AreLeastSums, IsLeast}
use Rattle.ds_accept.specs.Lowered.{AreSumsBounded, AreWalkSums, IsAtMost, IsBelow, IsLowAt, IsLowering, height, heights, one_if_some, reached, sum_at}
use Rattle.ds_accept.proofs.MaskWalks.{walk_in}
use Rattle.ds_accept.proofs.SweepSteps.{one_of}

Sums : Type 0
Sums = List (Option ℕ)

-- an event has one sum
pub one_sum : (a b : ℕ) → (let o : Option ℕ = Some a in o ≡ Some b) → a ≡ b
one_sum a b e = cc

one_at_most : (o : Option ℕ) → one_if_some o ≤ 1
one_at_most None = omega arith
one_at_most (Some sum) = omega arith

-- with few events no sum is large
pub small : (sums : List (Option ℕ)) → length sums < 2 ^ 32 → AreSumsBounded sums → (v sum : ℕ) → sum_at sums v ≡ Some sum → sum < 2 ^ 40
small sums few bounded v sum e =
    let most : reached sums ≤ length sums * 1 = sum_by-le one_if_some 1 sums (λ k d inside. one_at_most (get_or sums k d)) in
    let low : sum ≤ 255 * reached sums = bounded v sum e in
    omega arith

module _ (arcs : List Arc) where
  pub lower_none : (P : List (Option ℕ) → Type 0) (sums : List (Option ℕ)) → AreSumsBounded sums → P sums → IsLowering arcs P sums sums false
  lower_none P sums bounded p = record {
    size = refl;
    bounded = bounded;
    walks = λ from w. w;
    start = λ from e. e;
    less = λ e. absurd (false≢true e);
    same = λ e. refl;
    stays = λ e. p;
  }

  pub lower_both : (P Q R : List (Option ℕ) → Type 0) (old mid new : List (Option ℕ)) (a b : Bool) → (P new → Q new → R new)
      → IsLowering arcs P old mid a → IsLowering arcs Q mid new b → IsLowering arcs R old new (one_of a b)
  lower_both P Q R old mid new true true join s t = record {
    size = t.size ∙ s.size;
    bounded = t.bounded;
    walks = λ from w. t.walks from (s.walks from w);
    start = λ from e. t.start from (s.start from e);
    less = λ e. (let x : heights mid < heights old = s.less refl in let y : heights new < heights mid = t.less refl in omega arith);
    same = λ e. absurd (false≢true (sym e));
    stays = λ e. absurd (false≢true (sym e));
  }
  lower_both P Q R old mid new true false join s t = record {
    size = t.size ∙ s.size;
    bounded = t.bounded;
    walks = λ from w. t.walks from (s.walks from w);
    start = λ from e. t.start from (s.start from e);
    less = λ e. (let x : heights mid < heights old = s.less refl in let y : heights new ≡ heights mid = ap (λ (xs : List (Option ℕ)). heights xs) (t.same refl) in omega arith);
    same = λ e. absurd (false≢true (sym e));
    stays = λ e. absurd (false≢true (sym e));
  }
  lower_both P Q R old mid new false true join s t = record {
    size = t.size ∙ s.size;
    bounded = t.bounded;
    walks = λ from w. t.walks from (s.walks from w);
    start = λ from e. t.start from (s.start from e);
    less = λ e. (let x : heights mid ≡ heights old = ap (λ (xs : List (Option ℕ)). heights xs) (s.same refl) in let y : heights new < heights mid = t.less refl in omega arith);
    same = λ e. absurd (false≢true (sym e));
    stays = λ e. absurd (false≢true (sym e));
  }
  lower_both P Q R old mid new false false join s t = record {
    size = t.size ∙ s.size;
    bounded = t.bounded;
    walks = λ from w. t.walks from (s.walks from w);
    start = λ from e. t.start from (s.start from e);
    less = λ e. absurd (false≢true e);
    same = λ e. t.same refl ∙ s.same refl;
    stays = λ e. join (subst P (sym (t.same refl)) (s.stays refl)) (t.stays refl);
  }

-- one arc
module _ (arcs : List Arc) (arc : Arc) (old : List (Option ℕ)) (sum : ℕ) (in_arcs : Contains arcs arc) (inside : arc.target < length old)
    (bounded : AreSumsBounded old) (source : sum_at old arc.source ≡ Some sum) (fits : sum + arc.tokens < 2 ^ 64) (tokens : arc.tokens < 2 ^ 8) where
  abbrev new : List (Option ℕ)
  new = set old arc.target (Some (sum + arc.tokens))

  at_target : sum_at new arc.target ≡ Some (sum + arc.tokens)
  at_target = get_or-set_same old arc.target (Some (sum + arc.tokens)) None inside

  at_other : (v : ℕ) → v ≢ arc.target → sum_at new v ≡ sum_at old v
  at_other v ne = get_or-set_other old arc.target v (Some (sum + arc.tokens)) None ne

  -- what the sum at an event is after it
  its : (v s : ℕ) → sum_at new v ≡ Some s → ((v ≡ arc.target) × (s ≡ sum + arc.tokens)) ⊎ (sum_at old v ≡ Some s)
  its v s e = elim (cases_eq v arc.target) [
    | inl same ↦ inl (same, one_sum s (sum + arc.tokens) (sym e ∙ (ap (λ (v : ℕ). sum_at new v) same ∙ at_target)))
    | inr ne ↦ inr (sym (at_other v ne) ∙ e)
  ]

  more_reached : reached new + one_if_some (sum_at old arc.target) ≡ reached old + 1
  more_reached = sum_by-set one_if_some old arc.target (Some (sum + arc.tokens)) None inside

  lower_heights : heights new + height (sum_at old arc.target) ≡ heights old + (sum + arc.tokens)
  lower_heights = sum_by-set height old arc.target (Some (sum + arc.tokens)) None inside

  bound_new : (o : Option ℕ) → sum_at old arc.target ≡ o → IsBelow (sum + arc.tokens) o → reached new + one_if_some o ≡ reached old + 1
      → (v s : ℕ) → sum_at new v ≡ Some s → s ≤ 255 * reached new
  bound_new None is below count v s e =
      let low : sum ≤ 255 * reached old = bounded arc.source sum source in
      elim (its v s e) [
        | inl (same, at) ↦ omega arith
        | inr before ↦ (let b : s ≤ 255 * reached old = bounded v s before in omega arith)
      ]
  bound_new (Some there) is below count v s e =
      let low : there ≤ 255 * reached old = bounded arc.target there is in
      elim (its v s e) [
        | inl (same, at) ↦ omega arith
        | inr before ↦ (let b : s ≤ 255 * reached old = bounded v s before in omega arith)
      ]

  less_new : (o : Option ℕ) → IsBelow (sum + arc.tokens) o → heights new + height o ≡ heights old + (sum + arc.tokens) → heights new < heights old
  less_new None below e = omega arith
  less_new (Some there) below e = omega arith

  walks_new : (from : ℕ) → AreWalkSums arcs from old → AreWalkSums arcs from new
  walks_new from walks v s e = elim (its v s e) [
    | inl (same, at) ↦
        (let is_arc : IsArc (along_arcs arcs) arc.source arc.target arc.tokens = (in_arcs.0, arc, in_arcs.1, in_arcs.2, (refl, refl, refl)) in
        let walk : Walk (along_arcs arcs) from arc.target (sum + arc.tokens) = along (walks arc.source sum source) is_arc in
        subst (λ (s : ℕ). Walk (along_arcs arcs) from v s) (sym at) (subst (λ (v : ℕ). Walk (along_arcs arcs) from v (sum + arc.tokens)) (sym same) walk))
    | inr before ↦ walks v s before
  ]

  start_new : (o : Option ℕ) → sum_at old arc.target ≡ o → IsBelow (sum + arc.tokens) o → (from : ℕ) → sum_at old from ≡ Some 0 → sum_at new from ≡ Some 0
  start_new o is below from e = elim (cases_eq from arc.target) [
    | inl same ↦ absurd (not_below (sum + arc.tokens) o below (sym is ∙ (ap (λ (v : ℕ). sum_at old v) (sym same) ∙ e)))
    | inr ne ↦ at_other from ne ∙ e
  ]
    where
      not_below : (n : ℕ) (o : Option ℕ) → IsBelow n o → o ≡ Some 0 → ⊥
      not_below n None below e = cc
      not_below n (Some s) below e = let z : s ≡ 0 = one_sum s 0 e in omega arith

  -- the sum at the target falls
  pub lower_arc : (after : List (Option ℕ)) → after ≡ set old arc.target (Some (sum + arc.tokens)) → IsBelow (sum + arc.tokens) (sum_at old arc.target)
      → IsLowering arcs (λ sums. IsLowAt sums arc) old after true
  lower_arc after is below = subst (λ (after : List (Option ℕ)). IsLowering arcs (λ sums. IsLowAt sums arc) old after true) (sym is) (record {
    size = length-set old arc.target (Some (sum + arc.tokens));
    bounded = bound_new (sum_at old arc.target) refl below more_reached;
    walks = walks_new;
    start = start_new (sum_at old arc.target) refl below;
    less = λ e. less_new (sum_at old arc.target) below lower_heights;
    same = λ e. absurd (false≢true (sym e));
    stays = λ e. absurd (false≢true (sym e));
  })

-- an arc that is low
pub low_arc : (arcs : List Arc) (arc : Arc) (sums : List (Option ℕ)) (sum : ℕ) → AreSumsBounded sums → sum_at sums arc.source ≡ Some sum
    → ¬ IsBelow (sum + arc.tokens) (sum_at sums arc.target) → IsLowering arcs (λ sums. IsLowAt sums arc) sums sums false
low_arc arcs arc sums sum bounded source none = lower_none arcs (λ sums. IsLowAt sums arc) sums bounded
    (λ s e. let same : s ≡ sum = one_sum s sum (sym e ∙ source) in
    subst (λ (s : ℕ). IsAtMost (sum_at sums arc.target) (s + arc.tokens)) (sym same) (at_most (sum_at sums arc.target) (sum + arc.tokens) none))
  where
    at_most : (o : Option ℕ) (n : ℕ) → ¬ IsBelow n o → IsAtMost o n
    at_most None n none = absurd (none tt)
    at_most (Some s) n none = elim (cases_lt n s) [ inl below ↦ absurd (none below) | inr above ↦ (s, refl, above) ]

-- an arc whose source has no sum
pub no_source : (arcs : List Arc) (arc : Arc) (sums : List (Option ℕ)) → AreSumsBounded sums → sum_at sums arc.source ≡ None
    → IsLowering arcs (λ sums. IsLowAt sums arc) sums sums false
no_source arcs arc sums bounded none = lower_none arcs (λ sums. IsLowAt sums arc) sums bounded (λ s e. absurd (let f : None ≡ Some s = sym none ∙ e in cc))

-- at the end
module _ (arcs : List Arc) (sums : List (Option ℕ)) (low : All (IsLowAt sums) arcs) where
  at_walk : (u v sum : ℕ) → Walk (along_arcs arcs) u v sum → sum_at sums u ≡ Some 0 → IsAtMost (sum_at sums v) sum
  at_walk _ _ _ stay start = (0, start, omega arith)
  at_walk _ _ _ (along {u} {v} {w} {sum} {tokens} walk (k, arc, inside, is, (source, target, few))) start =
      let (least, has, most) = at_walk u v sum walk start in
      let step : IsLowAt sums arc = All-contains (IsLowAt sums) arcs arc low (k, inside, is) in
      let (next, there, under) = step least (ap (λ (v : ℕ). sum_at sums v) source ∙ has) in
      (next, ap (λ (w : ℕ). sum_at sums w) (sym target) ∙ there, omega arith)

  module _ (g : Graph) (from : ℕ) (forth : AreAllIn arcs g.arcs) (back : AreAllIn g.arcs arcs) (walks : AreWalkSums arcs from sums) (start : sum_at sums from ≡ Some 0) where
    least_at : (v : ℕ) (o : Option ℕ) → sum_at sums v ≡ o → IsLeast g from v o
    least_at v None is = λ sum walk.
        let (least, has, most) = at_walk from v sum (walk_in g (along_arcs arcs) back from v sum walk) start in
        absurd (let f : None ≡ Some least = sym is ∙ has in cc)
    least_at v (Some s) is = (
      walk_in (along_arcs arcs) g forth from v s (walks v s is),
      λ sum walk.
          let (least, has, most) = at_walk from v sum (walk_in g (along_arcs arcs) back from v sum walk) start in
          let same : s ≡ least = one_sum s least (sym is ∙ has) in
          omega arith,
    )

    pub all_least : length sums ≡ length g.events → AreLeastSums g from sums
    all_least size = record { one_each = size; least = λ v inside. least_at v (sum_at sums v) refl }

-- no event has a sum yet
none_at : (n v : ℕ) → get_or (replicate {A = Option ℕ} n None) v None ≡ None
none_at zero v = refl
none_at (suc n) zero = refl
none_at (suc n) (suc v) = none_at n v

-- the event itself has the sum of a walk without arcs
pub first_start : (n from i : ℕ) (sums : List (Option ℕ)) → sums ≡ replicate n None → i ≡ from → from < n → sum_at (set sums i (Some 0)) from ≡ Some 0
first_start n from i sums is at inside =
    let size : length sums ≡ n = ap (λ (xs : List (Option ℕ)). length xs) is ∙ length-replicate n None in
    subst (λ (i : ℕ). sum_at (set sums i (Some 0)) from ≡ Some 0) (sym at) (get_or-set_same sums from (Some 0) None (omega arith))

pub first_sums : (arcs : List Arc) (n from i : ℕ) (sums : List (Option ℕ)) → sums ≡ replicate n None → i ≡ from → from < n → AreWalkSums arcs from (set sums i (Some 0))
first_sums arcs n from i sums is at inside v s e = elim (cases_eq v i) [
  | inl same ↦
      (let here : v ≡ from = same ∙ at in
      let zero_sum : 0 ≡ s = one_sum 0 s (sym (first_start n from i sums is at inside) ∙ (ap (λ (v : ℕ). sum_at (set sums i (Some 0)) v) (sym here) ∙ e)) in
      subst (λ (s : ℕ). Walk (along_arcs arcs) from v s) zero_sum (subst (λ (v : ℕ). Walk (along_arcs arcs) from v 0) (sym here) stay))
  | inr ne ↦
      (let none : sum_at sums v ≡ None = ap (λ (xs : List (Option ℕ)). sum_at xs v) is ∙ none_at n v in
      let f : None ≡ Some s = sym none ∙ (sym (get_or-set_other sums i v (Some 0) None ne) ∙ e) in
      absurd (cc))
]

-- what is read at a place that is given by an equation
pub read_at : (sums : List (Option ℕ)) (v i : ℕ) (o : Option ℕ) → v < length sums → i ≡ v → o ≡ get_or sums i o → sum_at sums v ≡ o
read_at sums v i o inside at is = get_or_default sums v None o inside ∙ (ap (λ (i : ℕ). get_or sums i o) (sym at) ∙ sym is)
