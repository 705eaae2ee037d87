-- A delay for all arcs with the same ends, which stand together.
use Rattle.std.proofs.Common.{◌≡◌, ◌∙◌, ◌+◌, ◌<◌, ◌≤◌, ℕ, Bool, true, false, List, [], ◌∷◌, length, get_or, set, not, inl, inr, refl, sym, ap, arith, subst, zero, suc, if◌then◌else◌, AllPairs, length-set}
use Rattle.std.specs.List.{prefix_len}
use Rattle.std.proofs.lemmas.Bool.{cases_Bool, cases_eq, cases_lt, false≢true}
use Rattle.std.proofs.lemmas.Bool.Decides.{Decides-eqb}
use Rattle.std.proofs.lemmas.Grind.{same_number_lists}
use Rattle.std.proofs.lemmas.List.{get_or-set_other, get_or-set_same}
use Rattle.std.proofs.lemmas.List.Sums.{prefix_len_passes, prefix_len_stops}
use Rattle.ds_marked.specs.Graph.{StandsBefore}
use Rattle.ds_marked.specs.declared.marked.Arc.{Arc}
use Rattle.ds_period.specs.Read.{delays_with, is_from_to}
use Rattle.ds_period.specs.Step.{IsFirstBetween, is_before}
use Rattle.ds_period.proofs.ArcSearch.{behind_joins, before_earlier, before_joins, joins_is, not_true}

-- not true and not false
not_so : (x : Bool) → not x ≡ false → x ≡ true
not_so true e = refl
not_so false e = absurd (false≢true (sym e))

not_such : (x : Bool) → not x ≡ true → x ≡ false
not_such true e = absurd (false≢true e)
not_such false e = refl

module _ (u v delay : ℕ) where
  -- as many as before
  pub length-delays_with : (arcs : List Arc) (old : List ℕ) → length old ≡ length arcs
      → length (delays_with u v delay arcs old) ≡ length old
  length-delays_with [] old same = omega arith
  length-delays_with (arc ∷ arcs) [] same = refl
  length-delays_with (arc ∷ arcs) (d ∷ old) same =
      let rest = length-delays_with arcs old (omega arith) in omega arith

  -- an arc between them has it
  pub at_named : (arcs : List Arc) (old : List ℕ) (k : ℕ) (a : Arc) → k < length arcs → length old ≡ length arcs
      → is_from_to u v (get_or arcs k a) ≡ true → get_or (delays_with u v delay arcs old) k 0 ≡ delay
  at_named [] old k a inside same e = absurd (omega arith)
  at_named (arc ∷ arcs) [] k a inside same e = absurd (omega arith)
  at_named (arc ∷ arcs) (d ∷ old) zero a inside same e = ap (λ (b : Bool). if b then delay else d) e
  at_named (arc ∷ arcs) (d ∷ old) (suc k) a inside same e = at_named arcs old k a (omega arith) (omega arith) e

  -- each other arc keeps its own
  pub at_other : (arcs : List Arc) (old : List ℕ) (k : ℕ) (a : Arc) → k < length arcs → length old ≡ length arcs
      → is_from_to u v (get_or arcs k a) ≡ false → get_or (delays_with u v delay arcs old) k 0 ≡ get_or old k 0
  at_other [] old k a inside same e = absurd (omega arith)
  at_other (arc ∷ arcs) [] k a inside same e = absurd (omega arith)
  at_other (arc ∷ arcs) (d ∷ old) zero a inside same e = ap (λ (b : Bool). if b then delay else d) e
  at_other (arc ∷ arcs) (d ∷ old) (suc k) a inside same e = at_other arcs old k a (omega arith) (omega arith) e

-- the first arc between two events, and those before it
module _ (u v : ℕ) (arcs : List Arc) (first : ℕ) (is : IsFirstBetween u v arcs first) where
  -- how many arcs stand before it
  at : first ≡ prefix_len (λ x. not (is_from_to u v x)) arcs
  at = is

  first_leads : (d : Arc) → first < length arcs → is_from_to u v (get_or arcs first d) ≡ true
  first_leads d inside = not_so (is_from_to u v (get_or arcs first d))
      (subst (λ (k : ℕ). not (is_from_to u v (get_or arcs k d)) ≡ false) (sym at)
      (prefix_len_stops (λ x. not (is_from_to u v x)) arcs d (omega (arith, at))))

  none_before : (k : ℕ) (d : Arc) → k < first → is_from_to u v (get_or arcs k d) ≡ false
  none_before k d before = not_such (is_from_to u v (get_or arcs k d))
      (prefix_len_passes (λ x. not (is_from_to u v x)) arcs k d (omega (arith, at)))

-- the delays of the first arcs are filled in, those of the others are as they were
pub record AreFilled (u v delay : ℕ) (arcs : List Arc) (old new : List ℕ) (k : ℕ) : Type 0 where
  pub size : length new ≡ length old
  pub done : (j : ℕ) → j < k → j < length old → get_or new j 0 ≡ get_or (delays_with u v delay arcs old) j 0
  pub rest : (j : ℕ) → k ≤ j → get_or new j 0 ≡ get_or old j 0

module _ (u v delay : ℕ) (arcs : List Arc) (old : List ℕ) (same : length old ≡ length arcs) where
  -- none so far
  pub filled_none : (first : ℕ) → IsFirstBetween u v arcs first → AreFilled u v delay arcs old old first
  filled_none first is = record {
    size = refl;
    done = λ j before inside.
        let d : Arc = record { source = 0; target = 0; tokens = 0 } in
        sym (at_other u v delay arcs old j d (omega arith) same (none_before u v arcs first is j d before));
    rest = λ j from. refl;
  }

  -- one more
  pub filled_more : (new : List ℕ) (k : ℕ) (a : Arc) → k < length arcs → is_from_to u v (get_or arcs k a) ≡ true
      → AreFilled u v delay arcs old new k → AreFilled u v delay arcs old (set new k delay) (k + 1)
  filled_more new k a inside leads f = record {
    size = length-set new k delay ∙ f.size;
    done = λ j before within. elim (cases_eq j k) [
      | inl at ↦ (let here : get_or (set new k delay) k 0 ≡ delay = get_or-set_same new k delay 0 (omega (arith, f.size)) in
          subst (λ (i : ℕ). get_or (set new k delay) i 0 ≡ get_or (delays_with u v delay arcs old) i 0) (sym at)
          (here ∙ sym (at_named u v delay arcs old k a inside same leads)))
      | inr apart ↦ get_or-set_other new k j delay 0 apart ∙ f.done j (omega (arith, apart)) within
    ];
    rest = λ j from. get_or-set_other new k j delay 0 (λ e. absurd (omega (arith, e))) ∙ f.rest j (omega arith);
  }

  -- all of them
  pub filled_all : (new : List ℕ) (k : ℕ) → length arcs ≤ k → AreFilled u v delay arcs old new k
      → new ≡ delays_with u v delay arcs old
  filled_all new k past f = same_number_lists new (delays_with u v delay arcs old)
      (f.size ∙ sym (length-delays_with u v delay arcs old same))
      (λ j inside. f.done j (omega (arith, f.size)) (omega (arith, f.size)))

  -- behind an arc with other ends, behind the first, no arc has these
  pub filled_up : AllPairs StandsBefore arcs → (first k : ℕ) (a : Arc) → (new : List ℕ) → IsFirstBetween u v arcs first → first ≤ k → k < length arcs
      → is_from_to u v (get_or arcs k a) ≡ false → AreFilled u v delay arcs old new k → new ≡ delays_with u v delay arcs old
  filled_up sorted first k a new is from inside other f = same_number_lists new (delays_with u v delay arcs old)
      (f.size ∙ sym (length-delays_with u v delay arcs old same))
      (λ j within. elim (cases_lt j k) [
        | inl before ↦ f.done j before (omega (arith, f.size))
        | inr behind ↦ f.rest j behind ∙ sym (at_other u v delay arcs old j a (omega (arith, f.size)) same (others j behind (omega (arith, f.size))))
      ])
    where
      here : is_from_to u v (get_or arcs first a) ≡ true
      here = first_leads u v arcs first is a (omega arith)

      past : is_before u v (get_or arcs k a) ≡ false
      past = not_true (is_before u v (get_or arcs k a)) (λ e. elim (cases_eq first k) [
        | inl at ↦ false≢true (sym (before_joins u v (get_or arcs k a) e) ∙ subst (λ (i : ℕ). is_from_to u v (get_or arcs i a) ≡ true) at here)
        | inr apart ↦ false≢true (sym (before_joins u v (get_or arcs first a)
            (before_earlier u v (get_or arcs first a) (get_or arcs k a) (sorted first k a (omega (arith, apart)) inside) e)) ∙ here)
      ])

      others : (j : ℕ) → k ≤ j → j < length arcs → is_from_to u v (get_or arcs j a) ≡ false
      others j behind within = elim (cases_eq k j) [
        | inl at ↦ subst (λ (i : ℕ). is_from_to u v (get_or arcs i a) ≡ false) at other
        | inr apart ↦ behind_joins u v (get_or arcs k a) (get_or arcs j a) (sorted k j a (omega (arith, apart)) within) past other
      ]

-- the ends of the first arc are those that it is the first of
pub first_ends : (u v s t : ℕ) (arcs : List Arc) (first : ℕ) (a b : Arc) → IsFirstBetween u v arcs first → first < length arcs
    → s ≡ (get_or arcs first a).source → t ≡ (get_or arcs first b).target → (s ≡ u) × (t ≡ v)
first_ends u v s t arcs first a b is inside source target = (
  source ∙ (joins_is u v (get_or arcs first a) (first_leads u v arcs first is a inside)).0,
  target ∙ (joins_is u v (get_or arcs first b) (first_leads u v arcs first is b inside)).1,
)
