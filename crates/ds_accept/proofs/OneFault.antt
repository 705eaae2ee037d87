-- Two faults of a graph are the same, or both show a cycle.
use Rattle.std.proofs.Common.{◌≡◌, inl, inr, ℕ, List, get_or, refl, sym, ◌∙◌, ap, subst, arith, Option, None}
use Rattle.std.specs.Prelude.{Contains}
use Rattle.std.specs.List.{HoldsAt}
use Rattle.std.proofs.lemmas.Bool.{cases_lt}
use Rattle.ds_marked.specs.Graph.{Graph, IsKept}
use Rattle.ds_marked.specs.declared.marked.Event.{Event}
use Rattle.ds_latch.specs.Node.{Split}
use Rattle.ds_latch.specs.Order.{IsRequired, opens_first, closes_before_next, after_producer, before_reuse, open_tokens, close_tokens}
use Rattle.ds_latch.specs.Plan.{split_events}
use Rattle.ds_latch.proofs.OrderTokens.{edge_differs, same_node}
use Rattle.ds_accept.specs.Accept.{EventStandsAt}
use Rattle.ds_accept.proofs.LeastSums.{one_list_of_sums_lem}
use Rattle.ds_accept.specs.Sums.{AreLeastSums}
use Rattle.ds_accept.specs.Fault.{IsFirstMissing, IsFirstWithout, ShowsLeast, StandsFirst}
use Rattle.ds_accept.specs.Laws.{OneAcceptFault}
use Rattle.ds_accept.specs.declared.fault.AcceptFault.TheVariants.{MissingEvent, MissingOrder, TokenFreeCycle, Memory}
use Rattle.ds_accept.proofs.SubsetLength.{one_place, some_event}

-- a list has one first place without the property
first_once : {X : Type 0} (P : X → Type 0) (xs : List X) (d : X) (k m : ℕ) → IsFirstWithout P xs k → IsFirstWithout P xs m → k ≡ m
first_once P xs d k m one other = elim (cases_lt k m) [
  | inl low ↦ absurd (one.without d (other.before k d (omega arith) low))
  | inr above ↦ elim (cases_lt m k) [
    | inl low ↦ absurd (other.without d (one.before m d (omega arith) low))
    | inr below ↦ omega (above, below, arith)
  ]
]

-- a required order has one number of tokens
same_tokens : (s : Split) (u v t x y z : ℕ) → IsRequired s u v t → IsRequired s x y z → u ≡ x → v ≡ y → t ≡ z
same_tokens s _ _ _ _ _ _ (opens_first n is) (opens_first m at) e f = refl
same_tokens s _ _ _ _ _ _ (opens_first n is) (closes_before_next m at) e f = absurd (omega arith)
same_tokens s _ _ _ _ _ _ (opens_first n is) (after_producer p c edge) e f = absurd (omega arith)
same_tokens s _ _ _ _ _ _ (opens_first n is) (before_reuse p c edge) e f = absurd (omega arith)
same_tokens s _ _ _ _ _ _ (closes_before_next n is) (opens_first m at) e f = absurd (omega arith)
same_tokens s _ _ _ _ _ _ (closes_before_next n is) (closes_before_next m at) e f = refl
same_tokens s _ _ _ _ _ _ (closes_before_next n is) (after_producer p c edge) e f = absurd (omega arith)
same_tokens s _ _ _ _ _ _ (closes_before_next n is) (before_reuse p c edge) e f = absurd (edge_differs s p c edge (omega arith))
same_tokens s _ _ _ _ _ _ (after_producer p c edge) (opens_first m at) e f = absurd (omega arith)
same_tokens s _ _ _ _ _ _ (after_producer p c edge) (closes_before_next m at) e f = absurd (omega arith)
same_tokens s _ _ _ _ _ _ (after_producer p c edge) (after_producer q d other) e f = ap open_tokens (same_node p q (omega arith))
same_tokens s _ _ _ _ _ _ (after_producer p c edge) (before_reuse q d other) e f = absurd (omega arith)
same_tokens s _ _ _ _ _ _ (before_reuse p c edge) (opens_first m at) e f = absurd (omega arith)
same_tokens s _ _ _ _ _ _ (before_reuse p c edge) (closes_before_next m at) e f = absurd (edge_differs s p c edge (omega arith))
same_tokens s _ _ _ _ _ _ (before_reuse p c edge) (after_producer q d other) e f = absurd (omega arith)
same_tokens s _ _ _ _ _ _ (before_reuse p c edge) (before_reuse q d other) e f = ap (close_tokens s) (same_node p q (omega arith))

module _ (s : Split) (g : Graph) (kept : IsKept g) where
  -- an event of the design has one place
  place_once : (u v p q : ℕ) → u ≡ v → EventStandsAt s g u p → EventStandsAt s g v q → p ≡ q
  place_once u v p q e one other =
      one_place g.events kept.once p q some_event one.inside other.inside
      (one.event some_event ∙ (ap (λ (n : ℕ). get_or (split_events s) n some_event) e ∙ sym (other.event some_event)))

  module _ (from to t from2 to2 t2 : ℕ) (one : IsFirstMissing s g from to t) (other : IsFirstMissing s g from2 to2 t2)
      (least least2 : Option ℕ) (numbers numbers2 : List (Option ℕ)) (shows : ShowsLeast g from to least numbers) (also : ShowsLeast g from2 to2 least2 numbers2) where
    not_before : StandsFirst one.u one.v other.u other.v → ⊥
    not_before first = one.lacks (other.before one.u one.v t one.required first)

    not_after : StandsFirst other.u other.v one.u one.v → ⊥
    not_after first = other.lacks (one.before other.u other.v t2 other.required first)

    same_source : one.u ≡ other.u
    same_source = elim (cases_lt one.u other.u) [
      | inl low ↦ absurd (not_before (inl low))
      | inr above ↦ elim (cases_lt other.u one.u) [
        | inl low ↦ absurd (not_after (inl low))
        | inr below ↦ omega (above, below, arith)
      ]
    ]

    same_target : one.v ≡ other.v
    same_target = elim (cases_lt one.v other.v) [
      | inl low ↦ absurd (not_before (inr (same_source, low)))
      | inr above ↦ elim (cases_lt other.v one.v) [
        | inl low ↦ absurd (not_after (inr (sym same_source, low)))
        | inr below ↦ omega (above, below, arith)
      ]
    ]

    same_order : MissingOrder from to t least numbers ≡ MissingOrder from2 to2 t2 least2 numbers2
    same_order =
        let source : from ≡ from2 = place_once one.u other.u from from2 same_source one.source other.source in
        let target : to ≡ to2 = place_once one.v other.v to to2 same_target one.target other.target in
        let tokens : t ≡ t2 = same_tokens s one.u one.v t other.u other.v t2 one.required other.required same_source same_target in
        let sums : numbers ≡ numbers2 = one_list_of_sums_lem g from2 numbers numbers2 (subst (λ (n : ℕ). AreLeastSums g n numbers) source shows.sums) also.sums in
        let few : least ≡ least2 = sym shows.at ∙ (ap (λ (ns : List (Option ℕ)). get_or ns to None) sums ∙ (ap (λ (n : ℕ). get_or numbers2 n None) target ∙ also.at)) in
        ap (λ (n : ℕ). MissingOrder n to t least numbers) source ∙ (ap (λ (n : ℕ). MissingOrder from2 n t least numbers) target
        ∙ (ap (λ (n : ℕ). MissingOrder from2 to2 n least numbers) tokens ∙ (ap (λ (o : Option ℕ). MissingOrder from2 to2 t2 o numbers) few
        ∙ ap (λ (ns : List (Option ℕ)). MissingOrder from2 to2 t2 least2 ns) sums)))

  same_event : (k m : ℕ) (e f : Event) → k ≡ m → HoldsAt (λ x. x ≡ e) (split_events s) k → HoldsAt (λ x. x ≡ f) (split_events s) m → e ≡ f
  same_event k m e f same is at = sym (is some_event) ∙ (ap (λ (n : ℕ). get_or (split_events s) n some_event) same ∙ at some_event)

pub one_fault_lem : OneAcceptFault
one_fault_lem s g (MissingEvent e) (MissingEvent f) kept some more (k, first, is) (m, second, at) =
    inl (ap MissingEvent (same_event s g kept k m e f (first_once (Contains g.events) (split_events s) some_event k m first second) is at))
one_fault_lem s g (MissingEvent e) (MissingOrder from to t least numbers) kept some more (k, first, is) (there, second, shows) =
    absurd (first.without some_event (there k some_event first.inside))
one_fault_lem s g (MissingEvent e) (TokenFreeCycle events) kept some more (k, first, is) (there, given, cycle) =
    absurd (first.without some_event (there k some_event first.inside))
one_fault_lem s g (MissingOrder from to t least numbers) (MissingEvent f) kept some more (there, first, shows) (m, second, at) =
    absurd (second.without some_event (there m some_event second.inside))
one_fault_lem s g (MissingOrder from to t least numbers) (MissingOrder from2 to2 t2 least2 numbers2) kept some more (there, is, shows) (present, at, too) =
    inl (same_order s g kept from to t from2 to2 t2 is at least least2 numbers numbers2 shows too)
one_fault_lem s g (MissingOrder from to t least numbers) (TokenFreeCycle events) kept some more (there, is, shows) (present, given, cycle) =
    absurd (is.lacks (given is.u is.v t is.required))
one_fault_lem s g (TokenFreeCycle events) (MissingEvent f) kept some more (there, given, cycle) (m, second, at) =
    absurd (second.without some_event (there m some_event second.inside))
one_fault_lem s g (TokenFreeCycle events) (MissingOrder from to t least numbers) kept some more (there, given, cycle) (present, at, too) =
    absurd (at.lacks (given at.u at.v t at.required))
one_fault_lem s g (TokenFreeCycle events) (TokenFreeCycle others) kept some more is at = inr ((events, refl), (others, refl))
one_fault_lem s g Memory other kept some more is at = absurd (some refl)
one_fault_lem s g one Memory kept some more is at = absurd (more refl)
