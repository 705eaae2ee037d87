-- The events of the nodes: each event is one node's.
use Rattle.std.proofs.Common.{◌≡◌, ◌≢◌, ℕ, zero, suc, ◌+◌, ◌-◌, ◌*◌, ◌<◌, ◌≤◌, Bool, true, false, List, [], ◌∷◌, refl, arith, ap, sym, ◌∙◌, ◌⊎◌, inl, inr, subst, ltb}
use Rattle.std.specs.Prelude.{Contains}
use Rattle.std.proofs.lemmas.Bool.{cases_lt}
use Rattle.std.proofs.lemmas.Bool.Decides.{Decides-ltb}
use Rattle.std.proofs.Math.Nat.{zero-mod}
use Rattle.ds_latch.specs.Node.{Split, IsNode, number_of, opening, closing, nodes, extra_event, events_of, place_of}
use Rattle.ds_latch.specs.declared.node.Node.{Node}
use Rattle.ds_latch.specs.declared.node.Node.TheVariants.{In, Out, Master, Slave}
use Rattle.ds_base.proofs.ListLemmas.{Contains-head, Contains-tail, Contains-split}
use Rattle.ds_latch.proofs.OrderTokens.{number_below, places_differ}

pub is_false : (r : Bool) → ¬ (r ≡ true) → r ≡ false
is_false true not_so = absurd (not_so refl)
is_false false not_so = refl

module _ (s : Split) where
  two_events : (n : ℕ) → n < nodes s → events_of s n ≡ (2 * n) ∷ (2 * n + 1) ∷ []
  two_events n below = (let is : ltb n (nodes s) ≡ true = (Decides-ltb n (nodes s)).1 below in rw is refl)

  one_event : (n : ℕ) → nodes s ≤ n → events_of s n ≡ (nodes s + n) ∷ []
  one_event n past = (let is : ltb n (nodes s) ≡ false = is_false (ltb n (nodes s)) (λ e. (let low : n < nodes s = (Decides-ltb n (nodes s)).0 e in absurd (omega arith))) in rw is refl)

  none : (v : ℕ) → ¬ Contains [] v
  none v (k, inside, is) = absurd (let h : k < 0 = inside in omega arith)

  cases_event : (v n : ℕ) → Contains (events_of s n) v → ((n < nodes s) × ((v ≡ 2 * n) ⊎ (v ≡ 2 * n + 1))) ⊎ ((nodes s ≤ n) × (v ≡ nodes s + n))
  cases_event v n is =
      elim (cases_lt n (nodes s)) [
        | inl below ↦
            (let two : Contains ((2 * n) ∷ (2 * n + 1) ∷ []) v = subst (λ (events : List ℕ). Contains events v) (two_events n below) is in
            elim (Contains-split (2 * n) ((2 * n + 1) ∷ []) v two) [
              | inl e ↦ inl (below, inl (sym e))
              | inr rest ↦ elim (Contains-split (2 * n + 1) [] v rest) [ inl e ↦ inl (below, inr (sym e)) | inr nowhere ↦ absurd (none v nowhere) ]
            ])
        | inr past ↦
            (let one : Contains ((nodes s + n) ∷ []) v = subst (λ (events : List ℕ). Contains events v) (one_event n past) is in
            elim (Contains-split (nodes s + n) [] v one) [ inl e ↦ inr (past, sym e) | inr nowhere ↦ absurd (none v nowhere) ])
      ]

  halves : (v : ℕ) → (n : ℕ) × ((v ≡ 2 * n) ⊎ (v ≡ 2 * n + 1))
  halves zero = (0, inl (omega arith))
  halves (suc v) = (let (n, is) = halves v in elim is [ inl e ↦ (n, inr (omega arith)) | inr e ↦ (n + 1, inl (omega arith)) ])

  some_node : (v : ℕ) → (n : ℕ) × Contains (events_of s n) v
  some_node v =
      elim (cases_lt v (2 * nodes s)) [
        | inl low ↦
            (let (n, is) = halves v in
            elim is [
              | inl e ↦ (n, subst (λ (events : List ℕ). Contains events v) (sym (two_events n (omega arith))) (subst (λ (u : ℕ). Contains ((2 * n) ∷ (2 * n + 1) ∷ []) u) (sym e) (Contains-head (2 * n) ((2 * n + 1) ∷ []))))
              | inr e ↦ (n, subst (λ (events : List ℕ). Contains events v) (sym (two_events n (omega arith))) (subst (λ (u : ℕ). Contains ((2 * n) ∷ (2 * n + 1) ∷ []) u) (sym e) (Contains-tail (2 * n) ((2 * n + 1) ∷ []) (2 * n + 1) (Contains-head (2 * n + 1) []))))
            ])
        | inr high ↦
            (let e : nodes s + (v - nodes s) ≡ v = omega arith in
            (v - nodes s, subst (λ (events : List ℕ). Contains events v) (sym (one_event (v - nodes s) (omega arith))) (subst (λ (u : ℕ). Contains ((nodes s + (v - nodes s)) ∷ []) u) e (Contains-head (nodes s + (v - nodes s)) []))))
      ]

  one_node : (v n m : ℕ) → Contains (events_of s n) v → Contains (events_of s m) v → n ≡ m
  one_node v n m first second =
      elim (cases_event v n first) [
        | inl (below, is) ↦ elim (cases_event v m second) [
          | inl (low, at) ↦ elim is [
            | inl e ↦ elim at [ inl f ↦ omega arith | inr f ↦ absurd (omega arith) ]
            | inr e ↦ elim at [ inl f ↦ absurd (omega arith) | inr f ↦ omega arith ]
          ]
          | inr (high, at) ↦ elim is [ inl e ↦ absurd (omega arith) | inr e ↦ absurd (omega arith) ]
        ]
        | inr (past, is) ↦ elim (cases_event v m second) [
          | inl (low, at) ↦ elim at [ inl e ↦ absurd (omega arith) | inr e ↦ absurd (omega arith) ]
          | inr (high, at) ↦ omega arith
        ]
      ]

  pub events_of_nodes : ((n : Node) → IsNode s n → events_of s (number_of n) ≡ opening n ∷ closing n ∷ []) × ((e : ℕ) → events_of s (nodes s + e) ≡ extra_event s e ∷ []) × ((v : ℕ) → (n : ℕ) × Contains (events_of s n) v) × ((v n m : ℕ) → Contains (events_of s n) v → Contains (events_of s m) v → n ≡ m)
  events_of_nodes = (
    λ n is_node. two_events (number_of n) (number_below s n is_node),
    λ e. one_event (nodes s + e) (omega arith) ∙ ap (λ (v : ℕ). v ∷ []) (let is : nodes s + (nodes s + e) ≡ extra_event s e = omega arith in is),
    some_node,
    one_node,
  )

  pub all_places_differ : (place_of s 0 ≡ 0) × ((k later : ℕ) → k < later → later ≤ k + s.slack → place_of s later ≢ place_of s k)
  all_places_differ = (zero-mod (s.slack + 1), places_differ s)

-- an event opens or closes a node, or is an extra one
pub data IsEvent (s : Split) : ℕ → Type 0 where
  is_opening : (n : Node) → IsNode s n → IsEvent s (opening n)
  is_closing : (n : Node) → IsNode s n → IsEvent s (closing n)
  is_extra : (e : ℕ) → IsEvent s (extra_event s e)

-- the node with a number
pub node_at : (s : Split) (l : ℕ) → l < nodes s → (n : Node) × IsNode s n × (number_of n ≡ l)
node_at s zero below = (In, tt, refl)
node_at s (suc zero) below = (Out, tt, refl)
node_at s (suc (suc l)) below =
    let (i, is) = halves s l in
    elim is [ inl e ↦ (Master i, omega arith, omega arith) | inr e ↦ (Slave i, omega arith, omega arith) ]

pub event_of : (s : Split) (v : ℕ) → IsEvent s v
event_of s v =
    elim (cases_lt v (2 * nodes s)) [
      | inl low ↦
          (let (l, is) = halves s v in
          elim is [
            | inl e ↦ (let (n, is_node, at) = node_at s l (omega arith) in subst (IsEvent s) (let o : opening n ≡ v = omega arith in o) (is_opening n is_node))
            | inr e ↦ (let (n, is_node, at) = node_at s l (omega arith) in subst (IsEvent s) (let o : closing n ≡ v = omega arith in o) (is_closing n is_node))
          ])
      | inr high ↦ subst (IsEvent s) (let o : extra_event s (v - 2 * nodes s) ≡ v = omega arith in o) (is_extra (v - 2 * nodes s))
    ]
