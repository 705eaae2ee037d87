-- Events have one order by rank and number.
use Rattle.std.proofs.Common.{◌≡◌, ◌⊎◌, ◌<◌, ◌≤◌, ◌+◌, ℕ, zero, suc, List, [], ◌∷◌, get_or, ap₂, refl, inl, inr, arith, sym, subst}
use Rattle.std.specs.Prelude.{All, AllPairs, Contains}
use Rattle.std.proofs.lemmas.Bool.{cases_lt}
use Rattle.std.proofs.lemmas.List.Elements.{All-contains, Contains-get_or}
use Rattle.ds_times.specs.Order.{ComesFirst, IsByRank}
use Rattle.ds_graph_laws.proofs.ListPositions.{contains_head, contains_split, contains_tail, pairs_cons, pairs_first, pairs_rest}
use Rattle.ds_graph_laws.proofs.OneWayOrders.{first_one_way}
use Rattle.ds_graph_laws.specs.Listed.{EventsHaveOneOrder}

-- nothing is in an empty list
none_in : {X : Type 0} (x : X) → Contains [] x → ⊥
none_in x (k, inside, is) = absurd (omega arith)

-- lists of the same numbers, each in an order that leads one way, are one
same_sorted : (R : ℕ → ℕ → Type 0) → ((a b : ℕ) → R a b → R b a → ⊥) → (xs ys : List ℕ) → AllPairs R xs → AllPairs R ys
    → ((z : ℕ) → Contains xs z → Contains ys z) → ((z : ℕ) → Contains ys z → Contains xs z) → xs ≡ ys
same_sorted R one_way [] [] one two there back = refl
same_sorted R one_way [] (y ∷ ys) one two there back = absurd (none_in y (back y (contains_head y ys)))
same_sorted R one_way (x ∷ xs) [] one two there back = absurd (none_in x (there x (contains_head x xs)))
same_sorted R one_way (x ∷ xs) (y ∷ ys) one two there back = ap₂ ◌∷◌ same (same_sorted R one_way xs ys (pairs_rest R x xs one) (pairs_rest R y ys two) on home)
  where
    same : x ≡ y
    same = elim (contains_split y ys x (there x (contains_head x xs))) [
      | inl e ↦ sym e
      | inr behind ↦ elim (contains_split x xs y (back y (contains_head y ys))) [
        | inl e ↦ e
        | inr later ↦ absurd (one_way x y (pairs_first R x xs one y later) (pairs_first R y ys two x behind))
      ]
    ]

    itself : (a : ℕ) → R a a → ⊥
    itself a r = one_way a a r r

    on : (z : ℕ) → Contains xs z → Contains ys z
    on z at = elim (contains_split y ys z (there z (contains_tail x xs z at))) [
      | inl e ↦ absurd (itself z (subst (λ (a : ℕ). R a z) e (subst (λ (a : ℕ). R a z) same (pairs_first R x xs one z at))))
      | inr behind ↦ behind
    ]

    home : (z : ℕ) → Contains ys z → Contains xs z
    home z at = elim (contains_split x xs z (back z (contains_tail y ys z at))) [
      | inl e ↦ absurd (itself z (subst (λ (a : ℕ). R a z) e (subst (λ (a : ℕ). R a z) (sym same) (pairs_first R y ys two z at))))
      | inr behind ↦ behind
    ]

module _ (rank : ℕ → ℕ) where
  -- a number before the first one of a higher rank
  placed : (v x : ℕ) → (rank v < rank x) ⊎ (rank x ≤ rank v) → List ℕ → List ℕ → List ℕ
  placed v x (inl lower) xs rest = v ∷ x ∷ xs
  placed v x (inr higher) xs rest = x ∷ rest

  put_in : ℕ → List ℕ → List ℕ
  put_in v [] = v ∷ []
  put_in v (x ∷ xs) = placed v x (cases_lt (rank v) (rank x)) xs (put_in v xs)

  -- the numbers below another, by rank
  listed : ℕ → List ℕ
  listed zero = []
  listed (suc n) = put_in n (listed n)

  -- what is in the list
  has_put : (v : ℕ) (xs : List ℕ) → Contains (put_in v xs) v
  unfolding put_in placed
  has_put v [] = contains_head v []
  has_put v (x ∷ xs) = go (has_put v xs) (cases_lt (rank v) (rank x))
    where
      go : Contains (put_in v xs) v → (d : (rank v < rank x) ⊎ (rank x ≤ rank v)) → Contains (placed v x d xs (put_in v xs)) v
      go rest (inl lower) = contains_head v (x ∷ xs)
      go rest (inr higher) = contains_tail x (put_in v xs) v rest

  has_old : (v : ℕ) (xs : List ℕ) (z : ℕ) → Contains xs z → Contains (put_in v xs) z
  unfolding put_in placed
  has_old v [] z at = absurd (none_in z at)
  has_old v (x ∷ xs) z at = go (λ behind. has_old v xs z behind) (cases_lt (rank v) (rank x))
    where
      go : (Contains xs z → Contains (put_in v xs) z) → (d : (rank v < rank x) ⊎ (rank x ≤ rank v)) → Contains (placed v x d xs (put_in v xs)) z
      go rest (inl lower) = contains_tail v (x ∷ xs) z at
      go rest (inr higher) = elim (contains_split x xs z at) [
        | inl e ↦ subst (λ (a : ℕ). Contains (x ∷ put_in v xs) a) e (contains_head x (put_in v xs))
        | inr behind ↦ contains_tail x (put_in v xs) z (rest behind)
      ]

  has_no_more : (v : ℕ) (xs : List ℕ) (z : ℕ) → Contains (put_in v xs) z → (v ≡ z) ⊎ Contains xs z
  unfolding put_in placed
  has_no_more v [] z at = contains_split v [] z at
  has_no_more v (x ∷ xs) z at = go (λ behind. has_no_more v xs z behind) (cases_lt (rank v) (rank x)) at
    where
      go : (Contains (put_in v xs) z → (v ≡ z) ⊎ Contains xs z) → (d : (rank v < rank x) ⊎ (rank x ≤ rank v))
          → Contains (placed v x d xs (put_in v xs)) z → (v ≡ z) ⊎ Contains (x ∷ xs) z
      go rest (inl lower) at = contains_split v (x ∷ xs) z at
      go rest (inr higher) at = elim (contains_split x (put_in v xs) z at) [
        | inl e ↦ inr (subst (λ (a : ℕ). Contains (x ∷ xs) a) e (contains_head x xs))
        | inr behind ↦ elim (rest behind) [
          | inl e ↦ inl e
          | inr old ↦ inr (contains_tail x xs z old)
        ]
      ]

  -- it is in order
  put_sorted : (v : ℕ) (xs : List ℕ) → ((z : ℕ) → Contains xs z → z < v) → AllPairs (ComesFirst rank) xs → AllPairs (ComesFirst rank) (put_in v xs)
  unfolding put_in placed
  put_sorted v [] below sorted = pairs_cons (ComesFirst rank) v [] (λ z at. absurd (none_in z at)) sorted
  put_sorted v (x ∷ xs) below sorted =
      go (put_sorted v xs (λ z at. below z (contains_tail x xs z at)) (pairs_rest (ComesFirst rank) x xs sorted)) (cases_lt (rank v) (rank x))
    where
      behind : (lower : rank v < rank x) (z : ℕ) → Contains (x ∷ xs) z → ComesFirst rank v z
      behind lower z at = elim (contains_split x xs z at) [
        | inl e ↦ inl (subst (λ (a : ℕ). rank v < rank a) e lower)
        | inr later ↦ elim (pairs_first (ComesFirst rank) x xs sorted z later) [
          | inl less ↦ inl (omega arith)
          | inr (same, less) ↦ inl (omega arith)
        ]
      ]

      first : rank x ≤ rank v → ComesFirst rank x v
      first higher = elim (cases_lt (rank x) (rank v)) [
        | inl less ↦ inl less
        | inr ge ↦ inr (omega arith, below x (contains_head x xs))
      ]

      before : (higher : rank x ≤ rank v) (z : ℕ) → Contains (put_in v xs) z → ComesFirst rank x z
      before higher z at = elim (has_no_more v xs z at) [
        | inl e ↦ subst (λ (a : ℕ). ComesFirst rank x a) e (first higher)
        | inr old ↦ pairs_first (ComesFirst rank) x xs sorted z old
      ]

      go : AllPairs (ComesFirst rank) (put_in v xs) → (d : (rank v < rank x) ⊎ (rank x ≤ rank v)) → AllPairs (ComesFirst rank) (placed v x d xs (put_in v xs))
      go rest (inl lower) = pairs_cons (ComesFirst rank) v (x ∷ xs) (behind lower) sorted
      go rest (inr higher) = pairs_cons (ComesFirst rank) x (put_in v xs) (before higher) rest

  listed_below : (n z : ℕ) → Contains (listed n) z → z < n
  unfolding listed
  listed_below zero z at = absurd (none_in z at)
  listed_below (suc n) z at = elim (has_no_more n (listed n) z at) [
    | inl e ↦ omega (arith, e)
    | inr old ↦ let low = listed_below n z old in omega (arith, low)
  ]

  listed_all : (n v : ℕ) → v < n → Contains (listed n) v
  unfolding listed
  listed_all zero v low = absurd (omega arith)
  listed_all (suc n) v low = elim (cases_lt v n) [
    | inl less ↦ has_old n (listed n) v (listed_all n v less)
    | inr ge ↦ subst (λ (a : ℕ). Contains (put_in n (listed n)) a) {x = n} {y = v} (omega arith) (has_put n (listed n))
  ]

  listed_sorted : (n : ℕ) → AllPairs (ComesFirst rank) (listed n)
  unfolding listed
  listed_sorted zero = λ i j d lt inside. absurd (omega arith)
  listed_sorted (suc n) = put_sorted n (listed n) (listed_below n) (listed_sorted n)

  listed_by_rank : (n : ℕ) → IsByRank rank n (listed n)
  listed_by_rank n = record {
    inside = λ j d inside. listed_below n (get_or (listed n) j d) (Contains-get_or (listed n) j d inside);
    each = listed_all n;
    sorted = listed_sorted n;
  }

-- so there is one, and no other
pub events_have_one_order : EventsHaveOneOrder
events_have_one_order rank events = (
  listed rank events,
  listed_by_rank rank events,
  λ other is.
      same_sorted (ComesFirst rank) (first_one_way rank) other (listed rank events) is.sorted (listed_sorted rank events)
      (λ z at. listed_all rank events z (All-contains (λ v. v < events) other z is.inside at))
      (λ z at. is.each z (listed_below rank events z at)),
)
