-- A schedule is there, found round by round.
use Rattle.std.proofs.Common.{◌≡◌, ◌⊎◌, ◌∙◌, ◌<◌, ◌≤◌, ◌+◌, ◌-◌, ◌*◌, ℕ, zero, suc, List, [], ◌∷◌, max, get_or, refl, inl, inr, arith, ap, ap₂, sym, subst}
use Rattle.std.specs.Prelude.{All, Any, Contains}
use Rattle.std.proofs.Math.Nat.{mul-le-mul_left}
use Rattle.std.proofs.lemmas.Bool.{cases_eq, cases_lt}
use Rattle.std.proofs.lemmas.List.Elements.{All-contains, Contains-get_or}
use Rattle.ds_period.specs.declared.timed.Timed.{Timed}
use Rattle.ds_period.proofs.PotentialBounds.{mul_sum}
use Rattle.ds_times.specs.Schedule.{IsHeldBack, IsSchedule, RankRises, WaitsAlong}

-- the number where both decisions are for it, else 0
asked_by : {A B C D : Type 0} → A ⊎ B → C ⊎ D → ℕ → ℕ
asked_by (inl yes_one) (inl yes_two) n = n
asked_by (inl yes_one) (inr no_two) n = 0
asked_by (inr no_one) e n = 0

-- what an arc asks of an event in a turn
asked : (ℕ → ℕ → ℕ) → ℕ → ℕ → Timed → ℕ
asked f v k x = asked_by (cases_eq x.target v) (cases_lt x.tokens k) (f x.source (k - x.tokens) + x.delay)

-- the arc asks something
abbrev Asks : ℕ → ℕ → Timed → Type 0
Asks v k x = (x.target ≡ v) × (x.tokens < k)

asked_met : (f : ℕ → ℕ → ℕ) (v k : ℕ) (x : Timed) → Asks v k x → asked f v k x ≡ f x.source (k - x.tokens) + x.delay
unfolding asked asked_by
asked_met f v k x (e, low) = go (cases_eq x.target v) (cases_lt x.tokens k) (f x.source (k - x.tokens) + x.delay)
  where
    go : (one : (x.target ≡ v) ⊎ (x.target ≡ v → ⊥)) (two : (x.tokens < k) ⊎ (k ≤ x.tokens)) (n : ℕ) → asked_by one two n ≡ n
    go (inl is) (inl lt) n = refl
    go (inl is) (inr le) n = absurd (omega arith)
    go (inr other) two n = absurd (other e)

asked_cases : (f : ℕ → ℕ → ℕ) (v k : ℕ) (x : Timed) → (asked f v k x ≡ 0) ⊎ (Asks v k x × (asked f v k x ≡ f x.source (k - x.tokens) + x.delay))
unfolding asked asked_by
asked_cases f v k x = go (cases_eq x.target v) (cases_lt x.tokens k) (f x.source (k - x.tokens) + x.delay)
  where
    go : (one : (x.target ≡ v) ⊎ (x.target ≡ v → ⊥)) (two : (x.tokens < k) ⊎ (k ≤ x.tokens)) (n : ℕ)
        → (asked_by one two n ≡ 0) ⊎ (Asks v k x × (asked_by one two n ≡ n))
    go (inl is) (inl lt) n = inr ((is, lt), refl)
    go (inl is) (inr le) n = inl refl
    go (inr other) two n = inl refl

asked_same : (f g : ℕ → ℕ → ℕ) (v k : ℕ) (x : Timed) → (Asks v k x → f x.source (k - x.tokens) ≡ g x.source (k - x.tokens))
    → asked f v k x ≡ asked g v k x
unfolding asked asked_by
asked_same f g v k x same = go (cases_eq x.target v) (cases_lt x.tokens k)
  where
    go : (one : (x.target ≡ v) ⊎ (x.target ≡ v → ⊥)) (two : (x.tokens < k) ⊎ (k ≤ x.tokens))
        → asked_by one two (f x.source (k - x.tokens) + x.delay) ≡ asked_by one two (g x.source (k - x.tokens) + x.delay)
    go (inl is) (inl lt) = ap (λ (n : ℕ). n + x.delay) (same (is, lt))
    go (inl is) (inr le) = refl
    go (inr other) two = refl

-- the greatest number that arcs ask
latest : List Timed → (ℕ → ℕ → ℕ) → ℕ → ℕ → ℕ
latest [] f v k = 0
latest (x ∷ xs) f v k = max (asked f v k x) (latest xs f v k)

latest_ge : (xs : List Timed) (f : ℕ → ℕ → ℕ) (v k : ℕ) (x : Timed) → Contains xs x → asked f v k x ≤ latest xs f v k
unfolding latest
latest_ge [] f v k x (j, inside, is) = absurd (omega arith)
latest_ge (y ∷ xs) f v k x (zero, inside, is) = let same : asked f v k y ≡ asked f v k x = ap (λ (z : Timed). asked f v k z) is in omega arith
latest_ge (y ∷ xs) f v k x (suc j, inside, is) = let rest = latest_ge xs f v k x (j, omega arith, is) in omega arith

-- an arc asks the number
abbrev IsAsked : List Timed → (ℕ → ℕ → ℕ) → ℕ → ℕ → ℕ → Type 0
IsAsked xs f v k n = Any (λ x. (x.target ≡ v) × (x.tokens < k) × (n ≡ f x.source (k - x.tokens) + x.delay)) xs

asked_tail : (y : Timed) (xs : List Timed) (f : ℕ → ℕ → ℕ) (v k n : ℕ) → IsAsked xs f v k n → IsAsked (y ∷ xs) f v k n
asked_tail y xs f v k n (j, x, inside, is, p) = (suc j, x, omega arith, is, p)

latest_met : (xs : List Timed) (f : ℕ → ℕ → ℕ) (v k : ℕ) → (latest xs f v k ≡ 0) ⊎ IsAsked xs f v k (latest xs f v k)
unfolding latest
latest_met [] f v k = inl refl
latest_met (x ∷ xs) f v k = elim (cases_lt (asked f v k x) (latest xs f v k)) [
  | inl lt ↦
      let same : latest xs f v k ≡ max (asked f v k x) (latest xs f v k) = omega arith in
      elim (latest_met xs f v k) [
        | inl none ↦ absurd (omega arith)
        | inr some ↦ inr (asked_tail x xs f v k (max (asked f v k x) (latest xs f v k)) (subst (λ (n : ℕ). IsAsked xs f v k n) same some))
      ]
  | inr ge ↦ elim (asked_cases f v k x) [
    | inl none ↦ inl (omega arith)
    | inr ((e, low), is) ↦ inr (0, x, omega arith, refl, (e, low, omega arith))
  ]
]

latest_same : (xs : List Timed) (f g : ℕ → ℕ → ℕ) (v k : ℕ)
    → ((x : Timed) → Contains xs x → Asks v k x → f x.source (k - x.tokens) ≡ g x.source (k - x.tokens))
    → latest xs f v k ≡ latest xs g v k
unfolding latest
latest_same [] f g v k same = refl
latest_same (x ∷ xs) f g v k same =
    ap₂ (λ (m n : ℕ). max m n) (asked_same f g v k x (same x (0, omega arith, refl)))
    (latest_same xs f g v k (λ y (j, inside, is) asks. same y (suc j, omega arith, is) asks))

-- the greatest rank of a source
greatest_rank : List Timed → (ℕ → ℕ) → ℕ
greatest_rank [] rank = 0
greatest_rank (x ∷ xs) rank = max (rank x.source) (greatest_rank xs rank)

greatest_rank_ge : (xs : List Timed) (rank : ℕ → ℕ) (x : Timed) → Contains xs x → rank x.source ≤ greatest_rank xs rank
unfolding greatest_rank
greatest_rank_ge [] rank x (j, inside, is) = absurd (omega arith)
greatest_rank_ge (y ∷ xs) rank x (zero, inside, is) = let same : rank y.source ≡ rank x.source = ap (λ (z : Timed). rank z.source) is in omega arith
greatest_rank_ge (y ∷ xs) rank x (suc j, inside, is) = let rest = greatest_rank_ge xs rank x (j, omega arith, is) in omega arith

module _ (arcs : List Timed) (rank : ℕ → ℕ) (rises : All (RankRises rank) arcs) where
  -- the times as so many rounds find them
  rounds : ℕ → ℕ → ℕ → ℕ
  rounds zero v k = 0
  rounds (suc n) v k = latest arcs (rounds n) v k

  -- in so many rounds a time is found
  measure : ℕ → ℕ → ℕ
  measure v k = k * (greatest_rank arcs rank + 1) + rank v

  measure_falls : (v k : ℕ) (x : Timed) → Contains arcs x → Asks v k x → measure x.source (k - x.tokens) < measure v k
  unfolding measure
  measure_falls v k x inside (e, low) =
      let most = greatest_rank arcs rank in
      let below : rank x.source ≤ greatest_rank arcs rank = greatest_rank_ge arcs rank x inside in
      let parts : (greatest_rank arcs rank + 1) * k ≡ (greatest_rank arcs rank + 1) * (k - x.tokens) + (greatest_rank arcs rank + 1) * x.tokens =
      ap (λ (n : ℕ). (greatest_rank arcs rank + 1) * n) {x = k} {y = k - x.tokens + x.tokens} (omega arith)
      ∙ mul_sum (greatest_rank arcs rank + 1) (k - x.tokens) x.tokens in
      elim (cases_eq x.tokens 0) [
        | inl free ↦
            let up : rank x.source < rank x.target = All-contains (RankRises rank) arcs x rises inside free in
            let same : rank x.target ≡ rank v = ap rank e in
            omega arith
        | inr some ↦
            let one : 1 ≤ x.tokens = omega arith in
            let more : (greatest_rank arcs rank + 1) * 1 ≤ (greatest_rank arcs rank + 1) * x.tokens = mul-le-mul_left (greatest_rank arcs rank + 1) one in
            omega arith
      ]

  found : (n v k : ℕ) → measure v k < n → rounds n v k ≡ rounds (suc n) v k
  unfolding rounds
  found zero v k few = absurd (omega arith)
  found (suc n) v k few = latest_same arcs (rounds n) (rounds (suc n)) v k (λ x inside asks.
      let falls = measure_falls v k x inside asks in found n x.source (k - x.tokens) (omega arith))

  stays : (n more v k : ℕ) → measure v k < n → rounds n v k ≡ rounds (n + more) v k
  stays n zero v k few = ap (λ (m : ℕ). rounds m v k) {x = n} {y = n + 0} (omega arith)
  stays n (suc more) v k few =
      stays n more v k few ∙ (found (n + more) v k (omega arith) ∙ ap (λ (m : ℕ). rounds m v k) {x = suc (n + more)} {y = n + suc more} (omega arith))

  time_of : ℕ → ℕ → ℕ
  time_of v k = rounds (suc (measure v k)) v k

  time_is : (v k : ℕ) → time_of v k ≡ latest arcs time_of v k
  unfolding time_of rounds
  time_is v k = latest_same arcs (rounds (measure v k)) time_of v k (λ x inside asks.
      let falls = measure_falls v k x inside asks in
      let begin = suc (measure x.source (k - x.tokens)) in
      let more = measure v k - begin in
      sym (stays begin more x.source (k - x.tokens) (omega arith)
      ∙ ap (λ (m : ℕ). rounds m x.source (k - x.tokens)) {x = begin + more} {y = measure v k} (omega arith)))

  some_waits : (turns : ℕ) (x : Timed) → Contains arcs x → WaitsAlong time_of turns x
  some_waits turns x inside k low few =
      let asks = asked_met time_of x.target k x (refl, low) in
      let ge = latest_ge arcs time_of x.target k x inside in
      let is = time_is x.target k in
      omega arith

  some_early : (v k : ℕ) → (time_of v k ≡ 0) ⊎ IsHeldBack arcs time_of v k
  some_early v k = elim (latest_met arcs time_of v k) [
    | inl none ↦ inl (time_is v k ∙ none)
    | inr some ↦ inr (subst (λ (n : ℕ). IsAsked arcs time_of v k n) (sym (time_is v k)) some)
  ]

  -- times that are a schedule of any number of turns
  pub some_schedule : (time : ℕ → ℕ → ℕ) × ((turns : ℕ) → IsSchedule arcs turns time)
  some_schedule = (
    time_of,
    λ turns. record {
      waits = λ j d inside. some_waits turns (get_or arcs j d) (Contains-get_or arcs j d inside);
      early = λ v k some few. some_early v k;
    },
  )
