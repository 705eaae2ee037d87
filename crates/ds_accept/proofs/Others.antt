-- The events of a list that do not stand in another, behind those of that other.
use Rattle.std.proofs.Common.{◌≡◌, ◌≢◌, inl, inr, ℕ, ◌+◌, ◌<◌, ◌≤◌, ◌==◌, Bool, true, false, not, List, [], ◌∷◌, ◌++◌, length, get_or, refl, sym, ◌∙◌, ap, subst, arith, length-append, All, AllPairs, Contains}
use Rattle.std.specs.Bool.{Decides}
use Rattle.std.specs.List.{filter, list_any}
use Rattle.std.specs.Str.{bytes_eq}
use Rattle.std.proofs.lemmas.Bool.{cases_Bool}
use Rattle.std.proofs.lemmas.Bool.Decides.{Decides-and, Decides-eqb}
use Rattle.std.proofs.lemmas.List.{get_or_default}
use Rattle.std.proofs.lemmas.List.Elements.{All-append, All-filter, Contains-append_left, Contains-append_right, Contains-get_or, filter_passes}
use Rattle.std.proofs.lemmas.List.Folds.{Any-from_list_any, list_any_at}
use Rattle.std.proofs.lemmas.List.Kept.{AllPairs-filter}
use Rattle.std.proofs.lemmas.Slice.Eq.{bytes_eq-Decides}
use Rattle.ds_base.proofs.ListLemmas.{get_or-self}
use Rattle.ds_control.proofs.TwoForEach.{pairs_append}
use Rattle.ds_marked.specs.declared.marked.Event.{Event}
use Rattle.ds_accept.specs.Accept.{is_same_event, others_of}
use Rattle.ds_accept.specs.Codes.{Code, sign_of}
use Rattle.ds_accept.proofs.SubsetLength.{in_head, in_tail, in_which, no_more}
use Rattle.ds_accept.proofs.EventKeys.{one_event}

-- the test tells whether two events are the same
tells : (a b : Event) → Decides (is_same_event a b) ((a.signal ≡ b.signal) × (sign_of a.kind ≡ sign_of b.kind))
tells a b = Decides-and (bytes_eq a.signal b.signal) (sign_of a.kind == sign_of b.kind)
    (bytes_eq-Decides a.signal b.signal) (Decides-eqb (sign_of a.kind) (sign_of b.kind))

same : (a b : Event) → is_same_event a b ≡ true → a ≡ b
same a b is =
    let (signal, kind) = (tells a b).0 is in
    one_event a b (ap (λ (text : List ℕ). let r : Code = record { signal = text; sign = sign_of a.kind } in r) signal
    ∙ ap (λ (n : ℕ). let r : Code = record { signal = b.signal; sign = n } in r) kind)

itself : (a : Event) → is_same_event a a ≡ true
itself a = (tells a a).1 (refl, refl)

-- whether an event stands in a list
abbrev pub stands_in : List Event → Event → Bool
stands_in known event = list_any (is_same_event event) known

pub has : (known : List Event) (event : Event) → stands_in known event ≡ true → Contains known event
has known event is =
    let (k, found, inside, at, told) = Any-from_list_any (is_same_event event) known is in
    (k, inside, get_or_default known k event found inside ∙ (at ∙ sym (same event found told)))

pub stands : (known : List Event) (event : Event) → Contains known event → stands_in known event ≡ true
stands known event (k, inside, is) = list_any_at (is_same_event event) known k event inside (rw is (itself event))

-- the others stand in the list, and none of them in the other one
pub others_within : (known events : List Event) → All (Contains events) (others_of known events)
others_within known events = All-filter (λ event. not (stands_in known event)) (Contains events) events (λ k d inside. (k, inside, get_or-self events k d inside))

others_fresh : (known events : List Event) → All (λ event. ¬ Contains known event) (others_of known events)
others_fresh known events k d inside there =
    let passes : not (stands_in known (get_or (others_of known events) k d)) ≡ true = filter_passes (λ event. not (stands_in known event)) events k d inside in
    let stays : stands_in known (get_or (others_of known events) k d) ≡ true = stands known (get_or (others_of known events) k d) there in
    absurd (cc)

-- what passes a test is left
filter_has : (p : Event → Bool) (xs : List Event) (x : Event) → Contains xs x → p x ≡ true → Contains (filter p xs) x
filter_has p [] x (k, inside, is) passed = absurd (let low : k < 0 = inside in omega arith)
filter_has p (y ∷ ys) x there passed = elim (in_which y ys x there) [
  | inl equal ↦ (
      let passes : p y ≡ true = ap p equal ∙ passed in
      rw passes (subst (Contains (y ∷ filter p ys)) equal (in_head y (filter p ys))))
  | inr behind ↦ (
      let rest : Contains (filter p ys) x = filter_has p ys x behind passed in
      elim (cases_Bool (p y)) [
        | inl passes ↦ rw passes (in_tail y (filter p ys) x rest)
        | inr fails ↦ rw fails rest
      ])
]

module _ (known events : List Event) where
  -- all of these stand in the list
  pub all_within : All (Contains events) known → All (Contains events) (known ++ others_of known events)
  all_within there = All-append (Contains events) known (others_of known events) there (others_within known events)

  -- none of them stands twice
  pub all_once : AllPairs (λ a b. a ≢ b) known → AllPairs (λ a b. a ≢ b) events → AllPairs (λ a b. a ≢ b) (known ++ others_of known events)
  all_once one two = pairs_append (λ a b. a ≢ b) known (others_of known events) one
      (AllPairs-filter (λ a b. a ≢ b) (λ event. not (stands_in known event)) events two)
      (λ k d inside i e below is. others_fresh known events i e below (subst (Contains known) is (Contains-get_or known k d inside)))

  -- there is room for them
  pub all_fit : AllPairs (λ a b. a ≢ b) known → AllPairs (λ a b. a ≢ b) events → All (Contains events) known
      → length known + length (others_of known events) ≤ length events
  all_fit one two there =
      let most : length (known ++ others_of known events) ≤ length events = no_more (known ++ others_of known events) events (all_once one two) (all_within there) in
      let size : length (known ++ others_of known events) ≡ length known + length (others_of known events) = length-append known (others_of known events) in
      omega (most, size, arith)

  each_by : (event : Event) → Contains events event → (b : Bool) → stands_in known event ≡ b → Contains (known ++ others_of known events) event
  each_by event there true told = Contains-append_left known (others_of known events) event (has known event told)
  each_by event there false told = Contains-append_right known (others_of known events) event
      (filter_has (λ other. not (stands_in known other)) events event there (ap not told))

  -- each event of the list is one of these
  pub each_has : All (Contains (known ++ others_of known events)) events
  each_has k d inside = each_by (get_or events k d) (Contains-get_or events k d inside) (stands_in known (get_or events k d)) refl
