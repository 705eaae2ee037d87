-- Keys of events, and the codes that they stand for.
use Rattle.std.proofs.Common.{◌≡◌, ◌≢◌, inl, inr, ℕ, zero, suc, ◌+◌, ◌<◌, ◌≤◌, Bool, true, false, List, [], ◌∷◌, ◌++◌, length, get_or, map, take, refl, sym, ◌∙◌, ap, subst, arith, AllPairs, ◌==◌, if◌then◌else◌, Option, Some, None, nat_lt}
use Rattle.std.specs.Prelude.{MatchOption}
use Rattle.std.specs.List.{list_any, position, position_or_len}
use Rattle.std.specs.Str.{bytes_eq}
use Rattle.std.specs.Bool.{Decides}
use Rattle.std.proofs.lemmas.Bool.{cases_Bool, ltb-false, ltb-true}
use Rattle.std.proofs.lemmas.Bool.Decides.{Decides-and, Decides-eqb, not_from_Decides}
use Rattle.std.proofs.lemmas.List.{get_or-map, length-map, length-take-le, map-append, map_more, get_or-take}
use Rattle.std.proofs.lemmas.Slice.Eq.{bytes_eq-Decides}
use Rattle.ds_marked.specs.declared.marked.Event.{Event}
use Rattle.ds_marked.specs.declared.marked.Kind.{Kind}
use Rattle.ds_marked.specs.declared.marked.Kind.TheVariants.{Rise, Fall, Dummy}
use Rattle.ds_accept.specs.declared.numbers.Key.{Key}
use Rattle.ds_accept.specs.contracts.numbers.KeyPartialEq.TheImpl as key_eq
use Rattle.ds_accept.specs.Codes.{Code, event_code, key_code, sign_of, IsMissingCode, StandsAtCode}

-- whether two keys are equal
abbrev pub same_key : Key → Key → Bool
same_key = (key_eq.eq-value).it

-- it tells whether they stand for one code
tells : (key other : Key) → Decides (same_key key other) ((key.signal.now ≡ other.signal.now) × (key.sign ≡ other.sign))
tells key other = Decides-and (bytes_eq key.signal.now other.signal.now) (key.sign == other.sign)
    (bytes_eq-Decides key.signal.now other.signal.now) (Decides-eqb key.sign other.sign)

one_code : (key other : Key) → same_key key other ≡ true → key_code other ≡ key_code key
one_code key other is =
    let (signal, sign) = (tells key other).0 is in
    ap (λ (text : List ℕ). let r : Code = record { signal = text; sign = other.sign } in r) (sym signal)
    ∙ ap (λ (n : ℕ). let r : Code = record { signal = key.signal.now; sign = n } in r) (sym sign)

two_codes : (key other : Key) → same_key key other ≡ false → key_code other ≢ key_code key
two_codes key other is e = not_from_Decides (same_key key other) (tells key other) is
    (sym (ap (λ (c : Code). c.signal) e), sym (ap (λ (c : Code). c.sign) e))

same_kind : (a b : Kind) → sign_of a ≡ sign_of b → a ≡ b
same_kind Rise Rise e = refl
same_kind Rise Fall e = absurd (omega (arith, e))
same_kind Rise Dummy e = absurd (omega (arith, e))
same_kind Fall Rise e = absurd (omega (arith, e))
same_kind Fall Fall e = refl
same_kind Fall Dummy e = absurd (omega (arith, e))
same_kind Dummy Rise e = absurd (omega (arith, e))
same_kind Dummy Fall e = absurd (omega (arith, e))
same_kind Dummy Dummy e = refl

-- a code is that of one event
pub one_event : (a b : Event) → event_code a ≡ event_code b → a ≡ b
one_event a b e =
    let signal : a.signal ≡ b.signal = ap (λ (c : Code). c.signal) e in
    let kind : a.kind ≡ b.kind = same_kind a.kind b.kind (ap (λ (c : Code). c.sign) e) in
    ap (λ (text : List ℕ). let r : Event = record { signal = text; kind = a.kind } in r) signal
    ∙ ap (λ (k : Kind). let r : Event = record { signal = b.signal; kind = k } in r) kind

-- what the first equal key says
record Spot (key : Key) (keys : List Key) (n : ℕ) : Type 0 where
  here : n < length keys → key_code (get_or keys n key) ≡ key_code key
  nowhere : length keys ≤ n → (k : ℕ) → k < length keys → key_code (get_or keys k key) ≢ key_code key

spot : (key : Key) (keys : List Key) → Spot key keys (position_or_len (same_key key) keys)
spot key [] = record { here = λ low. absurd (omega arith); nowhere = λ _ k low. absurd (omega arith) }
spot key (other ∷ keys) = elim (cases_Bool (same_key key other)) [
  | inl same ↦ rw same (record { here = λ _. one_code key other same; nowhere = λ high. absurd (omega arith) })
  | inr differs ↦ (
      let n : ℕ = position_or_len (same_key key) keys in
      let place : position_or_len (same_key key) (other ∷ keys) ≡ suc n = rw differs (omega arith) in
      subst (Spot key (other ∷ keys)) (sym place) (behind n (spot key keys) (two_codes key other differs)))
]
  where
    behind : (n : ℕ) → Spot key keys n → key_code other ≢ key_code key → Spot key (other ∷ keys) (suc n)
    behind n s unlike = record {
      here = λ low. s.here (omega arith);
      nowhere = λ high k low. each high k low;
    }
      where
        each : length (other ∷ keys) ≤ suc n → (k : ℕ) → k < length (other ∷ keys) → key_code (get_or (other ∷ keys) k key) ≢ key_code key
        each high zero low = unlike
        each high (suc k) low = s.nowhere (omega arith) k (omega arith)

-- a key that is found stands for the code at its place
any_there : (key : Key) (keys : List Key) → list_any (same_key key) keys ≡ true
    → (k : ℕ) × (k < length keys) × (key_code (get_or keys k key) ≡ key_code key)
any_there key [] is = absurd (cc)
any_there key (other ∷ keys) is = elim (cases_Bool (same_key key other)) [
  | inl same ↦ (0, omega arith, one_code key other same)
  | inr differs ↦ (
      let behind : list_any (same_key key) keys ≡ true = rw differs at is in
      let (k, low, at) = any_there key keys behind in (suc k, omega arith, at))
]

module _ (key : Key) (keys : List Key) (codes : List Code) (view : map key_code keys ≡ codes) where
  size : length codes ≡ length keys
  size = ap (λ (cs : List Code). length cs) (sym view) ∙ length-map keys key_code

  at : (k : ℕ) (d : Code) → k < length keys → get_or codes k d ≡ key_code (get_or keys k key)
  at k d low = ap (λ (cs : List Code). get_or cs k d) (sym view) ∙ get_or-map key_code keys k key d low

  -- the answer of a search for a key
  pub found : (code : Code) → key_code key ≡ code → (o : Option ℕ) → o ≡ position (same_key key) keys
      → MatchOption o (IsMissingCode codes code) (StandsAtCode codes code)
  found code is o e =
      let n : ℕ = position_or_len (same_key key) keys in
      let s : Spot key keys n = spot key keys in
      elim (cases_Bool (nat_lt n (length keys))) [
        | inl here ↦ (
            let low : n < length keys = ltb-true _ _ here in
            let some : o ≡ Some n = e ∙ rw here refl in
            rw some (record { inside = rw size low; is = λ d. at n d low ∙ (s.here low ∙ is) }))
        | inr past ↦ (
            let high : length keys ≤ n = ltb-false _ _ past in
            let none : o ≡ None = e ∙ rw past refl in
            rw none (λ k low d same.
            let below : k < length keys = rw size at low in
            s.nowhere high k below (sym (at k d below) ∙ (same ∙ sym is))))
      ]

  -- a code more, behind the others
  pub put_behind : (code : Code) → key_code key ≡ code → IsMissingCode codes code → (all : List Key)
      → all ≡ (if list_any (same_key key) keys then keys else keys ++ key ∷ []) → map key_code all ≡ codes ++ code ∷ []
  put_behind code is none all all_is = elim (cases_Bool (list_any (same_key key) keys)) [
    | inl there ↦ absurd (
        let (k, low, same) = any_there key keys there in
        none k (rw size low) code (at k code low ∙ (same ∙ is)))
    | inr fresh ↦ (
        let longer : all ≡ keys ++ key ∷ [] = all_is ∙ rw fresh refl in
        ap (λ (ks : List Key). map key_code ks) longer ∙ (map-append key_code keys (key ∷ [])
        ∙ (ap (λ (cs : List Code). cs ++ key_code key ∷ []) view ∙ ap (λ (c : Code). codes ++ c ∷ []) is)))
  ]

module _ (events : List Event) (i : ℕ) (inside : i < length events) (e : Event) (is : e ≡ get_or events i e)
    (codes : List Code) (view : codes ≡ map event_code (take i events)) where
  -- the code of an event is none of those before it
  pub not_before : AllPairs (λ a b. a ≢ b) events → IsMissingCode codes (event_code e)
  not_before once k low d same =
      let short : length (take i events) ≡ i = length-take-le i events (omega arith) in
      let count : length codes ≡ i = ap (λ (cs : List Code). length cs) view ∙ (length-map (take i events) event_code ∙ short) in
      let below : k < i = rw count at low in
      let in_take : k < length (take i events) = rw short below in
      let code : get_or codes k d ≡ event_code (get_or events k e) =
      ap (λ (cs : List Code). get_or cs k d) view ∙ (get_or-map event_code (take i events) k e d in_take ∙ ap event_code (get_or-take i events k e below)) in
      once k i e below inside (one_event (get_or events k e) e (sym code ∙ same) ∙ is)

  -- the codes of one event more
  pub one_more : (more : List Code) → more ≡ codes ++ event_code e ∷ [] → more ≡ map event_code (take (i + 1) events)
  one_more more longer = longer ∙ (ap (λ (cs : List Code). cs ++ event_code e ∷ []) view
      ∙ (ap (λ (x : Event). map event_code (take i events) ++ event_code x ∷ []) is ∙ sym (map_more event_code events i e inside)))
