-- Words that are written are read again.
use Rattle.std.proofs.Common.{◌≡◌, ◌≢◌, ◌⊎◌, ℕ, zero, suc, ◌+◌, ◌-◌, ◌<◌, Bool, true, false, not, List, [], ◌∷◌, ◌++◌, length, get_or, take, refl, sym, ◌∙◌, ap, arith, inl, inr, AllPairs, Option, None, Some, Ok, ◌&&◌, ◌||◌, ◌==◌, decimal, if◌then◌else◌, slice_get}
use Rattle.std.specs.List.{list_any}
use Rattle.std.specs.Str.{bytes_eq}
use Rattle.std.proofs.lemmas.Bool.{cases_Bool, false≢true}
use Rattle.std.proofs.lemmas.Slice.Eq.{bytes_eq-Decides}
use Rattle.std.proofs.lemmas.List.{append-nil, length-append}
use Rattle.std.proofs.lemmas.List.Sums.{position_or_len_is}
use Rattle.std.proofs.lemmas.List.Folds.{list_any_at}
use Rattle.std.proofs.Math.Seq.{get_or-append_seam}
use Rattle.ds_lines.specs.Names.{place_of_name}
use Rattle.ds_marked.specs.declared.marked.Event.{Event}
use Rattle.ds_marked.specs.declared.marked.Kind.TheVariants.{Rise, Fall, Dummy as DummyKind}
use Rattle.ds_marked.specs.Log.{event_text}
use Rattle.ds_astg.specs.Word.{is_slash, is_reserved, has_slash, has_reserved, is_signed, is_signal, last_byte, without_last, fall_of}
use Rattle.ds_astg.specs.Signals.{Declared, first_event, role_of}
use Rattle.ds_astg.specs.Node.{node_of_word, node_by, event_in, event_by, first_number, name_in}
use Rattle.ds_astg.specs.Node.Node.{Event as EventNode, Place as PlaceNode}
use Rattle.ds_astg.specs.Read.{all_events}
use Rattle.ds_astg.specs.Text.{place_name}
use Rattle.ds_text_laws.specs.AstgLaws.{EventsAreRead, PlacesAreRead}
use Rattle.ds_astg.specs.declared.role.Role.{Role}
use Rattle.ds_astg.specs.declared.role.Role.TheVariants.{Signal, Dummy}
use Rattle.ds_lines.proofs.ByteClasses.{lacks_both, lacks_cons, number_without}
use Rattle.ds_astg.proofs.DeclaredNames.{count_cons}

-- the last byte, and what stands before it
pub last_is : (word : List ℕ) (byte : ℕ) → last_byte (word ++ byte ∷ []) ≡ byte
last_is word byte = ap (λ (n : ℕ). get_or (word ++ byte ∷ []) n 0) (let l = length-append word (byte ∷ []) in let e : length (word ++ byte ∷ []) - 1 ≡ length word = omega (arith, l) in e)
    ∙ get_or-append_seam word byte [] 0

front_whole : (word more : List ℕ) → take (length word) (word ++ more) ≡ word
front_whole [] more = refl
front_whole (byte ∷ word) more = ap (λ (w : List ℕ). byte ∷ w) (front_whole word more)

pub front_is : (word : List ℕ) (byte : ℕ) → without_last (word ++ byte ∷ []) ≡ word
front_is word byte = ap (λ (n : ℕ). take n (word ++ byte ∷ [])) (let l = length-append word (byte ∷ []) in let e : length (word ++ byte ∷ []) - 1 ≡ length word = omega (arith, l) in e)
    ∙ front_whole word (byte ∷ [])

three : (a b c : Bool) → (not a && (not b && not c)) ≡ true → (a ≡ false) × (b ≡ false) × (c ≡ false)
three false false false e = (refl, refl, refl)
three false false true e = absurd (cc)
three false true c e = absurd (cc)
three true b c e = absurd (cc)

-- the place of a name
at : (names : List (List ℕ)) (k : ℕ) → AllPairs (λ a b. a ≢ b) names → k < length names → place_of_name names (get_or names k []) ≡ k
at names k distinct inside = position_or_len_is (bytes_eq (get_or names k [])) names k [] (omega arith)
    (λ j less. unlike j less) (λ low. (bytes_eq-Decides (get_or names k []) (get_or names k [])).1 refl)
  where
    unlike : (j : ℕ) → j < k → bytes_eq (get_or names k []) (get_or names j []) ≡ false
    unlike j less = elim (cases_Bool (bytes_eq (get_or names k []) (get_or names j []))) [
      | inl e ↦ absurd (distinct j k [] less inside (sym ((bytes_eq-Decides _ _).0 e)))
      | inr e ↦ e
    ]

-- an event of a name, by its number and that of the first one
abbrev pub IsEventOf : Role → ℕ → List ℕ → ℕ → Event → Type 0
IsEventOf Signal first name v e = ((v ≡ first) × (e ≡ record { signal = name; kind = Rise })) ⊎ ((v ≡ first + 1) × (e ≡ record { signal = name; kind = Fall }))
IsEventOf Dummy first name v e = (v ≡ first) × (e ≡ record { signal = name; kind = DummyKind })

pub signal_is : (role : Role) (first : ℕ) (name : List ℕ) (v : ℕ) (e : Event) → IsEventOf role first name v e → e.signal ≡ name
signal_is Signal first name v e (inl (at_first, is)) = ap (λ (x : Event). x.signal) is
signal_is Signal first name v e (inr (behind, is)) = ap (λ (x : Event). x.signal) is
signal_is Dummy first name v e (at_first, is) = ap (λ (x : Event). x.signal) is

-- behind more events
behind : (more : ℕ) (role : Role) (first next : ℕ) (name : List ℕ) (v w : ℕ) (e : Event) → next ≡ more + first → w ≡ more + v → IsEventOf role first name v e → IsEventOf role next name w e
behind more Signal first next name v w e n m (inl (here, is)) = inl (omega (arith, n, m, here), is)
behind more Signal first next name v w e n m (inr (here, is)) = inr (omega (arith, n, m, here), is)
behind more Dummy first next name v w e n m (here, is) = (omega (arith, n, m, here), is)

-- the name of the event with a number
pub event_at : (names : List (List ℕ)) (roles : List Role) (v : ℕ) (e : Event) → slice_get (all_events names roles) v ≡ Some e
    → (k : ℕ) × (role : Role) × (k < length names) × (slice_get roles k ≡ Some role) × IsEventOf role (first_event roles k) (get_or names k []) v e
event_at [] roles v e is = absurd (cc)
event_at (name ∷ names) [] v e is = absurd (cc)
event_at (name ∷ names) (Signal ∷ roles) zero e is = (0, Signal, omega arith, refl, inl (refl, cc))
event_at (name ∷ names) (Signal ∷ roles) (suc zero) e is = (0, Signal, omega arith, refl, inr (refl, cc))
event_at (name ∷ names) (Signal ∷ roles) (suc (suc v)) e is =
    let (k, role, less, role_is, one) = event_at names roles v e is in (
      suc k,
      role,
      omega (arith, less),
      role_is,
      behind 2 role (first_event roles k) (first_event (Signal ∷ roles) (suc k)) (get_or names k []) v (suc (suc v)) e (count_cons Signal (take k roles)) (let h : suc (suc v) ≡ 2 + v = omega arith in h) one,
    )
event_at (name ∷ names) (Dummy ∷ roles) zero e is = (0, Dummy, omega arith, refl, (refl, cc))
event_at (name ∷ names) (Dummy ∷ roles) (suc v) e is =
    let (k, role, less, role_is, one) = event_at names roles v e is in (
      suc k,
      role,
      omega (arith, less),
      role_is,
      behind 1 role (first_event roles k) (first_event (Dummy ∷ roles) (suc k)) (get_or names k []) v (suc v) e (count_cons Dummy (take k roles)) (let h : suc v ≡ 1 + v = omega arith in h) one,
    )

-- a word of which the event is known
node_is : (signals : Declared) (word : List ℕ) (event : ℕ) → has_slash word ≡ false → has_reserved word ≡ false → event_in signals word ≡ Some event
    → node_of_word signals word ≡ Ok (EventNode event)
node_is signals word event slash reserved is = rw (slash, reserved) (ap (node_by word) is)

module _ (signals : Declared) (k : ℕ) (distinct : AllPairs (λ a b. a ≢ b) signals.names) (inside : k < length signals.names)
    (role : Role) (role_is : slice_get signals.roles k ≡ Some role) (free : is_signal (get_or signals.names k []) ≡ true) where
  event_is : (word : List ℕ) → name_in word ≡ get_or signals.names k [] → event_in signals word ≡ event_by (Some role) (first_event signals.roles k) word
  event_is word named =
      let here : place_of_name signals.names (name_in word) ≡ k = ap (place_of_name signals.names) named ∙ at signals.names k distinct inside in
      ap (λ (n : ℕ). event_by (slice_get signals.roles n) (first_event signals.roles n) word) here
      ∙ ap (λ (r : Option Role). event_by r (first_event signals.roles k) word) role_is

  signed_read : role ≡ Signal → (byte : ℕ) → is_slash byte ≡ false → is_reserved byte ≡ false → ((byte == 43) || (byte == 45)) ≡ true
      → node_of_word signals (get_or signals.names k [] ++ byte ∷ []) ≡ Ok (EventNode (first_event signals.roles k + (if byte == 43 then 0 else 1)))
  unfolding is_signed
  signed_read as_signal byte slash reserved signed =
      let name : List ℕ = get_or signals.names k [] in
      let word : List ℕ = name ++ byte ∷ [] in
      let first : ℕ = first_event signals.roles k in
      let (no_slash, no_reserved, unsigned) = three (has_slash name) (has_reserved name) (is_signed name) free in
      let last : last_byte word ≡ byte = last_is name byte in
      let sign : is_signed word ≡ true = ap (λ (b : ℕ). (b == 43) || (b == 45)) last ∙ signed in
      let named : name_in word ≡ name = rw sign (front_is name byte) in
      let event : event_in signals word ≡ event_by (Some Signal) first word = event_is word named ∙ ap (λ (r : Role). event_by (Some r) first word) as_signal in
      let known : event_by (Some Signal) first word ≡ Some (first + fall_of word) = rw sign refl in
      let number : fall_of word ≡ (if byte == 43 then 0 else 1) = ap (λ (b : ℕ). if b == 43 then 0 else 1) last in
      node_is signals word (first + (if byte == 43 then 0 else 1)) (lacks_both is_slash name (byte ∷ []) no_slash (lacks_cons is_slash byte [] slash refl)) (lacks_both is_reserved name (byte ∷ []) no_reserved (lacks_cons is_reserved byte [] reserved refl))
      (event ∙ (known ∙ ap (λ (n : ℕ). Some (first + n)) number))

  dummy_read : role ≡ Dummy → node_of_word signals (get_or signals.names k []) ≡ Ok (EventNode (first_event signals.roles k))
  dummy_read as_dummy =
      let name : List ℕ = get_or signals.names k [] in
      let first : ℕ = first_event signals.roles k in
      let (no_slash, no_reserved, unsigned) = three (has_slash name) (has_reserved name) (is_signed name) free in
      let named : name_in name ≡ name = rw unsigned refl in
      let event : event_in signals name ≡ event_by (Some Dummy) first name = event_is name named ∙ ap (λ (r : Role). event_by (Some r) first name) as_dummy in
      let known : event_by (Some Dummy) first name ≡ Some first = rw unsigned refl in
      node_is signals name first no_slash no_reserved (event ∙ known)

pub events_are_read : EventsAreRead
unfolding is_reserved
events_are_read signals v e distinct is free =
    let (k, role, inside, role_is, one) = event_at signals.names signals.roles v e is in
    let named : is_signal (get_or signals.names k []) ≡ true = ap is_signal (sym (signal_is role (first_event signals.roles k) (get_or signals.names k []) v e one)) ∙ free in
    read k role inside role_is named one
  where
    read : (k : ℕ) (role : Role) → k < length signals.names → slice_get signals.roles k ≡ Some role → is_signal (get_or signals.names k []) ≡ true
        → IsEventOf role (first_event signals.roles k) (get_or signals.names k []) v e → node_of_word signals (event_text e) ≡ Ok (EventNode v)
    read k Signal inside role_is named (inl (at_first, event)) =
        ap (λ (x : Event). node_of_word signals (event_text x)) event ∙ (signed_read signals k distinct inside Signal role_is named refl 43 refl refl refl
        ∙ ap (λ (n : ℕ). Ok (EventNode n)) (let h : first_event signals.roles k + 0 ≡ v = omega (arith, at_first) in h))
    read k Signal inside role_is named (inr (at_next, event)) =
        ap (λ (x : Event). node_of_word signals (event_text x)) event ∙ (signed_read signals k distinct inside Signal role_is named refl 45 refl refl refl
        ∙ ap (λ (n : ℕ). Ok (EventNode n)) (sym at_next))
    read k Dummy inside role_is named (at_first, event) =
        ap (λ (x : Event). node_of_word signals (event_text x)) event ∙ (ap (node_of_word signals) (append-nil (get_or signals.names k []))
        ∙ (dummy_read signals k distinct inside Dummy role_is named refl ∙ ap (λ (n : ℕ). Ok (EventNode n)) (sym at_first)))

-- a sign
sign_byte : ℕ → Bool
sign_byte byte = (byte == 43) || (byte == 45)

unsigned_is : (byte : ℕ) (word : List ℕ) → list_any sign_byte (byte ∷ word) ≡ false → is_signed (byte ∷ word) ≡ false
unfolding sign_byte is_signed
unsigned_is byte word none = elim (cases_Bool (sign_byte (last_byte (byte ∷ word)))) [
  | inl e ↦ absurd (false≢true (sym none ∙ list_any_at sign_byte (byte ∷ word) (length (byte ∷ word) - 1) 0 (omega arith) e))
  | inr e ↦ e
]

no_event : (role : Option Role) (first : ℕ) (word : List ℕ) → is_signed word ≡ false → role ≢ Some Dummy → event_by role first word ≡ None
no_event None first word unsigned other = refl
no_event (Some Signal) first word unsigned other = rw unsigned refl
no_event (Some Dummy) first word unsigned other = absurd (other refl)

pub places_are_read : PlacesAreRead
unfolding is_reserved sign_byte
places_are_read signals k small none_dummy =
    let word : List ℕ = place_name k in
    let slash : list_any is_slash (decimal k) ≡ false = (number_without is_slash refl k small).none in
    let reserved : list_any is_reserved (decimal k) ≡ false = (number_without is_reserved refl k small).none in
    let signs : list_any sign_byte (decimal k) ≡ false = (number_without sign_byte refl k small).none in
    let a : has_slash word ≡ false = slash in
    let b : has_reserved word ≡ false = reserved in
    let c : is_signed word ≡ false = unsigned_is 112 (decimal k) signs in
    let named : name_in word ≡ word = rw c refl in
    let none : event_in signals word ≡ None = ap (λ (name : List ℕ). event_by (role_of signals name) (first_number signals name) word) named
    ∙ no_event (role_of signals word) (first_number signals word) word c none_dummy in
    let last : node_by word None ≡ Ok (PlaceNode word) = rw c refl in
    rw (a, b) (ap (node_by word) none ∙ last)
