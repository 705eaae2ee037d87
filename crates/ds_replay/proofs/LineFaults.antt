-- One line: what a clean one is, and what is wrong with another one.
use Rattle.std.proofs.Common.{◌≡◌, ◌≢◌, ◌∙◌, ◌==◌, ℕ, ◌+◌, ◌<◌, ◌≤◌, Bool, true, false, not, List, [], ◌∷◌, length, get_or, Option, None, Some, inl, inr, refl, arith, ap, sym, subst}
use Rattle.std.specs.Prelude.{nat_lt, IsSomeAnd}
use Rattle.std.specs.List.{list_all, list_any}
use Rattle.std.specs.Char.{digit_value}
use Rattle.std.specs.Str.{bytes_eq}
use Rattle.std.specs.Str.Parse.{digits_value, AllDigits}
use Rattle.std.proofs.lemmas.Bool.{cases_Bool, cases_lt, eq-eqb, eqb-true, lt-ltb, ltb-true, le-ltb, false≢true}
use Rattle.std.proofs.lemmas.Bool.Decides.{eqb_tells}
use Rattle.std.proofs.lemmas.List.{length-map, get_or-map}
use Rattle.std.proofs.lemmas.List.Folds.{list_any_at}
use Rattle.std.proofs.lemmas.List.Sums.{position_or_len_is, fails_before_first, passes_at_first}
use Rattle.std.proofs.lemmas.Option.{slice_get-get_or, slice_get_past}
use Rattle.std.proofs.lemmas.Slice.Eq.{bytes_eq-Decides}
use Rattle.std.proofs.lemmas.Str.Parse.{digit_from_value}
use Rattle.ds_lines.specs.First.{where_true, first_of}
use Rattle.ds_lines.specs.Words.{first_word}
use Rattle.ds_marked.specs.Graph.{Graph}
use Rattle.ds_marked.specs.Blocked.{IsFirstLackingArc}
use Rattle.ds_marked.specs.declared.marked.Arc.{Arc}
use Rattle.ds_marked.specs.declared.marked.Event.{Event}
use Rattle.ds_marked.specs.declared.marked.Kind.TheVariants.{Rise}
use Rattle.ds_marked.specs.Log.{event_text, IsEventText, IsFiringLine, IsTurnWord, LineFault, bad_word, unknown_event, wrong_turn, over_limit, not_enabled}
use Rattle.ds_rows.proofs.DecimalDigits.{all_digits, both_hold}
use Rattle.ds_rows.proofs.FirstPlaces.{place_some}
use Rattle.ds_rows.specs.Number.{is_decimal, is_short_number}
use Rattle.ds_rows.specs.Texts.{event_by_text, event_texts}
use Rattle.ds_replay.specs.Word.{is_firing, second_word}
use Rattle.ds_replay.specs.Replay.{event_fault, fault_of_firing, lacks_token, least_lacking}
use Rattle.ds_replay.specs.Legal.{HasKind, HasOwnTexts}
use Rattle.ds_replay.specs.declared.fault.ReplayKind.{ReplayKind}
use Rattle.ds_replay.specs.declared.fault.ReplayKind.TheVariants.{BadWord, UnknownEvent, WrongTurn, OverLimit, NotEnabled}
use Rattle.ds_replay.proofs.Blocking.{enabled_is, lacks_is, lacks_true}

-- some event, and some arc
abbrev pub any_event : Event
any_event = record { signal = []; kind = Rise }

abbrev any_arc : Arc
any_arc = record { source = 0; target = 0; tokens = 0 }

-- digits, as tests and as facts
digit_is : (byte : ℕ) → digit_value byte < 10 → is_decimal byte ≡ true
digit_is byte low =
    let (from, to) = digit_from_value byte low in
    let not_below : nat_lt byte 48 ≡ false = le-ltb byte 48 from in
    let below : nat_lt byte 58 ≡ true = lt-ltb byte 58 (omega (arith, to)) in
    rw (not_below, below) refl

digits_are : (word : List ℕ) → AllDigits 10 word → list_all is_decimal word ≡ true
digits_are [] all = refl
digits_are (byte ∷ word) (low, all) = rw (digit_is byte low, digits_are word all) refl

turn_word_is : (word : List ℕ) → IsTurnWord word → is_short_number word ≡ true
turn_word_is word (some, few, all) = rw (lt-ltb 0 (length word) (omega (arith, some)), lt-ltb (length word) 11 (omega (arith, few)), digits_are word all) refl

is_turn : (word : List ℕ) → is_short_number word ≡ true → IsTurnWord word
is_turn word is =
    let (some, rest) = both_hold _ _ is in
    let (few, digits) = both_hold _ _ rest in
    let low : 0 < length word = ltb-true 0 (length word) some in
    let high : length word < 11 = ltb-true (length word) 11 few in
    (omega arith, omega arith, all_digits word digits)

-- two words
two : (words : List (List ℕ)) → length words ≡ 2 → words ≡ first_word words ∷ second_word words ∷ []
two [] e = absurd (omega arith)
two (a ∷ []) e = absurd (omega arith)
two (a ∷ b ∷ []) e = refl
two (a ∷ b ∷ c ∷ rest) e = absurd (omega arith)

-- the tests of a line, where no kind or this kind holds
passed : (k l : ReplayKind) (a b : Bool) (o : Option ReplayKind)
    → first_of (where_true (not a) k ∷ where_true (not b) l ∷ o ∷ []) ≡ None
    → (a ≡ true) × (b ≡ true) × (o ≡ None)
passed k l true true None e = (refl, refl, refl)
passed k l true true (Some m) e = cc
passed k l true false o e = cc
passed k l false b o e = cc

passed_event : (k l m : ReplayKind) (a b c : Bool)
    → first_of (where_true (not a) k ∷ where_true (not b) l ∷ where_true c m ∷ []) ≡ None
    → (a ≡ true) × (b ≡ true) × (c ≡ false)
passed_event k l m true true false e = (refl, refl, refl)
passed_event k l m true true true e = cc
passed_event k l m true false c e = cc
passed_event k l m false b c e = cc

kind_or : Option ReplayKind → ReplayKind
kind_or None = BadWord
kind_or (Some kind) = kind

none_some : (o : Option ReplayKind) (k : ReplayKind) → o ≡ None → ¬ (o ≡ Some k)
none_some None k e f = cc
none_some (Some m) k e f = cc

some_same : (o : Option ReplayKind) (k m : ReplayKind) → o ≡ Some k → o ≡ Some m → k ≡ m
unfolding kind_or
some_same o k m e f = ap kind_or (sym e ∙ f)

-- an event's text by its number
text_at : (g : Graph) (v : ℕ) → v < length g.events → get_or (event_texts g) v [] ≡ event_text (get_or g.events v any_event)
text_at g v inside = get_or-map event_text g.events v any_event [] inside

module _ (g : Graph) where
  -- the number that a text is found at
  found : (name : List ℕ) → event_by_text g name < length g.events → IsEventText g (event_by_text g name) name
  found name inside =
      let v : ℕ = event_by_text g name in
      let long : length (event_texts g) ≡ length g.events = length-map g.events event_text in
      let here : bytes_eq name (get_or (event_texts g) v []) ≡ true = passes_at_first (bytes_eq name) (event_texts g) [] (omega (arith, long, inside)) in
      let same : name ≡ event_text (get_or g.events v any_event) = (bytes_eq-Decides name (get_or (event_texts g) v [])).0 here ∙ text_at g v inside in
      subst (λ (o : Option Event). IsSomeAnd o (λ e. name ≡ event_text e)) (sym (slice_get-get_or g.events v any_event inside)) same

  pub event_within : (v : ℕ) (name : List ℕ) → IsEventText g v name → v < length g.events
  event_within v name is = elim (cases_lt v (length g.events)) [
    | inl inside ↦ inside
    | inr past ↦ absurd (subst (λ (o : Option Event). IsSomeAnd o (λ e. name ≡ event_text e)) (slice_get_past g.events v past) is)
  ]

  pub event_is : (v : ℕ) (name : List ℕ) → IsEventText g v name → name ≡ event_text (get_or g.events v any_event)
  event_is v name is = subst (λ (o : Option Event). IsSomeAnd o (λ e. name ≡ event_text e)) (slice_get-get_or g.events v any_event (event_within v name is)) is

  -- a text that is not found is none of an event
  missing : (name : List ℕ) → length g.events ≤ event_by_text g name → (v : ℕ) → ¬ IsEventText g v name
  missing name past v is =
      let inside : v < length g.events = event_within v name is in
      let long : length (event_texts g) ≡ length g.events = length-map g.events event_text in
      let here : bytes_eq name (get_or (event_texts g) v []) ≡ true = (bytes_eq-Decides name (get_or (event_texts g) v [])).1 (event_is v name is ∙ sym (text_at g v inside)) in
      let low : event_by_text g name < length (event_texts g) = place_some (bytes_eq name) (event_texts g) (list_any_at (bytes_eq name) (event_texts g) v [] (omega arith) here) in
      omega arith

  -- where no two events are written alike, a text is found at its event
  found_at : HasOwnTexts g → (v : ℕ) (name : List ℕ) → IsEventText g v name → event_by_text g name ≡ v
  found_at own v name is =
      let inside : v < length g.events = event_within v name is in
      let long : length (event_texts g) ≡ length g.events = length-map g.events event_text in
      let same : name ≡ event_text (get_or g.events v any_event) = event_is v name is in
      position_or_len_is (bytes_eq name) (event_texts g) v [] (omega arith)
      (λ k below. elim (cases_Bool (bytes_eq name (get_or (event_texts g) k []))) [
        | inl here ↦
            absurd (own k v any_event below inside (sym (text_at g k (omega arith)) ∙ (sym ((bytes_eq-Decides name (get_or (event_texts g) k [])).0 here) ∙ same)))
        | inr fails ↦ fails
      ])
      (λ _. (bytes_eq-Decides name (get_or (event_texts g) v [])).1 (same ∙ sym (text_at g v inside)))

  module _ (limit : ℕ) (count : ℕ → ℕ) (words : List (List ℕ)) where
    -- the least arc into an event that lacks a token
    lacking : (v : ℕ) → least_lacking g count v < length g.arcs → IsFirstLackingArc count v g.arcs (least_lacking g count v)
    lacking v inside = record {
      inside = inside;
      lacks = λ d. lacks_is g limit count v (get_or g.arcs (least_lacking g count v) d) (passes_at_first (lacks_token count v) g.arcs d inside);
      before = λ k d from below is. false≢true (sym (fails_before_first (lacks_token count v) g.arcs k d below) ∙ lacks_true g limit count v (get_or g.arcs k d) is);
    }

    -- a line without a fault
    pub clean : fault_of_firing g limit count words ≡ None → IsFiringLine g limit count words (event_by_text g (first_word words))
    clean none =
        let v : ℕ = event_by_text g (first_word words) in
        let turn : ℕ = digits_value 10 (second_word words) in
        let (firing, known, free) = passed _ _ _ _ _ none in
        let (pair, number) = both_hold _ _ firing in
        let (right, below, ready) = passed_event _ _ _ _ _ _ free in
        let inside : event_by_text g (first_word words) < length g.events = ltb-true (event_by_text g (first_word words)) (length g.events) known in
        record {
          name = first_word words;
          turn = second_word words;
          two_words = two words (eqb-true (length words) 2 pair);
          is_number = is_turn (second_word words) number;
          is_event = found (first_word words) inside;
          next = eqb-true turn (count v + 1) right;
          enabled = record {
            event = inside;
            below = ltb-true (count v) limit below;
            ready = λ k d at target. elim (cases_lt (count (get_or g.arcs k d).source + (get_or g.arcs k d).tokens) (count v + 1)) [
              | inl low ↦
                  (let some : list_any (lacks_token count v) g.arcs ≡ true = list_any_at (lacks_token count v) g.arcs k d at (lacks_true g limit count v (get_or g.arcs k d) (target, low)) in
                  let first : least_lacking g count v < length g.arcs = place_some (lacks_token count v) g.arcs some in
                  absurd (false≢true (sym ready ∙ lt-ltb (least_lacking g count v) (length g.arcs) first)))
              | inr high ↦ high
            ];
          };
        }

    -- and the other way round
    pub clean_is : HasOwnTexts g → (v : ℕ) → IsFiringLine g limit count words v → (fault_of_firing g limit count words ≡ None) × (event_by_text g (first_word words) ≡ v)
    clean_is own v is =
        let first : first_word words ≡ is.name = ap first_word is.two_words in
        let second : second_word words ≡ is.turn = ap second_word is.two_words in
        let pair : (length words == 2) ≡ true = eq-eqb (length words) 2 (ap length is.two_words) in
        let number : is_short_number (second_word words) ≡ true = ap is_short_number second ∙ turn_word_is is.turn is.is_number in
        let at : event_by_text g (first_word words) ≡ v = ap (event_by_text g) first ∙ found_at own v is.name is.is_event in
        let known : nat_lt v (length g.events) ≡ true = lt-ltb v (length g.events) (event_within v is.name is.is_event) in
        let next : digits_value 10 (second_word words) ≡ count v + 1 = ap (digits_value 10) second ∙ is.next in
        let free : event_fault g limit count v (digits_value 10 (second_word words)) ≡ None = enabled_is g limit count v (digits_value 10 (second_word words)) next is.enabled in
        (rw (pair, number, at, known, free) refl, at)

-- why a line is refused, with its kind
abbrev pub Faulty : Graph → ℕ → (ℕ → ℕ) → List (List ℕ) → ReplayKind → Type 0
Faulty g limit count words kind = (why : LineFault g limit count words) × HasKind why kind

-- it is not two words, the second one to ten digits
faulty_word : (g : Graph) (limit : ℕ) (count : ℕ → ℕ) (words : List (List ℕ)) → is_firing words ≡ false → Faulty g limit count words BadWord
faulty_word g limit count words not_so = (bad_word (λ name turn e is. false≢true (sym not_so ∙ (ap is_firing e ∙ turn_word_is turn is))), refl)

module _ (g : Graph) (limit : ℕ) (count : ℕ → ℕ) (name turn : List ℕ) (number : IsTurnWord turn) where
  faulty_event : length g.events ≤ event_by_text g name → Faulty g limit count (name ∷ turn ∷ []) (UnknownEvent name)
  faulty_event past = (unknown_event number (missing g name past), refl)

  module _ (inside : event_by_text g name < length g.events) where
    abbrev V : ℕ
    V = event_by_text g name

    is_event : IsEventText g (event_by_text g name) name
    is_event = found g name inside

    faulty_turn : digits_value 10 turn ≢ count (event_by_text g name) + 1 → Faulty g limit count (name ∷ turn ∷ []) WrongTurn
    faulty_turn other = (wrong_turn (event_by_text g name) number is_event other, refl)

    module _ (next : digits_value 10 turn ≡ count (event_by_text g name) + 1) where
      faulty_limit : limit ≤ count (event_by_text g name) → Faulty g limit count (name ∷ turn ∷ []) OverLimit
      faulty_limit past = (over_limit (event_by_text g name) number is_event next past, refl)

      faulty_arc : count (event_by_text g name) < limit → least_lacking g count (event_by_text g name) < length g.arcs → Faulty g limit count (name ∷ turn ∷ []) (NotEnabled (least_lacking g count (event_by_text g name)))
      faulty_arc below first =
          let v : ℕ = event_by_text g name in
          let a : ℕ = least_lacking g count v in
          let is : IsFirstLackingArc count v g.arcs a = lacking g limit count [] v first in (
            not_enabled v number is_event next below (λ enabled.
                let (target, low) = is.lacks any_arc in
                let ready : count v + 1 ≤ count (get_or g.arcs a any_arc).source + (get_or g.arcs a any_arc).tokens = enabled.ready a any_arc first target in
                omega (arith, low, ready)),
            (a, refl, is),
          )

-- what is wrong with a line is a fault of it
pub faulty : (g : Graph) (limit : ℕ) (count : ℕ → ℕ) (words : List (List ℕ)) (kind : ReplayKind) → fault_of_firing g limit count words ≡ Some kind → Faulty g limit count words kind
faulty g limit count words kind e =
    let fault : Option ReplayKind = fault_of_firing g limit count words in
    let name : List ℕ = first_word words in
    let turn : List ℕ = second_word words in
    let v : ℕ = event_by_text g (first_word words) in
    elim (cases_Bool (is_firing words)) [
      | inr not_so ↦ (let is : fault_of_firing g limit count words ≡ Some BadWord = rw not_so refl in subst (Faulty g limit count words) (some_same fault BadWord kind is e) (faulty_word g limit count words not_so))
      | inl firing ↦
          (let (pair, digits) = both_hold _ _ firing in
          let both_words : words ≡ first_word words ∷ second_word words ∷ [] = two words (eqb-true (length words) 2 pair) in
          let number : IsTurnWord (second_word words) = is_turn (second_word words) digits in
          let back : (k : ReplayKind) → fault_of_firing g limit count words ≡ Some k → Faulty g limit count (first_word words ∷ second_word words ∷ []) k → Faulty g limit count words kind = λ k is why.
          subst (Faulty g limit count words) (some_same fault k kind is e) (subst (λ (ws : List (List ℕ)). Faulty g limit count ws k) (sym both_words) why) in
          elim (cases_lt (event_by_text g (first_word words)) (length g.events)) [
            | inr past ↦
                (let unknown : nat_lt (event_by_text g (first_word words)) (length g.events) ≡ false = le-ltb (event_by_text g (first_word words)) (length g.events) past in
                back (UnknownEvent (first_word words)) (rw (firing, unknown) refl) (faulty_event g limit count (first_word words) (second_word words) number past))
            | inl inside ↦
                (let known : nat_lt (event_by_text g (first_word words)) (length g.events) ≡ true = lt-ltb (event_by_text g (first_word words)) (length g.events) inside in
                elim (eqb_tells (digits_value 10 (second_word words)) (count (event_by_text g (first_word words)) + 1)) [
                  | inr (is, other) ↦ back WrongTurn (rw (firing, known, is) refl) (faulty_turn g limit count (first_word words) (second_word words) number inside other)
                  | inl (is, next) ↦ elim (cases_lt (count (event_by_text g (first_word words))) limit) [
                    | inr past ↦
                        (let full : nat_lt (count (event_by_text g (first_word words))) limit ≡ false = le-ltb (count (event_by_text g (first_word words))) limit past in
                        back OverLimit (rw (firing, known, is, full) refl) (faulty_limit g limit count (first_word words) (second_word words) number inside next past))
                    | inl below ↦
                        (let low : nat_lt (count (event_by_text g (first_word words))) limit ≡ true = lt-ltb (count (event_by_text g (first_word words))) limit below in
                        elim (cases_lt (least_lacking g count (event_by_text g (first_word words))) (length g.arcs)) [
                          | inl first ↦
                              (let lacking_one : nat_lt (least_lacking g count (event_by_text g (first_word words))) (length g.arcs) ≡ true = lt-ltb (least_lacking g count (event_by_text g (first_word words))) (length g.arcs) first in
                              back (NotEnabled (least_lacking g count (event_by_text g (first_word words)))) (rw (firing, known, is, low, lacking_one) refl) (faulty_arc g limit count (first_word words) (second_word words) number inside next below first))
                          | inr none ↦
                              (let ready : nat_lt (least_lacking g count (event_by_text g (first_word words))) (length g.arcs) ≡ false = le-ltb (least_lacking g count (event_by_text g (first_word words))) (length g.arcs) none in
                              let no_fault : fault_of_firing g limit count words ≡ None = rw (firing, known, is, low, ready) refl in
                              absurd (none_some fault kind no_fault e))
                        ])
                  ]
                ])
          ])
    ]
