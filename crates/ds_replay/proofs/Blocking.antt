-- What keeps an event from firing with a number.
use Rattle.std.proofs.Common.{◌≡◌, ◌≢◌, ◌∙◌, ◌==◌, ℕ, ◌+◌, ◌<◌, ◌≤◌, true, false, List, [], ◌∷◌, length, get_or, Option, None, Some, inl, inr, refl, arith, ap, sym, subst}
use Rattle.std.specs.Prelude.{nat_lt}
use Rattle.std.proofs.lemmas.Bool.{cases_Bool, eq-eqb, eqb-true, lt-ltb, ltb-true, le-ltb}
use Rattle.std.proofs.lemmas.Bool.Decides.{eqb_tells}
use Rattle.std.proofs.lemmas.List.Sums.{position_or_len_is}
use Rattle.std.proofs.lemmas.List.{length-map}
use Rattle.ds_lines.specs.Names.{place_of_name}
use Rattle.ds_marked.specs.Log.{event_text}
use Rattle.ds_marked.specs.Graph.{Graph, IsEnabled}
use Rattle.ds_marked.specs.Blocked.{IsBlocked, IsFirstLackingArc, Lacks}
use Rattle.ds_marked.specs.declared.marked.Arc.{Arc}
use Rattle.ds_marked.specs.declared.blocked.Blocked.{Blocked}
use Rattle.ds_marked.specs.declared.blocked.Blocked.TheVariants as blocked
use Rattle.std.specs.Str.Parse.{digits_value}
use Rattle.ds_lines.specs.First.{first_of}
use Rattle.ds_lines.specs.Words.{first_word}
use Rattle.ds_rows.proofs.DecimalDigits.{both_hold}
use Rattle.ds_rows.specs.Texts.{event_by_text, event_texts}
use Rattle.ds_replay.specs.Word.{second_word, turn_of}
use Rattle.ds_replay.specs.Replay.{event_fault, fault_of_firing, lacks_token, least_lacking}
use Rattle.ds_replay.specs.Step.{kind_of}
use Rattle.ds_replay.specs.declared.fault.ReplayKind.{ReplayKind}
use Rattle.ds_replay.specs.declared.fault.ReplayKind.TheVariants.{BadWord, UnknownEvent, WrongTurn}
use Rattle.ds_replay.proofs.LogLineWords.{no_number, number_is}

-- some arc
abbrev any : Arc
any = record { source = 0; target = 0; tokens = 0 }

module _ (g : Graph) (limit : ℕ) (count : ℕ → ℕ) (v : ℕ) where
  pub lacks_true : (arc : Arc) → Lacks count v arc → lacks_token count v arc ≡ true
  lacks_true arc (target, low) = rw (eq-eqb arc.target v target, lt-ltb (count arc.source + arc.tokens) (count v + 1) low) refl

  pub lacks_is : (arc : Arc) → lacks_token count v arc ≡ true → Lacks count v arc
  lacks_is arc is = let (target, low) = both_hold _ _ is in (eqb-true arc.target v target, ltb-true (count arc.source + arc.tokens) (count v + 1) low)

  lacks_false : (arc : Arc) → ¬ Lacks count v arc → lacks_token count v arc ≡ false
  lacks_false arc not_so = elim (cases_Bool (lacks_token count v arc)) [ inl is ↦ absurd (not_so (lacks_is arc is)) | inr fails ↦ fails ]

  -- the number is another one
  pub other_turn : (turn : ℕ) → turn ≢ count v + 1 → event_fault g limit count v turn ≡ Some WrongTurn
  other_turn turn other = elim (eqb_tells turn (count v + 1)) [ inl (is, e) ↦ absurd (other e) | inr (is, ne) ↦ rw is refl ]

  module _ (turn : ℕ) (same : turn ≡ count v + 1) where
    right : (turn == (count v + 1)) ≡ true
    right = eq-eqb turn (count v + 1) same

    pub least_is : (a : ℕ) → IsFirstLackingArc count v g.arcs a → least_lacking g count v ≡ a
    least_is a first = position_or_len_is (lacks_token count v) g.arcs a any (let inside : a < length g.arcs = first.inside in omega arith)
        (λ k below. lacks_false (get_or g.arcs k any) (first.before k any (omega arith) below))
        (λ _. lacks_true (get_or g.arcs a any) (first.lacks any))

    -- it may not fire
    pub blocked_is : (b : Blocked) → IsBlocked g limit count v b → event_fault g limit count v turn ≡ Some (kind_of b)
    blocked_is blocked.Limit high = let past : nat_lt (count v) limit ≡ false = le-ltb (count v) limit high in rw (right, past) refl
    blocked_is (blocked.Arc a) (low, first) =
        let below : nat_lt (count v) limit ≡ true = lt-ltb (count v) limit low in
        let at : least_lacking g count v ≡ a = least_is a first in
        let inside : nat_lt a (length g.arcs) ≡ true = lt-ltb a (length g.arcs) first.inside in
        rw (right, below, at, inside) refl

    -- it may fire
    pub enabled_is : IsEnabled g limit count v → event_fault g limit count v turn ≡ None
    enabled_is enabled =
        let below : nat_lt (count v) limit ≡ true = lt-ltb (count v) limit enabled.below in
        let at : least_lacking g count v ≡ length g.arcs =
        position_or_len_is (lacks_token count v) g.arcs (length g.arcs) any (omega arith) (λ k inside. lacks_false (get_or g.arcs k any) (λ (target, low). (let ready : count v + 1 ≤ count (get_or g.arcs k any).source + (get_or g.arcs k any).tokens = enabled.ready k any inside target in omega arith))) (λ inside. absurd (omega arith)) in
        let none : nat_lt (length g.arcs) (length g.arcs) ≡ false = le-ltb (length g.arcs) (length g.arcs) (omega arith) in
        rw (right, below, at, none) refl

-- the last of the kinds
alone : (o : Option ReplayKind) → first_of (o ∷ []) ≡ o
alone None = refl
alone (Some kind) = refl

-- what is wrong with a line of two words and a known event is what is wrong with the event
pub line_is : (g : Graph) (limit : ℕ) (count : ℕ → ℕ) (words : List (List ℕ)) (turn v : ℕ) (o : Option ReplayKind) → turn_of words ≡ Some turn → v ≡ event_by_text g (first_word words) → v < length g.events
    → event_fault g limit count v turn ≡ o → fault_of_firing g limit count words ≡ o
line_is g limit count words turn v o is at inside event =
    let (firing, number) = number_is words turn is in
    let known : nat_lt (event_by_text g (first_word words)) (length g.events) ≡ true = lt-ltb (event_by_text g (first_word words)) (length g.events) (omega (arith, at, inside)) in
    let here : event_fault g limit count (event_by_text g (first_word words)) (digits_value 10 (second_word words)) ≡ o =
    ap (λ (n : ℕ). event_fault g limit count (event_by_text g (first_word words)) n) number ∙ (ap (λ (u : ℕ). event_fault g limit count u turn) (sym at) ∙ event) in
    rw (firing, known) (alone (event_fault g limit count (event_by_text g (first_word words)) (digits_value 10 (second_word words))) ∙ here)

-- an event that is found among the texts
pub found_event : (g : Graph) (texts : List (List ℕ)) (words : List (List ℕ)) (name : List ℕ) (v : ℕ) → texts ≡ event_texts g → name ≡ first_word words
    → (v ≡ place_of_name texts name) × (v < length texts) → (v ≡ event_by_text g (first_word words)) × (v < length g.events)
found_event g texts words name v are first (at, inside) =
    let long : length texts ≡ length g.events = ap length are ∙ length-map g.events event_text in
    (at ∙ (ap (λ (ts : List (List ℕ)). place_of_name ts name) are ∙ ap (event_by_text g) first), omega (arith, long, inside))

-- a line of other words
pub bad_line : (g : Graph) (limit : ℕ) (count : ℕ → ℕ) (words : List (List ℕ)) → turn_of words ≡ None
    → fault_of_firing g limit count words ≡ Some BadWord
bad_line g limit count words is = let fails = no_number words is in rw fails refl

-- a line of an event that is not among the texts
pub unknown_line : (g : Graph) (limit : ℕ) (count : ℕ → ℕ) (texts words : List (List ℕ)) (name : List ℕ) (turn : ℕ) (kind : ReplayKind)
    → turn_of words ≡ Some turn → texts ≡ event_texts g → name ≡ first_word words → length texts ≤ place_of_name texts name
    → kind ≡ UnknownEvent name → fault_of_firing g limit count words ≡ Some kind
unknown_line g limit count texts words name turn kind is are first past kind_is =
    let (firing, number) = number_is words turn is in
    let long : length texts ≡ length g.events = ap length are ∙ length-map g.events event_text in
    let high : length g.events ≤ event_by_text g (first_word words) =
    subst (λ (w : List ℕ). length g.events ≤ event_by_text g w) first
    (subst (λ (ts : List (List ℕ)). length g.events ≤ place_of_name ts name) are
    (subst (λ (n : ℕ). n ≤ place_of_name texts name) long past)) in
    let other : nat_lt (event_by_text g (first_word words)) (length g.events) ≡ false =
    le-ltb (event_by_text g (first_word words)) (length g.events) high in
    let here : fault_of_firing g limit count words ≡ Some (UnknownEvent (first_word words)) = rw (firing, other) refl in
    here ∙ ap (λ (k : ReplayKind). Some k) (ap UnknownEvent (sym first) ∙ sym kind_is)
