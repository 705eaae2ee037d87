-- What holds of all that was read, line by line.
use Rattle.std.proofs.Common.{◌≡◌, ◌⊎◌, ℕ, ◌+◌, ◌*◌, ◌<◌, ◌≤◌, Bool, true, false, not, List, [], ◌∷◌, length, get_or, drop, refl, sym, ◌∙◌, ap, subst, arith, inl, inr, Option, None, Some, IfSome, Result, Ok, Err, nat_lt, ltb-true, ◌&&◌, ◌||◌, ◌==◌, if◌then◌else◌}
use Rattle.std.proofs.lemmas.Bool.{cases_Bool, cases_lt}
use Rattle.std.proofs.lemmas.List.{length-append, length-set, get_or_past}
use Rattle.std.proofs.lemmas.List.Elements.{All-cons, All-set, All-append}
use Rattle.ds_lines.specs.Words.{word_at}
use Rattle.ds_lines.specs.Names.{has_name, place_of_name}
use Rattle.ds_astg.specs.Word.{is_signed, fall_of, last_byte, has_slash, has_reserved}
use Rattle.ds_astg.specs.Turn.{then_do, all_of}
use Rattle.ds_astg.specs.Signals.{Declared, count_events, event_count, role_of}
use Rattle.ds_astg.specs.Node.{Node, node_of_word, node_by, event_in, event_by, first_number, name_in}
use Rattle.ds_astg.specs.Node.Node.{Event as EventNode, Place as PlaceNode}
use Rattle.ds_astg.specs.Place.{Places, Key, with_place, with_place_at, place_at, named, between, has_place, number_of_place}
use Rattle.ds_astg.specs.Place.Key.{Named, Between}
use Rattle.ds_astg.specs.Links.{may_be, from_event, to_event, with_source, with_target, link, link_word, link_words, with_node, source_line, graph_line}
use Rattle.ds_astg.specs.Marking.{with_tokens, is_unmarked, mark_key, mark_by, mark, mark_all, key_in, place_text, tokens_of_entry, entries_of}
use Rattle.ds_astg.specs.Line.{State, may_declare, declare, declare_all, declaration_line, with_signals, with_places, with_marking, body_line, entries_line, step_by}
use Rattle.ds_astg.specs.declared.head.Head.{Head}
use Rattle.ds_astg.specs.declared.head.Head.TheVariants.{Body, Model, Signals, Dummies, Graph, Marking, End, Unknown}
use Rattle.ds_astg.specs.declared.role.Role.{Role}
use Rattle.ds_astg.specs.declared.role.Role.TheVariants.{Signal, Dummy}
use Rattle.ds_astg.specs.Sound.{HasEnds, ArePlaces, IsStateSound}
use Rattle.ds_astg.specs.declared.place.Place.{Place}
use Rattle.ds_astg.specs.declared.fault.AstgKind.{AstgKind}
use Rattle.ds_astg.proofs.DeclaredNames.{count_push, room_at}

-- a step that is done was done behind another that is done
pub then_was : {A B : Type 0} (r : Result A AstgKind) (next : A → Result B AstgKind) (b : B) → then_do r next ≡ Ok b → (a : A) × (r ≡ Ok a) × (next a ≡ Ok b)
then_was (Ok a) next b is = (a, refl, is)
then_was (Err e) next b is = absurd (cc)

-- what stays at each step stays
pub all_stay : {X S : Type 0} (P : S → Type 0) (step : X → S → Result S AstgKind) → ((x : X) (s t : S) → P s → step x s ≡ Ok t → P t)
    → (xs : List X) (s t : S) → P s → all_of step xs s ≡ Ok t → P t
all_stay P step stays [] s t p is = subst P (let e : s ≡ t = cc in e) p
all_stay P step stays (x ∷ xs) s t p is =
    let (u, one, rest) = then_was (step x s) (all_of step xs) t is in
    all_stay P step stays xs u t (stays x s u p one) rest

-- a choice that is a fault or a value
if_was : {A : Type 0} (test : Bool) (x y : Result A AstgKind) (a : A) → (if test then x else y) ≡ Ok a → ((test ≡ true) × (x ≡ Ok a)) ⊎ ((test ≡ false) × (y ≡ Ok a))
if_was true x y a is = inl (refl, is)
if_was false x y a is = inr (refl, is)

pub one_value : {A : Type 0} (a b : A) → (let r : Result A AstgKind = Ok a in r ≡ Ok b) → a ≡ b
one_value a b is = cc

module _ (n : ℕ) where
  -- the place with a number has its ends
  pub place_ends : (ps : Places) (k : ℕ) → ArePlaces n ps → HasEnds n (place_at ps k)
  place_ends ps k sound = elim (cases_lt k (length ps.places)) [
    | inl low ↦ sound.ends k (named 0) low
    | inr high ↦ rw (get_or_past ps.places k (named 0) high) (tt, tt)
  ]

  pub set_sound : (ps : Places) (k : ℕ) (place : Place) → ArePlaces n ps → HasEnds n place → ArePlaces n (with_place_at ps k place)
  set_sound ps k place sound ends = record {
    each = sound.each ∙ sym (length-set ps.places k place);
    few = sound.few;
    ends = All-set (HasEnds n) ps.places k place ends sound.ends;
  }

  pub new_sound : (key : Key) (place : Place) (ps qs : Places) → ArePlaces n ps → HasEnds n place → with_place key place ps ≡ Ok qs → ArePlaces n qs
  new_sound key place ps qs sound ends is = elim (if_was (has_place ps key) _ _ qs is) [
    | inl (has, same) ↦ subst (ArePlaces n) (one_value ps qs same) sound
    | inr (new, next) ↦ elim (if_was (nat_lt (length ps.keys) 1048576) _ _ qs next) [
      | inl (room, same) ↦ subst (ArePlaces n) (one_value _ qs same) (record {
        each = length-append ps.keys (key ∷ []) ∙ (ap (λ (k : ℕ). k + 1) sound.each ∙ sym (length-append ps.places (place ∷ [])));
        few = (let h : length ps.keys < 1048576 = ltb-true _ _ room in let l = length-append ps.keys (key ∷ []) in omega (arith, h, l));
        ends = All-append (HasEnds n) ps.places (place ∷ []) sound.ends (All-cons (HasEnds n) place [] ends (λ k d inside. absurd (omega arith)));
      })
      | inr (full, fault) ↦ absurd (cc)
    ]
  ]

  -- a node that is an event is one of so many
  pub NodeIn : Node → Type 0
  NodeIn (EventNode event) = event < n
  NodeIn (PlaceNode name) = Unit {0}

  source_sound : (k : ℕ) (name : List ℕ) (event : ℕ) (ps qs : Places) → event < n → ArePlaces n ps → with_source k name event ps ≡ Ok qs → ArePlaces n qs
  source_sound k name event ps qs low sound is = elim (if_was (may_be (place_at ps k).source event) _ _ qs is) [
    | inl (may, same) ↦ subst (ArePlaces n) (one_value _ qs same) (set_sound ps k (from_event (place_at ps k) event) sound (low, (place_ends ps k sound).1))
    | inr (other, fault) ↦ absurd (cc)
  ]

  target_sound : (k : ℕ) (name : List ℕ) (event : ℕ) (ps qs : Places) → event < n → ArePlaces n ps → with_target k name event ps ≡ Ok qs → ArePlaces n qs
  target_sound k name event ps qs low sound is = elim (if_was (may_be (place_at ps k).target event) _ _ qs is) [
    | inl (may, same) ↦ subst (ArePlaces n) (one_value _ qs same) (set_sound ps k (to_event (place_at ps k) event) sound ((place_ends ps k sound).0, low))
    | inr (other, fault) ↦ absurd (cc)
  ]

  link_sound : (line : ℕ) (source target : Node) (ps qs : Places) → NodeIn source → NodeIn target → ArePlaces n ps → link line source target ps ≡ Ok qs → ArePlaces n qs
  unfolding NodeIn
  link_sound line (EventNode u) (EventNode v) ps qs low below sound is = new_sound (Between u v) (between line u v) ps qs sound (low, below) is
  link_sound line (EventNode u) (PlaceNode name) ps qs low below sound is =
      let (all, one, next) = then_was (with_place (Named name) (named line) ps) (λ rs. with_source (number_of_place rs (Named name)) name u rs) qs is in
      source_sound (number_of_place all (Named name)) name u all qs low (new_sound (Named name) (named line) ps all sound (tt, tt) one) next
  link_sound line (PlaceNode name) (EventNode v) ps qs low below sound is = target_sound (number_of_place ps (Named name)) name v ps qs below sound is
  link_sound line (PlaceNode name) (PlaceNode other) ps qs low below sound is = absurd (cc)

  with_node_sound : (line : ℕ) (node : Node) (ps qs : Places) → ArePlaces n ps → with_node line node ps ≡ Ok qs → ArePlaces n qs
  with_node_sound line (EventNode u) ps qs sound is = subst (ArePlaces n) (one_value ps qs is) sound
  with_node_sound line (PlaceNode name) ps qs sound is = new_sound (Named name) (named line) ps qs sound (tt, tt) is

  -- entries leave the ends as they are
  mark_key_sound : (entry : List ℕ) (key : Key) (tokens : ℕ) (ps qs : Places) → ArePlaces n ps → mark_key entry key tokens ps ≡ Ok qs → ArePlaces n qs
  mark_key_sound entry key tokens ps qs sound is = elim (if_was (is_unmarked ps key) _ _ qs is) [
    | inl (unmarked, same) ↦ subst (ArePlaces n) (one_value _ qs same)
        (set_sound ps (number_of_place ps key) (with_tokens (place_at ps (number_of_place ps key)) tokens) sound (place_ends ps (number_of_place ps key) sound))
    | inr (marked, fault) ↦ absurd (cc)
  ]

  mark_by_sound : (entry : List ℕ) (key : Option Key) (tokens : Option ℕ) (ps qs : Places) → ArePlaces n ps → mark_by entry key tokens ps ≡ Ok qs → ArePlaces n qs
  mark_by_sound entry None tokens ps qs sound is = absurd (cc)
  mark_by_sound entry (Some key) None ps qs sound is = absurd (cc)
  mark_by_sound entry (Some key) (Some tokens) ps qs sound is = mark_key_sound entry key tokens ps qs sound is

  pub mark_sound : (signals : Declared) (entry : List ℕ) (ps qs : Places) → ArePlaces n ps → mark signals entry ps ≡ Ok qs → ArePlaces n qs
  mark_sound signals entry ps qs sound is = elim (if_was (length entry == 0) _ _ qs is) [
    | inl (none, same) ↦ subst (ArePlaces n) (one_value ps qs same) sound
    | inr (some, next) ↦ mark_by_sound entry (key_in signals (place_text entry)) (tokens_of_entry entry) ps qs sound next
  ]

-- an event that is found is one of the names'
event_by_low : (role : Option Role) (first : ℕ) (word : List ℕ) (n event : ℕ) → IfSome role (λ r. first + event_count r ≤ n) → event_by role first word ≡ Some event → event < n
event_by_low None first word n event room is = absurd (cc)
event_by_low (Some Signal) first word n event room is =
    let fall : fall_of word ≤ 1 = small (last_byte word == 43) in
    let e : event ≡ first + fall_of word = found (is_signed word) (first + fall_of word) is in
    omega (arith, fall, e, room)
  where
    small : (b : Bool) → (if b then 0 else 1) ≤ 1
    small true = omega arith
    small false = omega arith

    found : (b : Bool) (number : ℕ) → (if b then Some number else None) ≡ Some event → event ≡ number
    found true number e = cc
    found false number e = absurd (cc)
event_by_low (Some Dummy) first word n event room is = (let e = found (is_signed word) is in omega (arith, e, room))
  where
    found : (b : Bool) → (if b then None else Some first) ≡ Some event → event ≡ first
    found true e = absurd (cc)
    found false e = cc

event_low : (signals : Declared) (word : List ℕ) (event : ℕ) → event_in signals word ≡ Some event → event < count_events signals.roles
event_low signals word event is =
    event_by_low (role_of signals (name_in word)) (first_number signals (name_in word)) word (count_events signals.roles) event
    (room_at signals.roles (place_of_name signals.names (name_in word))) is

node_by_low : (signals : Declared) (word : List ℕ) (event : Option ℕ) (node : Node) → event ≡ event_in signals word → node_by word event ≡ Ok node
    → NodeIn (count_events signals.roles) node
unfolding NodeIn
node_by_low signals word None node e is = elim (if_was (is_signed word) _ _ node is) [
  | inl (signed, fault) ↦ absurd (cc)
  | inr (unsigned, place) ↦ subst (NodeIn (count_events signals.roles)) (one_value (PlaceNode word) node place) tt
]
node_by_low signals word (Some event) node e is =
    subst (NodeIn (count_events signals.roles)) (one_value (EventNode event) node is) (event_low signals word event (sym e))

pub node_low : (signals : Declared) (word : List ℕ) (node : Node) → node_of_word signals word ≡ Ok node → NodeIn (count_events signals.roles) node
node_low signals word node is = elim (if_was (has_slash word) _ _ node is) [
  | inl (slash, fault) ↦ absurd (cc)
  | inr (no_slash, next) ↦ elim (if_was (has_reserved word) _ _ node next) [
    | inl (reserved, fault) ↦ absurd (cc)
    | inr (free, last) ↦ node_by_low signals word (event_in signals word) node refl last
  ]
]

module _ (signals : Declared) (line : ℕ) where
  link_word_sound : (source : Node) (word : List ℕ) (ps qs : Places) → NodeIn (count_events signals.roles) source → ArePlaces (count_events signals.roles) ps
      → link_word signals line source word ps ≡ Ok qs → ArePlaces (count_events signals.roles) qs
  link_word_sound source word ps qs low sound is =
      let (target, one, next) = then_was (node_of_word signals word) (λ target. link line source target ps) qs is in
      link_sound (count_events signals.roles) line source target ps qs low (node_low signals word target one) sound next

  pub graph_line_sound : (words : List (List ℕ)) (ps qs : Places) → ArePlaces (count_events signals.roles) ps → graph_line signals line words ps ≡ Ok qs
      → ArePlaces (count_events signals.roles) qs
  graph_line_sound words ps qs sound is =
      let (source, one, next) = then_was (node_of_word signals (word_at words 0)) (λ source. source_line signals line words source ps) qs is in
      elim (if_was (nat_lt (length words) 2) _ _ qs next) [
        | inl (lone, fault) ↦ absurd (cc)
        | inr (more, rest) ↦ (
            let (first, here, last) = then_was (with_node line source ps) (link_words signals line source (drop 1 words)) qs rest in
            all_stay (ArePlaces (count_events signals.roles)) (link_word signals line source)
            (λ word rs ts p step. link_word_sound source word rs ts (node_low signals (word_at words 0) source one) p step)
            (drop 1 words) first qs (with_node_sound (count_events signals.roles) line source ps first sound here) last)
      ]

-- more events
more_events : (few many : ℕ) (ps : Places) → few ≤ many → ArePlaces few ps → ArePlaces many ps
more_events few many ps order sound = record {
  each = sound.each;
  few = sound.few;
  ends = λ k d inside. let h = sound.ends k d inside in
      (higher (get_or ps.places k d).source h.0, higher (get_or ps.places k d).target h.1);
}
  where
    higher : (end : Option ℕ) → IfSome end (λ u. u < few) → IfSome end (λ u. u < many)
    higher None h = tt
    higher (Some u) h = omega (arith, order, h)

-- names that are declared, each as something, and at least so many events
record Grows (events : ℕ) (signals : Declared) : Type 0 where
  each : length signals.names ≡ length signals.roles
  more : events ≤ count_events signals.roles

declare_grows : (n : ℕ) (role : Role) (ps : Places) (word : List ℕ) (signals more : Declared) → Grows n signals → declare role ps word signals ≡ Ok more → Grows n more
declare_grows n role ps word signals more grows is = elim (if_was (not (may_declare role ps word signals)) _ _ more is) [
  | inl (bad, fault) ↦ absurd (cc)
  | inr (good, next) ↦ elim (if_was (has_name signals.names word) _ _ more next) [
    | inl (has, same) ↦ subst (Grows n) (one_value signals more same) grows
    | inr (new, last) ↦ elim (if_was (nat_lt (length signals.names) 65536) _ _ more last) [
      | inl (room, same) ↦ subst (Grows n) (one_value _ more same) (record {
        each = (let h = grows.each in let l = length-append signals.names (word ∷ []) in let m = length-append signals.roles (role ∷ []) in omega (arith, h, l, m));
        more = (let h = grows.more in let c = count_push signals.roles role in omega (arith, h, c));
      })
      | inr (full, fault) ↦ absurd (cc)
    ]
  ]
]

declaration_sound : (role : Role) (words : List (List ℕ)) (state next : State) → IsStateSound state → declaration_line role words state ≡ Ok next → IsStateSound next
declaration_sound role words state next sound is =
    let (signals, one, last) = then_was (declare_all role state.places (drop 1 words) state.signals) (λ signals. Ok (with_signals state signals)) next is in
    let n = count_events state.signals.roles in
    let grows : Grows n signals = all_stay (Grows n) (declare role state.places)
    (λ word s t p step. declare_grows n role state.places word s t p step) (drop 1 words) state.signals signals (record { each = sound.each; more = omega arith }) one in
    subst IsStateSound (one_value (with_signals state signals) next last)
    (record { each = grows.each; places = more_events n (count_events signals.roles) state.places grows.more sound.places })

body_sound : (line : ℕ) (words : List (List ℕ)) (state next : State) → IsStateSound state → body_line line words state ≡ Ok next → IsStateSound next
body_sound line words state next sound is = elim (if_was state.is_open _ _ next is) [
  | inl (open_part, step) ↦ (
      let (places, one, last) = then_was (graph_line state.signals line words state.places) (λ places. Ok (with_places state places)) next step in
      subst IsStateSound (one_value (with_places state places) next last)
      (record { each = sound.each; places = graph_line_sound state.signals line words state.places places sound.places one }))
  | inr (closed_part, fault) ↦ absurd (cc)
]

entries_sound : (word : List ℕ) (entries : Option (List (List ℕ))) (state next : State) → IsStateSound state → entries_line word entries state ≡ Ok next → IsStateSound next
entries_sound word None state next sound is = absurd (cc)
entries_sound word (Some entries) state next sound is =
    let (places, one, last) = then_was (mark_all state.signals entries state.places) (λ places. Ok (with_marking state places)) next is in
    subst IsStateSound (one_value (with_marking state places) next last) (record {
      each = sound.each;
      places = all_stay (ArePlaces (count_events state.signals.roles)) (mark state.signals)
          (λ entry ps qs p step. mark_sound (count_events state.signals.roles) state.signals entry ps qs p step) entries state.places places sound.places one;
    })

-- what was read stays sound
pub step_sound : (head : Head) (line : ℕ) (words : List (List ℕ)) (state next : State) → IsStateSound state → step_by head line words state ≡ Ok next → IsStateSound next
step_sound Body line words state next sound is = body_sound line words state next sound is
step_sound Model line words state next sound is = elim (if_was (state.is_named || not (length words == 2)) _ _ next is) [
  | inl (bad, fault) ↦ absurd (cc)
  | inr (good, same) ↦ subst IsStateSound (one_value _ next same) (record { each = sound.each; places = sound.places })
]
step_sound Signals line words state next sound is = declaration_sound Signal words state next sound is
step_sound Dummies line words state next sound is = declaration_sound Dummy words state next sound is
step_sound Graph line words state next sound is = subst IsStateSound (one_value _ next is) (record { each = sound.each; places = sound.places })
step_sound Marking line words state next sound is = elim (if_was state.is_marked _ _ next is) [
  | inl (marked, fault) ↦ absurd (cc)
  | inr (unmarked, step) ↦ entries_sound (word_at words 0) (entries_of (drop 1 words)) state next sound step
]
step_sound End line words state next sound is = subst IsStateSound (one_value state next is) sound
step_sound Unknown line words state next sound is = absurd (cc)
