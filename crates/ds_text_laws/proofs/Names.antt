-- Names that are written for events and places of a graph.
use Rattle.std.proofs.Common.{◌≡◌, ◌≢◌, ℕ, ◌-◌, ◌^◌, drop, map, option_map, Some, None, ◌<◌, ◌≤◌, Bool, true, false, List, [], ◌∷◌, ◌++◌, length, get_or, refl, sym, ◌∙◌, ap, subst, arith, inl, inr, Option, Ok, ◌&&◌, ◌==◌, decimal, if◌then◌else◌, slice_get}
use Rattle.std.specs.List.{flat_map}
use Rattle.std.specs.Option.{option_map_or}
use Rattle.std.proofs.lemmas.Bool.{cases_Bool, cases_lt, eqb-true, eqb-false, lt-ltb, false≢true}
use Rattle.std.specs.Int.Digits.{digits_of}
use Rattle.std.proofs.lemmas.Int.Digits.{number_digits_of}
use Rattle.std.proofs.lemmas.Fmt.{decimal_digit, decimal-digits_of}
use Rattle.std.proofs.lemmas.Option.{slice_get-get_or, slice_get-map}
use Rattle.ds_lines.specs.Names.{place_of_name}
use Rattle.ds_marked.specs.Graph.{Graph, StandsBefore, IsKept}
use Rattle.ds_marked.specs.declared.marked.Arc.{Arc}
use Rattle.ds_marked.specs.declared.marked.Event.{Event}
use Rattle.ds_marked.specs.declared.marked.Kind.TheVariants.{Rise}
use Rattle.ds_marked.specs.Log.{event_text, sign, text_of_event}
use Rattle.ds_astg.specs.Signals.{Declared, first_event, role_of}
use Rattle.ds_astg.specs.declared.role.Role.TheVariants.{Signal, Dummy}
use Rattle.ds_astg.specs.Node.{node_of_word}
use Rattle.ds_astg.specs.Node.Node.{Event as EventNode}
use Rattle.ds_astg.specs.Place.{Key, key_eq}
use Rattle.ds_astg.specs.Place.Key.{Named, Between}
use Rattle.ds_astg.specs.Read.{all_events, events_of_signal}
use Rattle.ds_astg.specs.Word.{first_byte, is_signal}
use Rattle.ds_astg.specs.Line.{graph_head_of}
use Rattle.ds_astg.specs.declared.head.Head.TheVariants.{Body}
use Rattle.ds_astg.specs.Marking.{value_from}
use Rattle.ds_astg.specs.Text.{arc_at, is_further, place_name}
use Rattle.ds_text_laws.specs.AstgText.{IsReadable}
use Rattle.ds_text_laws.proofs.Entries.{value_digits}
use Rattle.ds_text_laws.proofs.WrittenWords.{event_at, events_are_read, signal_is}
use Rattle.std.specs.Str.{bytes_eq}
use Rattle.std.proofs.lemmas.Slice.Eq.{bytes_eq-Decides}

-- a number is told by its digits
value_is : (n : ℕ) → n < 2 ^ 64 → value_from 0 (decimal n) ≡ n
value_is n small = elim (cases_lt 0 n) [
  | inl some ↦ ap (λ (t : List ℕ). value_from 0 t) (decimal-digits_of n some small) ∙ (value_digits 0 (digits_of 10 n) ∙ number_digits_of 10 n (omega arith))
  | inr none ↦ (let z : n ≡ 0 = omega (arith, none) in ap (λ (t : List ℕ). value_from 0 t) (ap decimal z ∙ decimal_digit 0 (omega arith)) ∙ sym z)
]

pub names_differ : (j k : ℕ) → j < 2 ^ 64 → k < 2 ^ 64 → bytes_eq (place_name k) (place_name j) ≡ true → k ≡ j
names_differ j k small_j small_k same =
    let e : place_name k ≡ place_name j = (bytes_eq-Decides (place_name k) (place_name j)).0 same in
    let d : decimal k ≡ decimal j = ap (λ (t : List ℕ). drop 1 t) e in
    sym (value_is k small_k) ∙ (ap (λ (t : List ℕ). value_from 0 t) d ∙ value_is j small_j)

-- the key of the place of an arc
abbrev pub key_at : Graph → ℕ → Key
key_at g k = if is_further g k then Named (place_name k) else Between (arc_at g k).source (arc_at g k).target

-- a word that does not begin with a dot
pub body_is : (word : List ℕ) → first_byte word ≢ 46 → graph_head_of word ≡ Body
unfolding graph_head_of
body_is word ne = elim (cases_Bool (first_byte word == 46)) [
  | inl e ↦ absurd (ne (eqb-true _ _ e))
  | inr e ↦ rw e refl
]

first_of : (word more : List ℕ) → 0 < length word → first_byte (word ++ more) ≡ first_byte word
first_of [] more some = absurd (omega arith)
first_of (byte ∷ word) more some = refl

-- signals without dummies among them
abbrev pub plain : List (List ℕ) → Declared
plain signals = record { names = signals; roles = map (λ _. Signal) signals }

pub plain_events : (signals : List (List ℕ)) → flat_map events_of_signal signals ≡ all_events signals (map (λ _. Signal) signals)
plain_events [] = refl
plain_events (signal ∷ signals) = ap (λ (es : List Event). events_of_signal signal ++ es) (plain_events signals)

pub no_dummy : (signals : List (List ℕ)) (name : List ℕ) → role_of (plain signals) name ≢ Some Dummy
no_dummy signals name is = other (slice_get signals (place_of_name signals name)) (sym (slice_get-map (λ (_ : List ℕ). Signal) signals (place_of_name signals name)) ∙ is)
  where
    other : (name : Option (List ℕ)) → option_map (λ _. Signal) name ≡ Some Dummy → ⊥
    other None e = cc
    other (Some word) e = cc

module _ (signals : List (List ℕ)) (g : Graph) (readable : IsReadable signals g) (v : ℕ) (inside : v < length g.events) where
  -- the event with a number
  event : Event
  event = get_or g.events v (record { signal = []; kind = Rise })

  there : slice_get g.events v ≡ Some event
  unfolding event
  there = slice_get-get_or g.events v (record { signal = []; kind = Rise }) inside

  listed : slice_get (all_events signals (map (λ _. Signal) signals)) v ≡ Some event
  listed = ap (λ (es : List Event). slice_get es v) (sym (readable.events ∙ plain_events signals)) ∙ there

  text_is : text_of_event g v ≡ event_text event
  text_is = ap (λ (o : Option Event). option_map_or event_text o []) there

  -- its signal
  signal_at : (i : ℕ) × (i < length signals) × (event.signal ≡ get_or signals i [])
  signal_at =
      let (i, role, less, role_is, one) = event_at signals (map (λ _. Signal) signals) v event listed in
      (i, less, signal_is role (first_event (map (λ _. Signal) signals) i) (get_or signals i []) v event one)

  -- the text of an event of signals
  pub texts_read : node_of_word (plain signals) (text_of_event g v) ≡ Ok (EventNode v)
  texts_read =
      let (i, less, is) = signal_at in
      ap (node_of_word (plain signals)) text_is ∙ events_are_read (plain signals) v event readable.distinct listed (ap is_signal is ∙ readable.names i [] less)

  -- it does not begin with a dot
  pub dotless : graph_head_of (text_of_event g v) ≡ Body
  dotless =
      let (i, less, is) = signal_at in
      let some : 0 < length event.signal = subst (λ (s : List ℕ). 0 < length s) (sym is) (readable.some i [] less) in
      ap graph_head_of text_is ∙ body_is (event_text event) (λ e. readable.undotted i [] less
      (ap first_byte (sym is) ∙ (sym (first_of event.signal (sign event.kind) some) ∙ e)))

pub le_source : (a b : Arc) → StandsBefore a b → a.source ≤ b.source
le_source a b (inl less) = omega arith
le_source a b (inr (same, rest)) = omega arith

le_target : (a b : Arc) → StandsBefore a b → a.source ≡ b.source → a.target ≤ b.target
le_target a b (inl less) same = absurd (omega arith)
le_target a b (inr (also, inl less)) same = omega arith
le_target a b (inr (also, inr (target, tokens))) same = omega arith

eq_true : (m n : ℕ) → m ≡ n → (m == n) ≡ true
eq_true m n e = elim (cases_Bool (m == n)) [
  | inl is ↦ is
  | inr ne ↦ absurd (eqb-false m n ne e)
]

-- an arc with the ends of an arc before it is a further one
pub first_differs : (g : Graph) → IsKept g → (j k : ℕ) → j < k → k < length g.arcs → is_further g k ≡ false
    → (arc_at g j).source ≡ (arc_at g k).source → (arc_at g j).target ≡ (arc_at g k).target → ⊥
first_differs g kept j k less inside not_further source target =
    let none : Arc = record { source = 0; target = 0; tokens = 0 } in
    let last : StandsBefore (arc_at g (k - 1)) (arc_at g k) = kept.sorted (k - 1) k none (omega (arith, less)) inside in
    let first : ((arc_at g j).source ≤ (arc_at g (k - 1)).source) × ((arc_at g j).source ≡ (arc_at g (k - 1)).source → (arc_at g j).target ≤ (arc_at g (k - 1)).target) =
    elim (cases_lt j (k - 1)) [
      | inl low ↦ (let h : StandsBefore (arc_at g j) (arc_at g (k - 1)) = kept.sorted j (k - 1) none low (omega (arith, inside)) in
          (le_source _ _ h, le_target _ _ h))
      | inr high ↦ (let e : j ≡ k - 1 = omega (arith, high, less) in
          let s : (arc_at g j).source ≡ (arc_at g (k - 1)).source = ap (λ (n : ℕ). (arc_at g n).source) e in
          let t : (arc_at g j).target ≡ (arc_at g (k - 1)).target = ap (λ (n : ℕ). (arc_at g n).target) e in
          (omega (arith, s), λ _. omega (arith, t)))
    ] in
    let one = le_source _ _ last in
    let same_source : (arc_at g (k - 1)).source ≡ (arc_at g k).source = omega (arith, one, first.0, source) in
    let other = le_target _ _ last same_source in
    let also = first.1 (source ∙ sym same_source) in
    let same_target : (arc_at g (k - 1)).target ≡ (arc_at g k).target = omega (arith, other, also, target) in
    let is : is_further g k ≡ true = rw (lt-ltb 0 k (omega (arith, less)), eq_true _ _ same_source, eq_true _ _ same_target) refl in
    false≢true (sym not_further ∙ is)

both_true : (a b : Bool) → (a && b) ≡ true → (a ≡ true) × (b ≡ true)
both_true true b e = (refl, e)
both_true false b e = absurd (cc)

-- keys of arcs differ
pub keys_differ : (g : Graph) → IsKept g → length g.arcs ≤ 1048576 → (j k : ℕ) → j < k → k < length g.arcs → key_eq (key_at g k) (key_at g j) ≡ false
keys_differ g kept few j k less inside = elim (cases_Bool (is_further g k)) [
  | inl further ↦ elim (cases_Bool (is_further g j)) [
    | inl also ↦ rw (further, also) (elim (cases_Bool (bytes_eq (place_name k) (place_name j))) [
      | inl same ↦ absurd (let e : k ≡ j = names_differ j k (omega (arith, less, inside, few)) (omega (arith, inside, few)) same in omega (arith, e, less))
      | inr differs ↦ differs
    ])
    | inr first ↦ rw (further, first) refl
  ]
  | inr not_further ↦ elim (cases_Bool (is_further g j)) [
    | inl also ↦ rw (not_further, also) refl
    | inr first ↦ rw (not_further, first) (elim (cases_Bool (((arc_at g k).source == (arc_at g j).source) && ((arc_at g k).target == (arc_at g j).target))) [
      | inl same ↦ absurd (let t = both_true _ _ same in first_differs g kept j k less inside not_further (sym (eqb-true _ _ t.0)) (sym (eqb-true _ _ t.1)))
      | inr differs ↦ differs
    ])
  ]
]

pub key_itself : (key : Key) → key_eq key key ≡ true
key_itself (Named name) = (bytes_eq-Decides name name).1 refl
key_itself (Between u v) = rw (eq_true u u refl, eq_true v v refl) refl
