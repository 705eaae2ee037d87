-- The events of an expansion are distinct: by letter, by number, and by what they do.
use Rattle.std.proofs.Common.{◌≡◌, ◌≢◌, ℕ, ◌+◌, ◌*◌, ◌<◌, ◌≤◌, List, [], ◌∷◌, ◌++◌, length, get_or, ap, sym, ◌∙◌, arith, All, AllPairs}
use Rattle.std.specs.List.{flat_map, range_with_len}
use Rattle.std.specs.Fmt.{decimal}
use Rattle.std.specs.Str.Parse.{digits_value}
use Rattle.std.proofs.lemmas.Fmt.{decimal_is_IsNumeral}
use Rattle.std.proofs.lemmas.List.Elements.{All-append}
use Rattle.ds_marked.specs.declared.marked.Event.{Event}
use Rattle.ds_marked.specs.declared.marked.Kind.{Kind}
use Rattle.ds_marked.specs.declared.marked.Kind.TheVariants.{Rise, Fall, Dummy}
use Rattle.ds_latch.specs.Node.{Split, nodes}
use Rattle.ds_latch.specs.declared.node.Node.TheVariants.{In, Out, Master, Slave}
use Rattle.ds_latch.specs.Plan.{node_events, split_events}
use Rattle.ds_control.proofs.DistinctEvents.{events_once}
use Rattle.ds_control.proofs.TwoForEach.{pairs_append}
use Rattle.ds_shake.specs.Expansion.{acknowledge_name, expanded_events, handshake_events, request_name}
use Rattle.ds_shake.specs.Handshakes.{AreHandshakes}
use Rattle.ds_shake.specs.declared.handshake.Handshake.{Handshake}
use Rattle.ds_shake.proofs.FlatMapLemmas.{Across, all_each, all_flat, pairs_each, pairs_flat}

-- the letter of a name
abbrev pub letter : List ℕ → ℕ
letter [] = 0
letter (c ∷ digits) = c

-- the number behind the letter
abbrev pub number : List ℕ → ℕ
number [] = 0
number (c ∷ digits) = digits_value 10 digits

abbrev pub side : Kind → ℕ
side Rise = 0
side Fall = 1
side Dummy = 0

-- the four events of a handshake tell its number
numbers_of : (h : Handshake) → h.number ≤ 65536 → All (λ e. number e.signal ≡ h.number) (handshake_events h)
numbers_of h low =
    let value : digits_value 10 (decimal h.number) ≡ h.number = (decimal_is_IsNumeral h.number (omega (low, arith))).1 in
    all_each (λ e. number e.signal ≡ h.number) (handshake_events h) (value, (value, (value, (value, tt))))

abbrev record_of : List ℕ → Kind → Event
record_of signal kind = record { signal = signal; kind = kind }

-- and are apart from each other
four_differ : (h : Handshake) → AllPairs (λ a b. a ≢ b) (handshake_events h)
four_differ h = pairs_each (λ a b. a ≢ b) (handshake_events h) ((by_side, (by_letter, (by_letter, tt))), ((by_letter, (by_letter, tt)), ((by_side, tt), (tt, tt))))
  where
    by_side : {n m : List ℕ} → record_of n Rise ≢ record_of m Fall
    by_side e = (let f : 0 ≡ 1 = ap (λ (x : Event). side x.kind) e in absurd (omega (f, arith)))

    by_letter : {k l : Kind} → record_of (request_name h.number) k ≢ record_of (acknowledge_name h.number) l
    by_letter e = (let f : 114 ≡ 97 = ap (λ (x : Event). letter x.signal) e in absurd (omega (f, arith)))

across_differ : (x y : Handshake) → x.number ≤ 65536 → y.number ≤ 65536 → x.number ≢ y.number → Across handshake_events (λ a b. a ≢ b) x y
across_differ x y low high ne i a below j b inside e =
    let one : number (get_or (handshake_events x) i a).signal ≡ x.number = numbers_of x low i a below in
    let two : number (get_or (handshake_events y) j b).signal ≡ y.number = numbers_of y high j b inside in
    ne (sym one ∙ (ap (λ (x : Event). number x.signal) e ∙ two))

-- the letters of nodes stand before those of handshakes
node_letters : (s : Split) → All (λ e. letter e.signal < 97) (split_events s)
node_letters s = All-append (λ e. letter e.signal < 97) (node_events In ++ node_events Out) _
    (all_each (λ e. letter e.signal < 97) (node_events In ++ node_events Out) (omega arith, (omega arith, (omega arith, (omega arith, tt)))))
    (all_flat (λ i. node_events (Master i) ++ node_events (Slave i)) (λ e. letter e.signal < 97) (range_with_len 0 (length s.clusters))
    (λ k d inside. all_each (λ e. letter e.signal < 97) (node_events (Master (get_or (range_with_len 0 (length s.clusters)) k d)) ++ node_events (Slave (get_or (range_with_len 0 (length s.clusters)) k d)))
    (omega arith, (omega arith, (omega arith, (omega arith, tt))))))

handshake_letters : (all : List Handshake) → All (λ e. 97 ≤ letter e.signal) (flat_map handshake_events all)
handshake_letters all = all_flat handshake_events (λ e. 97 ≤ letter e.signal) all
    (λ k d inside. all_each (λ e. 97 ≤ letter e.signal) (handshake_events (get_or all k d)) (omega arith, (omega arith, (omega arith, (omega arith, tt)))))

module _ (s : Split) (all : List Handshake) (are : AreHandshakes s all) (few : nodes s + 2 * length all ≤ 65536) where
  pub expanded_once : AllPairs (λ a b. a ≢ b) (expanded_events s all)
  expanded_once = pairs_append (λ a b. a ≢ b) (split_events s) (flat_map handshake_events all) (events_once s (omega (few, arith)))
      (pairs_flat handshake_events (λ a b. a ≢ b) all (λ k d inside. four_differ (get_or all k d))
      (λ i j d below inside.
      let one : (get_or all i d).number ≡ i = are.numbered i (omega (below, inside, arith)) d in
      let two : (get_or all j d).number ≡ j = are.numbered j inside d in
      across_differ (get_or all i d) (get_or all j d) (omega (one, below, inside, few, arith)) (omega (two, inside, few, arith)) (λ e. absurd (omega (e, one, two, below, arith)))))
      (λ i a below j b inside e.
      let one : letter (get_or (split_events s) i a).signal < 97 = node_letters s i a below in
      let two : 97 ≤ letter (get_or (flat_map handshake_events all) j b).signal = handshake_letters all j b inside in
      let same : letter (get_or (split_events s) i a).signal ≡ letter (get_or (flat_map handshake_events all) j b).signal = ap (λ (x : Event). letter x.signal) e in
      absurd (omega (one, two, same, arith)))
