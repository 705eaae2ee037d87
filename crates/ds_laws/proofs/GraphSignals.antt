-- The signals of a graph that is printed: names of letters and digits, which the reader takes.
use Rattle.std.proofs.Common.{◌≡◌, ◌≢◌, ◌∙◌, ◌==◌, ◌||◌, ◌&&◌, ℕ, zero, suc, ◌+◌, ◌-◌, ◌*◌, ◌<◌, ◌≤◌, ◌^◌, Bool, true, false, not, List, [], ◌∷◌, ◌++◌, length, get_or, Ok, refl, arith, ap, sym, subst}
use Rattle.std.specs.Prelude.{All, AllPairs, codes, decimal}
use Rattle.std.specs.List.{AllByRecursion, flat_map, range_with_len}
use Rattle.std.proofs.lemmas.Bool.{false≢true}
use Rattle.std.proofs.lemmas.List.Concat.{flat_map-append}
use Rattle.std.proofs.lemmas.List.Elements.{All-from_recursion}
use Rattle.ds_lines.specs.Line.{lines_of}
use Rattle.ds_lines.specs.Print.{HasNo}
use Rattle.ds_lines.proofs.ByteClasses.{lacks_at, lacks_cons, lacks_less, neither, number_without, some_bytes}
use Rattle.ds_lines.proofs.UncutWords.{AreClean, IsClean, is_cut}
use Rattle.ds_marked.specs.Graph.{Graph, IsKept}
use Rattle.ds_marked.specs.Log.{event_text}
use Rattle.ds_marked.specs.declared.marked.Event.{Event}
use Rattle.ds_marked.specs.declared.marked.Kind.TheVariants.{Rise}
use Rattle.ds_latch.specs.Node.{Split}
use Rattle.ds_latch.specs.declared.node.Node.TheVariants.{Master, Slave}
use Rattle.ds_latch.specs.Plan.{node_name, split_events}
use Rattle.ds_shake.specs.Expansion.{acknowledge_name, expanded_events, request_name}
use Rattle.ds_shake.specs.declared.handshake.Handshake.{Handshake}
use Rattle.ds_shake.proofs.FlatMapLemmas.{length_flat}
use Rattle.ds_astg.specs.Read.{events_of_signal, graph_of_lines}
use Rattle.ds_astg.specs.Text.{graph_text}
use Rattle.ds_astg.specs.Word.{first_byte, has_reserved, has_slash, is_reserved, is_signal, is_signed, is_slash, last_byte}
use Rattle.ds_text_laws.specs.AstgText.{IsReadable}
use Rattle.ds_text_laws.proofs.GraphTextLines.{written_text_is_read}
use Rattle.ds_stage.proofs.LineWords.{both_all}
use Rattle.ds_laws.proofs.ModelName.{IsPrintable}
use Rattle.ds_laws.proofs.GraphLines.{clean_behind, graph_plain}

-- a byte that stands in no such name: one that is cut, `/`, one of `~ < > , { } =`, a sign, a dot
abbrev is_odd : ℕ → Bool
is_odd byte = is_cut byte || (is_slash byte || (is_reserved byte || ((byte == 43) || ((byte == 45) || (byte == 46)))))

-- a name without such bytes
record IsFair (name : List ℕ) : Type 0 where
  some : 0 < length name
  none : HasNo is_odd name

-- such names
abbrev AreFair : List (List ℕ) → Type 0
AreFair names = AllByRecursion IsFair names

-- what such a byte is not
odd_cut : (byte : ℕ) → is_odd byte ≡ false → is_cut byte ≡ false
odd_cut byte none = (neither (is_cut byte) _ none).0

-- nor is it `/`
odd_slash : (byte : ℕ) → is_odd byte ≡ false → is_slash byte ≡ false
odd_slash byte none = (neither (is_slash byte) _ (neither (is_cut byte) _ none).1).0

-- nor one of the reserved bytes
odd_reserved : (byte : ℕ) → is_odd byte ≡ false → is_reserved byte ≡ false
odd_reserved byte none = (neither (is_reserved byte) _ (neither (is_slash byte) _ (neither (is_cut byte) _ none).1).1).0

-- nor `+`
odd_plus : (byte : ℕ) → is_odd byte ≡ false → (byte == 43) ≡ false
odd_plus byte none = (neither (byte == 43) _ (neither (is_reserved byte) _ (neither (is_slash byte) _ (neither (is_cut byte) _ none).1).1).1).0

-- nor `-`
odd_minus : (byte : ℕ) → is_odd byte ≡ false → (byte == 45) ≡ false
odd_minus byte none =
    (neither (byte == 45) _ (neither (byte == 43) _ (neither (is_reserved byte) _ (neither (is_slash byte) _ (neither (is_cut byte) _ none).1).1).1).1).0

-- nor a dot
odd_dot : (byte : ℕ) → is_odd byte ≡ false → (byte == 46) ≡ false
odd_dot byte none =
    (neither (byte == 45) _ (neither (byte == 43) _ (neither (is_reserved byte) _ (neither (is_slash byte) _ (neither (is_cut byte) _ none).1).1).1).1).1

-- such a name is clean, and a signal that begins with no dot
fair_clean : (name : List ℕ) → IsFair name → IsClean name
fair_clean name fair = record { some = some_bytes name fair.some; none = lacks_less is_odd is_cut odd_cut name fair.none }

-- where none of three tests holds
not_both : (a b c : Bool) → a ≡ false → b ≡ false → c ≡ false → (not a && (not b && not c)) ≡ true
not_both a b c x y z = rw (x, y, z) refl

-- such a name has no sign at its end
unsigned : (name : List ℕ) → IsFair name → is_signed name ≡ false
unfolding is_signed
unsigned name fair =
    let some : 0 < length name = fair.some in
    let last : is_odd (last_byte name) ≡ false = lacks_at is_odd name (length name - 1) (omega (arith, some)) fair.none in
    rw (odd_plus (last_byte name) last, odd_minus (last_byte name) last) refl

-- so it is a signal
fair_signal : (name : List ℕ) → IsFair name → is_signal name ≡ true
fair_signal name fair =
    not_both (has_slash name) (has_reserved name) (is_signed name) (lacks_less is_odd is_slash odd_slash name fair.none)
    (lacks_less is_odd is_reserved odd_reserved name fair.none) (unsigned name fair)

-- and begins with no dot
fair_undotted : (name : List ℕ) → IsFair name → first_byte name ≢ 46
fair_undotted name fair dot =
    let other : (first_byte name == 46) ≡ false = odd_dot (first_byte name) (lacks_at is_odd name 0 fair.some fair.none) in
    let same : (first_byte name == 46) ≡ true = ap (λ (byte : ℕ). byte == 46) dot in
    false≢true (sym other ∙ same)

-- a letter with a number
fair_number : (byte n : ℕ) → is_odd byte ≡ false → n < 2 ^ 64 → IsFair (byte ∷ decimal n)
unfolding is_reserved
fair_number byte n other small =
    record { some = omega arith; none = lacks_cons is_odd byte (decimal n) other (number_without is_odd refl n small).none }

-- the name of a master
master_fair : (i : ℕ) → i < 2 ^ 64 → IsFair (node_name (Master i))
unfolding is_reserved
master_fair i small = fair_number 77 i refl small

-- of a slave
slave_fair : (i : ℕ) → i < 2 ^ 64 → IsFair (node_name (Slave i))
unfolding is_reserved
slave_fair i small = fair_number 83 i refl small

-- of a request
request_fair : (j : ℕ) → j < 2 ^ 64 → IsFair (request_name j)
unfolding is_reserved
request_fair j small = fair_number 114 j refl small

-- of an acknowledge
acknowledge_fair : (j : ℕ) → j < 2 ^ 64 → IsFair (acknowledge_name j)
unfolding is_reserved
acknowledge_fair j small = fair_number 97 j refl small

-- of the inputs
in_fair : IsFair (codes "IN")
unfolding is_reserved
in_fair = record { some = omega arith; none = refl }

-- of the outputs
out_fair : IsFair (codes "OUT")
unfolding is_reserved
out_fair = record { some = omega arith; none = refl }

-- the names of the nodes, and of the handshakes
abbrev cluster_names : ℕ → List (List ℕ)
cluster_names i = node_name (Master i) ∷ node_name (Slave i) ∷ []

-- of all nodes
abbrev pub node_names : ℕ → List (List ℕ)
node_names count = codes "IN" ∷ codes "OUT" ∷ flat_map cluster_names (range_with_len 0 count)

-- of a handshake
abbrev edge_names : Handshake → List (List ℕ)
edge_names h = request_name h.number ∷ acknowledge_name h.number ∷ []

-- of the nodes and the handshakes
abbrev pub all_names : ℕ → List Handshake → List (List ℕ)
all_names count all = node_names count ++ flat_map edge_names all

-- those of the clusters are such names
clusters_fair : (a n : ℕ) → a + n ≤ 2 ^ 64 → AreFair (flat_map cluster_names (range_with_len a n))
clusters_fair a zero few = tt
clusters_fair a (suc n) few =
    (master_fair a (omega (arith, few)), (slave_fair a (omega (arith, few)), clusters_fair (a + 1) n (omega (arith, few))))

-- those of the nodes
nodes_fair : (count : ℕ) → count ≤ 2 ^ 64 → AreFair (node_names count)
nodes_fair count few = (in_fair, (out_fair, clusters_fair 0 count (omega (arith, few))))

-- those of the handshakes
edges_fair : (all : List Handshake) → All (λ h. h.number < 2 ^ 64) all → AreFair (flat_map edge_names all)
edges_fair [] small = tt
edges_fair (h ∷ all) small =
    let first : h.number < 2 ^ 64 = small 0 h (omega arith) in
    (request_fair h.number first, (acknowledge_fair h.number first, edges_fair all (λ k d inside. small (suc k) d (omega (arith, inside)))))

-- their events are those of the nodes, and of the handshakes
two_signals : {X : Type 0} (a b : X → List ℕ) (xs : List X)
    → flat_map events_of_signal (flat_map (λ x. a x ∷ b x ∷ []) xs) ≡ flat_map (λ x. events_of_signal (a x) ++ events_of_signal (b x)) xs
two_signals a b [] = refl
two_signals a b (x ∷ xs) = ap (λ (es : List Event). events_of_signal (a x) ++ events_of_signal (b x) ++ es) (two_signals a b xs)

-- of the nodes
pub node_signals : (s : Split) → flat_map events_of_signal (node_names (length s.clusters)) ≡ split_events s
node_signals s =
    ap (λ (es : List Event). events_of_signal (codes "IN") ++ events_of_signal (codes "OUT") ++ es)
    (two_signals (λ i. node_name (Master i)) (λ i. node_name (Slave i)) (range_with_len 0 (length s.clusters)))

-- of the nodes and the handshakes
pub all_signals : (s : Split) (all : List Handshake) → flat_map events_of_signal (all_names (length s.clusters) all) ≡ expanded_events s all
all_signals s all =
    flat_map-append events_of_signal (node_names (length s.clusters)) (flat_map edge_names all)
    ∙ (ap (λ (es : List Event). es ++ flat_map events_of_signal (flat_map edge_names all)) (node_signals s)
    ∙ ap (λ (es : List Event). split_events s ++ es) (two_signals (λ (h : Handshake). request_name h.number) (λ (h : Handshake). acknowledge_name h.number) all))

-- two for each signal
pub signals_long : (signals : List (List ℕ)) → length (flat_map events_of_signal signals) ≡ 2 * length signals
signals_long signals = length_flat events_of_signal 2 (λ signal. refl) signals

-- where no event stands twice, no signal does
rise_at : (signals : List (List ℕ)) (i : ℕ) (d : Event) (w : List ℕ) → i < length signals
    → get_or (flat_map events_of_signal signals) (2 * i) d ≡ record { signal = get_or signals i w; kind = Rise }
rise_at [] i d w inside = absurd (omega (arith, inside))
rise_at (signal ∷ signals) zero d w inside = refl
rise_at (signal ∷ signals) (suc i) d w inside =
    let at : 2 * suc i ≡ suc (suc (2 * i)) = omega arith in
    ap (λ (k : ℕ). get_or (flat_map events_of_signal (signal ∷ signals)) k d) at ∙ rise_at signals i d w (omega (arith, inside))

-- two signals that are the same would have the same events
distinct : (signals : List (List ℕ)) → AllPairs (λ a b. a ≢ b) (flat_map events_of_signal signals) → AllPairs (λ a b. a ≢ b) signals
distinct signals once i j w below inside same =
    let d : Event = record { signal = []; kind = Rise } in
    let long : length (flat_map events_of_signal signals) ≡ 2 * length signals = signals_long signals in
    once (2 * i) (2 * j) d (omega (arith, below)) (omega (arith, inside, long))
    (rise_at signals i d w (omega (arith, below, inside)) ∙ (ap (λ (signal : List ℕ). let e : Event = record { signal = signal; kind = Rise } in e) same ∙ sym (rise_at signals j d w inside)))

-- what holds of each holds also so
each_less : {X : Type 0} (P Q : X → Type 0) → ((x : X) → P x → Q x) → (xs : List X) → AllByRecursion P xs → AllByRecursion Q xs
each_less P Q less [] all = tt
each_less P Q less (x ∷ xs) (here, all) = (less x here, each_less P Q less xs all)

-- the events of such names are clean words
events_clean : (signals : List (List ℕ)) → AreFair signals → AllByRecursion (λ (e : Event). IsClean (event_text e)) (flat_map events_of_signal signals)
events_clean [] are = tt
events_clean (signal ∷ signals) (fair, are) =
    (clean_behind signal (codes "+") (fair_clean signal fair) refl, (clean_behind signal (codes "-") (fair_clean signal fair) refl, events_clean signals are))

-- the text of a graph of such signals stands for it
module _ (g : Graph) (kept : IsKept g) (few_arcs : length g.arcs ≤ 1048576) (tokens : All (λ arc. arc.tokens < 256) g.arcs)
    (signals : List (List ℕ)) (events : g.events ≡ flat_map events_of_signal signals) (few : length signals ≤ 65536) where
  readable : AreFair signals → IsReadable signals g
  readable are = record {
    events = events;
    distinct = distinct signals (subst (AllPairs (λ (a b : Event). a ≢ b)) events kept.once);
    names = All-from_recursion (λ signal. is_signal signal ≡ true) signals (each_less IsFair (λ signal. is_signal signal ≡ true) fair_signal signals are);
    undotted = All-from_recursion (λ signal. first_byte signal ≢ 46) signals (each_less IsFair (λ signal. first_byte signal ≢ 46) fair_undotted signals are);
    some = All-from_recursion (λ signal. 0 < length signal) signals (each_less IsFair (λ signal. 0 < length signal) (λ name fair. fair.some) signals are);
    few = few;
    kept = kept;
    few_arcs = few_arcs;
    tokens = tokens;
  }

  -- the text is read as the graph
  fair_read : AreFair signals → (name : List ℕ) → IsPrintable name → (own : ℕ) → graph_of_lines (lines_of (graph_text name own g)) ≡ Ok g
  fair_read are name printable own =
      let clean : All (λ (e : Event). IsClean (event_text e)) g.events =
      subst (All (λ (e : Event). IsClean (event_text e))) (sym events) (All-from_recursion (λ (e : Event). IsClean (event_text e)) (flat_map events_of_signal signals) (events_clean signals are)) in
      let names : AreClean signals = each_less IsFair IsClean fair_clean signals are in
      written_text_is_read name own signals g (readable are)
      (graph_plain g kept few_arcs tokens clean name printable.word printable.uncut own signals names)

-- so it is of the signals of the nodes
pub nodes_read : (s : Split) (g : Graph) → IsKept g → length g.arcs ≤ 1048576 → All (λ arc. arc.tokens < 256) g.arcs
    → length s.clusters ≤ 4096 → g.events ≡ split_events s
    → (name : List ℕ) → IsPrintable name → (own : ℕ) → graph_of_lines (lines_of (graph_text name own g)) ≡ Ok g
nodes_read s g kept few_arcs tokens few events name printable own =
    let signals : List (List ℕ) = node_names (length s.clusters) in
    let same : g.events ≡ flat_map events_of_signal signals = events ∙ sym (node_signals s) in
    let long : length signals ≡ 2 * length s.clusters + 2 = clusters_long 0 (length s.clusters) in
    fair_read g kept few_arcs tokens signals same (omega (arith, long, few)) (nodes_fair (length s.clusters) (omega (arith, few))) name printable own
  where
    clusters_long : (a n : ℕ) → length (codes "IN" ∷ codes "OUT" ∷ flat_map cluster_names (range_with_len a n)) ≡ 2 * n + 2
    clusters_long a zero = refl
    clusters_long a (suc n) = let rest = clusters_long (a + 1) n in omega (arith, rest)

-- and of these with those of the handshakes
pub edges_read : (s : Split) (all : List Handshake) (g : Graph) → IsKept g → length g.arcs ≤ 1048576 → All (λ arc. arc.tokens < 256) g.arcs
    → length s.clusters ≤ 4096 → All (λ h. h.number < 2 ^ 64) all → g.events ≡ expanded_events s all → length g.events ≤ 131072
    → (name : List ℕ) → IsPrintable name → (own : ℕ) → graph_of_lines (lines_of (graph_text name own g)) ≡ Ok g
edges_read s all g kept few_arcs tokens few small events fit name printable own =
    let signals : List (List ℕ) = all_names (length s.clusters) all in
    let same : g.events ≡ flat_map events_of_signal signals = events ∙ sym (all_signals s all) in
    let long : length (flat_map events_of_signal signals) ≡ 2 * length signals = signals_long signals in
    let size : length g.events ≡ length (flat_map events_of_signal signals) = ap (λ (es : List Event). length es) same in
    fair_read g kept few_arcs tokens signals same (omega (arith, long, size, fit))
    (both_all IsFair (node_names (length s.clusters)) (flat_map edge_names all) (nodes_fair (length s.clusters) (omega (arith, few))) (edges_fair all small)) name printable own
