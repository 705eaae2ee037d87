-- The opening of a node that settles, in a row that remembers.
use Rattle.std.proofs.Common.{◌≡◌, ◌∙◌, ℕ, ◌+◌, ◌-◌, ◌<◌, ◌≤◌, Bool, List, [], length, get_or, map, sym, ap, subst, arith}
use Rattle.std.specs.Prelude.{All, Contains}
use Rattle.std.proofs.lemmas.List.{get_or-map, length-map}
use Rattle.std.proofs.lemmas.List.Elements.{All-contains}
use Rattle.std.proofs.lemmas.List.FromFn.{length-map-range_with_len}
use Rattle.ds_base.specs.Values.{AreKnown, Row}
use Rattle.ds_cover.specs.Cover.{value_at, values_at}
use Rattle.ds_cover.proofs.TableValues.{value_agrees}
use Rattle.ds_design.specs.declared.design.Gate.{Gate}
use Rattle.ds_opening.specs.Reads.{ReadFrom}
use Rattle.ds_opening.specs.Foreseen.{node_at}
use Rattle.ds_opening.specs.Noted.{AreDriven, AreGroupsBefore, HasReads, all_learnt_nets, learnt_nets, nets_of_turn, FindInputs, FindKnown, AreGroupSlots, AreConeGroups, AreRowsLearnt, IsAsForeseen, IsLearnt, AreReadRows, IsSettlingOpening, IsSlot, slots_of}
use Rattle.ds_design.specs.Circuit.{Circuit}
use Rattle.ds_design.specs.InRange.{IsInRange}
use Rattle.ds_design.specs.Run.{row_at}
use Rattle.ds_design.proofs.KnownRuns.{nets_known, state_known}
use Rattle.ds_opening.specs.Groups.{Grouping, IsGrouped, group_of, tables_in}
use Rattle.ds_latch.specs.Node.{Split, IsNode, nets_of, nodes, number_of}
use Rattle.ds_latch.specs.declared.node.Node.{Node}
use Rattle.ds_latch.specs.declared.node.Node.TheVariants.{In, Out, Master, Slave}
use Rattle.ds_latch.specs.Order.{IsDataEdge, IsSource}
use Rattle.ds_latch.specs.Plan.{IsSplit}
use Rattle.ds_latch.proofs.OrderTokens.{number_below}
use Rattle.ds_base.specs.Scratch.{Kept, Memory, Remembers}
use Rattle.ds_settle.specs.Cone.{IsCone, Parts as Cone, nets_of_tables}
use Rattle.ds_opening.specs.Learnt.{is_learnt}
use Rattle.ds_opening.specs.declared.opening.Opening.{Opening}
use Rattle.ds_split.specs.Cones.{cone_place}
use Rattle.ds_split.specs.Settled.{IsSettling}
use Rattle.ds_opening.specs.TurnOfOpenings.{Turn, value_taken}
use Rattle.ds_opening.proofs.ReorderedCones.{cone_finds, these_learnt}
use Rattle.ds_split.proofs.NodeCones.{cone_low}
use Rattle.ds_split.proofs.SettlesNextValue.{sources_agree, turn_value}
use Rattle.ds_opening.proofs.Slots.{slot_of_group, slot_of_source, slots_apart, slots_long}
use Rattle.ds_opening.proofs.ComputesNextValue.{from_is, no_master, no_out, numbers_inside, numbers_within, supplied}

-- what a node that settles reads is IN or a slave
reads_source : (s : Split) (p n : Node) → IsDataEdge s p n → IsSettling n → IsSource p
reads_source s In n edge settling = tt
reads_source s Out n edge settling = no_out s n edge
reads_source s (Master i) n edge settling = no_master s i n edge settling
reads_source s (Slave i) n edge settling = tt

-- stands for a cone where there is none
pub blank_cone : Cone
blank_cone = record { tables = []; sources = [] }

module _ {s : Split} (split : IsSplit s) (range : IsInRange s.circuit)
    (bits : List (List ℕ)) (one_each : length bits ≡ nodes s)
    (nets_are : (n : Node) → IsNode s n → get_or bits (number_of n) [] ≡ nets_of s n)
    {g : Grouping} (are : AreConeGroups s g)
    {o : Opening} {k : Kept} {n : Node} {t : Turn} {m : Memory}
    (opens : IsSettlingOpening s g o k n t m) where
  abbrev pub list : List ℕ
  list = get_or g.lists (cone_place n) []

  abbrev pub foreseen : Row
  foreseen = t.nets t.opened

  -- the numbers of the producers
  abbrev pub numbers : List ℕ
  numbers = map number_of opens.fed.nodes

  abbrev learnt : ℕ → Bool
  learnt = is_learnt (length g.groups) k o.turn

  abbrev cone : Cone
  cone = get_or are.cones (cone_place n) blank_cone

  inside : cone_place n < length are.cones
  inside = (let low : cone_place n < length s.clusters + 1 = cone_low s n opens.at.node opens.at.settling in
      let size : length are.cones ≡ length s.clusters + 1 = are.are_cones.one_each in omega (low, size, arith))

  is_cone : IsCone s.circuit (nets_of s n) cone
  is_cone = are.are_cones.each n opens.at.node opens.at.settling blank_cone

  pub grouped : IsGrouped s.circuit g cone list
  grouped = are.are.each (cone_place n) blank_cone inside

  slots_are_long : length m.slots ≡ length g.groups + nodes s
  slots_are_long = ap (λ (xs : List (List ℕ)). length xs) opens.memory.slots ∙ slots_long s split g

  -- a producer of the node
  record Producer (v : ℕ) : Type 0 where
    node : Node
    is_node : IsNode s node
    edge : IsDataEdge s node n
    is : v ≡ number_of node

  producer : (i d : ℕ) → i < length numbers → Producer (get_or numbers i d)
  producer i d low =
      let near : i < length opens.fed.nodes = omega (length-map opens.fed.nodes number_of, low, arith) in
      let (is_p, edge) = opens.fed.producers.each i In near in
      record {
        node = get_or opens.fed.nodes i In;
        is_node = is_p;
        edge = edge;
        is = get_or-map number_of opens.fed.nodes i In d near;
      }

  slots_inside : All (λ node. length g.groups + node < length k.turns) numbers
  slots_inside i d low =
      let p : Producer (get_or numbers i d) = producer i d low in
      let below : number_of p.node < nodes s = number_below s p.node p.is_node in
      omega (below, p.is, opens.memory.remembers.turns, slots_are_long, arith)

  pub nets_long : length k.nets ≡ length s.circuit.nets
  nets_long = opens.memory.remembers.nets ∙ opens.memory.nets

  slot_is : (slot : ℕ) (these : List ℕ) → slot < length g.groups + nodes s → get_or (slots_of s g) slot [] ≡ these
      → IsSlot m o.turn slot these foreseen
  slot_is slot these low this = record {
    inside = omega (low, slots_are_long, arith);
    is = ap (λ (xs : List (List ℕ)). get_or xs slot []) opens.memory.slots ∙ this;
    distinct = λ a b net one two.
        slots_apart s split g are.cones are.are a b net
        (subst (λ (xs : List (List ℕ)). Contains (get_or xs a []) net) opens.memory.slots one)
        (subst (λ (xs : List (List ℕ)). Contains (get_or xs b []) net) opens.memory.slots two);
    values = opens.memory.values;
  }

  -- there is a slot for each that a group reads
  others_long : length (all_learnt_nets s) ≡ nodes s
  others_long = length-map-range_with_len (λ number. learnt_nets s (node_at number)) 0 (nodes s)

  pub has_reads : HasReads g k
  has_reads = record {
    one_each = are.reads.one_each;
    groups = omega (opens.memory.remembers.turns, slots_are_long, arith);
    stayed = omega (opens.memory.remembers.stayed, opens.memory.remembers.turns, arith);
    slots = λ a i d low.
        let near : get_or (get_or g.reads a []) i d < length g.groups + length (all_learnt_nets s) =
        are.reads.within a i d low in
        omega (near, others_long, opens.memory.remembers.turns, slots_are_long, arith);
  }

  -- the nets of the turn before, as the clocked run has them
  before_is : 1 < o.turn → (net : ℕ)
      → value_at (nets_of_turn m (o.turn - 1)) net ≡ value_at (t.nets (t.opened - 1)) net
  before_is later net = opens.memory.before later net

  drove : 1 < o.turn → (a : ℕ) → AreDriven s.circuit (nets_of_turn m (o.turn - 1)) (group_of g a)
  drove later a k d has =
      let earlier : t.opened - 1 < length t.vectors = omega (opens.fed.below, arith) in
      let inside : k < length s.circuit.tables =
      All-contains (λ n. n < length s.circuit.tables) (group_of g a) k (are.are.within a) has in
      let gate : Gate = get_or s.circuit.tables k d in
      before_is later gate.output
      ∙ ((opens.fed.run.settles (t.opened - 1) earlier).table k d inside
      ∙ sym (value_agrees gate.table (nets_of_turn m (o.turn - 1)) (t.nets (t.opened - 1))
      (λ i e low. before_is later (get_or gate.table.inputs i e))))

  pub groups_before : AreGroupsBefore s.circuit g m o.turn
  groups_before a low = record {
    reads = λ free. subst (λ (slots : List (List ℕ)). ReadFrom s.circuit slots a (get_or g.reads a []) (group_of g a))
        (sym opens.memory.slots) (are.reads.each a free);
    driven = λ later. drove later a;
  }

  pub group_slots : AreGroupSlots s.circuit g m o.turn foreseen
  group_slots a low = slot_is a (nets_of_tables s.circuit (group_of g a)) (omega (low, arith)) (slot_of_group s split g a low)

  -- the slots of the producers, behind those of the groups
  abbrev pub AreNodeSlots : ℕ → Type 0
  AreNodeSlots first = All (λ node. IsSlot m o.turn (first + node) (get_or bits node []) foreseen) numbers

  behind_groups : AreNodeSlots (length g.groups)
  behind_groups i d low =
      let p : Producer (get_or numbers i d) = producer i d low in
      let number : ℕ = number_of p.node in
      let below : number < nodes s = number_below s p.node p.is_node in
      let these : get_or (slots_of s g) (length g.groups + number) [] ≡ get_or bits number [] =
      slot_of_source s split g p.node p.is_node (reads_source s p.node n p.edge opens.at.settling)
      ∙ sym (nets_are p.node p.is_node) in
      subst (λ (v : ℕ). IsSlot m o.turn (length g.groups + v) (get_or bits v []) foreseen) (sym p.is)
      (slot_is (length g.groups + number) (get_or bits number []) (omega (below, arith)) these)

  pub node_slots : (first : ℕ) → first ≡ length g.groups → AreNodeSlots first
  node_slots first first_is = subst AreNodeSlots (sym first_is) behind_groups

  -- what the opening reads
  reads_behind : AreReadRows bits (length g.groups) o k foreseen numbers
  reads_behind = record {
    from = from_is s split bits one_each nets_are n o.number opens.at learnt o.from.now t opens.fed;
    inside = numbers_inside s split bits one_each nets_are n o.number opens.at learnt o.from.now t opens.fed;
    within = numbers_within s split bits one_each nets_are n o.number opens.at learnt o.from.now t opens.fed range k.nets nets_long;
    slots = slots_inside;
  }

  pub reads : (first : ℕ) → first ≡ length g.groups → AreReadRows bits first o k foreseen numbers
  reads first first_is = subst (λ (f : ℕ). AreReadRows bits f o k foreseen numbers) (sym first_is) reads_behind

  module _ (filled : Kept) (rows : AreRowsLearnt m foreseen bits numbers filled) where
    sources : All (IsAsForeseen foreseen filled.nets) cone.sources
    sources = sources_agree s split t.vectors t.state t.nets opens.fed.run n opens.at.node opens.at.settling t.opened opens.fed.below
        cone is_cone filled.nets filled.nets
        (supplied s split bits one_each nets_are n o.number opens.at learnt o.from.now t opens.fed filled.nets rows.learnt)

    pub list_finds : FindInputs s.circuit foreseen (IsAsForeseen foreseen filled.nets) (tables_in g list)
    list_finds = cone_finds s.circuit (nets_of s n) cone is_cone (tables_in g list) grouped.order grouped.same
        (t.state t.opened) (row_at t.vectors t.opened) foreseen (opens.fed.run.settles t.opened opens.fed.below) filled.nets sources

    pub value : (settled : Kept)
        → IsLearnt m foreseen (nets_of_tables s.circuit (tables_in g list)) filled settled
        → values_at settled.nets (nets_of s n) ≡ value_taken s t n
    value settled set =
        these_learnt s.circuit (nets_of s n) cone is_cone (tables_in g list) grouped.order grouped.same
        foreseen filled.nets settled.nets sources set.learns
        ∙ turn_value s split t.vectors t.state t.nets opens.fed.run n opens.at.node opens.at.settling t.opened opens.fed.below

    -- what setting the groups of a list gives
    abbrev pub Sets : Kept → Circuit → List ℕ → Type 0
    Sets settled net xs = AreGroupSlots net g m o.turn foreseen → AreGroupsBefore net g m o.turn
        → FindInputs net foreseen (IsAsForeseen foreseen filled.nets) (tables_in g xs) → Remembers m filled
        → IsLearnt m foreseen (nets_of_tables net (tables_in g xs)) filled settled

    pub settled_is : (settled : Kept) (net : Circuit) → net ≡ s.circuit → (xs : List ℕ) → xs ≡ list
        → Sets settled net xs → IsLearnt m foreseen (nets_of_tables s.circuit (tables_in g list)) filled settled
    settled_is settled net net_is xs xs_is sets =
        subst (λ (c : Circuit). Sets settled c list) net_is (subst (Sets settled net) xs_is sets)
        group_slots groups_before list_finds rows.remembers

    -- on a run of known values they find known values
    pub find_known : AreKnown s.initial × All AreKnown t.vectors → (net : Circuit) → net ≡ s.circuit → (xs : List ℕ) → xs ≡ list
        → FindKnown net g o.turn xs filled
    find_known all_known net net_is xs xs_is =
        let known_at : (k : ℕ) → k ≤ length t.vectors → AreKnown (t.state k) =
        state_known s.circuit split.accepted s.initial t.vectors all_known.0 all_known.1 t.state t.nets opens.fed.run in
        subst (λ (c : Circuit). FindKnown c g o.turn xs filled) (sym net_is)
        (subst (λ (ns : List ℕ). FindKnown s.circuit g o.turn ns filled) (sym xs_is) (record {
          memory = m;
          foreseen = foreseen;
          sure = nets_known s.circuit split.accepted s.initial t.vectors all_known.0 all_known.1 t.state t.nets opens.fed.run t.opened opens.fed.below
              (known_at t.opened (let low : t.opened < length t.vectors = opens.fed.below in omega (low, arith)));
          slots = group_slots;
          before = groups_before;
          finds = list_finds;
          remembers = rows.remembers;
        }))
