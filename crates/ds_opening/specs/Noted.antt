-- Openings in a row that remembers.
use Rattle.std.specs.Prelude.{◌≡◌, ◌≢◌, ◌⊎◌, ⊤, ℕ, ◌+◌, ◌-◌, ◌<◌, ◌≤◌, List, [], ◌∷◌}
use Rattle.std.specs.Prelude.{false, length, map, true, All, Contains, slice_index}
use Rattle.std.specs.Prelude.{slice_index_or}
use Rattle.std.specs.List.{range_with_len}
use Rattle.ds_base.specs.Values.{AreKnown, Row}
use Rattle.ds_base.specs.declared.value.Value.TheVariants.{Unknown}
use Rattle.ds_cover.specs.Cover.{value_at, value_of}
use Rattle.ds_design.specs.Circuit.{Circuit}
use Rattle.ds_design.specs.declared.design.Gate.{Gate}
use Rattle.ds_opening.specs.Groups.{AreGroupsOf, Grouping, group_of, tables_in}
use Rattle.ds_opening.specs.Reads.{AreReads, ReadFrom, slots_with}
use Rattle.ds_latch.specs.Node.{Split, nets_of, nodes}
use Rattle.ds_latch.specs.declared.node.Node.{Node}
use Rattle.ds_latch.specs.declared.node.Node.TheVariants.{In, Out, Master, Slave}
use Rattle.ds_base.specs.Scratch.{Kept, Memory, Remembers, value_in}
use Rattle.ds_settle.specs.Cone.{Parts as Cone, net_of, nets_of_tables}
use Rattle.ds_split.specs.Cones.{AreCones, IsSettlingAt}
use Rattle.ds_opening.specs.Foreseen.{node_at}
use Rattle.ds_opening.specs.Learnt.{is_learnt}
use Rattle.ds_opening.specs.Packed.{AreInside, AreLearnt, Learns, packed_rows}
use Rattle.ds_opening.specs.TurnOfOpenings.{IsFed, IsOpeningOf, Turn}
use Rattle.ds_opening.specs.declared.opening.Opening.{Opening}

-- what others learn of a node as they settle: the nets of IN and of a slave
abbrev pub learnt_nets : Split → Node → List ℕ
learnt_nets s In = nets_of s In
learnt_nets s Out = []
learnt_nets s (Master i) = []
learnt_nets s (Slave i) = nets_of s (Slave i)

-- the same of each node
abbrev pub all_learnt_nets : Split → List (List ℕ)
all_learnt_nets s = map (λ number. learnt_nets s (node_at number)) (range_with_len 0 (nodes s))

-- the groups of the cones of the nodes that settle, and the slots that each group reads
pub record AreConeGroups (s : Split) (g : Grouping) : Type 0 where
  pub cones : List Cone
  pub are_cones : AreCones s cones
  pub are : AreGroupsOf s.circuit cones g
  pub reads : AreReads s.circuit (all_learnt_nets s) g

-- the slots: what the tables of each group drive, and what others learn of each node
abbrev pub slots_of : Split → Grouping → List (List ℕ)
slots_of s g = slots_with s.circuit g (all_learnt_nets s)

-- no net is in two slots
abbrev pub AreSlotsApart : List (List ℕ) → Type 0
AreSlotsApart slots = (a b net : ℕ) → Contains (slice_index_or slots a []) net
    → Contains (slice_index_or slots b []) net → a ≡ b

-- a slot has these nets and no other slot has one of them; in the turn they have foreseen values
pub record IsSlot (m : Memory) (turn slot : ℕ) (these : List ℕ) (foreseen : Row) : Type 0 where
  pub inside : slot < length m.slots
  pub is : slice_index_or m.slots slot [] ≡ these
  pub distinct : AreSlotsApart m.slots
  pub values : (net : ℕ) → value_in m turn net ≡ value_at foreseen net

-- each group has its slot
abbrev pub AreGroupSlots : Circuit → Grouping → Memory → ℕ → Row → Type 0
AreGroupSlots c g m turn foreseen = (a : ℕ) → a < length g.groups
    → IsSlot m turn a (nets_of_tables c (group_of g a)) foreseen

-- these slots are all noted for this turn and as ones that have stayed
abbrev pub HaveStayed : ℕ → Kept → List ℕ → Type 0
HaveStayed turn k slots = All (λ s. (slice_index k.turns s ≡ turn)
    × (slice_index_or k.stayed s false ≡ true)) slots

-- a group is noted for the turn before, and what it reads has stayed since
pub record KeepsGroup (g : Grouping) (turn a : ℕ) (k : Kept) : Type 0 where
  pub later : 1 < turn
  pub noted : slice_index k.turns a ≡ turn - 1
  pub stayed : HaveStayed turn k (slice_index_or g.reads a [])

-- a net is as foreseen
abbrev pub IsAsForeseen : Row → Row → ℕ → Type 0
IsAsForeseen foreseen nets net = value_at nets net ≡ value_at foreseen net

-- as many nets and as many slots
pub record IsAsLong (old new : Kept) : Type 0 where
  pub nets : length new.nets ≡ length old.nets
  pub turns : length new.turns ≡ length old.turns
  pub stayed : length new.stayed ≡ length old.stayed

-- the values of all nets in a turn
abbrev pub nets_of_turn : Memory → ℕ → Row
nets_of_turn m turn = slice_index_or m.rows (turn - 1) []

-- in the turn each of these tables drove what it computes
abbrev pub AreDriven : Circuit → Row → List ℕ → Type 0
AreDriven c nets tables = (k : ℕ) (d : Gate) → Contains tables k
    → let t = slice_index_or c.tables k d in value_at nets t.output ≡ value_of t.table nets

-- where a group's own slot is not in its list, what it reads is in the slots of the list; and in
-- the turn before its tables drove what they compute
pub record IsGroupBefore (c : Circuit) (g : Grouping) (m : Memory) (turn a : ℕ) : Type 0 where
  pub reads : ¬ Contains (slice_index_or g.reads a []) a
      → ReadFrom c m.slots a (slice_index_or g.reads a []) (group_of g a)
  pub driven : 1 < turn → AreDriven c (nets_of_turn m (turn - 1)) (group_of g a)

-- the same of each group
abbrev pub AreGroupsBefore : Circuit → Grouping → Memory → ℕ → Type 0
AreGroupsBefore c g m turn = (a : ℕ) → a < length g.groups → IsGroupBefore c g m turn a

-- each group has a list of slots, and these are there
pub record HasReads (g : Grouping) (k : Kept) : Type 0 where
  pub one_each : length g.reads ≡ length g.groups
  pub groups : length g.groups ≤ length k.turns
  pub stayed : length k.stayed ≡ length k.turns
  pub slots : (a : ℕ) → All (λ s. s < length k.turns) (slice_index_or g.reads a [])

-- these nets are as foreseen, and so is each that was so, and what is noted is remembered
pub record IsLearnt (m : Memory) (foreseen : Row) (these : List ℕ) (old new : Kept) : Type 0 where
  pub remembers : Remembers m new
  pub learns : Learns foreseen these old.nets new.nets

-- the nets of these nodes are as foreseen, and what is noted is remembered
pub record AreRowsLearnt (m : Memory) (foreseen : Row) (bits : List (List ℕ)) (numbers : List ℕ)
    (new : Kept) : Type 0 where
  pub remembers : Remembers m new
  pub learnt : AreLearnt foreseen bits numbers new.nets

-- the opening reads the rows of those of these nodes that are not learnt, on foreseen nets, and
-- each node has its slot
pub record AreReadRows (bits : List (List ℕ)) (first : ℕ) (o : Opening) (k : Kept) (foreseen : Row)
    (nodes : List ℕ) : Type 0 where
  pub from : o.from.now ≡ packed_rows (is_learnt first k o.turn) foreseen bits nodes
  pub inside : All (λ node. node < length bits) nodes
  pub within : All (λ node. AreInside (slice_index_or bits node []) k.nets) nodes
  pub slots : All (λ node. first + node < length k.turns) nodes

-- each of these tables reads what P holds of or what an earlier one drives, and the foreseen values
-- are those of the tables
abbrev pub FindInputs : Circuit → Row → (ℕ → Type 0) → List ℕ → Type 0
FindInputs c foreseen P [] = ⊤
FindInputs c foreseen P (k ∷ ks) = ((d : Gate) → let t = slice_index_or c.tables k d in
    (value_at foreseen t.output ≡ value_of t.table foreseen) × All P t.table.inputs)
    × FindInputs c foreseen (λ net. P net ⊎ (net ≡ net_of c k)) ks

-- what these groups read, each when it is set, is as foreseen in a row that remembers, and of
-- the foreseen row no value is unknown
pub record FindKnown (c : Circuit) (g : Grouping) (turn : ℕ) (list : List ℕ) (k : Kept) : Type 0
  where
    pub memory : Memory
    pub foreseen : Row
    pub sure : (net : ℕ) → value_at foreseen net ≢ Unknown
    pub slots : AreGroupSlots c g memory turn foreseen
    pub before : AreGroupsBefore c g memory turn
    pub finds : FindInputs c foreseen (IsAsForeseen foreseen k.nets) (tables_in g list)
    pub remembers : Remembers memory k

-- the memory of a split design in a turn of its clocked run and the one before, which a row fits
pub record IsMemoryOf (s : Split) (g : Grouping) (turn : ℕ) (t : Turn) (m : Memory)
    (k : Kept) : Type 0 where
  pub nets : m.nets ≡ length s.circuit.nets
  pub slots : m.slots ≡ slots_of s g
  pub values : (net : ℕ) → value_in m turn net ≡ value_at (t.nets t.opened) net
  pub before : 1 < turn → (net : ℕ)
      → value_in m (turn - 1) net ≡ value_at (t.nets (t.opened - 1)) net
  pub remembers : Remembers m k

-- the opening of a node in a turn of a run on these vectors, in a row that remembers: the words of
-- rows that are learnt in it are left out
pub record IsNotedOpening (s : Split) (vectors : List Row) (g : Grouping) (o : Opening) (k : Kept)
    (n : Node) (t : Turn) (m : Memory) : Type 0 where
  pub some : 0 < o.turn
  pub opening : IsOpeningOf s vectors o.number (o.turn - 1) (is_learnt (length g.groups) k o.turn)
      o.from.now n t
  pub memory : IsMemoryOf s g o.turn t m k
  pub known : o.known ≡ true → AreKnown s.initial × All AreKnown vectors

-- the same of a node that settles
pub record IsSettlingOpening (s : Split) (g : Grouping) (o : Opening) (k : Kept)
    (n : Node) (t : Turn) (m : Memory) : Type 0 where
  pub some : 0 < o.turn
  pub at : IsSettlingAt s n o.number
  pub fed : IsFed s n (is_learnt (length g.groups) k o.turn) o.from.now t
  pub memory : IsMemoryOf s g o.turn t m k
  pub known : o.known ≡ true → AreKnown s.initial × All AreKnown t.vectors
