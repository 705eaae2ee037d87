-- What a pass shows, and what it keeps in memory.
use Rattle.std.specs.Prelude.{◌≡◌, ◌≢◌, ◌⊎◌, ℕ, ◌+◌, ◌*◌, ◌<◌, ◌≤◌, List, [], length, true, false}
use Rattle.std.specs.Prelude.{vec_capacity}
use mathlib.Core.Option.{some}
use lib.ListN.{get_elem?}
use Rattle.atomic_table.specs.Table.{Me}
use Rattle.atomic_table.specs.Seated.{TableId}
use Rattle.ds_base.specs.Scratch.{Kept, Memory, Remembers}
use Rattle.ds_rule.specs.Run.{Run, events, node_of, turns}
use Rattle.ds_rule.specs.Sound.{IsSound}
use Rattle.ds_rule.specs.Log.{firings, Recorded}
use Rattle.ds_rule.specs.Rule.{holds, tickets, seen, first_view}
use Rattle.ds_rule.specs.Plays.{with_cut, without_cut, only_cut}
use Rattle.ds_rule.specs.declared.view.View.{View}
use Rattle.ds_fabric.specs.Base.{Base}
use Rattle.ds_fabric.specs.HistoryList.{stride_of, turns_told, StandByTurn, list_of_words}
use Rattle.ds_fabric.specs.HistoryList.{list_room}
use Rattle.ds_fabric.specs.Flight.{HasRoomFor}
use Rattle.ds_fabric.specs.Indexed.{IsOneEach, IsIndexed}
use Rattle.ds_fabric.specs.declared.history.History.{History}
use Rattle.ds_fabric.specs.declared.histories.Histories.{Histories}

-- what a pass shows
pub record Showing : Type 0 where
  pub table_id : TableId
  pub view : View
  -- how many nodes it holds, and can hold
  pub many : ℕ
  pub room : ℕ
  -- the scratch of its own
  pub scratch : Kept

-- the pass is one of this fabric
pub record Belongs (f : Base) (p : Showing) : Type 0 where
  pub table : p.table_id ≡ f.table_id
  pub run : p.view.run ≡ f.run
  pub remembers : Remembers f.memory p.scratch

-- the same, whatever its scratch remembers
pub record IsOf (f : Base) (p : Showing) : Type 0 where
  pub table : p.table_id ≡ f.table_id
  pub run : p.view.run ≡ f.run

-- the scratch of a bare pass: of no net
abbrev pub no_scratch : Kept
no_scratch = record { nets = []; turns = []; stayed = [] }

-- only what the pass knows is other than before, and what its scratch has; that remembers this, if
-- it did before
pub record Stays (m : Memory) (old p : Showing) : Type 0 where
  pub table : p.table_id ≡ old.table_id
  pub run : p.view.run ≡ old.view.run
  pub holds_same : p.view.holds ≡ old.view.holds
  pub many : p.many ≡ old.many
  pub room : p.room ≡ old.room
  pub remembers : Remembers m old.scratch → Remembers m p.scratch

-- a fabric of this run, and a pass that holds all nodes, of which none has fired
pub record IsFabricBegun (run : Run) (f : Base) (p : Showing) : Type 0 where
  pub run_is : f.run ≡ run
  pub belongs : Belongs f p
  pub view : p.view ≡ first_view run
  pub many : p.many ≡ run.nodes
  pub room : p.room ≡ run.nodes

-- the fabric of a run, and the one seat at its table
pub record IsStood (run : Run) (m : Memory) (f : Base) (id : TableId) (me : Me ℕ View)
    : Type 0 where
  pub run_is : f.run ≡ run
  pub memory : f.memory ≡ m
  pub table : id ≡ f.table_id
  pub first : me ≡ (first_view run, [])

-- a new pass that holds the node alone
pub record IsDealt (old : Showing) (node room : ℕ) (p : Showing) : Type 0 where
  pub table : p.table_id ≡ old.table_id
  pub view : p.view ≡ only_cut (with_cut old.view node)
  pub many : p.many ≡ 1
  pub room_is : p.room ≡ room

-- what is left of the old one
pub record IsLeft (old : Showing) (node : ℕ) (p : Showing) : Type 0 where
  pub table : p.table_id ≡ old.table_id
  pub view : p.view ≡ without_cut (with_cut old.view node)
  pub many : p.many + 1 ≡ old.many
  pub room : p.room ≡ old.room
  pub scratch : p.scratch ≡ old.scratch

-- the words of two histories stand in two parts of each turn of a list
abbrev pub AreBeside : History → History → Type 0
AreBeside g h = (g.step ≡ h.step)
    × ((g.first + g.stride ≤ h.first) ⊎ (h.first + h.stride ≤ g.first))

-- the words of each two of the histories do
abbrev pub AreSideBySide : List History → Type 0
AreSideBySide nodes = (i j : ℕ) (g h : History) → get_elem? nodes i ≡ some g
    → get_elem? nodes j ≡ some h → i ≢ j → AreBeside g h

-- the history of a node before it fired, in a list of so many words a turn
pub record IsBlank (run : Run) (l step : ℕ) (h : History) : Type 0 where
  pub node : h.node ≡ l
  pub fired : h.fired ≡ 0
  pub stride : h.stride ≡ stride_of run l
  pub inside : h.first + h.stride ≤ step
  pub step_is : h.step ≡ step

-- the histories of the first n nodes in order, before they fired, in one list of so many words a
-- turn
pub record Blank (run : Run) (n step : ℕ) (items : List History) : Type 0 where
  pub long : length items ≡ n
  pub each : (i : ℕ) (h : History) → get_elem? items i ≡ some h → IsBlank run i step h
  pub beside : AreSideBySide items

-- the history of a node that a pass holds: its firings, and in a list with so much room turn by
-- turn the rows of its openings and the tickets of its events
pub record Tells (v : View) (h : History) (words : List ℕ) (room : ℕ) : Type 0 where
  pub has : holds v h.node ≡ true
  pub fired : h.fired ≡ seen v h.node
  pub stride : h.stride ≡ stride_of v.run h.node
  pub turns : StandByTurn words h.first h.stride h.step
      (turns_told v.run (tickets v) h.node (seen v h.node))
  pub fits : v.run.limit * h.step ≤ room

-- each event that is held has a ticket for each firing
abbrev pub IsCounted : View → Type 0
IsCounted v = (e : ℕ) → holds v (node_of v.run e) ≡ true
    → turns v.run e (seen v (node_of v.run e)) ≡ length (tickets v e)

-- the memory of a pass, beside its view; all words stand in one list only where it holds all nodes
pub record Keeps (me : Me ℕ View) (s : Histories) : Type 0 where
  pub no_slot : me.1 ≡ []
  pub live : me.0.live ≡ true
  pub idle : me.0.phase ≡ 0
  pub held_long : length me.0.holds ≡ me.0.run.nodes
  pub tickets_long : length me.0.tickets ≡ events me.0.run
  pub seen_long : length me.0.seen ≡ me.0.run.nodes
  pub among : me.0.run.design_nodes ≤ me.0.run.nodes
  pub counts : IsCounted me.0
  pub listed : (i : ℕ) (h : History) → get_elem? s.nodes.items i ≡ some h
      → Tells me.0 h (list_of_words s h) (list_room s h)
  pub found : (l : ℕ) → holds me.0 l ≡ true → (i : ℕ) × (h : History)
      × (get_elem? s.nodes.items i ≡ some h) × (h.node ≡ l)
  pub distinct : IsOneEach s.nodes.items
  pub beside : s.apart ≡ false → AreSideBySide s.nodes.items
  pub all : s.apart ≡ false → (l : ℕ) → l < me.0.run.nodes → holds me.0 l ≡ true

-- a pass: its memory, the places of its histories, and its room
pub record IsPass (me : Me ℕ View) (room : ℕ) (s : Histories) : Type 0 where
  pub keeps : Keeps me s
  pub indexed : IsIndexed me.0.run.nodes room (length s.nodes.items) s.nodes.items s.places.items
  pub roomy : room ≤ vec_capacity s.nodes
  pub few : room < 4294967296
  pub buffers : (i : ℕ) (h : History) → get_elem? s.nodes.items i ≡ some h
      → HasRoomFor me.0.run h.node s.buffers

-- what a record shows: what its pass showed, and how many firings there were
pub record Recorder : Type 0 where
  pub shown : Showing
  pub many : ℕ

-- a record keeps the histories of all nodes, and its tickets are the places of one legal list
pub record IsRecord (p : Showing) (s : Histories) (design_nodes many : ℕ) : Type 0 where
  pub keeps : Keeps (p.view, []) s
  pub indexed : IsIndexed p.view.run.nodes p.room (length s.nodes.items) s.nodes.items
      s.places.items
  pub all : (l : ℕ) → l < p.view.run.nodes → holds p.view l ≡ true
  pub sound : IsSound p.view.run
  pub design_nodes_is : design_nodes ≡ p.view.run.design_nodes
  pub recorded : Recorded p.view.run (tickets p.view) many

-- the history of the node, out of a record, with the list of its words: it has a ticket for each
-- firing, and no event of it fired more often than the limit says
pub record IsTold (v : View) (node : ℕ) (h : History) (words : List ℕ) : Type 0 where
  pub node_is : h.node ≡ node
  pub room : ℕ
  pub tells : Tells v h words room
  pub counts : IsCounted v
  pub sound : IsSound v.run
  pub most : (e : ℕ) → node_of v.run e ≡ node → length (tickets v e) ≤ v.run.limit

-- the events by rising ticket: those of the one legal list of which the tickets are the places
pub record IsFiredInOrder (run : Run) (tickets : ℕ → List ℕ) (items : List ℕ) : Type 0 where
  pub recorded : Recorded run tickets (length items)
  pub is : items ≡ firings recorded.log
