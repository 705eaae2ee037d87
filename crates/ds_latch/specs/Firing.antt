-- Firing: what the nodes keep and have stored, event by event.
use Rattle.std.specs.Prelude.{◌≡◌, ℕ, ◌+◌, ◌<◌, List, [], ◌∷◌, ◌++◌, length, ◌==◌, if◌then◌else◌}
use Rattle.ds_cover.specs.Cover.{values_at}
use Rattle.ds_design.specs.Valuation.{IsValuation}
use Rattle.ds_design.specs.Run.{row_at}
use Rattle.ds_marked.specs.Graph.{counted}
use Rattle.ds_latch.specs.Node.{Split, IsNode, number_of, opening}
use Rattle.ds_latch.specs.declared.node.Node.{Node}
use Rattle.ds_latch.specs.declared.node.Node.TheVariants.{In, Out, Master, Slave}
use Rattle.ds_latch.specs.Node.{closing, extra_event, place_of, members, nets_of, zeros}
use Rattle.ds_latch.specs.Order.{IsDataEdge}
use Rattle.ds_base.specs.Values.{Row}

-- how often each event has fired, what each node has at each of its places, and what it has stored
pub record State : Type 0 where
  pub count : ℕ → ℕ
  pub rows : Node → ℕ → Row
  pub stored : Node → List Row

-- the row that a node holds: that of its last opening
abbrev pub held : Split → State → Node → Row
held s now n = now.rows n (place_of s (now.count (opening n)))

-- at first slaves hold their initial values
abbrev pub first_row : Split → Node → Row
first_row s (Slave i) = values_at s.initial (members s i)
first_row s n = zeros s n

-- at first nothing has fired; what no node holds is zeros
abbrev pub first_state : Split → State
first_state s = record {
  count = λ _. 0;
  rows = λ n place. if place == 0 then first_row s n else zeros s n;
  stored = λ _. [];
}

-- the same but at one node
abbrev pub changed : {X : Type 0} → Node → X → (Node → X) → Node → X
changed n x f m = if number_of m == number_of n then x else f m

-- the same but at one place
abbrev pub placed : {X : Type 0} → ℕ → X → (ℕ → X) → ℕ → X
placed place x f other = if other == place then x else f other

-- which opening of a producer a consumer reads that has opened so often: of a slave the one before,
-- of others the same one
abbrev pub opening_read : Node → ℕ → ℕ
opening_read (Slave i) opened = opened
opening_read n opened = opened + 1

-- what a consumer that has opened so often reads of each producer
abbrev pub read_rows : Split → State → ℕ → Node → Row
read_rows s now opened p = now.rows p (place_of s (opening_read p opened))

-- a row is that of a node's nets in a valuation for what its producers show; of other registers and
-- columns nothing is asked
pub record IsSettled (s : Split) (shown : Node → Row) (n : Node) (row : Row) : Type 0 where
  pub state : Row
  pub vector : Row
  pub nets : Row
  pub valuation : IsValuation s.circuit state vector nets
  pub slaves : (i : ℕ) → IsDataEdge s (Slave i) n → values_at state (members s i) ≡ shown (Slave i)
  pub columns : IsDataEdge s In n → vector ≡ shown In
  pub row_is : row ≡ values_at nets (nets_of s n)

-- what a node that has opened so often takes as it opens: IN the next vector, a slave the row of
-- its master, the others what has settled
abbrev pub Takes : Split → List Row → State → ℕ → Node → Row → Type 0
Takes s vectors now opened In row = row ≡ row_at vectors opened
Takes s vectors now opened Out row = IsSettled s (read_rows s now opened) Out row
Takes s vectors now opened (Master i) row = IsSettled s (read_rows s now opened) (Master i) row
Takes s vectors now opened (Slave i) row = row ≡ read_rows s now opened (Master i)

-- an opening puts a row at the node's next place
abbrev pub opened_state : Split → State → Node → Row → State
opened_state s now n row = record now {
  count = counted (opening n) now.count;
  rows = changed n (placed (place_of s (now.count (opening n) + 1)) row (now.rows n)) now.rows;
}

-- a closing appends the row of its opening to what the node has stored
abbrev pub closed_state : Split → State → Node → State
closed_state s now n = record now {
  count = counted (closing n) now.count;
  stored = changed n (now.stored n ++ now.rows n (place_of s (now.count (closing n) + 1))
      ∷ []) now.stored;
}

-- an extra event changes its count alone
abbrev pub counted_state : State → ℕ → State
counted_state now v = record now { count = counted v now.count }

-- one firing
pub data Fires (s : Split) (vectors : List Row) (now : State) : ℕ → State → Type 0 where
  opens : (n : Node) (row : Row) → IsNode s n → Takes s vectors now (now.count (opening n)) n row
      → Fires s vectors now (opening n) (opened_state s now n row)
  closes : (n : Node) → IsNode s n → Fires s vectors now (closing n) (closed_state s now n)
  counts_up : (e : ℕ) → Fires s vectors now (extra_event s e) (counted_state now (extra_event s e))

-- the firings of a list, one after another
abbrev pub FiresAll : Split → List Row → State → List ℕ → State → Type 0
FiresAll s vectors old [] new = new ≡ old
FiresAll s vectors old (v ∷ events) new = (next : State) × Fires s vectors old v next
    × FiresAll s vectors next events new

-- the slaves show these registers
abbrev pub AreRegisters : Split → (Node → Row) → Row → Type 0
AreRegisters s shown state =
    (length state ≡ length s.circuit.registers)
    × ((i : ℕ) → i < length s.clusters → values_at state (members s i) ≡ shown (Slave i))
