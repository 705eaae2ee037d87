-- What the openings of the nodes compute, turn by turn.
use Rattle.std.specs.Prelude.{◌≡◌, ◌≢◌, ℕ, suc, ◌-◌, ◌<◌, Bool, cond}
use Rattle.std.specs.Prelude.{List, [], ◌∷◌, ◌++◌, length, All, AllPairs, Contains}
use Rattle.ds_base.specs.Values.{Row}
use Rattle.ds_design.specs.Run.{IsRun}
use Rattle.ds_latch.specs.Node.{Split, IsNode, number_of}
use Rattle.ds_latch.specs.declared.node.Node.{Node}
use Rattle.ds_latch.specs.Order.{IsDataEdge, open_tokens}
use Rattle.ds_latch.specs.Numbered.{numbered}
use Rattle.ds_opening.specs.Packed.{packed}

-- of some nodes, one after another, the number and the words of the row, without nodes whose rows
-- are learnt
abbrev pub woven : (ℕ → Bool) → (Node → Row) → List Node → List ℕ
woven learnt rows [] = []
woven learnt rows (p ∷ ps) =
    cond (learnt (number_of p)) [] (number_of p ∷ packed (rows p)) ++ woven learnt rows ps

-- a clocked run, and how often a node has opened in it
pub record Turn : Type 0 where
  pub vectors : List Row
  pub state : ℕ → Row
  pub nets : ℕ → Row
  pub opened : ℕ

-- the value that a node reads of a producer, by the orders of their edge
abbrev pub read_of : Split → Turn → Node → Row
read_of s t p = numbered s t.vectors t.state t.nets p (suc t.opened - open_tokens p)

-- the value that a node takes
abbrev pub value_taken : Split → Turn → Node → Row
value_taken s t n = numbered s t.vectors t.state t.nets n (suc t.opened)

-- a node's producers, each once
pub record AreProducers (s : Split) (n : Node) (nodes : List Node) : Type 0 where
  pub each : All (λ p. IsNode s p × IsDataEdge s p n) nodes
  pub all : (p : Node) → IsDataEdge s p n → Contains nodes p
  pub once : AllPairs (λ p q. p ≢ q) nodes

-- what a node reads in a turn of its producers whose rows are not learnt
pub record IsFed (s : Split) (n : Node) (learnt : ℕ → Bool) (from : List ℕ) (t : Turn) :
    Type 0 where
  pub run : IsRun s.circuit s.initial t.vectors t.state t.nets
  pub below : t.opened < length t.vectors
  pub nodes : List Node
  pub producers : AreProducers s n nodes
  pub words : from ≡ woven learnt (read_of s t) nodes

-- the opening of the node with this number in a turn of a run on these vectors
pub record IsOpeningOf (s : Split) (vectors : List Row) (number opened : ℕ) (learnt : ℕ → Bool)
    (from : List ℕ) (n : Node) (t : Turn) : Type 0 where
  pub node : IsNode s n
  pub is : number_of n ≡ number
  pub fed : IsFed s n learnt from t
  pub same : t.vectors ≡ vectors
  pub turn : t.opened ≡ opened
