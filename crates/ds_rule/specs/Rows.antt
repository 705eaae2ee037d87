-- Rows of value words: of one value, and of all producers of a node; where they begin, and when
-- one is written.
use Rattle.std.specs.Prelude.{◌≡◌, ℕ, ◌+◌, ◌-◌, ◌<◌, List, [], ◌∷◌, ◌++◌, length, cond, ◌==◌}
use Rattle.std.specs.Prelude.{slice_index, Bool, suc, true, zero}
use Rattle.ds_rule.specs.Run.{Run, opens, opened}
use Rattle.ds_rule.specs.Words.{width, place, value}
use Rattle.ds_rule.specs.Sound.{edge_at}
use Rattle.ds_rule.specs.Rule.{seen, event}
use Rattle.ds_rule.specs.Plays.{listed}
use Rattle.ds_rule.specs.declared.view.View.{View}

-- the words of value number k of a node
abbrev pub row : Run → ℕ → ℕ → List ℕ
row run l k = listed (value run l k) (width run l)

-- what opening number k of a node reads along the first n edges: of each producer whose row is not
-- learnt its number, and behind it its row
abbrev pub supply_but : Run → (ℕ → Bool) → ℕ → ℕ → ℕ → List ℕ
supply_but run learnt l k zero = []
supply_but run learnt l k (suc n) = supply_but run learnt l k n
    ++ cond ((edge_at run n).consumer == l) (cond (learnt (edge_at run n).producer) []
    ((edge_at run n).producer ∷ row run (edge_at run n).producer (k - (edge_at run n).tokens))) []

-- where the value words of each node begin
abbrev pub IsStarts : Run → List ℕ → Type 0
IsStarts run starts = (length starts ≡ run.nodes) × ((l : ℕ) → l < run.nodes
    → slice_index starts l ≡ place run l 0 0)

-- the pass is in flight with opening number k of the node
pub record IsOpening (run : Run) (v : View) (l k : ℕ) : Type 0 where
  pub live : v.live ≡ true
  pub phase : v.phase ≡ 1
  pub node_is : v.node ≡ l
  pub near : l < run.nodes
  pub begins : opens run (event run v) ≡ true
  pub number : k ≡ opened run l (seen v l) + 1
