-- A small run, on which the tests stand, for two turns: two latches and a node of one event, which
-- need nothing, and whose values are zero. Then its passes, and the turns of a turnstile of them.
use Rattle.std.specs.Prelude.{◌≡◌, ℕ, ◌<◌, ◌≤◌, List, [], ◌∷◌, length, true, replicate}
use mathlib.Core.Option.{some}
use lib.ListN.{get_elem?}
use Rattle.ds_base.specs.Values.{Row}
use Rattle.ds_base.specs.declared.value.Value.TheVariants.{Zero}
use Rattle.ds_rule.specs.Run.{Run}
use Rattle.ds_rule.specs.Rule.{holds, seen}
use Rattle.ds_base.specs.Scratch.{Kept, Memory, Remembers}
use Rattle.ds_fabric.specs.Base.{Base}
use Rattle.ds_fabric.specs.Showing.{Showing, IsOf}
use Rattle.ds_runner.specs.TurnstileRule.{Alone, HasNone, fabric_of, run_of, base}
use Rattle.ds_runner.specs.Shown.{Stile, Turned, IsTurnOf}
use Rattle.ds_runner.specs.declared.turn_view.TurnView.{TurnView}

-- the values of the nodes, turn by turn
abbrev pub zero_rows : List Row
zero_rows = replicate 9 (Zero ∷ [])

-- the run
abbrev pub trio : Run
trio = record {
  nodes = 3;
  design_nodes = 2;
  arcs = [];
  limit = 2;
  edges = [];
  lengths = 1 ∷ 1 ∷ 1 ∷ [];
  slack = 0;
  rows = zero_rows;
}

-- a scratch of one net remembers nothing
abbrev pub small_memory : Memory
small_memory = record { nets = 1; slots = []; rows = [] }

-- a pass of a fabric of this run that holds the nodes from this one on, and has seen no firing
pub record CarriesFrom (node : ℕ) (f : Base) (p : Showing) : Type 0 where
  pub run_is : f.run ≡ trio
  pub belongs : IsOf f p
  pub held : (l : ℕ) → node ≤ l → l < 3 → holds p.view l ≡ true
  pub unfired : (l : ℕ) → seen p.view l ≡ 0

-- a pass that holds this node alone, and has seen no firing
pub record CarriesOne (node : ℕ) (f : Base) (p : Showing) : Type 0 where
  pub alone : Alone f.table_id f.run node p
  pub unfired : (l : ℕ) → seen p.view l ≡ 0

-- three passes of a fabric of this run, each alone with the node of its place
pub record AreTrio (f : Base) (ps : List Showing) : Type 0 where
  pub run_is : f.run ≡ trio
  pub long : length ps ≡ 3
  pub each : (l : ℕ) (p : Showing) → get_elem? ps l ≡ some p → Alone f.table_id f.run l p

-- a turnstile of two turns, with such passes that had not fired
pub record IsTrioStile (f : Base) (s : Stile) : Type 0 where
  pub run_is : f.run ≡ trio
  pub long : length s.given ≡ 3
  pub fabric_of_given : fabric_of s.given ≡ f.table_id
  pub run_of_given : run_of s.given ≡ f.run
  pub unfired : base 0 s.given ≡ 0
  pub two : s.all_permits ≡ 2

-- a turn of this turnstile that has one permit and no node out, beside a scratch that remembers
pub record IsIdle (f : Base) (s : Stile) (t : Turned) (scratch : Kept) : Type 0 where
  pub belongs : IsTurnOf s t
  pub none : HasNone t.view
  pub one : t.view.permits ≡ 1
  pub remembers : Remembers f.memory scratch

-- a turn that has taken nothing
pub record IsFresh (v : TurnView) : Type 0 where
  pub made : v.made ≡ 0
  pub missed : v.missed ≡ 0
  pub won : v.won ≡ 0

-- a turn that missed one take, of this node, and won none
pub record HasMissed (v : TurnView) (node : ℕ) : Type 0 where
  pub made : v.made ≡ 0
  pub missed : v.missed ≡ 1
  pub missed_node : v.missed_node ≡ node
  pub won : v.won ≡ 0
