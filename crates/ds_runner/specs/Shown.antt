-- What a turnstile and a turn show, and what their calls say.
use Rattle.std.specs.Prelude.{◌≡◌, ◌≢◌, ℕ, ◌+◌, ◌-◌, ◌<◌, List, [], length, true, false}
use mathlib.Core.Option.{some}
use lib.ListN.{get_elem?}
use Rattle.atomic_table.specs.Seated.{TableId}
use Rattle.ds_fabric.specs.Showing.{Showing}
use Rattle.ds_runner.specs.TurnstileRule.{TurnSeat, Alone, HasNone, has_out, taken, nodes_of_key}
use Rattle.ds_runner.specs.TurnstileRule.{base}
use Rattle.ds_runner.specs.TurnstileRule.{fabric_of, run_of}
use Rattle.ds_runner.specs.declared.turn_view.TurnView.{TurnView}
use Rattle.ds_runner.specs.declared.plays.Key.{Key}

-- a turnstile: its table, the passes that it was built with, and the number of all permits
pub record Stile : Type 0 where
  pub table_id : TableId
  pub given : List Showing
  pub all_permits : ℕ

-- a turn: its table, and what it knows
pub record Turned : Type 0 where
  pub table_id : TableId
  pub view : TurnView

-- the turn is one of this turnstile
pub record IsTurnOf (s : Stile) (t : Turned) : Type 0 where
  pub table : t.table_id ≡ s.table_id
  pub fabric_is : t.view.fabric ≡ fabric_of s.given
  pub run_is : t.view.run ≡ run_of s.given
  pub all_permits_is : t.view.all_permits ≡ s.all_permits

-- a pass of this turnstile, alone with the node
abbrev pub IsPassOf : Stile → ℕ → Showing → Type 0
IsPassOf s l p = Alone (fabric_of s.given) (run_of s.given) l p

-- passes of one fabric, each alone with the node of its place
abbrev pub AreAlone : List Showing → Type 0
AreAlone ps = (l : ℕ) (p : Showing) → get_elem? ps l ≡ some p
    → Alone (fabric_of ps) (run_of ps) l p

-- a turnstile of these passes, and the turn that has all permits and no node out
pub record IsTurnstileOpened (ps : List Showing) (all_permits : ℕ) (s : Stile) (t : Turned)
    : Type 0 where
  pub given_is : s.given ≡ ps
  pub all_permits_is : s.all_permits ≡ all_permits
  pub belongs : IsTurnOf s t
  pub permits : t.view.permits ≡ all_permits
  pub none : HasNone t.view
  pub made : t.view.made ≡ 0
  pub missed : t.view.missed ≡ 0
  pub won : t.view.won ≡ 0

-- the node is out with f firings, one take more is won, and all else is as it was
pub record TakesPass (v w : TurnView) (l f : ℕ) : Type 0 where
  pub out : has_out w l ≡ true
  pub taken_is : taken w l ≡ f
  pub others : (j : ℕ) → j ≢ l → (has_out w j ≡ has_out v j) × (taken w j ≡ taken v j)
  pub won : w.won ≡ v.won + 1
  pub missed : w.missed ≡ v.missed
  pub missed_node : w.missed_node ≡ v.missed_node
  pub permits : w.permits ≡ v.permits
  pub made : w.made ≡ v.made

-- one take more missed, at this node, and all else is as it was
pub record Misses (v w : TurnView) (l : ℕ) : Type 0 where
  pub missed : w.missed ≡ v.missed + 1
  pub missed_node : w.missed_node ≡ l
  pub won : w.won ≡ v.won
  pub same : (j : ℕ) → (has_out w j ≡ has_out v j) × (taken w j ≡ taken v j)
  pub permits : w.permits ≡ v.permits
  pub made : w.made ≡ v.made

-- the node is free with f firings, and all else is as it was
pub record GivesBack (v w : TurnView) (l f : ℕ) : Type 0 where
  pub free : has_out w l ≡ false
  pub others : (j : ℕ) → j ≢ l → (has_out w j ≡ has_out v j) × (taken w j ≡ taken v j)
  pub made : w.made ≡ v.made + (f - taken v l)
  pub permits : w.permits ≡ v.permits
  pub won : w.won ≡ v.won
  pub missed : w.missed ≡ v.missed
  pub missed_node : w.missed_node ≡ v.missed_node

-- the passes are back in order, each alone with its node, with so many firings more
pub record IsTurnstileClosed (s : Stile) (made : ℕ) (ps : List Showing) : Type 0 where
  pub long : length ps ≡ length s.given
  pub each : (l : ℕ) (p : Showing) → get_elem? ps l ≡ some p → IsPassOf s l p
  pub sum : base 0 ps ≡ base 0 s.given + made

-- the memory of a turn, beside its view
pub record IsTurn (id : TableId) (me : TurnSeat) (permits : ℕ) : Type 0 where
  pub no_slot : me.1 ≡ []
  pub live : me.0.live ≡ true
  pub idle : me.0.busy ≡ 0
  pub permits_is : permits ≡ me.0.permits
  pub out_long : length me.0.out ≡ id.words
  pub taken_long : length me.0.taken ≡ id.words

-- the memory of a turnstile: a word and a slot a node
pub record IsStile (id : TableId) (k : Key) : Type 0 where
  pub words : id.words ≡ nodes_of_key k
  pub slots : id.slots ≡ nodes_of_key k
  pub some_nodes : 0 < nodes_of_key k
