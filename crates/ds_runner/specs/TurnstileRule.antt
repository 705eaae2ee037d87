-- The rule of a turnstile. Word l is 0 where the pass of node l is free, and 1 where a turn has
-- it out.
use Rattle.std.specs.Prelude.{◌≡◌, ◌≢◌, ℕ, zero, suc, ◌+◌, ◌-◌, ◌<◌, List, [], ◌∷◌, length, ◌⊎◌}
use Rattle.std.specs.Prelude.{slice_index, slice_index_or, slice_set, Bool, true, false, replicate}
use Rattle.std.specs.Prelude.{sum_by, Option, Some, None}
use mathlib.Core.Option.{some}
use lib.ListN.{get_elem?}
use Rattle.atomic_table.specs.Table.{State, Me, Step}
use Rattle.ds_rule.specs.Rule.{holds, seen}
use Rattle.atomic_table.specs.Seated.{TableId}
use Rattle.ds_rule.specs.Run.{Run, no_run}
use Rattle.ds_fabric.specs.Showing.{Showing}
use Rattle.ds_runner.specs.declared.turn_view.TurnView.{TurnView}
use Rattle.ds_runner.specs.declared.plays.Key.{Key}

-- what a slot has: a pass, or nothing while a turn has it
abbrev pub Slot : Type 0
Slot = Option Showing

-- the fabric of no pass
abbrev pub no_table : TableId
no_table = record {
  words = 0;
  slots = 0;
  views_name = 0;
  atom = 0;
  block = 0;
  offset = 0;
  slot_names = [];
}

-- a pass of this fabric that holds the node, and no other
abbrev pub Alone : TableId → Run → ℕ → Showing → Type 0
Alone z r l p = (p.table_id ≡ z) × (p.view.run ≡ r) × (holds p.view l ≡ true)
    × (p.many ≡ 1) × ((j : ℕ) → j ≢ l → holds p.view j ≡ false)

-- the sum of f over the numbers below n
abbrev pub sum_below : (ℕ → ℕ) → ℕ → ℕ
sum_below f zero = 0
sum_below f (suc n) = sum_below f n + f n

-- the turn has the node out
abbrev pub has_out : TurnView → ℕ → Bool
has_out v l = slice_index_or v.out l false

-- the turn has no node out
abbrev pub HasNone : TurnView → Type 0
HasNone v = (l : ℕ) → has_out v l ≡ false

-- the firings of a node that is out, at the take
abbrev pub taken : TurnView → ℕ → ℕ
taken v l = slice_index v.taken l

-- how many nodes there are
abbrev pub nodes_of_key : Key → ℕ
nodes_of_key k = length k.passes.value.items

-- the fabric of a list of passes, which is that of the first
abbrev pub fabric_of : List Showing → TableId
fabric_of [] = no_table
fabric_of (p ∷ ps) = p.table_id

-- its run
abbrev pub run_of : List Showing → Run
run_of [] = no_run
run_of (p ∷ ps) = p.view.run

-- the fabric of the passes at the start
abbrev pub fabric : Key → TableId
fabric k = fabric_of k.passes.value.items

-- the run of its passes
abbrev pub run : Key → Run
run k = run_of k.passes.value.items

-- the firings of all passes at the start
abbrev pub base : ℕ → List Showing → ℕ
base l [] = 0
base l (p ∷ ps) = seen p.view l + base (suc l) ps

-- where the pass of node l is, and with how many firings
pub record Turning (k : Key) (s : State Slot TurnView) : Type 0 where
  -- the firings of each node, free or at the take, and the turn that has it out
  pub fires : ℕ → ℕ
  pub owner : ℕ → ℕ
  -- each node has a word, which is 0 or 1, and a slot
  pub wide : length s.words ≡ nodes_of_key k
  pub slots : length s.homes ≡ nodes_of_key k
  pub bits : (l : ℕ) → l < nodes_of_key k
      → (slice_index s.words l ≡ 0) ⊎ (slice_index s.words l ≡ 1)
  -- if the node is free, the slot has the pass; else one turn has the node out, and the slot is
  -- empty
  pub free : (l : ℕ) → l < nodes_of_key k → slice_index s.words l ≡ 0 → (p : Showing)
      × (get_elem? s.homes l ≡ some (some (Some p))) × Alone (fabric k) (run k) l p
      × (seen p.view l ≡ fires l)
  pub away : (l : ℕ) → l < nodes_of_key k → slice_index s.words l ≡ 1 → (v : TurnView)
      × (get_elem? s.views (owner l) ≡ some v) × (v.live ≡ true) × (has_out v l ≡ true)
      × (v.busy ≢ l + 1 → get_elem? s.homes l ≡ some (some None))
  pub outs : (id : ℕ) (v : TurnView) (l : ℕ) → get_elem? s.views id ≡ some v → v.live ≡ true
      → has_out v l ≡ true → (l < nodes_of_key k) × (slice_index s.words l ≡ 1) × (owner l ≡ id)
      × (taken v l ≡ fires l)
  -- each turn that is live is of this many nodes, and has a permit
  pub long : (id : ℕ) (v : TurnView) → get_elem? s.views id ≡ some v → v.live ≡ true
      → (length v.out ≡ nodes_of_key k) × (length v.taken ≡ nodes_of_key k) × (0 < v.permits)
      × (v.fabric ≡ fabric k) × (v.run ≡ run k) × (v.all_permits ≡ k.all_permits)
  -- the turns have all permits together, and what was made is what the firings grew by
  pub few : k.all_permits < 4294967296
  pub spent_made : (id : ℕ) (v : TurnView) → get_elem? s.views id ≡ some v → v.live ≡ false
      → v.made ≡ 0
  pub whole : sum_by (λ (v : TurnView). v.permits) s.views ≡ k.all_permits
  pub total : sum_below fires (nodes_of_key k)
      ≡ base 0 k.passes.value.items + sum_by (λ (v : TurnView). v.made) s.views

-- the turn that has all permits
abbrev pub first_turn : Key → TurnView
first_turn k = record {
  live = true;
  fabric = fabric k;
  run = run k;
  permits = k.all_permits;
  all_permits = k.all_permits;
  out = replicate (nodes_of_key k) false;
  taken = replicate (nodes_of_key k) 0;
  busy = 0;
  made = 0;
  missed = 0;
  missed_node = 0;
  won = 0;
}

-- a turn's seat: what it knows, and the slots that it has in hand
abbrev pub TurnSeat : Type 0
TurnSeat = Me Slot TurnView

-- what a step tells: of the seat before, the number found, and the seat after
abbrev pub TurnPlay : Type 1
TurnPlay = Step Slot → TurnSeat → ℕ → TurnSeat → Type 0

-- after a take that had the pass, with so many firings
abbrev pub after_won_take : TurnView → ℕ → ℕ → TurnView
after_won_take v l f = record v {
  out = slice_set v.out l true;
  taken = slice_set v.taken l f;
  busy = l + 1;
  won = v.won + 1;
}

-- after one that found it out
abbrev pub after_miss : TurnView → ℕ → TurnView
after_miss v l = record v { missed = v.missed + 1; missed_node = l }

-- after the pass was given back
abbrev pub after_give : TurnView → ℕ → ℕ → TurnView
after_give v l f = record v {
  out = slice_set v.out l false;
  busy = 0;
  made = v.made + (f - taken v l);
}

-- the node was free, and the turn has the pass; or it was out, and so some other turn has a permit
abbrev pub took : TurnPlay
took st m r n =
    (r ≡ 0 → (p : Showing) × Alone m.0.fabric m.0.run st.word p × (st.word < length m.0.out)
    × (n ≡ (after_won_take m.0 st.word (seen p.view st.word), (st.word, Some p) ∷ m.1)))
    × (r ≢ 0 → (n ≡ (after_miss m.0 st.word, m.1)) × (m.0.permits ≢ m.0.all_permits))

-- the turn has no slot in hand
abbrev pub rested : TurnView → TurnView
rested v = record v { busy = 0 }

-- the slot, now empty, goes back
abbrev pub rests_now : TurnPlay
rests_now st m r n = n ≡ (rested m.0, [])

-- all permits together are few
abbrev pub observed_permits : TurnPlay
observed_permits st m r n = (n ≡ m) × (m.0.permits < 4294967296)

-- the empty slot of a node that is out comes to hand
abbrev pub fetched : TurnPlay
fetched st m r n = n ≡ (record m.0 { busy = st.word + 1 }, (st.word, None) ∷ [])

-- the slot goes back with the pass, and the word says so
abbrev pub gave : TurnPlay
gave st m r n = (p : Showing) → m.1 ≡ (st.word, Some p) ∷ []
    → n ≡ (after_give m.0 st.word (seen p.view st.word), [])

-- one permit goes to a new turn
abbrev pub keeps_permits : TurnView → TurnView
keeps_permits v = record v { permits = v.permits - 1 }

-- and is all that this one has
abbrev pub one_permit : TurnView → TurnView
one_permit v = record {
  live = true;
  fabric = v.fabric;
  run = v.run;
  permits = 1;
  all_permits = v.all_permits;
  out = replicate (length v.out) false;
  taken = replicate (length v.taken) 0;
  busy = 0;
  made = 0;
  missed = 0;
  missed_node = 0;
  won = 0;
}

-- two turns put together
abbrev pub joined : TurnView → TurnView → TurnView
joined v w = record v {
  permits = v.permits + w.permits;
  made = v.made + w.made;
  missed = v.missed + w.missed;
  won = v.won + w.won;
}

-- what is left of the second
abbrev pub spent_turn : TurnView
spent_turn = record {
  live = false;
  fabric = no_table;
  run = no_run;
  permits = 0;
  all_permits = 0;
  out = [];
  taken = [];
  busy = 0;
  made = 0;
  missed = 0;
  missed_node = 0;
  won = 0;
}
