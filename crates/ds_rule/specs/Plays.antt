-- What each step tells: of the step, the seat before, the number found and the seat after.
use Rattle.std.specs.Prelude.{◌≡◌, ℕ, ◌+◌, ◌-◌, ◌≤◌, ◌<◌, ◌||◌, ◌&&◌, slice_index_or}
use Rattle.std.specs.Prelude.{List, [], ◌∷◌, ◌++◌, slice_set, replicate, length, max, cond}
use Rattle.std.specs.Prelude.{true, false, zero, suc}
use mathlib.Core.Option.{some}
use lib.ListN.{get_elem?}
use Rattle.atomic_table.specs.Table.{Me, Step}
use Rattle.ds_rule.specs.Run.{no_run, events, node_of, turns, opened}
use Rattle.ds_rule.specs.Words.{width, place, value}
use Rattle.ds_rule.specs.Rule.{holds, tickets, seen, event}
use Rattle.ds_rule.specs.declared.table_run.DataEdge.{DataEdge}
use Rattle.ds_rule.specs.declared.view.View.{View}

-- a seat: its view and the slots that it holds
abbrev pub Sat : Type 0
Sat = Me ℕ View

-- what a step may tell
abbrev pub Play : Type 1
Play = Step ℕ → Sat → ℕ → Sat → Type 0

-- f firings of the node l were seen
abbrev pub after_look : View → ℕ → ℕ → View
after_look v l f =
    record v { seen = slice_set v.seen l f; looks = v.looks + 1; last_node = l; last_seen = f }

-- a count was loaded: of a node that is held it is what was seen, of no node is it less
abbrev pub looked : Play
looked st m r n = (n ≡ (after_look m.0 (st.word - 1) r, m.1))
    × (holds m.0 (st.word - 1) ≡ true → r ≡ seen m.0 (st.word - 1)) × (seen m.0 (st.word - 1) ≤ r)

-- the flight of the node l begins, by a load of its own count
abbrev pub after_depart : View → ℕ → View
after_depart v l = record v {
  phase = 1;
  node = l;
  written = 0;
  looks = v.looks + 1;
  last_node = l;
  last_seen = seen v l;
}

-- the flight began
abbrev pub departed : Play
departed st m r n = n ≡ (after_depart m.0 (st.word - 1), m.1)

-- a value word was read, in the flight of an opening: it is of the number that the orders fix
abbrev pub read : Play
read st m r n = (n ≡ m) × ((k : ℕ) (e : DataEdge) (i : ℕ) → get_elem? m.0.run.edges k ≡ some e
    → e.consumer ≡ m.0.node
    → i < width m.0.run e.producer
    → st.word ≡ place m.0.run e.producer
    (opened m.0.run m.0.node (seen m.0 m.0.node) + 1 - e.tokens) i
    → r ≡ value m.0.run e.producer (opened m.0.run m.0.node (seen m.0 m.0.node) + 1 - e.tokens) i)

-- one more value word was written
abbrev pub after_write : View → View
after_write v = record v { written = v.written + 1 }

-- a value word was stored
abbrev pub wrote : Play
wrote st m r n = n ≡ (after_write m.0, m.1)

-- the ticket t is drawn
abbrev pub after_draw : View → ℕ → View
after_draw v t = record v { phase = 2; ticket = t; drawn = t + 1 }

-- a ticket was drawn, which is not below what was known to be drawn
abbrev pub drew : Play
drew st m r n = (n ≡ (after_draw m.0 r, m.1)) × (m.0.drawn ≤ r)

-- the firing is kept, and the flight ends
abbrev pub after_publish : View → View
after_publish v = record v {
  phase = 0;
  written = 0;
  tickets = slice_set v.tickets (event v.run v) (tickets v (event v.run v) ++ v.ticket ∷ []);
  seen = slice_set v.seen v.node (seen v v.node + 1);
}

-- a count was stored
abbrev pub published : Play
published st m r n = n ≡ (after_publish m.0, m.1)

-- nothing changes; each event that is held has a ticket for each firing, and no node was held twice
abbrev pub observed : Play
observed st m r n = (n ≡ m)
    × ((e : ℕ) → holds m.0 (node_of m.0.run e) ≡ true
    → turns m.0.run e (seen m.0 (node_of m.0.run e)) ≡ length (tickets m.0 e))
    × ((l : ℕ) → slice_index_or m.0.clash l false ≡ false)

-- the node l is to be dealt
abbrev pub with_cut : View → ℕ → View
with_cut v l = record v { cut = l }

-- word 0 was exchanged for itself
abbrev pub chose_cut : Play
chose_cut st m r n = n ≡ (with_cut m.0 st.first, m.1)

-- what is left of a pass after the deal
abbrev pub without_cut : View → View
without_cut v = record v { holds = slice_set v.holds v.cut false }

-- the new pass: the node that was cut, and what the old pass had seen
abbrev pub only_cut : View → View
only_cut v = record v {
  holds = slice_set (replicate (length v.holds) false) v.cut true;
  looks = 0;
  last_node = 0;
  last_seen = 0;
}

-- f of each number below n, in order
abbrev pub listed : {A : Type 0} → (ℕ → A) → ℕ → List A
listed f zero = []
listed f (suc n) = listed f n ++ f n ∷ []

-- a pass that took in another
abbrev pub taken_in : View → View → View
taken_in v w = record v {
  holds = listed (λ l. holds v l || holds w l) v.run.nodes;
  tickets = listed (λ e. cond (holds w (node_of v.run e)) (tickets w e) (tickets v e))
      (events v.run);
  seen = listed (λ l. max (seen v l) (seen w l)) v.run.nodes;
  drawn = max v.drawn w.drawn;
  clash = listed (λ l. holds v l && holds w l) v.run.nodes;
}

-- a pass that another took in
abbrev pub spent : View
spent = record {
  live = false;
  run = no_run;
  holds = [];
  tickets = [];
  seen = [];
  drawn = 0;
  looks = 0;
  last_node = 0;
  last_seen = 0;
  phase = 0;
  node = 0;
  ticket = 0;
  written = 0;
  clash = [];
  cut = 0;
}
