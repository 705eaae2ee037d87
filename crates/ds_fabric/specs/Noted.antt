-- What the firing of a node asks of a pass, and what its history keeps of it.
use Rattle.std.specs.Prelude.{◌≡◌, ℕ, ◌+◌, ◌<◌, ◌≤◌, ◌∷◌, ◌++◌, [], List, true, vec_len}
use Rattle.std.specs.Prelude.{vec_capacity}
use Rattle.std.specs.Prelude.{slice_set}
use mathlib.Core.Option.{some}
use lib.ListN.{get_elem?}
use Rattle.ds_rule.specs.Run.{Run, next, opens, turns, IsEnabledInRun}
use Rattle.ds_rule.specs.Rule.{holds, seen}
use Rattle.ds_rule.specs.declared.view.View.{View}
use Rattle.ds_rule.specs.Event.{fired_of, is_opening}
use Rattle.ds_rule.specs.declared.event_role.EventRole.{EventRole}
use Rattle.ds_fabric.specs.declared.history.History.{History}
use Rattle.ds_fabric.specs.declared.histories.Histories.{Histories}
use Rattle.ds_fabric.specs.Flight.{HasRoomToFire}
use Rattle.ds_fabric.specs.HistoryList.{IsWritten, list_of_words, list_room}
use Rattle.ds_fabric.specs.HistoryList.{offset_of}
use Rattle.ds_fabric.specs.HistoryList.{start_of_words, end_of_turn, new_row}

-- the role is that of the next event of the node, which has fired so often
pub record IsNextRole (run : Run) (node fired : ℕ) (role : EventRole) : Type 0 where
  pub turns_is : fired_of role fired ≡ turns run (next run node fired) fired
  pub opens_is : opens run (next run node fired) ≡ is_opening role

-- the node has words in each turn of its list, and the places up to the end of the next turn are
-- numbers of 64 bits
pub record HasSpan (run : Run) (h : History) : Type 0 where
  pub wide : 0 < h.stride
  pub inside : h.first + h.stride ≤ h.step
  pub small : end_of_turn run h < 18446744073709551616

-- there is room in the list for what the next event tells, whose role this is
pub record HasRoomToNote (run : Run) (s : Histories) (at : ℕ) (role : EventRole) : Type 0 where
  pub history : History
  pub there : get_elem? s.nodes.items at ≡ some history
  pub role_is : IsNextRole run history.node history.fired role
  pub few : history.fired + 1 < 18446744073709551616
  pub span : HasSpan run history
  pub fits : offset_of run history + (vec_len s.buffers.told + 1) ≤ history.stride
  pub room : end_of_turn run history ≤ list_room s history

-- the history has one firing more, and the words that its event told stand in its list
pub record HasNotedWords (run : Run) (s t : Histories) (g h : History) (told : List ℕ)
    : Type 0 where
  pub node : h.node ≡ g.node
  pub fired : h.fired ≡ g.fired + 1
  pub stride : h.stride ≡ g.stride
  pub first : h.first ≡ g.first
  pub step : h.step ≡ g.step
  pub room : list_room t h ≡ list_room s g
  pub written : IsWritten (list_of_words s g) (list_of_words t h) (start_of_words run g)
      (end_of_turn run g) told

-- of the histories one has noted its next event; the room for a firing is as it was
pub record HasTold (run : Run) (s t : Histories) (at : ℕ) (told : List ℕ) : Type 0 where
  pub old : History
  pub new : History
  pub there : get_elem? s.nodes.items at ≡ some old
  pub nodes : t.nodes.items ≡ slice_set s.nodes.items at new
  pub nodes_room : vec_capacity t.nodes ≡ vec_capacity s.nodes
  pub places : t.places ≡ s.places
  pub apart : t.apart ≡ s.apart
  pub from_room : vec_capacity t.buffers.from ≡ vec_capacity s.buffers.from
  pub told_room : vec_capacity t.buffers.told ≡ vec_capacity s.buffers.told
  pub noted : HasNotedWords run s t old new told

-- it has noted what stands in the buffer, and behind it the ticket
abbrev pub HasNoted : Run → Histories → Histories → ℕ → ℕ → Type 0
HasNoted run s t at ticket = HasTold run s t at (s.buffers.told.items ++ ticket ∷ [])

-- it has noted the ticket, and before it a row where the event is an opening
pub record HasFired (run : Run) (s t : Histories) (at ticket : ℕ) (h : History) : Type 0 where
  pub told : HasTold run s t at (new_row run h.node h.fired ++ ticket ∷ [])
  pub old_is : told.old ≡ h

-- the pass is idle and holds the node, whose next event is enabled at what was seen and has room
pub record IsArmed (run : Run) (v : View) (s : Histories) (at : ℕ) (h : History) : Type 0 where
  pub there : get_elem? s.nodes.items at ≡ some h
  pub live : v.live ≡ true
  pub idle : v.phase ≡ 0
  pub run_is : v.run ≡ run
  pub held : holds v h.node ≡ true
  pub near : h.node < run.nodes
  pub fired : h.fired ≡ seen v h.node
  pub ready : IsEnabledInRun run (seen v) (next run h.node h.fired)
  pub room : HasRoomToFire run s h
