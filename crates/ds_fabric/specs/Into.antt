-- The arcs into each event, side by side: one list of all arcs, of which each event has a part.
use Rattle.std.specs.Prelude.{◌≡◌, ℕ, ◌+◌, ◌*◌, ◌<◌, ◌≤◌, ◌++◌, List, length, slice_index}
use mathlib.Core.Option.{some}
use lib.ListN.{get_elem?}
use Rattle.ds_rule.specs.Run.{Run, events, node_of, turns}
use Rattle.ds_marked.specs.declared.marked.Arc.{Arc}
use Rattle.ds_fabric.specs.Chained.{arc_numbered}
use Rattle.ds_fabric.specs.declared.arc_in.ArcIn.{ArcIn}
use Rattle.ds_rule.specs.Event.{fired_of}
use Rattle.ds_rule.specs.declared.event_role.EventRole.{EventRole}
use Rattle.ds_rule.specs.declared.event_role.EventRole.TheVariants.{Opening, Closing, Alone}
use Rattle.ds_fabric.specs.declared.incoming.Incoming.{Incoming}

-- what so many tokens count beside the firings of the node
abbrev pub ahead_of : EventRole → ℕ → ℕ
ahead_of Opening t = 2 * t + 1
ahead_of Closing t = 2 * t
ahead_of Alone t = t

-- the firings of the node, with what the tokens count beside them, that are enough for so many
-- turns
abbrev pub least_of : EventRole → ℕ → ℕ
least_of Opening n = 2 * n
least_of Closing n = 2 * n
least_of Alone n = n

-- the entry says of the arc what the run says of it
pub record IsArcIn (run : Run) (a : Arc) (x : ArcIn) : Type 0 where
  pub node_is : x.node ≡ node_of run a.source
  pub turns_is : (f : ℕ) → fired_of x.source f ≡ turns run a.source f
  pub ahead_is : x.ahead ≡ ahead_of x.source a.tokens

-- the entry is that of arc k, which enters the event
pub record IsInto (run : Run) (event k : ℕ) (x : ArcIn) : Type 0 where
  pub near : k < length run.arcs
  pub enters : (arc_numbered run k).target ≡ event
  pub says : IsArcIn run (arc_numbered run k) x

-- the entries from the first place to the last are the arcs into the event from number n on, the
-- last arc first
pub record ArePart (run : Run) (event n first last : ℕ) (arcs : List ArcIn)
    (numbers : List ℕ) : Type 0 where
  pub order : first ≤ last
  pub inside : last ≤ length arcs
  pub each : (j : ℕ) (x : ArcIn) → first ≤ j → j < last → get_elem? arcs j ≡ some x
      → IsInto run event (slice_index numbers j) x
  pub from : (j : ℕ) → first ≤ j → j < last → n ≤ slice_index numbers j
  pub falls : (i j : ℕ) → first ≤ i → i < j → j < last
      → slice_index numbers j < slice_index numbers i
  pub all : (k : ℕ) → n ≤ k → k < length run.arcs → (arc_numbered run k).target ≡ event
      → (j : ℕ) × (first ≤ j) × (j < last) × (slice_index numbers j ≡ k)

-- the arcs into each event below n, from its start to the next one, and no others
pub record AreIntoBelow (run : Run) (n : ℕ) (starts : List ℕ) (arcs : List ArcIn)
    (numbers : List ℕ) : Type 0 where
  pub starts_long : length starts ≡ n + 1
  pub numbers_long : length numbers ≡ length arcs
  pub ends : slice_index starts n ≡ length arcs
  pub parts : (e : ℕ) → e < n
      → ArePart run e 0 (slice_index starts e) (slice_index starts (e + 1)) arcs numbers

-- for each event, the entries from its start to the next one are its arcs, each with what the run
-- says of it, and every arc into it is among them
abbrev pub AreInto : Run → Incoming → Type 0
AreInto run incoming =
    AreIntoBelow run (events run) incoming.starts.items incoming.arcs.items incoming.numbers.items

-- the arcs into the event from number n on were put behind all others
pub record IsLinedUp (run : Run) (event n : ℕ) (arcs : List ArcIn) (numbers : List ℕ)
    (arcs' : List ArcIn) (numbers' : List ℕ) : Type 0 where
  pub long : length numbers' ≡ length arcs'
  pub more : (xs : List ArcIn) × (arcs' ≡ arcs ++ xs)
  pub more_numbers : (ks : List ℕ) × (numbers' ≡ numbers ++ ks)
  pub part : ArePart run event n (length arcs) (length arcs') arcs' numbers'
