-- The rule of the shared table. Word 0 is the next ticket, word 1 + l the number of firings of
-- node l, and the value words of the nodes come behind.
use Rattle.std.specs.Prelude.{◌≡◌, ℕ, ◌+◌, ◌<◌, ◌≤◌, List, [], ◌∷◌, ◌++◌, length, slice_index}
use Rattle.std.specs.Prelude.{slice_index_or, cond, ◌==◌, nat_lt, Bool, true, false, replicate}
use mathlib.Core.Option.{some}
use lib.ListN.{get_elem?}
use Rattle.atomic_table.specs.Table.{State}
use Rattle.ds_rule.specs.Run.{Run, events, node_of, next, opens, opened, IsEnabledInRun}
use Rattle.ds_rule.specs.Run.{IsConsistentInRun}
use Rattle.ds_rule.specs.Sound.{IsSound}
use Rattle.ds_rule.specs.Words.{width, size, place, value}
use Rattle.ds_rule.specs.Log.{tickets_in_log, node_count_in_log, IsLegalList, InTurn}
use Rattle.ds_rule.specs.declared.view.View.{View}

-- the number of firings of a node that the words show
abbrev pub firings_shown : List ℕ → ℕ → ℕ
firings_shown words l = slice_index words (l + 1)

-- the pass holds the node
abbrev pub holds : View → ℕ → Bool
holds v l = slice_index_or v.holds l false

-- the tickets of an event
abbrev pub tickets : View → ℕ → List ℕ
tickets v e = slice_index_or v.tickets e []

-- a number of firings of the node that the pass knows of; where it holds the node, all of them
abbrev pub seen : View → ℕ → ℕ
seen v l = slice_index v.seen l

-- the event that the pass is in flight with
abbrev pub event : Run → View → ℕ
event run v = next run v.node (seen v v.node)

-- the ticket that is drawn and not yet published
abbrev pub pending : Run → View → ℕ → List ℕ
pending run v e = cond (v.phase == 2) (cond (event run v == e) (v.ticket ∷ []) []) []

-- 1 at the node whose ticket is drawn and not yet published
abbrev pub ahead : View → ℕ → ℕ
ahead v l = cond (v.phase == 2) (cond (v.node == l) 1 0) 0

-- the number of the latest value that word i of a node has been given
abbrev pub version : Run → View → ℕ → ℕ → ℕ
version run v l i = opened run l (seen v l) + cond (v.node == l) (cond (nat_lt i v.written) 1 0) 0

-- a view, and its number, beside the words, the log and who holds which node
pub record Fits (run : Run) (words log : List ℕ) (owner : ℕ → ℕ) (id : ℕ) (v : View) : Type 0 where
  pub same_run : v.run ≡ run
  pub held_long : length v.holds ≡ run.nodes
  pub tickets_long : length v.tickets ≡ events run
  pub seen_long : length v.seen ≡ run.nodes
  pub owns : (l : ℕ) → holds v l ≡ true → owner l ≡ id
  -- the counts
  pub counted : (l : ℕ) → holds v l ≡ true → firings_shown words l ≡ seen v l
  pub logged : (l : ℕ) → holds v l ≡ true → node_count_in_log run l log ≡ seen v l + ahead v l
  pub known : (l : ℕ) → l < run.nodes → seen v l ≤ firings_shown words l
  -- the tickets
  pub kept : (e : ℕ) → holds v (node_of run e) ≡ true
      → tickets_in_log e log ≡ tickets v e ++ pending run v e
  pub known_drawn : v.drawn ≤ length log
  -- the value words: the last openings of a node stand in its places
  pub values : (l k i : ℕ) → holds v l ≡ true → i < width run l → k ≤ version run v l i
      → version run v l i ≤ k + run.slack → slice_index words (place run l k i) ≡ value run l k i
  pub writes : 0 < v.written → (0 < v.phase) × (opens run (event run v) ≡ true)
  -- what is in flight is enabled at what was seen
  pub flies : 0 < v.phase → (holds v v.node ≡ true) × (v.node < run.nodes)
      × IsEnabledInRun run (seen v) (event run v)
  pub no_clash : (l : ℕ) → slice_index_or v.clash l false ≡ false

-- the rule: some log of draws is legal, the counts agree, and each node is held once
pub record Lawful (run : Run) (s : State ℕ View) : Type 0 where
  -- the events that drew a ticket, latest first
  pub log : List ℕ
  -- which seat holds a node
  pub owner : ℕ → ℕ
  pub sound : IsSound run
  pub wide : length s.words ≡ size run
  pub next_ticket : slice_index s.words 0 ≡ length log
  pub legal : IsLegalList run log
  pub in_turn : InTurn run log
  pub consistent : IsConsistentInRun run (firings_shown s.words)
  pub behind : (l : ℕ) → l < run.nodes → firings_shown s.words l ≤ node_count_in_log run l log
  pub held : (l : ℕ) → l < run.nodes
      → (v : View) × (get_elem? s.views (owner l) ≡ some v) × (v.live ≡ true) × (holds v l ≡ true)
  pub views : (id : ℕ) (v : View) → get_elem? s.views id ≡ some v → v.live ≡ true
      → Fits run s.words log owner id v

-- the pass that holds all nodes, before anything fired
abbrev pub first_view : Run → View
first_view run = record {
  live = true;
  run = run;
  holds = replicate run.nodes true;
  tickets = replicate (events run) [];
  seen = replicate run.nodes 0;
  drawn = 0;
  looks = 0;
  last_node = 0;
  last_seen = 0;
  phase = 0;
  node = 0;
  ticket = 0;
  written = 0;
  clash = [];
  cut = 0;
}
