-- Logs: the events that drew tickets, latest first. Ticket t is the entry with t entries behind it.
use Rattle.std.specs.Prelude.{◌≡◌, ℕ, ◌+◌, ◌<◌, List, [], ◌∷◌, ◌++◌, length, cond, ◌==◌}
use Rattle.ds_marked.specs.Graph.{IsEnabled}
use Rattle.ds_rule.specs.Run.{Run, graph, node_of, next}

-- how often an event stands in a log
abbrev pub count_in_log : ℕ → List ℕ → ℕ
count_in_log e [] = 0
count_in_log e (x ∷ xs) = count_in_log e xs + cond (x == e) 1 0

-- the tickets of an event
abbrev pub tickets_in_log : ℕ → List ℕ → List ℕ
tickets_in_log e [] = []
tickets_in_log e (x ∷ xs) =
    cond (x == e) (tickets_in_log e xs ++ length xs ∷ []) (tickets_in_log e xs)

-- how often a node fired in a log
abbrev pub node_count_in_log : Run → ℕ → List ℕ → ℕ
node_count_in_log run l [] = 0
node_count_in_log run l (x ∷ xs) = node_count_in_log run l xs + cond (node_of run x == l) 1 0

-- each entry was enabled at the counts of those before it
abbrev pub IsLegalList : Run → List ℕ → Type 0
IsLegalList run [] = Unit {0}
IsLegalList run (e ∷ es) =
    IsLegalList run es × IsEnabled (graph run) run.limit (λ x. count_in_log x es) e

-- each entry is the next event of its node
abbrev pub InTurn : Run → List ℕ → Type 0
InTurn run [] = Unit {0}
InTurn run (e ∷ es) = InTurn run es × (node_of run e < run.nodes)
    × (e ≡ next run (node_of run e) (node_count_in_log run (node_of run e) es))

-- a log, first one first: the events by rising ticket
abbrev pub firings : List ℕ → List ℕ
firings [] = []
firings (x ∷ xs) = firings xs ++ x ∷ []

-- the tickets of the events are the places of one legal list of so many firings
pub record Recorded (run : Run) (tickets : ℕ → List ℕ) (many : ℕ) : Type 0 where
  pub log : List ℕ
  pub long : many ≡ length log
  pub legal : IsLegalList run log
  pub in_turn : InTurn run log
  pub all : (e : ℕ) → node_of run e < run.nodes → tickets e ≡ tickets_in_log e log
