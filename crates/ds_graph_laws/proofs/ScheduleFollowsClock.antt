-- The firings of a schedule do what the clocked circuit does.
use Rattle.std.proofs.Common.{ℕ, zero, suc, List, [], ◌∷◌, take, length}
use Rattle.ds_base.specs.Values.{Row}
use Rattle.ds_marked.specs.Graph.{Graph, IsLegalFrom, counted}
use Rattle.ds_latch.specs.Headline.{Desynchronizes}
use Rattle.ds_latch.specs.Node.{Split}
use Rattle.ds_times.specs.Order.{Firing, fired_events}
use Rattle.ds_graph_laws.specs.Clocked.{FollowsClock, ListedFollowClock, TimedFollowClock}
use Rattle.ds_graph_laws.specs.Listed.{IsFullAndLegal}
use Rattle.ds_graph_laws.proofs.Legality.{listed_are_legal, timed_are_legal}

-- a first part of a legal list is one
legal_part : (g : Graph) (limit : ℕ) (n : ℕ) (events : List ℕ) (count : ℕ → ℕ) → IsLegalFrom g limit count events
    → IsLegalFrom g limit count (take n events)
legal_part g limit zero events count legal = tt
legal_part g limit (suc n) [] count legal = tt
legal_part g limit (suc n) (v ∷ events) count (first, rest) = (first, legal_part g limit n events (counted v count) rest)

-- so it does what the clocked run does
follows : (s : Split) (g : Graph) (vectors : List Row) (run : Desynchronizes s g vectors) (firings : List Firing)
    → IsFullAndLegal g (length vectors) firings → FollowsClock s g vectors run firings
follows s g vectors run firings is n =
    run.all (take n (fired_events firings)) (legal_part g (length vectors) n (fired_events firings) (λ _. 0) is.legal)

pub listed_follow : ListedFollowClock
listed_follow s g plan ranks are vectors run firings all =
    follows s g vectors run firings (listed_are_legal g ranks plan.live.ends are (length vectors) firings all)

pub timed_follow : TimedFollowClock
timed_follow s g plan ranks are delays same vectors run time schedule firings all =
    follows s g vectors run firings (timed_are_legal g ranks plan.live.ends are delays same (length vectors) time schedule firings all)
