-- The counts that the words show are those of a legal list.
use Rattle.ds_marked.proofs.Progress.{reachability}
use Rattle.ds_rule.specs.Run.{graph, count}
use Rattle.ds_rule.specs.Rule.{firings_shown}
use Rattle.ds_rule.proofs.GraphLaws.{live_as, consistent_as, events_as}
use Rattle.ds_table_laws.specs.TableCounts.{ShownAreReached}

pub shown_are_reached_lem : ShownAreReached
shown_are_reached_lem g run is ok s o = let long = events_as g run is in
    reachability g (live_as g (graph run) long is.arcs_are ok.live) run.limit
    (count run (firings_shown s.words))
    (consistent_as g (graph run) long is.arcs_are run.limit (count run (firings_shown s.words)) o.consistent)
