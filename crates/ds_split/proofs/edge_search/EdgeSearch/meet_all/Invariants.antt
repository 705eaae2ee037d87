use Rattle.ds_split.specs.Search.{HasMet}
use Rattle.ds_split.proofs.Searching.{IsFirst}
use Rattle.ds_split.proofs.edge_search.EdgeSearch.meet_all.Given as goal

abbrev pub invariant-loop-net : goal.invariant-loop-net
invariant-loop-net l = HasMet l.consumer l.initial.self (IsFirst l.nets l.net-index) l.self
