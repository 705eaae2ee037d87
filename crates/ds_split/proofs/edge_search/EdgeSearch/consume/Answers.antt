use Rattle.std.proofs.Common.{ℕ, List, sym, subst}
use Rattle.std.specs.Prelude.{Contains}
use Rattle.ds_split.specs.Search.{IsCause}
use Rattle.ds_split.proofs.Searching.{begins_at, met_means}
use Rattle.ds_split.proofs.edge_search.EdgeSearch.consume.Goals as goal

pub meet_all-requires-clause-at : goal.meet_all-requires-clause-at
meet_all-requires-clause-at c = begins_at c.args.consumer c.args.self.now c.requires.before

pub returns-clause-ok : goal.returns-clause-ok
returns-clause-ok c =
    met_means c.args.consumer c.args.self.now c.meet_all.new.self (Contains c.sources.result.now) (IsCause c.args.finder.now c.args.nets.now)
    c.in_ok-meet_all.ensures
    (λ n cause. subst (λ (ns : List ℕ). Contains ns n) (sym c.sources.ensures) ((c.in_ok-cone.ensures.ok.sources n).1 cause))
    (λ n is. (c.in_ok-cone.ensures.ok.sources n).0 (subst (λ (ns : List ℕ). Contains ns n) c.sources.ensures is))
