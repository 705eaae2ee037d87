use Rattle.std.proofs.Common.{◌≡◌, ℕ, get_or, ◌∙◌, subst, arith}
use Rattle.std.proofs.lemmas.List.{get_or_default}
use Rattle.ds_split.specs.Search.{HasMet}
use Rattle.ds_split.proofs.Searching.{met_more, met_all}
use Rattle.ds_split.proofs.edge_search.EdgeSearch.meet_all.Goals as goal

pub loop-net-preserved : goal.loop-net-preserved
loop-net-preserved c =
    let at : c.net-item.result ≡ get_or c.args.nets.now c.loop-net.net-index 0 =
    c.net-item.is ∙ get_or_default c.args.nets.now c.loop-net.net-index c.net-item.result 0 (omega arith) in
    met_more c.args.consumer c.args.self.now c.loop-net.self c.meet.new.self c.args.nets.now c.loop-net.net-index
    c.loop-net.invariant (subst (λ (n : ℕ). HasMet c.args.consumer c.loop-net.self (λ other. other ≡ n) c.meet.new.self) at c.in_ok-meet.ensures)

pub returns : goal.returns
returns c = met_all c.args.consumer c.args.self.now c.loop-net.self c.args.nets.now c.loop-net.net-index (omega arith) c.loop-net.invariant
