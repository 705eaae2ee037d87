use Rattle.std.proofs.Common.{◌≡◌, ◌↔◌, ℕ, Err, length, slice_index, subst}
use Rattle.std.specs.Prelude.{IsOk}
use Rattle.ds_marked.specs.Graph.{Graph, IsEnabled}
use Rattle.ds_marked.specs.Blocked.{IsBlocked}
use Rattle.ds_fire.specs.Fired.{IsReady}
use Rattle.ds_fire.specs.Snapshot.{Snapshot, graph_of, limit_of, count_of}
use Rattle.ds_fire.proofs.state.State.enabled.Goals as goal

pub returns-clause-ok : goal.returns-clause-ok
returns-clause-ok c =
    subst (λ (k : Snapshot). IsOk c.enabled.result ↔ IsReady k c.args.event) c.self.view_is
    (subst (λ (g : Graph). IsOk c.enabled.result ↔ IsEnabled g (length c.self.inside.vectors.now.rows) (slice_index c.self.inside.counts) c.args.event) c.graph.ensures.graph
    (subst (λ (n : ℕ). IsOk c.enabled.result ↔ IsEnabled c.graph.result.now n (slice_index c.self.inside.counts) c.args.event) c.count-limit.ensures.value c.enabled.ensures.ok))

pub returns-clause-fault : goal.returns-clause-fault
returns-clause-fault c b =
    subst (λ (k : Snapshot). (c.enabled.result ≡ Err b) ↔ IsBlocked (graph_of k) (limit_of k) (count_of k) c.args.event b) c.self.view_is
    (subst (λ (g : Graph). (c.enabled.result ≡ Err b) ↔ IsBlocked g (length c.self.inside.vectors.now.rows) (slice_index c.self.inside.counts) c.args.event b) c.graph.ensures.graph
    (subst (λ (n : ℕ). (c.enabled.result ≡ Err b) ↔ IsBlocked c.graph.result.now n (slice_index c.self.inside.counts) c.args.event b) c.count-limit.ensures.value (c.enabled.ensures.fault b)))
