use Rattle.std.proofs.Common.{◌≡◌, ◌∙◌, ◌<◌, ◌≤◌, ◌*◌, ◌^◌, ℕ, length, replicate, ap, sym, subst, arith}
use Rattle.ds_marked.specs.Graph.{Graph}
use Rattle.ds_design.specs.InRange.{IsInRange}
use Rattle.ds_latch.specs.Node.{Split, nodes}
use Rattle.ds_fire.specs.Feeds.{AreFeeds}
use Rattle.ds_fire.specs.First.{AreEmpty, AreFirstRows}
use Rattle.ds_fire.proofs.InitialRows.{first_is, first_reached, first_room, first_sound, plan_events}
use Rattle.ds_fire.proofs.state.State.new.Goals as goal

pub first-requires-clause-few : goal.first-requires-clause-few
first-requires-clause-few c =
    let same : c.latches-latches.result.now ≡ c.args.plan.now.split = c.latches-latches.ensures in
    let graph : c.graph-graph.result.now ≡ c.args.plan.now.graph = c.graph-graph.ensures.graph in
    let enough : 2 * nodes c.args.plan.now.split ≤ length c.args.plan.now.graph.events = plan_events c.args.plan.now.split c.args.plan.now.graph c.graph-graph.ensures.accepted in
    let few : length c.args.plan.now.graph.events < 2 ^ 32 = subst (λ (g : Graph). length g.events < 2 ^ 32) graph c.events.ensures.kept.few_events in
    subst (λ (s : Split). nodes s < 2 ^ 32) (sym same) (let low : nodes c.args.plan.now.split < 2 ^ 32 = omega arith in low)

pub first-requires-clause-short : goal.first-requires-clause-short
first-requires-clause-short c =
    let most : c.count-count.result ≤ 65536 = c.count-count.ensures.few in omega arith

pub of-requires-clause-few : goal.of-requires-clause-few
of-requires-clause-few c =
    let same : c.latches-latches.result.now ≡ c.args.plan.now.split = c.latches-latches.ensures in
    let graph : c.graph-graph.result.now ≡ c.args.plan.now.graph = c.graph-graph.ensures.graph in
    let enough : 2 * nodes c.args.plan.now.split ≤ length c.args.plan.now.graph.events = plan_events c.args.plan.now.split c.args.plan.now.graph c.graph-graph.ensures.accepted in
    let few : length c.args.plan.now.graph.events < 2 ^ 32 = subst (λ (g : Graph). length g.events < 2 ^ 32) graph c.events.ensures.kept.few_events in
    subst (λ (s : Split). nodes s < 2 ^ 32) (sym same) (let low : nodes c.args.plan.now.split < 2 ^ 32 = omega arith in low)

pub invariant_of-result : goal.invariant_of-result
invariant_of-result c =
    let same : c.latches-latches.result.now ≡ c.args.plan.now.split = c.latches-latches.ensures in
    let graph : c.graph-graph.result.now ≡ c.args.plan.now.graph = c.graph-graph.ensures.graph in
    let range : IsInRange c.args.plan.now.split.circuit = subst IsInRange (c.netlist.ensures.netlist ∙ ap (λ (s : Split). s.circuit) same) c.design-design.ensures.in_range in
    let few : length c.args.plan.now.graph.events < 2 ^ 32 = subst (λ (g : Graph). length g.events < 2 ^ 32) graph c.events.ensures.kept.few_events in
    let counts : c.in_ok-counts.counts ≡ replicate (length c.args.plan.now.graph.events) 0 =
    c.in_ok-counts.ensures ∙ ap (λ (n : ℕ). replicate n 0) (ap length c.events.ensures.events ∙ ap (λ (g : Graph). length g.events) graph) in
    let rows : AreFirstRows c.args.plan.now.split c.in_ok-kept.kept.rows.items = subst (λ (s : Split). AreFirstRows s c.in_ok-kept.kept.rows.items) same c.in_ok-kept.ensures.rows in
    let stored : AreEmpty c.args.plan.now.split c.count-count.result c.in_ok-kept.kept.stored.items = subst (λ (s : Split). AreEmpty s c.count-count.result c.in_ok-kept.kept.stored.items) same c.in_ok-kept.ensures.stored in
    let fed : AreFeeds c.args.plan.now.split c.in_ok-feeds.feeds = subst (λ (s : Split). AreFeeds s c.in_ok-feeds.feeds) same c.in_ok-feeds.ensures in
    let nets : length c.in_ok-kept.kept.nets ≡ length c.args.plan.now.split.circuit.nets = c.in_ok-kept.ensures.nets ∙ ap (λ (s : Split). length s.circuit.nets) same in
    let low : c.args.plan.now.split.slack ≤ 15 = subst (λ (s : Split). s.slack ≤ 15) same c.slack-slack.ensures.low in
    record {
      sound = first_sound c.args.plan.now c.args.vectors.now c.in_ok-counts.counts c.in_ok-kept.kept range c.graph-graph.ensures.accepted few c.count-count.ensures.kept c.requires counts rows c.count-count.result c.count-count.ensures.value stored;
      reached = first_reached c.args.plan.now c.args.vectors.now c.in_ok-counts.counts c.in_ok-kept.kept range c.graph-graph.ensures.accepted few c.count-count.ensures.kept c.requires counts rows c.count-count.result c.count-count.ensures.value stored;
      width = c.requires;
      low = low;
      few = (let most : c.count-count.result ≤ 65536 = c.count-count.ensures.few in subst (λ (n : ℕ). n ≤ 65536) c.count-count.ensures.value most);
      room = first_room c.args.plan.now c.args.vectors.now c.in_ok-counts.counts c.in_ok-kept.kept range c.graph-graph.ensures.accepted few c.count-count.ensures.kept c.requires counts rows c.count-count.result c.count-count.ensures.value stored;
      nets = nets;
      fed = fed;
    }

pub returns : goal.returns
returns c =
    let same : c.latches-latches.result.now ≡ c.args.plan.now.split = c.latches-latches.ensures in
    let graph : c.graph-graph.result.now ≡ c.args.plan.now.graph = c.graph-graph.ensures.graph in
    let range : IsInRange c.args.plan.now.split.circuit = subst IsInRange (c.netlist.ensures.netlist ∙ ap (λ (s : Split). s.circuit) same) c.design-design.ensures.in_range in
    let few : length c.args.plan.now.graph.events < 2 ^ 32 = subst (λ (g : Graph). length g.events < 2 ^ 32) graph c.events.ensures.kept.few_events in
    let counts : c.in_ok-counts.counts ≡ replicate (length c.args.plan.now.graph.events) 0 =
    c.in_ok-counts.ensures ∙ ap (λ (n : ℕ). replicate n 0) (ap length c.events.ensures.events ∙ ap (λ (g : Graph). length g.events) graph) in
    let rows : AreFirstRows c.args.plan.now.split c.in_ok-kept.kept.rows.items = subst (λ (s : Split). AreFirstRows s c.in_ok-kept.kept.rows.items) same c.in_ok-kept.ensures.rows in
    let stored : AreEmpty c.args.plan.now.split c.count-count.result c.in_ok-kept.kept.stored.items = subst (λ (s : Split). AreEmpty s c.count-count.result c.in_ok-kept.kept.stored.items) same c.in_ok-kept.ensures.stored in
    first_is c.args.plan.now c.args.vectors.now c.in_ok-counts.counts c.in_ok-kept.kept range c.graph-graph.ensures.accepted few c.count-count.ensures.kept c.requires counts rows c.count-count.result c.count-count.ensures.value stored
