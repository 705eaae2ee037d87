use Rattle.std.proofs.Common.{◌≡◌, ◌∙◌, ◌<◌, ◌≤◌, ◌+◌, ◌++◌, ◌∷◌, ℕ, List, [], length, get_or, take, ap, sym, subst, arith}
use Rattle.std.specs.Prelude.{All, slice_index}
use Rattle.std.proofs.lemmas.List.{get_or-set_same, length-set, length-take-le, take_more}
use Rattle.ds_marked.specs.Graph.{Graph, counts_after}
use Rattle.ds_marked.specs.Log.{IsLog}
use Rattle.ds_outside.proofs.Pens.{puts_on}
use Rattle.ds_rows.specs.Log.{firing_text}
use Rattle.ds_run.proofs.Logged.{counts_room, counts_shown, log_more}
use Rattle.ds_run.proofs.log.put_firings.Goals as goal

-- an event of the log is one of the graph
inside : (g : Graph) (events : List ℕ) (i v : ℕ) → All (λ v. v < length g.events) events
    → i < length events → v ≡ get_or events i v → v < length g.events
inside g events i v all below at =
    subst (λ (u : ℕ). u < length g.events) (sym at) (all i v below)

pub add_one-requires-clause-room : goal.add_one-requires-clause-room
add_one-requires-clause-room g c =
    let these : List ℕ = c.args.events.now in
    let v : ℕ = c.index-events-i.result in
    let below : c.loop-i.i < length c.args.events.now = omega arith in
    let v_inside : c.index-events-i.result < length c.args.plan.now.graph.events =
    inside c.args.plan.now.graph these c.loop-i.i v c.requires.log below c.index-events-i.is in
    let shown : slice_index c.loop-i.counts c.index-events-i.result
    ≡ counts_after (λ _. 0) (take c.loop-i.i c.args.events.now) c.index-events-i.result =
    c.loop-i.invariant.counts v v_inside in
    let few : counts_after (λ _. 0) (take c.loop-i.i c.args.events.now) c.index-events-i.result
    ≤ length (take c.loop-i.i c.args.events.now) =
    counts_room (take c.loop-i.i these) v in
    let long : length (take c.loop-i.i c.args.events.now) ≡ c.loop-i.i =
    length-take-le c.loop-i.i these (omega arith) in
    omega arith

pub loop-i-preserved : goal.loop-i-preserved
loop-i-preserved g c =
    let graph : Graph = c.args.plan.now.graph in
    let these : List ℕ = c.args.events.now in
    let i : ℕ = c.loop-i.i in
    let v : ℕ = c.index-events-i.result in
    let counts : List ℕ = c.loop-i.counts in
    let below : c.loop-i.i < length c.args.events.now = omega arith in
    let v_inside : c.index-events-i.result < length c.args.plan.now.graph.events =
    inside graph these i v c.requires.log below c.index-events-i.is in
    let more : take (c.loop-i.i + 1) c.args.events.now
    ≡ take c.loop-i.i c.args.events.now ++ c.index-events-i.result ∷ [] =
    take_more these i v below ∙ ap (λ (u : ℕ). take i these ++ u ∷ []) (sym c.index-events-i.is) in
    let shown : slice_index c.loop-i.counts c.index-events-i.result
    ≡ counts_after (λ _. 0) (take c.loop-i.i c.args.events.now) c.index-events-i.result =
    c.loop-i.invariant.counts v v_inside in
    let wide : c.index-events-i.result < length c.loop-i.counts =
    omega (arith, c.loop-i.invariant.one_each) in
    let turn : c.at.result ≡ counts_after (λ _. 0) (take c.loop-i.i c.args.events.now)
    c.index-events-i.result + 1 =
    c.at.ensures
    ∙ (ap (λ (xs : List ℕ). slice_index xs v) c.add_one.ensures
    ∙ (get_or-set_same counts v (slice_index counts v + 1) 0 wide ∙ ap (λ (n : ℕ). n + 1) shown)) in
    let (text, is, writes) = c.loop-i.invariant.written in
    record {
      one_each = ap length c.add_one.ensures
          ∙ (length-set counts v (slice_index counts v + 1) ∙ c.loop-i.invariant.one_each);
      counts = λ u low. ap (λ (xs : List ℕ). slice_index xs u) c.add_one.ensures
          ∙ counts_shown counts (take i these) (take (i + 1) these) (length graph.events) v
          c.loop-i.invariant.one_each v_inside more c.loop-i.invariant.counts u low;
      written = (
        text ++ firing_text graph v c.at.result,
        subst (λ (es : List ℕ). IsLog graph es (text ++ firing_text graph v c.at.result))
            (sym more) (log_more graph (take i these) v c.at.result text v_inside turn is),
        puts_on writes c.put_firing.ensures,
      );
    }
