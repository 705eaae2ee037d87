use Rattle.std.proofs.Common.{◌≡◌, ◌∙◌, ℕ, arith, length, subst, sym, ap, ap₂}
use Rattle.std.specs.Prelude.{slice_index}
use Rattle.ds_control.proofs.TwoForEach.{flat_map_next}
use Rattle.ds_marked.specs.Graph.{Graph}
use Rattle.ds_outside.specs.Pen.{Puts}
use Rattle.ds_rows.specs.Log.{firing_text}
use Rattle.ds_outside.proofs.Pens.{puts_nothing, puts_on, with_put}
use Rattle.ds_stage.specs.AcceptStage.{rank_lines}
use Rattle.ds_app.proofs.accept.put_ranks.Goals as goal

pub loop-v-init : goal.loop-v-init
loop-v-init g c = record { written = puts_nothing (g.P.Pen.writing c.args.pen.now) }

pub loop-v-preserved : goal.loop-v-preserved
loop-v-preserved g c =
    let rank : c.at.result ≡ slice_index c.args.ranks.now c.loop-v.v = c.at.ensures ∙ ap (slice_index c.args.ranks.now) c.new-event.ensures in
    record {
      written = with_put (sym (flat_map_next (λ v. firing_text c.args.plan.now.graph v (slice_index c.args.ranks.now v)) c.loop-v.v))
          (puts_on c.loop-v.invariant.written
          (with_put (ap₂ (λ (v : ℕ) (r : ℕ). firing_text c.args.plan.now.graph v r) c.new-event.ensures rank) c.put_firing.ensures));
    }

pub returns : goal.returns
returns g c =
    let many : length c.events-v-end.result.now ≡ length c.args.plan.now.graph.events =
    ap length (c.events-v-end.ensures.events ∙ ap (λ (h : Graph). h.events) c.graph.ensures.graph) in
    let all : c.loop-v.v ≡ length c.args.plan.now.graph.events = omega (arith, many) in
    subst (λ (n : ℕ). Puts (g.P.Pen.writing c.args.pen.now) (g.P.Pen.writing c.loop-v.pen)
    (rank_lines c.args.plan.now.graph c.args.ranks.now n)) all c.loop-v.invariant.written
