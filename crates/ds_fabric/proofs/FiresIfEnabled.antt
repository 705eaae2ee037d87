-- Where a pass holds all nodes, a step fires exactly what is enabled.
use Rattle.std.proofs.Common.{◌≡◌, ℕ, ◌<◌, get_or, refl, sym, ap, ◌∙◌, subst, arith}
use Rattle.std.proofs.lemmas.Bool.{false≢true}
use mathlib.Core.Logic.{dite}
use native.Mathlib.Decide.{ℕ_discrete}
use Rattle.ds_rule.specs.Run.{Run, node_of, next, turns, IsEnabledInRun}
use Rattle.ds_rule.specs.Sound.{IsSound}
use Rattle.ds_rule.specs.Rule.{seen}
use Rattle.ds_rule.specs.declared.view.View.{View}
use Rattle.ds_rule.proofs.EventLaws.{node-next}
use Rattle.ds_rule.proofs.GraphLaws.{enabled_same}
use Rattle.ds_fabric.specs.Chained.{absent_arc, arc_numbered}
use Rattle.ds_fabric.specs.declared.step.Step.{Step}
use Rattle.ds_fabric.specs.declared.step.Step.TheVariants.{Fired, NotYet, Done}
use Rattle.ds_fabric.specs.Stepped.{Stepped, FiresIfEnabled, seen_at_departure}
use Rattle.ds_fabric.proofs.PassMemory.{at_departure-here, at_departure-else}

pub fires_if_enabled : (run : Run) (v w : View) (l : ℕ) (step : Step) → IsSound run
    → Stepped run v l step w → FiresIfEnabled run v l step
fires_if_enabled run v w l (Fired event turn ticket) sound s all =
    let left : (x : ℕ) → x < run.nodes → seen_at_departure v w l x ≡ seen v x =
    λ x near. dite (ℕ_discrete x l)
    (λ e. at_departure-here v w l x e ∙ ap (seen v) (sym e))
    (λ n. at_departure-else v w l x n ∙ s.no_other x n (all x near)) in
    let own : node_of run event ≡ l = ap (node_of run) s.event_is ∙ node-next run l (seen v l) in (
      λ _. subst (IsEnabledInRun run (seen v)) s.event_is (enabled_same run (seen_at_departure v w l)
          (seen v) event (at_departure-here v w l (node_of run event) own ∙ ap (seen v) (sym own))
          (λ k d near into. left (node_of run (get_or run.arcs k d).source) (sound.named k d near).0)
          s.enabled),
      λ _. refl,
    )
fires_if_enabled run v w l (NotYet arc n) sound s all = (
  λ no. absurd (false≢true no),
  λ on. let q = s.1 in
      absurd (omega (
        arith,
        on.ready arc absent_arc q.inside q.enters,
        ap (turns run (next run l (seen v l))) (ap (seen v) (node-next run l (seen v l))),
        q.own (all (node_of run (arc_numbered run arc).source) (sound.named arc absent_arc q.inside).0),
        q.short,
      )),
)
fires_if_enabled run v w l Done sound s all = (
  λ no. absurd (false≢true no),
  λ on. absurd (omega (
    arith,
    on.below,
    s.1,
    ap (turns run (next run l (seen v l))) (ap (seen v) (node-next run l (seen v l))),
  )),
)
