-- A load of a count, and one that begins a flight, keep the rule.
use Rattle.std.proofs.Common.{◌≡◌, ℕ, ◌+◌, ◌-◌, ◌<◌, eqb}
use Rattle.std.proofs.Common.{true, false}
use Rattle.std.proofs.Common.{◌++◌, get_or, sym, refl, ap, ◌∙◌, subst}
use Rattle.std.proofs.Common.{arith}
use Rattle.std.proofs.Common.{length-set, get_or-set_other}
use Rattle.std.proofs.Common.{get_or-set_same}
use mathlib.Core.Logic.{dite}
use mathlib.Core.Option.{none}
use native.Mathlib.Decide.{ℕ_discrete}
use Rattle.atomic_table.specs.Table.{step, keeps}
use Rattle.atomic_table.specs.Table.{Allows}
use Rattle.ds_rule.specs.Run.{Run, next, IsEnabledInRun}
use Rattle.ds_rule.specs.Rule.{firings_shown, holds, tickets, seen, version, Fits}
use Rattle.ds_rule.specs.Rule.{Lawful}
use Rattle.ds_rule.specs.Plays.{Sat, after_look, after_depart, looked}
use Rattle.ds_rule.specs.Plays.{departed}
use Rattle.ds_rule.specs.declared.view.View.{View}
use Rattle.ds_rule.proofs.PassAtRest.{version-same, pending-calm, ahead-calm, unwritten, rests, moves}
use Rattle.ds_rule.proofs.PassAtRest.{to_rest}
use Rattle.ds_rule.proofs.StepKeepsRule.{unmoved}

pub looks : (run : Run) (n id : ℕ) (m : Sat) (l i : ℕ) → i ≡ l + 1 → l < run.nodes → m.0.live ≡ true
    → m.0.phase ≡ 0
    → Allows (Lawful run) n id m i (λ y. y) (looked (step n i 0 0 none) m)
looks run n id m l i is near live rest s o wide me _ =
    let v : View = m.0 in let f = o.views id v me live in let r : ℕ = get_or s.words i 0 in
    let k : ℕ = i - 1 in let w : View = after_look v k r in
    let here : k ≡ l = omega arith in let shows : r ≡ firings_shown s.words k =
    ap (λ (x : ℕ). get_or s.words x 0) (omega arith) in
    let at-k : seen w k ≡ r = get_or-set_same v.seen k r 0 (omega (arith, f.seen_long)) in
    let still : (x : ℕ) → holds v x ≡ true → seen w x ≡ seen v x = λ x h. dite (ℕ_discrete x k)
    (λ e. ap (seen w) e ∙ (at-k ∙ (shows ∙ (f.counted k (subst (λ (y : ℕ). holds v y ≡ true) e h)
    ∙ ap (seen v) (sym e)))))
    (λ e. get_or-set_other v.seen k x r 0 e) in
    let mine : Fits run s.words o.log o.owner id w =
    to_rest run s.words o.log o.owner id w (record {
      same_run = f.same_run;
      held_long = f.held_long;
      tickets_long = f.tickets_long;
      seen_long = length-set v.seen k r ∙ f.seen_long;
      phase = rest;
      written = unwritten f rest;
    }) f.owns (λ x h. moves w (rests f rest x h) (still x h) (λ e at. refl))
    (λ x h. dite (ℕ_discrete x k)
    (λ e. omega (arith, ap (seen w) e, at-k, shows, ap (firings_shown s.words) e))
    (λ e. omega (arith, get_or-set_other v.seen k x r 0 e, f.known x h)))
    f.known_drawn f.no_clash in (
      w,
      keeps,
      tt,
      unmoved run s o i id v w me live (λ x. refl) mine,
      (refl, (λ has. shows ∙ f.counted k has), omega (arith, shows, f.known k (omega arith))),
    )

pub departs : (run : Run) (n id : ℕ) (m : Sat) (l i : ℕ) → i ≡ l + 1 → l < run.nodes
    → m.0.live ≡ true → m.0.phase ≡ 0 → holds m.0 l ≡ true
    → IsEnabledInRun run (seen m.0) (next run l (seen m.0 l))
    → Allows (Lawful run) n id m i (λ y. y) (departed (step n i 0 0 none) m)
departs run n id m l i is near live rest has ready s o wide me _ =
    let v : View = m.0 in let f = o.views id v me live in let k : ℕ = i - 1 in
    let w : View = after_depart v k in
    let here : l ≡ k = omega arith in let calm : eqb v.phase 2 ≡ false =
    ap (λ (y : ℕ). eqb y 2) rest in
    let same : (x y : ℕ) → version run w x y ≡ version run v x y =
    λ x y. version-same run v w x y (unwritten f rest) refl refl in
    let mine : Fits run s.words o.log o.owner id w = record {
      same_run = f.same_run;
      held_long = f.held_long;
      tickets_long = f.tickets_long;
      seen_long = f.seen_long;
      owns = f.owns;
      counted = f.counted;
      logged = λ x h. omega (arith, f.logged x h, ahead-calm v x calm);
      known = f.known;
      kept = λ e h. f.kept e h ∙ ap (λ p. tickets v e ++ p) (pending-calm run v e calm);
      known_drawn = f.known_drawn;
      values = λ x j y h near-y a b. f.values x j y h near-y (omega (arith, same x y))
          (omega (arith, same x y));
      writes = λ up. absurd (omega arith);
      flies = λ _. subst (λ (y : ℕ). (holds v y ≡ true) × (y < run.nodes)
          × IsEnabledInRun run (seen v) (next run y (seen v y))) here (has, near, ready);
      no_clash = f.no_clash;
    } in (
      w,
      keeps,
      tt,
      unmoved run s o i id v w me live (λ x. refl) mine,
      refl,
    )
