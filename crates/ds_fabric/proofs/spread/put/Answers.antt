use Rattle.std.proofs.Common.{◌≡◌, ◌∙◌, ◌<◌, ℕ, List, set, sym, ap, arith, subst, length-set}
use mathlib.Core.Logic.{dite}
use mathlib.Core.Option.{some}
use native.Mathlib.Decide.{ℕ_discrete}
use lib.ListN.{get_elem?}
use Rattle.atomic_table.proofs.Lists.{set_here, set_else}
use Rattle.ds_rule.specs.Run.{Run, turns}
use Rattle.ds_fabric.specs.HistoryList.{StandsIn, ticket_in}
use Rattle.ds_fabric.specs.declared.history.History.{History}
use Rattle.ds_fabric.proofs.spread.put.Goals as goal

pub ticket-requires : goal.ticket-requires
ticket-requires c = let h : History = c.args.history.now in
    let ws : List ℕ = c.args.words.now in
    let (run, is, inside) = c.requires in (
      run,
      c.index.result,
      (c.of-role.ensures run is).opens_is,
      subst (λ (x : ℕ). StandsIn run h ws x) (sym c.index.ensures) inside.stands,
      omega (
        arith,
        c.loop-k-test.true,
        c.turns-k-end.ensures,
        (c.of-role.ensures run is).turns_is h.fired,
      ),
    )

pub loop-k-preserved : goal.loop-k-preserved
loop-k-preserved c = let h : History = c.args.history.now in let k : ℕ = c.loop-k.k in
    let ws : List ℕ = c.args.words.now in
    let e : ℕ = c.args.event in let out : List ℕ = c.loop-k.out in let inv = c.loop-k.invariant in
    let p : ℕ = c.ticket.result in
    let is-p : (run : Run) → c.args.design_nodes ≡ run.design_nodes → ticket_in run h ws e k ≡ p =
    λ run is. sym (c.ticket.ensures run c.index.result (c.of-role.ensures run is).opens_is
    ∙ ap (λ (x : ℕ). ticket_in run h ws x k) c.index.ensures) in
    let below : (run : Run) → c.args.design_nodes ≡ run.design_nodes → k < turns run e h.fired =
    λ run is. omega (
      arith,
      c.loop-k-test.true,
      c.turns-k-end.ensures,
      (c.of-role.ensures run is).turns_is h.fired,
      ap (λ (x : ℕ). turns run x h.fired) c.index.ensures,
    ) in
    let (run0, is0, inside) = c.requires in
    let near = inside.below k (below run0 is0) in
    let here : get_elem? (set out p e) p ≡ some e =
    set_here out p e (omega (arith, near, is-p run0 is0, inv.0)) in (
      length-set out p e ∙ inv.0,
      λ run is j up. dite (ℕ_discrete (ticket_in run h ws e j) p)
          (λ same. subst (λ (x : ℕ). get_elem? (set out p e) x ≡ some e) (sym same) here)
          (λ far. set_else out p (ticket_in run h ws e j) e far ∙ inv.1 run is j
          (dite (ℕ_discrete j k)
          (λ z. absurd (far (ap (ticket_in run h ws e) z ∙ is-p run is)))
          (λ n. omega arith))),
      λ run is t x at nowhere. set_else out p t e
          (λ z. nowhere k (below run is) (is-p run is ∙ sym z)) ∙ inv.2 run is t x at nowhere,
    )
