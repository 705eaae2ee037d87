use Rattle.std.proofs.Common.{◌≡◌, ◌∙◌, ◌∷◌, [], ◌<◌, ℕ, List, true, ap, arith, subst, length, length-append}
use Rattle.ds_rule.specs.Run.{Run}
use Rattle.ds_rule.specs.Rule.{holds, seen}
use Rattle.ds_rule.specs.declared.view.View.{View}
use Rattle.ds_fabric.specs.Base.{Base}
use Rattle.ds_fabric.specs.Showing.{Showing, IsDealt, IsLeft}
use Rattle.ds_runner.specs.TurnstileRule.{Alone}
use Rattle.ds_runner.proofs.HiringLemmas.{dealt_alone, lent_one, one_more_single, unfired-more}
use Rattle.ds_runner.proofs.make_pool.deal_all.Goals as goal

pub dealing-preserved : goal.dealing-preserved
dealing-preserved g c = let b : Base = c.args.workload.now in
    let n : ℕ = c.dealing.node in
    let i = c.dealing.invariant in
    let mid : Showing = c.dealing.pass in
    let one : Showing = c.in_ok-one.one in
    let dealt : IsDealt mid n 1 one = subst (λ (m : ℕ). IsDealt mid m 1 one) c.new.ensures c.in_ok-one.ensures.ok in
    let rest : IsLeft mid n c.deal_bare.new.pass = subst (λ (m : ℕ). IsLeft mid m c.deal_bare.new.pass) c.new.ensures c.in_ok-one.ensures.ok_left in
    let near : n < c.nodes-nodes.result = c.dealing-test.true in
    let (same, _) = c.workload.invariant in
    let runs : c.nodes-nodes.result ≡ b.run.nodes = c.nodes-nodes.ensures ∙ ap (λ (r : Run). r.nodes) (same ∙ ap (λ (x : Base). x.run) c.workload.view_is) in
    let there : n < mid.view.run.nodes = omega (arith, near, runs, ap (λ (r : Run). r.nodes) i.2.fits.run) in
    let has : holds mid.view n ≡ true = i.2.has n (omega arith) there in
    let alone : Alone b.table_id b.run n one = dealt_alone b mid one n 1 i.2.fits has dealt in (
      one_more_single b c.dealing.passes.items one {vs = c.push_reserved.new.self.items} c.push_reserved.ensures.items i.0 (subst (λ (m : ℕ). Alone b.table_id b.run m one) (let e : n ≡ length c.dealing.passes.items = omega (arith, i.1) in e) alone),
      ap (λ (xs : List Showing). length xs) c.push_reserved.ensures.items ∙ (length-append c.dealing.passes.items (one ∷ []) ∙ omega (arith, i.1)),
      lent_one b c.args.pass.now mid c.deal_bare.new.pass n i.2 rest,
      omega (arith, c.push_reserved.ensures.capacity, i.3),
      unfired-more c.dealing.passes.items c.push_reserved.new.self.items one c.push_reserved.ensures.items i.4
          (λ l. ap (λ (x : View). seen x l) dealt.view ∙ i.2.unfired l),
    )
