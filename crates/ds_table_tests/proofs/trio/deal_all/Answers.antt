use Rattle.std.proofs.Common.{◌≡◌, ◌∙◌, ◌++◌, List, [], ◌∷◌, ap, arith}
use Rattle.ds_fabric.specs.Showing.{Showing}
use Rattle.ds_table_tests.proofs.TestPasses.{three_dealt}
use Rattle.ds_table_tests.proofs.trio.deal_all.Goals as goal

-- a list to which three passes were pushed
pushed : (ps qs rs vs : List Showing) (p q r : Showing) → ps ≡ [] → qs ≡ ps ++ p ∷ []
    → rs ≡ qs ++ q ∷ [] → vs ≡ rs ++ r ∷ [] → vs ≡ p ∷ q ∷ r ∷ []
pushed ps qs rs vs p q r none one two three = three ∙ ap (λ xs. xs ++ r ∷ [])
    (two ∙ ap (λ xs. xs ++ q ∷ []) (one ∙ ap (λ xs. xs ++ p ∷ []) none))

pub returns : goal.returns
returns c =
    let p : Showing = c.in_ok-deal.field-0 in
    let q : Showing = c.in_ok-deal-2.field-0 in
    let r : Showing = c.in_ok-deal-3.field-0 in
    let all = pushed c.in_ok-passes.passes.items c.push_reserved.new.self.items
    c.push_reserved-2.new.self.items c.push_reserved-3.new.self.items p q r
    c.in_ok-passes.ensures.items c.push_reserved.ensures.items
    c.push_reserved-2.ensures.items c.push_reserved-3.ensures.items in
    let d = three_dealt c.args.fabric.now c.push_reserved-3.new.self.items p q r c.requires.run_is
    c.in_ok-deal.ensures.dealt c.in_ok-deal-2.ensures.dealt c.in_ok-deal-3.ensures.dealt all in (
      d.0,
      d.1,
      omega (
        arith,
        c.in_ok-passes.ensures.capacity,
        c.push_reserved.ensures.capacity,
        c.push_reserved-2.ensures.capacity,
        c.push_reserved-3.ensures.capacity,
      ),
    )
