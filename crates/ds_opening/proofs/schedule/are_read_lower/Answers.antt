use Rattle.std.proofs.Common.{◌≡◌, ◌∙◌, ◌<◌, ℕ, List, Option, None, get_or, subst, sym, take, refl}
use Rattle.std.specs.Prelude.{All}
use Rattle.std.proofs.lemmas.List.{get_or_default, take_all, take_more}
use Rattle.std.proofs.lemmas.List.Elements.{All-push}
use Rattle.ds_opening.specs.Scheduled.{IsLower}
use Rattle.ds_opening.proofs.schedule.are_read_lower.Goals as goal

pub loop-net-preserved : goal.loop-net-preserved
loop-net-preserved c =
    let inputs : List ℕ = c.args.inputs.now in
    let i : ℕ = c.loop-net.net-index in
    let at : c.index.result ≡ get_or c.args.inputs.now c.loop-net.net-index 0 =
    c.index.ensures ∙ (c.net-item.is ∙ get_or_default inputs i c.net-item.result 0 c.loop-net-test.true) in
    subst (λ (ns : List ℕ). All (λ net. IsLower c.args.numbers.now c.args.ranks.now c.args.table (get_or c.args.drivers.now net None)) ns) (sym (take_more inputs i 0 c.loop-net-test.true))
    (All-push (λ net. IsLower c.args.numbers.now c.args.ranks.now c.args.table (get_or c.args.drivers.now net None)) (take i inputs) (get_or inputs i 0) c.loop-net.invariant
    (subst (λ (net : ℕ). IsLower c.args.numbers.now c.args.ranks.now c.args.table (get_or c.args.drivers.now net None)) at (c.is_lower.ensures c.if-not-is_lower.false)))

pub returns : goal.returns
returns c holds =
    subst (λ (ns : List ℕ). All (λ net. IsLower c.args.numbers.now c.args.ranks.now c.args.table (get_or c.args.drivers.now net None)) ns)
    (take_all c.loop-net.net-index c.args.inputs.now c.loop-net-test.false) c.loop-net.invariant
