use Rattle.std.proofs.Common.{ℕ, List, Option, Some, ◌≡◌, ◌+◌, ◌<◌, ◌^◌, ◌∙◌, arith, subst, sym}
use Rattle.std.proofs.Math.ListN.{set}
use Rattle.std.proofs.lemmas.Bool.{false≢true}
use Rattle.ds_accept.specs.Lowered.{IsBelow, sum_at}
use Rattle.ds_accept.proofs.Lower.{low_arc, lower_arc, read_at, small}
use Rattle.ds_accept.proofs.sums.lower.Goals as goal

pub overflow_add-next : goal.overflow_add-next
overflow_add-next c = let (from, _) = c.requires.ends in
    let source : sum_at c.args.sums.now.items c.args.arc.now.source ≡ Some c.in-Some.sum =
    read_at c.args.sums.now.items c.args.arc.now.source c.index.result c.index-source.result.now from c.index.ensures c.index-source.ensures ∙ c.in-Some.is in
    omega (arith, small c.args.sums.now.items c.requires.few c.requires.bounded c.args.arc.now.source c.in-Some.sum source, c.from.ensures)

pub returns-then-is_below : goal.returns-then-is_below
returns-then-is_below c arcs in_arcs = let (from, to) = c.requires.ends in let (below, _) = c.is_below.ensures in
    let old : List (Option ℕ) = c.args.sums.now.items in
    let sum : ℕ = c.in-Some.sum in
    let source : sum_at old c.args.arc.now.source ≡ Some sum = read_at old c.args.arc.now.source c.index.result c.index-source.result.now from c.index.ensures c.index-source.ensures ∙ c.in-Some.is in
    let target : sum_at old c.args.arc.now.target ≡ c.index-target.result.now = read_at old c.args.arc.now.target c.index-2.result c.index-target.result.now to c.index-2.ensures c.index-target.ensures in
    let tokens : c.from.result ≡ c.args.arc.now.tokens = c.from.ensures in
    let place : c.index-then-is_below.result ≡ c.args.arc.now.target = c.index-then-is_below.ensures in
    let is : set old c.index-then-is_below.result (Some (sum + c.from.result)) ≡ set old c.args.arc.now.target (Some (sum + c.args.arc.now.tokens)) = cc in
    let low : sum < 2 ^ 40 = small old c.requires.few c.requires.bounded c.args.arc.now.source sum source in
    lower_arc arcs c.args.arc.now old sum in_arcs to c.requires.bounded source (omega arith) (omega arith) _ is
    (subst (IsBelow (sum + c.args.arc.now.tokens)) (sym target) (subst (λ (n : ℕ). IsBelow (sum + n) c.index-target.result.now) tokens (below c.if-is_below.true)))

pub returns-else-is_below : goal.returns-else-is_below
returns-else-is_below c arcs in_arcs = let (from, to) = c.requires.ends in let (_, told) = c.is_below.ensures in
    let old : List (Option ℕ) = c.args.sums.now.items in
    let sum : ℕ = c.in-Some.sum in
    let source : sum_at old c.args.arc.now.source ≡ Some sum = read_at old c.args.arc.now.source c.index.result c.index-source.result.now from c.index.ensures c.index-source.ensures ∙ c.in-Some.is in
    let target : sum_at old c.args.arc.now.target ≡ c.index-target.result.now = read_at old c.args.arc.now.target c.index-2.result c.index-target.result.now to c.index-2.ensures c.index-target.ensures in
    low_arc arcs c.args.arc.now old sum c.requires.bounded source
    (λ below. false≢true (sym c.if-is_below.false ∙ told (subst (λ (n : ℕ). IsBelow (sum + n) c.index-target.result.now) (sym c.from.ensures) (subst (IsBelow (sum + c.args.arc.now.tokens)) target below))))
