use Rattle.std.proofs.Common.{◌≡◌, ◌∙◌, ◌-◌, ◌<◌, ℕ, List, length, get_or, subst, sym, arith, ap, Vec, Global, ◌≤◌}
use Rattle.ds_rank.specs.Order.{HasEdge, source_at}
use Rattle.ds_rank.specs.Search.{ClosesAt, IsPath, IsStep, State}
use Rattle.ds_rank.proofs.SearchBeginAndEnd.{next_edge, path_few, room_above}
use Rattle.ds_rank.proofs.SearchSteps.{keeps_finished, less_finished, lower_finished, keeps_entered, less_entered, lower_entered, keeps_passed, less_passed}
use Rattle.ds_rank.proofs.search.Search.step.Goals as goal

pub returns-then-k-eq0-clause-ok : goal.returns-then-k-eq0-clause-ok
returns-then-k-eq0-clause-ok c =
    let s = c.args.self.now in
    let left : get_or s.next c.args.node 0 ≡ 0 = sym c.next_of-k.ensures ∙ c.if-k-eq0.true in
    subst (λ (new : State). IsStep c.args.edges.now c.args.floors.now s new) (sym c.finish.ensures) (record {
      kept = keeps_finished c.args.edges.now c.args.floors.now s c.requires.ends c.requires.search c.args.node c.requires.last.0 c.requires.last.1 left;
      less = less_finished c.args.edges.now c.args.floors.now s c.requires.ends c.requires.search c.args.node c.requires.last.0 c.requires.last.1 left;
      lower = lower_finished c.args.edges.now c.args.floors.now s c.requires.ends c.requires.search c.args.node c.requires.last.0 c.requires.last.1 left;
    })

pub returns-then-color-eq0-clause-ok : goal.returns-then-color-eq0-clause-ok
returns-then-color-eq0-clause-ok c =
    let s = c.args.self.now in
    let p = c.next_of-k.result - 1 in
    let e = next_edge c.requires.ends c.requires.search c.requires.last c.next_of-k.result c.next_of-k.ensures c.if-k-eq0.false in
    let done : get_or s.color (source_at c.args.edges.now p) 0 ≡ 0 = sym c.color_of-color.ensures ∙ c.if-color-eq0.true in
    subst (λ (new : State). IsStep c.args.edges.now c.args.floors.now s new) (sym c.pass.ensures) (record {
      kept = keeps_passed c.args.edges.now c.args.floors.now s c.requires.ends c.requires.search c.args.node p e.known e.on e.at done;
      less = less_passed c.args.edges.now c.args.floors.now s c.requires.ends c.requires.search c.args.node p e.known e.on e.at done;
      lower = λ v. omega arith;
    })

pub pass-requires-clause-room : goal.pass-requires-clause-room
pass-requires-clause-room c =
    let e = next_edge c.requires.ends c.requires.search c.requires.last c.next_of-k.result c.next_of-k.ensures c.if-k-eq0.false in
    room_above c.args.edges.now c.args.floors.now c.args.self.now c.requires.search c.requires.room (source_at c.args.edges.now (c.next_of-k.result - 1)) e.source
    (sym c.color_of-color.ensures ∙ c.if-color-eq0.true)

pub cycle_through-requires-clause-path : goal.cycle_through-requires-clause-path
cycle_through-requires-clause-path c =
    subst (λ (path : List ℕ). IsPath c.args.edges.now path) (sym c.path.ensures) (c.requires.search.chain, c.requires.search.distinct)

pub cycle_through-requires-clause-closes : goal.cycle_through-requires-clause-closes
cycle_through-requires-clause-closes c =
    let source = source_at c.args.edges.now (c.next_of-k.result - 1) in
    let e = next_edge c.requires.ends c.requires.search c.requires.last c.next_of-k.result c.next_of-k.ensures c.if-k-eq0.false in
    let listed = c.requires.search.listed source e.source (sym c.color_of-color.ensures ∙ c.if-color-eq1.true) in
    subst (λ (path : List ℕ). ClosesAt c.args.edges.now path source) (sym c.path.ensures)
    (listed, subst (HasEdge c.args.edges.now source) (sym c.requires.last.1) e.leads)

pub returns-clause-ok : goal.returns-clause-ok
returns-clause-ok c =
    let s = c.args.self.now in
    let source = source_at c.args.edges.now (c.next_of-k.result - 1) in
    let e = next_edge c.requires.ends c.requires.search c.requires.last c.next_of-k.result c.next_of-k.ensures c.if-k-eq0.false in
    let color : c.color_of-color.result ≡ get_or s.color source 0 = c.color_of-color.ensures in
    let fresh : get_or s.color source 0 ≡ 2 = omega (arith, c.requires.search.range source e.source) in
    let leads : 0 < length s.path → HasEdge c.args.edges.now source (get_or s.path (length s.path - 1) 0) = λ some. subst (HasEdge c.args.edges.now source) (sym c.requires.last.1) e.leads in
    subst (λ (new : State). IsStep c.args.edges.now c.args.floors.now s new) (sym c.in_ok-enter.ensures) (record {
      kept = keeps_entered c.args.edges.now c.args.floors.now s c.requires.ends c.requires.search source e.source fresh leads;
      less = less_entered c.args.edges.now c.args.floors.now s c.requires.ends c.requires.search source e.source fresh leads;
      lower = lower_entered c.args.edges.now c.args.floors.now s c.requires.ends c.requires.search source e.source fresh leads;
    })

pub returns-then-color-eq1-clause-size : goal.returns-then-color-eq1-clause-size
returns-then-color-eq1-clause-size c = λ nodes e.
    let same : c.in_ok-nodes.nodes ≡ nodes = cc in
    let few = path_few c.args.edges.now c.args.floors.now c.args.self.now c.requires.search in
    let path : length c.path.result.now ≡ length c.args.self.now.path = ap (λ (xs : List ℕ). length xs) c.path.ensures in
    subst (λ (v : Vec ℕ Global). length v.items ≤ length c.args.floors.now) same (omega (arith, c.in_ok-nodes.ensures.size, few, path))
