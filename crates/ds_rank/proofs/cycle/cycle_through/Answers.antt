use Rattle.std.proofs.Common.{◌≡◌, ◌∙◌, ◌<◌, ◌≤◌, ◌-◌, ℕ, List, length, subst, sym, arith, reverse, drop, take, ap, get_or, ◌++◌, length-drop}
use Rattle.std.proofs.lemmas.List.{take_all}
use Rattle.ds_rank.specs.Order.{HasEdge, IsCycle}
use Rattle.ds_rank.proofs.Turn.{closed_part, distinct_part, cycle_at}
use Rattle.ds_rank.proofs.cycle.cycle_through.Goals as goal

pub returns-clause-cycle : goal.returns-clause-cycle
returns-clause-cycle c =
    let nodes = reverse (drop c.place_of-start.result c.args.path.now) in
    let is : c.in_ok-nodes.nodes.items ≡ reverse (drop c.place_of-start.result c.args.path.now) =
    c.in_ok-nodes.ensures ∙ ap (λ (xs : List ℕ). reverse xs)
    (take_all (length c.args.path.now - c.place_of-start.result) (drop c.place_of-start.result c.args.path.now)
    (omega (arith, length-drop c.place_of-start.result c.args.path.now))) in
    let facts = subst (λ (xs : List ℕ). (c.least-first.result < length xs)
    × ((i : ℕ) → i < length xs → get_or xs c.least-first.result 0 ≤ get_or xs i 0))
    (c.as_slice.ensures.value ∙ is) (c.least-first.ensures.inside, c.least-first.ensures.least) in
    let turned : c.rotate_left.new.self.items ≡ drop c.least-first.result (reverse (drop c.place_of-start.result c.args.path.now))
    ++ take c.least-first.result (reverse (drop c.place_of-start.result c.args.path.now)) =
    c.rotate_left.ensures.items ∙ ap (λ (xs : List ℕ). drop c.least-first.result xs ++ take c.least-first.result xs) is in
    subst (λ (xs : List ℕ). IsCycle (HasEdge c.args.edges.now) xs) (sym turned)
    (cycle_at (HasEdge c.args.edges.now) nodes c.least-first.result facts.0
    (closed_part (HasEdge c.args.edges.now) c.args.path.now c.place_of-start.result c.args.source c.place_of-start.ensures.inside c.requires.path.0 c.place_of-start.ensures.at c.requires.closes.1)
    (distinct_part c.args.path.now c.place_of-start.result c.requires.path.1) facts.1)
