use Rattle.std.proofs.Common.{◌≡◌, ℕ, List, [], length, subst, sym}
use Rattle.std.proofs.Math.ListN.{replicate}
use Rattle.ds_rank.specs.Search.{IsSearch}
use Rattle.ds_rank.proofs.SearchBeginAndEnd.{begun}
use Rattle.ds_rank.proofs.search.Search.new.Goals as goal

pub returns : goal.returns
returns c =
    let edges = c.args.edges.now in
    let floors = c.args.floors.now in
    let link = c.in_ok-next.link.items in
    let next = c.in_ok-next.next.items in
    let color : c.in_ok-vec.field-0.items ≡ replicate {A = ℕ} (length c.args.floors.now) 2 = c.in_ok-vec.ensures.items_if_clones_equal (λ y e. e) in
    let ranks : c.in_ok-to_vec.field-0.items ≡ c.args.floors.now = c.in_ok-to_vec.ensures.items_if_clones_equal (λ x y e. e) in
    let path : c.new.result.items ≡ [] = c.new.ensures.items in
    let one = begun edges floors next link c.in_ok-next.ensures.0 c.in_ok-next.ensures.1 in
    let two = subst (λ (x : List ℕ). IsSearch edges floors (record { link = link; next = next; color = x; ranks = floors; path = [] })) (sym color) one in
    let three = subst (λ (x : List ℕ). IsSearch edges floors (record { link = link; next = next; color = c.in_ok-vec.field-0.items; ranks = x; path = [] })) (sym ranks) two in
    let four = subst (λ (x : List ℕ). IsSearch edges floors (record { link = link; next = next; color = c.in_ok-vec.field-0.items; ranks = c.in_ok-to_vec.field-0.items; path = x })) (sym path) three in
    record { kept = four; empty = path }
