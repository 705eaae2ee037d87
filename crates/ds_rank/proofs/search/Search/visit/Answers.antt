use Rattle.std.proofs.Common.{◌≡◌, ◌<◌, ◌≤◌, ◌-◌, ℕ, List, [], length, subst, sym, arith, get_or, get_or-set_same}
use Rattle.std.proofs.Math.ListN.{set}
use Rattle.ds_rank.specs.Order.{HasEdge}
use Rattle.ds_rank.specs.Search.{IsSearch, State}
use Rattle.ds_rank.proofs.SearchSteps.{keeps_entered, lower_entered}
use Rattle.ds_rank.proofs.search.Search.visit.Goals as goal

pub walk-init : goal.walk-init
walk-init c =
    let s = c.args.self.now in
    let h = c.requires.search in
    let root = c.args.root in
    let inside = c.requires.fresh.1 in
    let fresh = c.requires.fresh.2 in
    let empty : s.path ≡ [] = c.requires.fresh.0 in
    let leads : 0 < length s.path → HasEdge c.args.edges.now root (get_or s.path (length s.path - 1) 0) =
    λ some. (let none : 0 < 0 = subst (λ (xs : List ℕ). 0 < length xs) empty some in absurd (omega arith)) in
    let is_one : get_or (set s.color root 1) root 0 ≡ 1 = get_or-set_same s.color root 1 0 (omega (arith, h.sizes)) in
    subst (λ (new : State). record {
      kept : IsSearch c.args.edges.now c.args.floors.now new;
      root : get_or new.color root 0 ≤ 1;
      lower : (v : ℕ) → get_or new.color v 0 ≤ get_or s.color v 0;
    }) (sym c.in_ok-enter.ensures) (record {
      kept = keeps_entered c.args.edges.now c.args.floors.now s c.requires.ends h root inside fresh leads;
      root = omega arith;
      lower = lower_entered c.args.edges.now c.args.floors.now s c.requires.ends h root inside fresh leads;
    })
