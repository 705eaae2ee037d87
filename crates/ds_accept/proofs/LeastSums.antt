-- Least sums are 0 where they begin, and rise along arcs by at most the tokens.
use Rattle.std.proofs.Common.{◌≡◌, ◌∙◌, ℕ, ◌≤◌, ◌+◌, ◌<◌, length, get_or, refl, sym, ap, subst, arith, Option, None, Some}
use Rattle.std.proofs.lemmas.List.{get_or_default, same_lists}
use Rattle.ds_base.proofs.ListLemmas.{get_or-self}
use Rattle.ds_marked.specs.Graph.{Graph, Walk, stay, along}
use Rattle.ds_marked.specs.declared.marked.Arc.{Arc}
use Rattle.ds_accept.specs.Laws.{LeastSumsAreLow, OneListOfSums}
use Rattle.ds_accept.specs.Lowered.{IsAtMost, sum_at}
use Rattle.ds_accept.specs.Sums.{IsLeast}

is_zero : (g : Graph) (v : ℕ) (o : Option ℕ) → IsLeast g v v o → o ≡ Some 0
is_zero g v None none = absurd (none 0 stay)
is_zero g v (Some least) (walk, low) = (let z : least ≤ 0 = low 0 stay in let e : least ≡ 0 = omega (z, arith) in ap Some e)

is_at_most : (g : Graph) (u v most : ℕ) → Walk g u v most → (o : Option ℕ) → IsLeast g u v o → IsAtMost o most
is_at_most g u v most walk None none = absurd (none most walk)
is_at_most g u v most walk (Some least) (is, low) = (least, refl, low most walk)

-- the walk of a least sum
has_walk : (g : Graph) (u v sum : ℕ) (o : Option ℕ) → o ≡ Some sum → IsLeast g u v o → Walk g u v sum
has_walk g u v sum o e least = (subst (IsLeast g u v) e least).0

pub least_sums_are_low_lem : LeastSumsAreLow
least_sums_are_low_lem g from sums kept near are = (
  is_zero g from (sum_at sums from) (are.least from near),
  λ k d inside sum is.
      let arc : Arc = get_or g.arcs k d in
      let ends : (arc.source < length g.events) × (arc.target < length g.events) = kept.ends k d inside in
      let before : Walk g from arc.source sum = has_walk g from arc.source sum (sum_at sums arc.source) is (are.least arc.source ends.0) in
      let walk : Walk g from arc.target (sum + arc.tokens) = along before (k, arc, inside, get_or-self g.arcs k d inside, (refl, refl, refl)) in
      is_at_most g from arc.target (sum + arc.tokens) walk (sum_at sums arc.target) (are.least arc.target ends.1),
)

same_least : (g : Graph) (u v : ℕ) (o p : Option ℕ) → IsLeast g u v o → IsLeast g u v p → o ≡ p
same_least g u v None None none also = refl
same_least g u v None (Some m) none (walk, low) = absurd (none m walk)
same_least g u v (Some l) None (walk, low) none = absurd (none l walk)
same_least g u v (Some l) (Some m) (walk, low) (other, least) =
    (let up : l ≤ m = low m other in let down : m ≤ l = least l walk in let e : l ≡ m = omega (up, down, arith) in ap Some e)

pub one_list_of_sums_lem : OneListOfSums
one_list_of_sums_lem g from one other are also = same_lists one other (are.one_each ∙ sym also.one_each) (λ k d low.
    let inside : k < length g.events = (let e = are.one_each in omega (low, e, arith)) in
    let high : k < length other = (let e = also.one_each in omega (inside, e, arith)) in
    get_or_default one k d None low ∙ (same_least g from k (sum_at one k) (sum_at other k) (are.least k inside) (also.least k inside)
    ∙ get_or_default other k None d high))
