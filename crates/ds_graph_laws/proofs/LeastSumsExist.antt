-- Least sums from an event, and what they decide.
use Rattle.std.proofs.Common.{◌≡◌, ◌⊎◌, inl, inr, ℕ, ◌≤◌, List, length, map, get_or, Option, None, Some, refl, sym, subst, arith}
use Rattle.std.specs.List.{range_with_len}
use Rattle.std.proofs.lemmas.Bool.{cases_lt}
use Rattle.std.proofs.lemmas.List.FromFn.{get_or-map-range_with_len, length-map-range_with_len}
use Rattle.ds_marked.specs.Graph.{Graph}
use Rattle.ds_accept.specs.Sums.{AreLeastSums, IsLeast}
use Rattle.ds_graph_laws.specs.Walks.{HasWalkWithin, LeastIsShown, LeastSumsExist, WalksAreDecided}
use Rattle.ds_graph_laws.proofs.LeastWalks.{least_along}

-- between any two events there is a least sum, or there is no walk
pub least_between : (g : Graph) (from to : ℕ) → (least : Option ℕ) × IsLeast g from to least
least_between g from to = least_along g.events g.arcs from to

module _ (g : Graph) (from : ℕ) where
  -- the least sum of one event
  abbrev least_to : ℕ → Option ℕ
  least_to v = (least_between g from v).0

  -- the least sums of all events
  abbrev all_sums : List (Option ℕ)
  all_sums = map least_to (range_with_len 0 (length g.events))

  are_least : AreLeastSums g from all_sums
  are_least = record {
    one_each = length-map-range_with_len least_to 0 (length g.events);
    least = λ v inside.
        let e : get_or all_sums v None ≡ least_to v = get_or-map-range_with_len least_to 0 (length g.events) v v None inside (omega arith) in
        subst (IsLeast g from v) (sym e) (least_between g from v).1;
  }

-- each graph has least sums from each event
pub least_sums_exist : LeastSumsExist
least_sums_exist g from = (all_sums g from, are_least g from)

few_or_none : (g : Graph) (from to tokens : ℕ) (o : Option ℕ) → IsLeast g from to o → HasWalkWithin g from to tokens ⊎ (¬ HasWalkWithin g from to tokens)
few_or_none g from to tokens None none = inr (λ within. none within.0 within.1)
few_or_none g from to tokens (Some least) is = elim (cases_lt tokens least) [
  | inl under ↦ inr (λ within. (let low : least ≤ within.0 = is.1 within.0 within.1 in let few : within.0 ≤ tokens = within.2 in absurd (omega (under, low, few, arith))))
  | inr few ↦ inl (least, is.0, few)
]

-- between any two events there is a walk with so few tokens or there is none
pub walks_are_decided : WalksAreDecided
walks_are_decided g from to tokens = few_or_none g from to tokens (least_between g from to).0 (least_between g from to).1

-- what the least sum between two events is can be shown
pub least_is_shown : LeastIsShown
least_is_shown g from to = (get_or (all_sums g from) to None, all_sums g from, record { sums = are_least g from; at = refl })
