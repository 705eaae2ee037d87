-- Events that are put in the order of their ranks are all there.
use Rattle.std.proofs.Common.{◌≡◌, ℕ, ◌<◌, List, length, get_or, map, ◌∙◌, ap, arith, Contains, IsPermutation}
use Rattle.std.specs.List.{range_with_len}
use Rattle.std.proofs.lemmas.List.{get_or-map, length-map, map-id}
use Rattle.std.proofs.lemmas.List.FromFn.{length-range_with_len, get_or-range_with_len}
use Rattle.std.proofs.lemmas.List.Sorted.{Contains-permutation}
use Rattle.ds_base.proofs.ListLemmas.{get_or-self}
use Rattle.ds_accept.specs.Ranked.{AreRanked}
use Rattle.ds_accept.specs.declared.ranked.EventRank.{EventRank}

-- each event stands among those that are put in another order
pub all_ranked : (events : ℕ) (all sorted : List EventRank) (order : List ℕ) → AreRanked events all → IsPermutation all sorted
    → order ≡ map (λ (r : EventRank). r.event) sorted → (v : ℕ) → v < events → Contains order v
all_ranked events all sorted order are permuted is v low =
    let some : EventRank = record { rank = 0; event = 0 } in
    let inside : v < length all = rw are.one_each low in
    let x : EventRank = get_or all v some in
    let (i, within, same) = Contains-permutation all sorted x permuted (v, inside, get_or-self all v some inside) in (
      i,
      rw (is, length-map sorted (λ (r : EventRank). r.event)) within,
      ap (λ (xs : List ℕ). get_or xs i v) is
          ∙ (get_or-map (λ (r : EventRank). r.event) sorted i x v within ∙ (ap (λ (r : EventRank). r.event) same ∙ are.at v low some)),
    )

-- each event stands among all, in turn
pub in_turn : (events : ℕ) (order : List ℕ) → order ≡ map (λ (n : ℕ). n) (range_with_len 0 events) → (v : ℕ) → v < events → Contains order v
in_turn events order is v low =
    let same : order ≡ range_with_len 0 events = is ∙ map-id (range_with_len 0 events) in
    (v, rw (same, length-range_with_len 0 events) low, ap (λ (xs : List ℕ). get_or xs v v) same ∙ (get_or-range_with_len 0 events v v low ∙ omega arith))
