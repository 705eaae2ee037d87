-- The order of ends.
use Rattle.std.proofs.Common.{◌≡◌, ◌<◌, List, get_or, refl, sym, arith, inl, inr, false, AllPairs}
use Rattle.std.proofs.lemmas.Bool.{false≢true}
use Rattle.std.proofs.lemmas.Cmp.{ranked}
use Rattle.std.proofs.lemmas.List.Sorted.{ranks_by, sorted_far}
use Rattle.std.specs.Cmp.{IsTotalOrder, then_total, on_total, nat_cmp_total}
use Rattle.std.specs.List.Sorted.{IsSortedBy}
use Rattle.std.specs.Ordering.{MatchOrdering, nat_cmp, is_lt, ordering_then}
use Rattle.std.specs.declared.cmp.Ordering.{Ordering}
use Rattle.std.specs.declared.cmp.Ordering.TheVariants.{Less, Equal, Greater}
use Rattle.ds_shake.specs.Steps.{PairBefore}
use Rattle.ds_shake.specs.declared.edge_ends.EdgeEnds.{EdgeEnds}

-- by producer, and then by consumer
abbrev pub pair_cmp : EdgeEnds → EdgeEnds → Ordering
pair_cmp a b = ordering_then (nat_cmp a.producer b.producer) (nat_cmp a.consumer b.consumer)

total : IsTotalOrder pair_cmp
total = then_total (on_total (λ (a : EdgeEnds). a.producer) nat_cmp_total) (on_total (λ (a : EdgeEnds). a.consumer) nat_cmp_total)

not_less : (a b : EdgeEnds) (r s : Ordering) → MatchOrdering r (b.producer < a.producer) (b.producer ≡ a.producer) (a.producer < b.producer)
    → MatchOrdering s (b.consumer < a.consumer) (b.consumer ≡ a.consumer) (a.consumer < b.consumer)
    → is_lt (ordering_then r s) ≡ false → PairBefore a b
not_less a b Less s producer consumer e = absurd (false≢true (sym e))
not_less a b Greater s producer consumer e = inl producer
not_less a b Equal Less producer consumer e = absurd (false≢true (sym e))
not_less a b Equal Equal producer consumer e = inr (sym producer, omega (consumer, arith))
not_less a b Equal Greater producer consumer e = inr (sym producer, omega (consumer, arith))

-- a sorted list of ends stands in order
pub sorted_stands : (pairs : List EdgeEnds) → IsSortedBy (λ a b. is_lt (pair_cmp a b)) pairs → AllPairs PairBefore pairs
sorted_stands pairs sorted i j d below inside =
    let a : EdgeEnds = get_or pairs i d in
    let b : EdgeEnds = get_or pairs j d in
    not_less a b (nat_cmp b.producer a.producer) (nat_cmp b.consumer a.consumer)
    (ranked b.producer a.producer _ refl) (ranked b.consumer a.consumer _ refl)
    (sorted_far (λ (a : EdgeEnds) (b : EdgeEnds). is_lt (pair_cmp a b)) (ranks_by total (λ (a : EdgeEnds). a)) pairs sorted i j d (omega arith) inside)
