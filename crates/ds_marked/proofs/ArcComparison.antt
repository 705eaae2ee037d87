-- The order of arcs.
use Rattle.std.proofs.Common.{◌≡◌, ℕ, ◌<◌, ◌≤◌, List, length, get_or, refl, sym, arith, inl, inr, ap, true, false, AllPairs, ltb, leb, ltb-true, ltb-false, leb-true, leb-false}
use Rattle.std.proofs.lemmas.Bool.{cases_eq, cases_lt, false≢true}
use Rattle.std.proofs.lemmas.Cmp.{ranked}
use Rattle.std.proofs.lemmas.List.Sorted.{ranks_by, sorted_far}
use Rattle.std.specs.Cmp.{IsTotalOrder, then_total, on_total, nat_cmp_total}
use Rattle.std.specs.List.Sorted.{IsNonDecreasingBy, IsPartitionPoint, IsSortedBy}
use Rattle.std.specs.Ordering.{MatchOrdering, nat_cmp, is_lt, ordering_then}
use Rattle.std.specs.declared.cmp.Ordering.{Ordering}
use Rattle.std.specs.declared.cmp.Ordering.TheVariants.{Less, Equal, Greater}
use Rattle.ds_marked.specs.Graph.{IsRangeFrom, StandsBefore}
use Rattle.ds_marked.specs.declared.marked.Arc.{Arc}

-- by source, then by target, then by tokens
abbrev pub arc_cmp : Arc → Arc → Ordering
arc_cmp a b = ordering_then (nat_cmp a.source b.source) (ordering_then (nat_cmp a.target b.target) (nat_cmp a.tokens b.tokens))

total : IsTotalOrder arc_cmp
total = then_total (on_total (λ (a : Arc). a.source) nat_cmp_total) (then_total (on_total (λ (a : Arc). a.target) nat_cmp_total) (on_total (λ (a : Arc). a.tokens) nat_cmp_total))

not_less : (a b : Arc) (r s t : Ordering) → MatchOrdering r (b.source < a.source) (b.source ≡ a.source) (a.source < b.source)
    → MatchOrdering s (b.target < a.target) (b.target ≡ a.target) (a.target < b.target)
    → MatchOrdering t (b.tokens < a.tokens) (b.tokens ≡ a.tokens) (a.tokens < b.tokens)
    → is_lt (ordering_then r (ordering_then s t)) ≡ false → StandsBefore a b
not_less a b Less s t source target tokens e = absurd (false≢true (sym e))
not_less a b Greater s t source target tokens e = inl source
not_less a b Equal Less t source target tokens e = absurd (false≢true (sym e))
not_less a b Equal Greater t source target tokens e = inr (sym source, inl target)
not_less a b Equal Equal Less source target tokens e = absurd (false≢true (sym e))
not_less a b Equal Equal Equal source target tokens e = inr (sym source, inr (sym target, omega arith))
not_less a b Equal Equal Greater source target tokens e = inr (sym source, inr (sym target, omega arith))

-- a sorted list of arcs stands in order
pub sorted_stands : (arcs : List Arc) → IsSortedBy (λ a b. is_lt (arc_cmp a b)) arcs → AllPairs StandsBefore arcs
sorted_stands arcs sorted i j d below inside =
    let a : Arc = get_or arcs i d in
    let b : Arc = get_or arcs j d in
    not_less a b (nat_cmp b.source a.source) (nat_cmp b.target a.target) (nat_cmp b.tokens a.tokens)
    (ranked b.source a.source _ refl) (ranked b.target a.target _ refl) (ranked b.tokens a.tokens _ refl)
    (sorted_far (λ (a : Arc) (b : Arc). is_lt (arc_cmp a b)) (ranks_by total (λ (a : Arc). a)) arcs sorted i j d (omega arith) inside)

stands_by_source : (a b : Arc) → StandsBefore a b → a.source ≤ b.source
stands_by_source a b (inl less) = omega arith
stands_by_source a b (inr (same, rest)) = omega arith

-- arcs in order stand by source
pub sources_rise : (arcs : List Arc) → AllPairs StandsBefore arcs → IsNonDecreasingBy (λ arc. arc.source) arcs
sources_rise arcs stand i j d below inside =
    elim (cases_eq i j) [
      | inl e ↦ (let same : (get_or arcs i d).source ≡ (get_or arcs j d).source = ap (λ (k : ℕ). (get_or arcs k d).source) e in omega arith)
      | inr ne ↦ stands_by_source (get_or arcs i d) (get_or arcs j d) (stand i j d (omega arith) inside)
    ]

module _ (arcs : List Arc) (v low high : ℕ) where
  -- where the sources stop being less than an event, and where they stop being at most it
  abbrev Less_to : Type 0
  Less_to = IsPartitionPoint (λ (arc : Arc). ltb arc.source v ≡ true) (λ (arc : Arc). ltb arc.source v ≡ false) arcs low

  abbrev Most_to : Type 0
  Most_to = IsPartitionPoint (λ (arc : Arc). leb arc.source v ≡ true) (λ (arc : Arc). leb arc.source v ≡ false) arcs high

  in_order : (arc : Arc) → low ≤ length arcs → Less_to → Most_to → low ≤ high
  in_order arc inside less most =
      elim (cases_lt high low) [
        | inl under ↦
            (let one : (get_or arcs high arc).source < v = ltb-true _ _ (less.0 high arc (omega arith) under) in
            let two : v < (get_or arcs high arc).source = leb-false _ _ (most.1 high arc (omega arith) (omega arith)) in
            absurd (omega arith))
        | inr not_under ↦ not_under
      ]

  -- the arcs from the event stand between the two
  pub range_from : low ≤ length arcs → high ≤ length arcs → Less_to → Most_to → IsRangeFrom arcs v low high
  range_from low_in high_in less most = record {
    order = in_order (record { source = 0; target = 0; tokens = 0 }) low_in less most;
    size = high_in;
    below = λ k d from to. ltb-true _ _ (less.0 k d from to);
    here = λ k d from to. (let one : v ≤ (get_or arcs k d).source = ltb-false _ _ (less.1 k d from (omega arith)) in
        let two : (get_or arcs k d).source ≤ v = leb-true _ _ (most.0 k d (omega arith) to) in omega arith);
    above = λ k d from to. leb-false _ _ (most.1 k d from to);
  }
