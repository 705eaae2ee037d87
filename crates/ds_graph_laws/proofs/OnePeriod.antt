-- Two periods of the same arcs differ in the cycle alone.
use Rattle.std.proofs.Common.{◌≡◌, ◌<◌, ◌≤◌, ◌+◌, ◌*◌, ℕ, List, length, inl, inr, arith, ap, sym, subst}
use Rattle.std.specs.List.{slice_index}
use Rattle.std.proofs.Math.Nat.{mul-le-mul_left}
use Rattle.std.proofs.lemmas.Bool.{cases_lt}
use Rattle.std.proofs.lemmas.Grind.{same_number_lists}
use Rattle.ds_period.specs.declared.timed.Timed.{Timed}
use Rattle.ds_period.specs.Timing.{timed_arcs}
use Rattle.ds_period.specs.Walk.{IsGreatest, IsPotential, walk_delay, walk_tokens}
use Rattle.ds_period.specs.Period.{HasRatio, IsPeriod}
use Rattle.ds_period.proofs.PotentialBounds.{none_above}
use Rattle.ds_graph_laws.specs.OnePeriod.{CyclesAreSlowest, GraphsHaveOnePeriod, OnePeriod, PeriodsAreGreatest}
use Rattle.ds_graph_laws.proofs.Lowest.{same_terms}

-- no closed walk has a greater ratio than a period
pub periods_are_greatest : PeriodsAreGreatest
periods_are_greatest arcs count p q cycle potentials period = none_above arcs p q (slice_index potentials) period.rises

-- where no closed walk is above p / q, no ratio that is reached is
at_most : (arcs : List Timed) (p q r s : ℕ) (events : List ℕ) → IsGreatest arcs p q → HasRatio arcs r s events → r * q ≤ p * s
at_most arcs p q r s events greatest h = elim (cases_lt (p * s) (r * q)) [
  | inl lt ↦
      let t = walk_tokens h.walk in
      let d = walk_delay h.walk in
      let up : t * (p * s + 1) ≤ t * (r * q) = mul-le-mul_left t (omega arith) in
      let most : s * (q * d) ≤ s * (p * t) = mul-le-mul_left s (greatest h.start h.walk h.closed) in
      let reached : q * (s * d) ≡ q * (r * t) = ap (λ (n : ℕ). q * n) h.ratio in
      absurd (omega (arith, h.some))
  | inr not_less ↦ not_less
]

-- the cycle of a period is a slowest one
pub cycles_are_slowest : CyclesAreSlowest
cycles_are_slowest arcs count p q cycle potentials period = record {
  cycle = period.cycle;
  reached = period.reached;
  others = λ r s other reached. at_most arcs p q r s other (periods_are_greatest arcs count p q cycle potentials period) reached;
}

-- the potential of an event is no greater than another one of it
no_greater : (arcs : List Timed) (p q v h k : ℕ) → IsPotential arcs p q v h → IsPotential arcs p q v k → h ≤ k
no_greater arcs p q v h k one two =
    let (a, xs, chain, met) = one.met in
    let most = two.most a xs chain in
    omega arith

-- so there is one
pub one_potential : (arcs : List Timed) (p q v h k : ℕ) → IsPotential arcs p q v h → IsPotential arcs p q v k → h ≡ k
one_potential arcs p q v h k one two =
    let up = no_greater arcs p q v h k one two in
    let down = no_greater arcs p q v k h two one in
    omega arith

-- and one list of them
same_potentials : (arcs : List Timed) (p q count : ℕ) (xs ys : List ℕ) → length xs ≡ count → length ys ≡ count
    → ((v : ℕ) → v < count → IsPotential arcs p q v (slice_index xs v))
    → ((v : ℕ) → v < count → IsPotential arcs p q v (slice_index ys v)) → xs ≡ ys
same_potentials arcs p q count xs ys size other_size one two = same_number_lists xs ys (omega arith)
    (λ v inside. one_potential arcs p q v (slice_index xs v) (slice_index ys v) (one v (omega arith)) (two v (omega arith)))

-- two ratios of periods of the same arcs have the same terms
same_ratio : (arcs : List Timed) (count p q r s : ℕ) (cycle potentials other others : List ℕ)
    → IsPeriod arcs count p q cycle potentials → IsPeriod arcs count r s other others → (p ≡ r) × (q ≡ s)
same_ratio arcs count p q r s cycle potentials other others one two =
    let up = at_most arcs p q r s other (periods_are_greatest arcs count p q cycle potentials one) two.reached in
    let down = at_most arcs r s p q cycle (periods_are_greatest arcs count r s other others two) one.reached in
    same_terms p q r s one.coprime two.coprime (omega arith)

-- two periods of the same arcs differ in the cycle alone
pub one_period : OnePeriod
one_period arcs count p q r s cycle potentials other others one two =
    let (same_delay, same_tokens) = same_ratio arcs count p q r s cycle potentials other others one two in (
      same_delay,
      same_tokens,
      same_potentials arcs p q count potentials others one.size two.size one.greatest (λ v inside. under same_delay same_tokens v (two.greatest v inside)),
    )
  where
    under : p ≡ r → q ≡ s → (v : ℕ) → IsPotential arcs r s v (slice_index others v) → IsPotential arcs p q v (slice_index others v)
    under delays tokens v is = subst (λ (n : ℕ). IsPotential arcs n q v (slice_index others v)) (sym delays)
        (subst (λ (n : ℕ). IsPotential arcs r n v (slice_index others v)) (sym tokens) is)

-- so do two periods of a graph with the same delays
pub graphs_have_one_period : GraphsHaveOnePeriod
graphs_have_one_period g delays = one_period (timed_arcs g.arcs delays) (length g.events)
