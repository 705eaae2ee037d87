-- Arcs whose closed walks have tokens have a period.
use Rattle.std.proofs.Common.{◌≡◌, ◌<◌, ◌/◌, ℕ, List, [], ◌∷◌, length, get_or, map, arith, refl, sym, subst}
use Rattle.std.specs.List.{All, Contains, range_with_len, slice_index}
use Rattle.std.proofs.lemmas.List.Elements.{Contains-get_or}
use Rattle.std.proofs.lemmas.List.FromFn.{get_or-map-range_with_len, length-map-range_with_len}
use Rattle.ds_period.specs.declared.timed.Timed.{Timed}
use Rattle.ds_period.specs.Walk.{IsGreatest, IsPotential, Rises, walk_delay, walk_tokens}
use Rattle.ds_period.specs.Search.{AreEvents}
use Rattle.ds_period.specs.Found.{IsLowest, sources_of}
use Rattle.ds_period.specs.Period.{HasClosed, HasTokens}
use Rattle.ds_graph_laws.specs.Periods.{SomePeriod}
use Rattle.ds_period.proofs.Divisor.{lowest_is}
use Rattle.ds_graph_laws.proofs.CycleOfWalk.{IsRound, round_cycle, round_in}
use Rattle.ds_graph_laws.proofs.Divided.{some_gcd}
use Rattle.ds_graph_laws.proofs.Ratios.{IsBest, greatest_by_best, ratio_reached, some_best}
use Rattle.ds_graph_laws.proofs.Raised.{potentials_rise, some_potential}
use Rattle.ds_graph_laws.proofs.Repeated.{ends_of, short_distinct}

-- a walk with a token has an arc
walk_some : (xs : List Timed) → 0 < walk_tokens xs → 0 < length xs
walk_some [] none = absurd (omega arith)
walk_some (x ∷ xs) some = omega arith

-- where some closed walk is there, one of those that are short has the greatest ratio
best_there : (arcs : List Timed) (count : ℕ) → AreEvents count arcs → HasTokens arcs → HasClosed arcs → IsBest arcs count
best_there arcs count ends tokens (a, xs, chain, some) =
    let r = round_in arcs 0 0 (λ b ys around. omega arith) (length xs) a xs chain some (omega arith) (omega arith) in
    some_best arcs count tokens r.first.source (r.first ∷ r.rest) r.chain (omega arith)
    (short_distinct arcs count ends r.first.source (r.first ∷ r.rest) r.first.source r.chain r.distinct)

module _ (arcs : List Timed) (count p q : ℕ) (ends : AreEvents count arcs) (greatest : IsGreatest arcs p q) where
  -- the potential of an event
  potential_of : ℕ → ℕ
  potential_of v = (some_potential arcs count p q ends greatest v).0

  -- the potentials of all events
  listed : List ℕ
  listed = map potential_of (range_with_len 0 count)

  -- they are as many, each is what it is to be, and they rise
  listed_size : length listed ≡ count
  unfolding listed
  listed_size = length-map-range_with_len potential_of 0 count

  listed_potential : (v : ℕ) → v < count → IsPotential arcs p q v (slice_index listed v)
  unfolding listed potential_of
  listed_potential v inside =
      subst (λ (h : ℕ). IsPotential arcs p q v h)
      (sym (get_or-map-range_with_len potential_of 0 count v v 0 inside (omega arith)))
      (some_potential arcs count p q ends greatest v).1

  listed_rise : All (Rises p q (slice_index listed)) arcs
  listed_rise k d inside =
      let x = get_or arcs k d in
      let there : Contains arcs x = Contains-get_or arcs k d inside in
      let under = ends_of arcs count ends x there in
      potentials_rise arcs p q (slice_index listed) x there (listed_potential x.source under.0) (listed_potential x.target under.1)

module _ (arcs : List Timed) (count : ℕ) (ends : AreEvents count arcs) (tokens : HasTokens arcs) where
  -- a best closed walk in lowest terms gives a period
  period_by : (p q : ℕ) (best : IsBest arcs count) → IsLowest (walk_delay best.walk) (walk_tokens best.walk) p q → SomePeriod arcs count
  period_by p q best l =
      let greatest = greatest_by_best arcs count p q ends best l in
      let r : IsRound arcs p q = round_in arcs p q greatest (length best.walk) best.start best.walk best.chain (walk_some best.walk best.some) (omega arith)
      (ratio_reached (walk_delay best.walk) (walk_tokens best.walk) p q l) in (
        p,
        q,
        sources_of (r.first ∷ r.rest),
        listed arcs count p q ends greatest,
        record {
          coprime = l.coprime;
          cycle = round_cycle arcs p q r;
          reached = record {
            start = r.first.source;
            walk = r.first ∷ r.rest;
            closed = r.chain;
            along = refl;
            some = tokens r.first.source (r.first ∷ r.rest) r.chain (omega arith);
            ratio = r.ratio;
          };
          size = listed_size arcs count p q ends greatest;
          rises = listed_rise arcs count p q ends greatest;
          greatest = listed_potential arcs count p q ends greatest;
        },
      )

  -- the best closed walk has it in lowest terms
  pub some_period : HasClosed arcs → SomePeriod arcs count
  some_period closed =
      let best = best_there arcs count ends tokens closed in
      let (g, divides) = some_gcd (walk_delay best.walk) (walk_tokens best.walk) in
      period_by (walk_delay best.walk / g) (walk_tokens best.walk / g) best
      (lowest_is (walk_delay best.walk) (walk_tokens best.walk) g best.some divides).1
