-- Whether an event may fire, and why not: one answer alone holds.
use Rattle.std.proofs.Common.{◌≡◌, ℕ, ◌+◌, ◌<◌, ◌≤◌, List, length, get_or, arith, ap, sym, subst, is_ok, inl, inr, refl, None, Result, Err, Ok, IsPermutation, AllPairs, ◌≢◌, ◌^◌}
use Rattle.std.proofs.lemmas.Bool.{cases_lt, false≢true}
use Rattle.std.proofs.lemmas.List.Sorted.{All-permutation, length_permutation}
use Rattle.ds_marked.specs.Graph.{Graph, AreEnds, IsEnabled, IsKept, StandsBefore}
use Rattle.ds_marked.specs.Blocked.{IsFirstLackingArc, IsLeastLacking, IsBlocked, Lacks}
use Rattle.ds_marked.specs.declared.marked.Arc.{Arc}
use Rattle.ds_marked.specs.declared.marked.Event.{Event}
use Rattle.ds_marked.specs.declared.blocked.Blocked.{Blocked}
use Rattle.ds_marked.specs.declared.blocked.Blocked.TheVariants as blocked

-- some arc
abbrev any : Arc
any = record { source = 0; target = 0; tokens = 0 }

one_first : (count : ℕ → ℕ) (v : ℕ) (arcs : List Arc) (a b : ℕ) → IsFirstLackingArc count v arcs a → IsFirstLackingArc count v arcs b → b ≤ a
one_first count v arcs a b first other = elim (cases_lt a b) [
  | inl below ↦ absurd (other.before a any (omega arith) below (first.lacks any))
  | inr above ↦ above
]

module _ (g : Graph) (limit : ℕ) (count : ℕ → ℕ) (v : ℕ) where
  pub free : count v < limit → IsLeastLacking g count v None → (b : Blocked) → ¬ IsBlocked g limit count v b
  free below none blocked.Limit high = omega arith
  free below none (blocked.Arc a) (low, first) = none a any first.inside (first.lacks any)

  pub not_free : (b : Blocked) → IsBlocked g limit count v b → ¬ IsEnabled g limit count v
  not_free blocked.Limit high enabled = let low : count v < limit = enabled.below in omega arith
  not_free (blocked.Arc a) (low, first) enabled =
      let lacks : Lacks count v (get_or g.arcs a any) = first.lacks any in
      let short : count (get_or g.arcs a any).source + (get_or g.arcs a any).tokens < count v + 1 = lacks.1 in
      let ready : count v + 1 ≤ count (get_or g.arcs a any).source + (get_or g.arcs a any).tokens = enabled.ready a any first.inside lacks.0 in
      omega arith

  pub one_reason : (b c : Blocked) → IsBlocked g limit count v b → IsBlocked g limit count v c → b ≡ c
  one_reason blocked.Limit blocked.Limit high other = refl
  one_reason blocked.Limit (blocked.Arc c) high (low, first) = absurd (omega arith)
  one_reason (blocked.Arc a) blocked.Limit (low, first) high = absurd (omega arith)
  one_reason (blocked.Arc a) (blocked.Arc c) (low, first) (same, other) =
      let up : c ≤ a = one_first count v g.arcs a c first other in
      let down : a ≤ c = one_first count v g.arcs c a other first in
      ap (λ (a : ℕ). blocked.Arc a) (omega arith)

err_or : Result (Unit {0}) Blocked → Blocked
err_or (Ok done) = blocked.Limit
err_or (Err b) = b

-- two refusals that are equal have equal reasons
pub reason : (b c : Blocked) → (let r : Result (Unit {0}) Blocked = Err b in r ≡ Err c) → b ≡ c
unfolding err_or
reason b c e = ap err_or e

err_is : (b : Blocked) → (let r : Result (Unit {0}) Blocked = Ok tt in ¬ (r ≡ Err b))
err_is b e = false≢true (sym (ap is_ok e))

-- an event that is free has no reason
pub no_reason : (g : Graph) (limit : ℕ) (count : ℕ → ℕ) (v : ℕ) → count v < limit → IsLeastLacking g count v None → (b : Blocked)
    → (let r : Result (Unit {0}) Blocked = Ok tt in r ≡ Err b → IsBlocked g limit count v b) × (let r : Result (Unit {0}) Blocked = Ok tt in IsBlocked g limit count v b → r ≡ Err b)
no_reason g limit count v below none b = (λ e. absurd (err_is b e), λ is. absurd (free g limit count v below none b is))

-- the reason is one
pub its_reason : (g : Graph) (limit : ℕ) (count : ℕ → ℕ) (v : ℕ) (a : Blocked) → IsBlocked g limit count v a → (b : Blocked)
    → (let r : Result (Unit {0}) Blocked = Err a in r ≡ Err b → IsBlocked g limit count v b) × (let r : Result (Unit {0}) Blocked = Err a in IsBlocked g limit count v b → r ≡ Err b)
its_reason g limit count v a is b = (λ e. subst (IsBlocked g limit count v) (reason a b e) is, λ other. ap (λ (b : Blocked). Err b) (one_reason g limit count v a b is other))

-- arcs that are put in order join the same events
pub ends_permuted : (events : ℕ) (arcs sorted : List Arc) → IsPermutation arcs sorted → AreEnds events arcs → AreEnds events sorted
ends_permuted events arcs sorted same ends = All-permutation (λ (arc : Arc). (arc.source < events) × (arc.target < events)) arcs sorted same ends

pub kept_sorted : (events : List Event) (arcs sorted : List Arc) → AllPairs (λ a b. a ≢ b) events → length events < 2 ^ 32 → length arcs < 2 ^ 32
    → IsPermutation arcs sorted → AreEnds (length events) arcs → AllPairs StandsBefore sorted → IsKept (record { events = events; arcs = sorted })
kept_sorted events arcs sorted once few few_arcs same ends stand = record {
  ends = ends_permuted (length events) arcs sorted same ends;
  sorted = stand;
  once = once;
  few_events = few;
  few_arcs = rw (length_permutation arcs sorted same) few_arcs;
}
