-- Lists of firings with one firing more.
use Rattle.std.proofs.Common.{◌≡◌, ◌∙◌, ℕ, ◌+◌, ◌<◌, ◌≤◌, List, [], ◌∷◌, ◌++◌, length, get_or, refl, arith, ap, sym, subst}
use Rattle.ds_base.specs.Values.{Row}
use Rattle.ds_marked.specs.Graph.{Graph, IsEnabled, IsLegal, IsLegalFrom, counted, counts_after}
use Rattle.ds_marked.specs.declared.marked.Arc.{Arc}
use Rattle.ds_latch.specs.Node.{Split}
use Rattle.ds_latch.specs.Plan.{Planned}
use Rattle.ds_latch.specs.Firing.{State, first_state, Fires, FiresAll}
use Rattle.ds_latch.proofs.Flow.{fires_count}
use Rattle.ds_fire.specs.Snapshot.{Snapshot, Shows, split_of, graph_of, limit_of, count_of}
use Rattle.ds_fire.specs.Fired.{IsFired, IsAfter, IsReached}

-- counts that agree let the same events fire
pub enabled_same : (g : Graph) (limit : ℕ) (count count' : ℕ → ℕ) → ((u : ℕ) → count u ≡ count' u) → (v : ℕ) → IsEnabled g limit count v → IsEnabled g limit count' v
enabled_same g limit count count' same v is = record {
  event = is.event;
  below = (let e : count v ≡ count' v = same v in let low : count v < limit = is.below in omega arith);
  ready = λ k d inside target.
      let arc : Arc = get_or g.arcs k d in
      let ready : count v + 1 ≤ count (get_or g.arcs k d).source + (get_or g.arcs k d).tokens = is.ready k d inside target in
      let here : count v ≡ count' v = same v in
      let there : count (get_or g.arcs k d).source ≡ count' (get_or g.arcs k d).source = same (get_or g.arcs k d).source in
      omega arith;
}

fires_push : (s : Split) (vectors : List Row) (events : List ℕ) (a b c : State) (v : ℕ) → FiresAll s vectors a events b → Fires s vectors b v c → FiresAll s vectors a (events ++ v ∷ []) c
fires_push s vectors [] a b c v is fires = (c, subst (λ (x : State). Fires s vectors x v c) is fires, refl)
fires_push s vectors (e ∷ events) a b c v (next, first, rest) fires = (next, first, fires_push s vectors events next b c v rest fires)

legal_push : (g : Graph) (limit : ℕ) (events : List ℕ) (count : ℕ → ℕ) (v : ℕ) → IsLegalFrom g limit count events → IsEnabled g limit (counts_after count events) v → IsLegalFrom g limit count (events ++ v ∷ [])
legal_push g limit [] count v legal enabled = (enabled, tt)
legal_push g limit (e ∷ events) count v (one, rest) enabled = (one, legal_push g limit events (counted e count) v rest enabled)

pub count_after : (s : Split) (vectors : List Row) (events : List ℕ) (a b : State) → FiresAll s vectors a events b → b.count ≡ counts_after a.count events
count_after s vectors [] a b is = ap (λ (x : State). x.count) is
count_after s vectors (v ∷ events) a b (next, first, rest) =
    count_after s vectors events next b rest ∙ ap (λ (count : ℕ → ℕ). counts_after count events) (fires_count s vectors a v next first)

pub fired_after : (old new : Snapshot) (v : ℕ) (events : List ℕ) → IsFired old v new → IsAfter old events → IsAfter new (events ++ v ∷ [])
fired_after old new v events fired (now, all, shows) =
    let (next, fires, shown) = fired.fires now shows in
    let more : FiresAll (split_of old) old.vectors (first_state (split_of old)) (events ++ v ∷ []) next = fires_push (split_of old) old.vectors events (first_state (split_of old)) now next v all fires in (
      next,
      subst (λ (p : Planned). FiresAll p.split new.vectors (first_state p.split) (events ++ v ∷ []) next) (sym fired.planned)
          (subst (λ (vectors : List Row). FiresAll (split_of old) vectors (first_state (split_of old)) (events ++ v ∷ []) next) (sym fired.vectors) more),
      shown,
    )

-- a legal list leads to the counts that are kept
pub kept_counts : (kept : Snapshot) (events : List ℕ) (now : State) → FiresAll (split_of kept) kept.vectors (first_state (split_of kept)) events now → Shows kept now → (u : ℕ) → counts_after (λ _. 0) events u ≡ count_of kept u
kept_counts kept events now all shows u =
    ap (λ (count : ℕ → ℕ). count u) (sym (count_after (split_of kept) kept.vectors events (first_state (split_of kept)) now all)) ∙ shows.counts u

pub reached_after : (old new : Snapshot) (v : ℕ) → IsFired old v new → IsReached old → IsReached new
reached_after old new v fired (events, legal, (now, all, shows)) =
    let enabled : IsEnabled (graph_of old) (limit_of old) (counts_after (λ _. 0) events) v =
    enabled_same (graph_of old) (limit_of old) (count_of old) (counts_after (λ _. 0) events) (λ u. sym (kept_counts old events now all shows u)) v fired.enabled in
    let more : IsLegal (graph_of old) (limit_of old) (events ++ v ∷ []) = legal_push (graph_of old) (limit_of old) events (λ _. 0) v legal enabled in (
      events ++ v ∷ [],
      subst (λ (p : Planned). IsLegal p.graph (limit_of new) (events ++ v ∷ [])) (sym fired.planned)
          (subst (λ (vectors : List Row). IsLegal (graph_of old) (length vectors) (events ++ v ∷ [])) (sym fired.vectors) more),
      fired_after old new v events fired (now, all, shows),
    )
