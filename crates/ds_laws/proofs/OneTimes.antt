-- A graph in which nothing waits for itself has one text of its times.
use Rattle.std.proofs.Common.{◌≡◌, ◌∙◌, ◌<◌, ◌≤◌, ◌++◌, ℕ, List, [], ◌∷◌, length, arith, refl, ap, ap₂, sym, subst}
use Rattle.std.specs.Prelude.{codes, decimal, slice_index, Contains}
use Rattle.std.specs.List.{flat_map}
use Rattle.ds_marked.specs.Graph.{Graph, IsLive}
use Rattle.ds_marked.specs.Log.{text_of_event}
use Rattle.ds_rank.proofs.OneRanking.{one_list_of_ranks_lem}
use Rattle.ds_period.specs.Timing.{timed_arcs}
use Rattle.ds_times.specs.Order.{IsByRank, firings_from}
use Rattle.ds_times.proofs.ArcsByRank.{timed_rises}
use Rattle.ds_times.proofs.Times.{same_times}
use Rattle.ds_graph_laws.proofs.ListPositions.{contains_head, contains_tail}
use Rattle.ds_graph_laws.proofs.OneOrder.{events_have_one_order}
use Rattle.ds_graph_laws.proofs.TurnListing.{in_turns}
use Rattle.ds_stage.specs.TimesStage.{IsTimesText, time_line, time_lines}

-- texts that agree item by item
lines_agree : {X A : Type 0} (f h : X → List A) (xs : List X) → ((x : X) → Contains xs x → f x ≡ h x) → flat_map f xs ≡ flat_map h xs
lines_agree f h [] same = refl
lines_agree f h (x ∷ xs) same = ap₂ ◌++◌ (same x (contains_head x xs)) (lines_agree f h xs (λ z at. same z (contains_tail x xs z at)))

-- two orders of the same events are one
one_order_of : (rank : ℕ → ℕ) (events : ℕ) (one other : List ℕ) → IsByRank rank events one → IsByRank rank events other → one ≡ other
one_order_of rank events one other is also =
    let (order, by_rank, all) = events_have_one_order rank events in all one is ∙ sym (all other also)

module _ (g : Graph) (live : IsLive g) (delays : List ℕ) (turns : ℕ) where
  pub one_times_text : (text other : List ℕ) → IsTimesText g delays turns text → IsTimesText g delays turns other → other ≡ text
  one_times_text text other is also =
      let ranks : also.ranks ≡ is.ranks = one_list_of_ranks_lem g also.ranks is.ranks also.are_ranks is.are_ranks in
      let by_rank : IsByRank (slice_index is.ranks) (length g.events) also.order =
      subst (λ (rs : List ℕ). IsByRank (slice_index rs) (length g.events) also.order) ranks also.by_rank in
      let order : also.order ≡ is.order = one_order_of (slice_index is.ranks) (length g.events) also.order is.order by_rank is.by_rank in
      let times : (v k : ℕ) → 0 < k → k ≤ turns → also.time v k ≡ is.time v k =
      same_times (timed_arcs g.arcs delays) live.rank (timed_rises g live delays) turns also.time is.time also.schedule is.schedule in
      also.spelt
      ∙ (ap (λ (vs : List ℕ). time_lines g also.time vs turns) order
      ∙ (lines_agree (time_line g also.time) (time_line g is.time) (firings_from is.order 1 turns) (λ f at.
      let (inside, low, high) = in_turns is.order 1 turns f at in
      ap (λ (t : ℕ). text_of_event g f.event ++ codes " " ++ decimal f.turn ++ codes " " ++ decimal t ++ codes "\n")
      (times f.event f.turn (omega (arith, low)) (omega (arith, high))))
      ∙ sym is.spelt))
