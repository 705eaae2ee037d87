-- A schedule as it begins.
use Rattle.std.proofs.Common.{◌≡◌, ◌⊎◌, inl, inr, ◌<◌, ℕ, List, length, get_or, arith, sym, subst}
use Rattle.std.specs.Prelude.{All, slice_index}
use Rattle.std.specs.List.Sorted.{IsPermutation}
use Rattle.std.proofs.lemmas.List.Elements.{All-get_or}
use Rattle.std.proofs.lemmas.List.Sorted.{All-permutation, Contains-permutation}
use Rattle.ds_marked.specs.Graph.{AreEnds, Graph, IsKept}
use Rattle.ds_period.specs.declared.timed.Timed.{Timed}
use Rattle.ds_period.specs.Search.{no_arc, timed_at}
use Rattle.ds_period.specs.Timing.{timed_arcs}
use Rattle.ds_period.proofs.TimedArcs.{timed_all}
use Rattle.ds_rank.specs.Rank.{AreRanks}
use Rattle.ds_times.specs.Schedule.{IsHeldBack, RankRises, WaitsAlong}
use Rattle.ds_times.specs.Rings.{KeptTimes}
use Rattle.ds_times.specs.Ranked.{AreByRank, AreLaid, AreRooms}
use Rattle.ds_times.specs.Course.{HasSchedulesOf, IsPlanned, KeepsTimes}
use Rattle.ds_times.proofs.Laid.{IsRoom}
use Rattle.ds_times.proofs.ArcsByRank.{ranked_rises}

-- arcs by rank join events
pub ends_by_rank : (g : Graph) (delays : List ℕ) (rank : ℕ → ℕ) (arcs : List Timed) → AreEnds (length g.events) g.arcs
    → AreByRank (timed_arcs g.arcs delays) rank arcs → All (λ x. (x.source < length g.events) × (x.target < length g.events)) arcs
ends_by_rank g delays rank arcs ends by_rank =
    All-permutation (λ (x : Timed). (x.source < length g.events) × (x.target < length g.events)) (timed_arcs g.arcs delays) arcs by_rank.same
    (timed_all (λ u v t. (u < length g.events) × (v < length g.events)) g.arcs delays ends)

-- sources are events, in whichever list they are named
pub sources_within : (g : Graph) (delays : List ℕ) (rank : ℕ → ℕ) (arcs others : List Timed) (events : ℕ) → IsKept g
    → AreByRank (timed_arcs g.arcs delays) rank arcs → others ≡ arcs → events ≡ length g.events → All (λ x. x.source < events) others
sources_within g delays rank arcs others events kept by_rank same count =
    subst (λ (xs : List Timed). All (λ x. x.source < events) xs) (sym same)
    (λ k d inside. (let ends = ends_by_rank g delays rank arcs kept.ends by_rank k d inside in omega (arith, ends.0)))

pub planned : (g : Graph) (delays ranks rooms starts : List ℕ) (arcs : List Timed) → AreEnds (length g.events) g.arcs → AreRanks g ranks
    → AreByRank (timed_arcs g.arcs delays) (slice_index ranks) arcs → AreRooms arcs (length g.events) rooms → AreLaid rooms starts → IsPlanned arcs starts
planned g delays ranks rooms starts arcs ends are by_rank room laid =
    let within = ends_by_rank g delays (slice_index ranks) arcs ends by_rank in
    record {
      rank = λ v. slice_index ranks v;
      rises = All-permutation (RankRises (λ v. slice_index ranks v)) (timed_arcs g.arcs delays) arcs by_rank.same (ranked_rises g ranks ends are delays);
      sorted = λ i j le inside. by_rank.sorted i j no_arc le inside;
      ends = λ j inside.
          let both = within j no_arc inside in
          (omega (arith, both.0, laid.size, room.size), omega (arith, both.1, laid.size, room.size));
      kept = λ j inside.
          let both = within j no_arc inside in
          let enough = room.kept j inside in
          let here = laid.room (timed_at arcs j).source (omega (arith, both.0, room.size)) in
          omega arith;
      rooms = λ v inside.
          let here = laid.room v (omega (arith, laid.size)) in
          let some : 0 < get_or rooms v 0 = (All-get_or IsRoom rooms v 0 (omega (arith, laid.size)) room.low).0 in
          omega arith;
      small = by_rank.small;
    }

-- nothing has fired
pub keeps_none : (arcs : List Timed) (kept : KeptTimes) → KeepsTimes arcs kept 0
keeps_none arcs kept time is v k inside some none near = absurd (omega arith)

-- the same arcs in another order have the same schedules
pub permuted_schedules : (arcs others : List Timed) → IsPermutation arcs others → HasSchedulesOf arcs others
permuted_schedules arcs others same turns time is = record {
  waits = All-permutation (WaitsAlong time turns) arcs others same is.waits;
  early = λ v k some few. held v k (is.early v k some few);
}
  where
    held : (v k : ℕ) → (time v k ≡ 0) ⊎ IsHeldBack arcs time v k → (time v k ≡ 0) ⊎ IsHeldBack others time v k
    held v k (inl none) = inl none
    held v k (inr (j, x, inside, at, p)) = let (i, within, here) = Contains-permutation arcs others x same (j, inside, at) in inr (i, x, within, here, p)

-- those by rank among them
pub schedules_by_rank : (arcs others : List Timed) (rank : ℕ → ℕ) → AreByRank arcs rank others → HasSchedulesOf arcs others
schedules_by_rank arcs others rank by_rank = permuted_schedules arcs others by_rank.same
