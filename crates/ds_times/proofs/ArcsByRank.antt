-- Arcs with delays, by the ranks of their targets.
use Rattle.std.proofs.Common.{◌≡◌, ◌∙◌, ◌<◌, ◌≤◌, ◌+◌, ℕ, List, [], ◌∷◌, ◌++◌, length, get_or, map, take, refl, arith, ap, ap₂, sym, subst}
use Rattle.std.specs.Prelude.{All, slice_index}
use Rattle.std.specs.List.Sorted.{IsNonDecreasingBy, IsPermutation}
use Rattle.std.proofs.lemmas.List.{get_or-map, length-map, length-take-le, map_push, take_more}
use Rattle.std.proofs.lemmas.List.Elements.{All-map, All-push, All-weaker, Contains-get_or}
use Rattle.std.proofs.lemmas.List.Sorted.{All-permutation, IsPermutation-map}
use Rattle.ds_marked.specs.Graph.{AreEnds, Graph, IsLive}
use Rattle.ds_marked.specs.declared.marked.Arc.{Arc}
use Rattle.ds_period.specs.declared.timed.Timed.{Timed}
use Rattle.ds_period.specs.Search.{no_arc}
use Rattle.ds_period.specs.Timing.{timed, timed_arcs}
use Rattle.ds_period.proofs.TimedArcs.{timed_all}
use Rattle.ds_rank.specs.Rank.{AreRanks}
use Rattle.ds_times.specs.Schedule.{RankRises}
use Rattle.ds_times.specs.Ranked.{AreByRank, AreRankedArcs, IsSmall}
use Rattle.ds_times.specs.declared.ranked_arc.RankedArc.{RankedArc}

-- the numbers of a graph in which nothing waits for itself rise along arcs with delays
pub timed_rises : (g : Graph) (live : IsLive g) (delays : List ℕ) → All (RankRises live.rank) (timed_arcs g.arcs delays)
timed_rises g live delays = timed_all (λ u v t. t ≡ 0 → live.rank u < live.rank v) g.arcs delays live.rises

-- a graph with ranks is such
pub ranked_live : (g : Graph) (ranks : List ℕ) → AreEnds (length g.events) g.arcs → AreRanks g ranks → IsLive g
ranked_live g ranks ends are = record {
  ends = ends;
  rank = λ v. slice_index ranks v;
  rises = λ j d inside free.
      let (k, within, at) = Contains-get_or g.arcs j d inside in
      let up = are.above (get_or g.arcs j d).source (get_or g.arcs j d).target (k, get_or g.arcs j d, within, at, (refl, refl, free)) in
      omega arith;
}

-- ranks rise along arcs with delays
pub ranked_rises : (g : Graph) (ranks : List ℕ) → AreEnds (length g.events) g.arcs → AreRanks g ranks → (delays : List ℕ)
    → All (RankRises (λ v. slice_index ranks v)) (timed_arcs g.arcs delays)
unfolding ranked_live
ranked_rises g ranks ends are delays = timed_rises g (ranked_live g ranks ends are) delays

-- an arc with its rank
abbrev pub IsRankedArc : (ℕ → ℕ) → RankedArc → Type 0
IsRankedArc rank r = (r.rank ≡ rank r.arc.target) × IsSmall rank r.arc

-- an arc at the end
timed_push : (arcs : List Arc) (delays : List ℕ) (arc : Arc) (delay : ℕ) → length delays ≡ length arcs
    → timed_arcs (arcs ++ arc ∷ []) (delays ++ delay ∷ []) ≡ timed_arcs arcs delays ++ timed arc delay ∷ []
timed_push [] [] arc delay same = refl
timed_push [] (d ∷ delays) arc delay same = absurd (omega arith)
timed_push (a ∷ arcs) [] arc delay same = absurd (omega arith)
timed_push (a ∷ arcs) (d ∷ delays) arc delay same =
    ap (λ (xs : List Timed). timed a d ∷ xs) (timed_push arcs delays arc delay (omega arith))

-- one arc more with its delay
timed_more : (arcs : List Arc) (delays : List ℕ) (k : ℕ) (a : Arc) (d : ℕ) → k < length arcs → length delays ≡ length arcs
    → timed_arcs (take (k + 1) arcs) (take (k + 1) delays)
    ≡ timed_arcs (take k arcs) (take k delays) ++ timed (get_or arcs k a) (get_or delays k d) ∷ []
timed_more arcs delays k a d lt same =
    ap₂ (λ (xs : List Arc) (ds : List ℕ). timed_arcs xs ds) (take_more arcs k a lt) (take_more delays k d (omega arith))
    ∙ timed_push (take k arcs) (take k delays) (get_or arcs k a) (get_or delays k d)
    (length-take-le k delays (omega arith) ∙ sym (length-take-le k arcs (omega arith)))

-- one arc more
pub ranked_more : (arcs : List Arc) (delays : List ℕ) (k : ℕ) (a : Arc) (d : ℕ) (rank : ℕ → ℕ) (ranked : List RankedArc) (r : RankedArc)
    → k < length arcs → length delays ≡ length arcs → AreRankedArcs (timed_arcs (take k arcs) (take k delays)) rank ranked
    → r.arc ≡ timed (get_or arcs k a) (get_or delays k d) → r.rank ≡ rank (get_or arcs k a).target → IsSmall rank r.arc
    → AreRankedArcs (timed_arcs (take (k + 1) arcs) (take (k + 1) delays)) rank (ranked ++ r ∷ [])
ranked_more arcs delays k a d rank ranked r lt same are arc_is rank_is small = record {
  arcs_are = map_push (λ (r : RankedArc). r.arc) ranked r
      ∙ (ap₂ (λ (xs : List Timed) (x : Timed). xs ++ x ∷ []) are.arcs_are arc_is
      ∙ sym (timed_more arcs delays k a d lt same));
  ranks = All-push (IsRankedArc rank) ranked r are.ranks (rank_is ∙ ap rank (sym (ap (λ (x : Timed). x.target) arc_is)), small);
}

-- sorted by rank
pub sorted_arcs : (arcs : List Timed) (rank : ℕ → ℕ) (ranked all : List RankedArc) → AreRankedArcs arcs rank ranked → IsPermutation ranked all
    → IsNonDecreasingBy (λ r. r.rank) all → AreByRank arcs rank (map (λ (r : RankedArc). r.arc) all)
sorted_arcs arcs rank ranked all are permuted rising =
    let have : All (IsRankedArc rank) all = All-permutation (IsRankedArc rank) ranked all permuted are.ranks in
    let long : length (map (λ (r : RankedArc). r.arc) all) ≡ length all = length-map all (λ (r : RankedArc). r.arc) in
    let first : RankedArc = record { rank = 0; arc = no_arc } in
    let rank_is : (i : ℕ) (d : Timed) → i < length all → (get_or all i first).rank ≡ rank (get_or (map (λ (r : RankedArc). r.arc) all) i d).target =
    λ i d inside. (have i first inside).0 ∙ ap (λ (x : Timed). rank x.target) (sym (get_or-map (λ (r : RankedArc). r.arc) all i first d inside)) in
    record {
      same = subst (λ (xs : List Timed). IsPermutation xs (map (λ (r : RankedArc). r.arc) all)) are.arcs_are (IsPermutation-map (λ (r : RankedArc). r.arc) ranked all permuted);
      sorted = λ i j d below inside.
          let up : (get_or all i first).rank ≤ (get_or all j first).rank = rising i j first below (omega arith) in
          let one = rank_is i d (omega arith) in
          let two = rank_is j d (omega arith) in
          omega arith;
      small = All-map (IsSmall rank) (λ (r : RankedArc). r.arc) all (All-weaker (IsRankedArc rank) (λ (r : RankedArc). IsSmall rank r.arc) (λ r p. p.1) all have);
    }
