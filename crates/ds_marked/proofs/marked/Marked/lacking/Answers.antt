use Rattle.std.proofs.Common.{◌≡◌, ◌<◌, ◌≤◌, ◌+◌, ℕ, List, Some, Option, slice_index, subst, sym, ap, get_or, ◌∙◌, inl, inr}
use Rattle.std.proofs.lemmas.Bool.{cases_lt, false≢true}
use Rattle.std.proofs.lemmas.List.{get_or_default}
use Rattle.ds_marked.specs.declared.marked.Arc.{Arc}
use Rattle.ds_marked.proofs.ArcsIntoEvent.{IsWalked, left, left_falls, walk_next}
use Rattle.ds_marked.proofs.marked.Marked.lacking.Goals as goal

-- an arc has a token for the event's next firing
abbrev Serves : (ℕ → ℕ) → ℕ → Arc → Type 0
Serves count v arc = count v + 1 ≤ count arc.source + arc.tokens

pub walk-smaller : goal.walk-smaller
walk-smaller c =
    let arcs : List Arc = c.args.self.now.arcs in
    let v : ℕ = c.args.event in
    let walked : IsWalked (Serves (slice_index c.args.counts.now) v) arcs v (Some c.in-Some.arc) = subst (IsWalked (Serves (slice_index c.args.counts.now) v) arcs v) c.in-Some.is c.walk.invariant in
    subst (λ (next : Option ℕ). left arcs c.into_next-next.result < left arcs next) (sym c.in-Some.is)
    (left_falls arcs v c.in-Some.arc c.into_next-next.result walked.here (c.into_next-next.ensures v walked.here))

pub walk-preserved : goal.walk-preserved
walk-preserved c =
    let arcs : List Arc = c.args.self.now.arcs in
    let v : ℕ = c.args.event in
    let walked : IsWalked (Serves (slice_index c.args.counts.now) v) arcs v (Some c.in-Some.arc) = subst (IsWalked (Serves (slice_index c.args.counts.now) v) arcs v) c.in-Some.is c.walk.invariant in
    let arc : Arc = c.index-arcs-index.result in
    let same : (d : Arc) → arc ≡ get_or arcs c.in-Some.arc d = λ d.
    c.index-arcs-index.is ∙ (ap (λ (xs : List Arc). get_or xs c.index.result arc) c.arcs.ensures.arcs
    ∙ (ap (λ (k : ℕ). get_or arcs k arc) c.index.ensures ∙ get_or_default arcs c.in-Some.arc arc d walked.here.0)) in
    let serves : Serves (slice_index c.args.counts.now) v arc =
    elim (cases_lt (slice_index c.args.counts.now arc.source + arc.tokens) (slice_index c.args.counts.now v + 1)) [
      | inl low ↦ absurd (false≢true (c.if-lacks.ensures.1 low))
      | inr high ↦ high
    ] in
    walk_next (Serves (slice_index c.args.counts.now) v) arcs v c.in-Some.arc c.into_next-next.result walked
    (λ d. subst (Serves (slice_index c.args.counts.now) v) (same d) serves) (c.into_next-next.ensures v walked.here)
