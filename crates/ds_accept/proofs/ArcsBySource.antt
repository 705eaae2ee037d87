-- The arcs of a graph, those from one event after the other.
use Rattle.std.proofs.Common.{◌≡◌, ◌∙◌, ◌<◌, ◌≤◌, ◌+◌, ◌-◌, ℕ, List, ◌++◌, length, get_or, inl, inr, arith, ap, take, drop, length-take, length-drop}
use Rattle.std.specs.Prelude.{Contains}
use Rattle.std.proofs.lemmas.Bool.{cases_lt}
use Rattle.std.proofs.lemmas.List.{get_or-take, get_or-drop, get_or_default}
use Rattle.std.proofs.lemmas.List.Elements.{All-contains, All-append, All-take, All-drop, All-contains_itself, Contains-append_left, Contains-append_right}
use Rattle.ds_marked.specs.Graph.{AreEnds, IsRangeFrom}
use Rattle.ds_marked.specs.declared.marked.Arc.{Arc}
use Rattle.ds_accept.specs.Masks.{AreAllIn, IsWithFrom}

-- the arcs of a range stand behind others
pub with_range : (arcs : List Arc) (v low high : ℕ) (old : List Arc) → IsRangeFrom arcs v low high → IsWithFrom arcs v old (old ++ take (high - low) (drop low arcs))
with_range arcs v low high old range = record {
  kept = λ k d inside. Contains-append_left old (take (high - low) (drop low arcs)) (get_or old k d) (All-contains_itself old k d inside);
  added = λ k d inside is. Contains-append_right old (take (high - low) (drop low arcs)) (get_or arcs k d) (
      elim (cases_lt k low) [
        | inl under ↦ absurd (let less : (get_or arcs k d).source < v = range.below k d (omega arith) under in omega arith)
        | inr above ↦ elim (cases_lt k high) [
          | inl within ↦ (k - low, short k inside above within, there k (get_or arcs k d) inside above within ∙ own k d inside)
          | inr past ↦ absurd (let more : v < (get_or arcs k d).source = range.above k d past inside in omega arith)
        ]
      ]);
  alone = λ all. All-append (Contains arcs) old (take (high - low) (drop low arcs)) all
      (All-take (Contains arcs) (high - low) (drop low arcs) (All-drop (Contains arcs) low arcs (All-contains_itself arcs)));
}
  where
    short : (k : ℕ) → k < length arcs → low ≤ k → k < high → k - low < length (take (high - low) (drop low arcs))
    short k inside above within = simp (length-take, length-drop) (omega arith)

    there : (k : ℕ) (x : Arc) → k < length arcs → low ≤ k → k < high → get_or (take (high - low) (drop low arcs)) (k - low) x ≡ get_or arcs k x
    there k x inside above within = get_or-take (high - low) (drop low arcs) (k - low) x (omega arith) ∙ (get_or-drop low arcs (k - low) x ∙ (let e : low + (k - low) ≡ k = omega arith in ap (λ (i : ℕ). get_or arcs i x) e))

    own : (k : ℕ) (d : Arc) → k < length arcs → get_or arcs k (get_or arcs k d) ≡ get_or arcs k d
    own k d inside = get_or_default arcs k (get_or arcs k d) d inside

-- arcs that stand in a list join the same events
pub ends_in : (events : ℕ) (arcs others : List Arc) → AreAllIn arcs others → AreEnds events others → AreEnds events arcs
ends_in events arcs others all ends k d inside = All-contains (λ (arc : Arc). (arc.source < events) × (arc.target < events)) others (get_or arcs k d) ends (all k d inside)

-- one more event's arcs
pub all_kept : (old new : List Arc) (x : Arc) → AreAllIn old new → Contains old x → Contains new x
all_kept old new x kept at = All-contains (Contains new) old x kept at
