-- Tables of an order are added one after another, with their runs.
use Rattle.std.proofs.Common.{◌≡◌, ℕ, ◌+◌, ◌<◌, ◌≤◌, ◌∙◌, true, List, [], ◌∷◌, ◌++◌, length, take, drop, get_or, ap, arith, sym, subst, append-nil}
use Rattle.std.proofs.Math.Seq.{drop-append_seam, take-append_seam}
use Rattle.std.proofs.lemmas.List.{append_assoc, drop-append-le, length-map, length-take-le, map_push, take-append-drop, take-append-le, take_more}
use Rattle.ds_cover.specs.Bank.{Driven, driven_at}
use Rattle.ds_cover.specs.Kept.{IsQuick}
use Rattle.ds_cover.specs.declared.entry.Quick.{Quick}
use Rattle.ds_cover.specs.Series.{AreAdded, AreRuns, IsRunOfTables, IsRunAdded, IsSmallAdded, in_table_order, joined_runs}
use Rattle.ds_cover.specs.Small.{Shelved}
use Rattle.ds_cover.specs.Series.IsRunAdded.{alone, joins}
use Rattle.ds_cover.specs.declared.run.Run.{Run}
use Rattle.ds_cover.proofs.SeriesGrowth.{grows, run_stays, runs_alone, runs_joined}

-- the last of some runs behind others is one of theirs
module _ (before own front : List Run) (last : Run) (is : before ++ own ≡ front ++ last ∷ []) (low : length before ≤ length front) where
  own_is : own ≡ drop (length before) front ++ last ∷ []
  own_is = sym (drop-append_seam before own) ∙ (ap (drop (length before)) is ∙ drop-append-le (length before) front (last ∷ []) low)

  front_is : front ≡ before ++ drop (length before) front
  front_is =
      sym (take-append-drop (length before) front)
      ∙ ap (λ (rs : List Run). rs ++ drop (length before) front)
      (sym (take-append-le (length before) front (last ∷ []) low) ∙ (sym (ap (take (length before)) is) ∙ take-append_seam before own))

-- one table more
module _ (quick : Quick) (first old new : List Shelved) (tables : List Driven) (t : Driven) (run : Run) (start : ℕ) (before : List Run)
    (added : IsSmallAdded quick t.cover.masks t.cover.on (length t.cover.inputs) (length tables) old new run)
    (drives : quick.output ≡ t.output) (is_quick : quick.few ≡ true → IsQuick quick t.cover) where
  more : (runs after own : List Run) → AreAdded first old tables start before runs → after ≡ before ++ own → AreRuns new (tables ++ t ∷ []) start own
      → AreAdded first new (tables ++ t ∷ []) start before after
  more runs after own so_far behind are =
      record {
        stay = λ these others r is.
            subst (λ (ts : List Driven). IsRunOfTables new ts r) (append-nil (these ++ others))
            (run_stays old new (grows quick old new tables t run added drives is_quick) (these ++ others) [] r (so_far.stay these others r is));
        own = own;
        behind = behind;
        runs = are;
      }

  added_more : (runs after : List Run) → AreAdded first old tables start before runs → IsRunAdded (length before) runs run after → AreAdded first new (tables ++ t ∷ []) start before after
  added_more runs after so_far (alone is) =
      more runs after (so_far.own ++ run ∷ []) so_far
      (is ∙ (ap (λ (rs : List Run). rs ++ run ∷ []) so_far.behind ∙ append_assoc before so_far.own (run ∷ [])))
      (runs_alone quick old new tables t run added drives is_quick start so_far.own so_far.runs)
  added_more runs after so_far (joins front last was low kind meets is) =
      let both : before ++ so_far.own ≡ front ++ last ∷ [] = sym so_far.behind ∙ was in
      let rest : List Run = drop (length before) front in
      more runs after (drop (length before) front ++ joined_runs last run ∷ []) so_far
      (is ∙ (ap (λ (rs : List Run). rs ++ joined_runs last run ∷ []) (front_is before so_far.own front last both low) ∙ append_assoc before (drop (length before) front) (joined_runs last run ∷ [])))
      (runs_joined quick old new tables t run added drives is_quick start (drop (length before) front) last meets kind
      (subst (AreRuns old tables start) (own_is before so_far.own front last both low) so_far.runs))

-- one more table of an order
pub more_made : (quick : Quick) (bank : List Driven) (order : List ℕ) (i k others start : ℕ) (first old new : List Shelved) (run : Run) (before runs runs' : List Run) → i < length order → k ≡ get_or order i k
    → others ≡ length before → IsSmallAdded quick (driven_at bank k).cover.masks (driven_at bank k).cover.on (length (driven_at bank k).cover.inputs) i old new run → quick.output ≡ (driven_at bank k).output
    → (quick.few ≡ true → IsQuick quick (driven_at bank k).cover) → AreAdded first old (in_table_order bank (take i order)) start before runs → IsRunAdded others runs run runs'
    → AreAdded first new (in_table_order bank (take (i + 1) order)) start before runs'
more_made quick bank order i k others start first old new run before runs runs' inside is size added drives is_quick so_far run_added =
    let t = driven_at bank k in
    let long : length (in_table_order bank (take i order)) ≡ i = length-map (take i order) (driven_at bank) ∙ length-take-le i order (omega (inside, arith)) in
    let added' : IsSmallAdded quick t.cover.masks t.cover.on (length t.cover.inputs) (length (in_table_order bank (take i order))) old new run =
    subst (λ n. IsSmallAdded quick t.cover.masks t.cover.on (length t.cover.inputs) n old new run) (sym long) added in
    let whole : in_table_order bank (take (i + 1) order) ≡ in_table_order bank (take i order) ++ driven_at bank k ∷ [] =
    ap (in_table_order bank) (take_more order i k inside) ∙ (map_push (driven_at bank) (take i order) (get_or order i k)
    ∙ ap (λ n. in_table_order bank (take i order) ++ driven_at bank n ∷ []) (sym is)) in
    subst (λ (ts : List Driven). AreAdded first new ts start before runs') (sym whole)
    (added_more quick first old new (in_table_order bank (take i order)) (driven_at bank k) run start before added' drives is_quick runs runs' so_far
    (subst (λ (n : ℕ). IsRunAdded n runs run runs') size run_added))
