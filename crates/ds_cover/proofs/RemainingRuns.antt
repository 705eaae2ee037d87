-- Runs that are set one after another, by the numbers of their tables.
use Rattle.std.proofs.Common.{◌≡◌, ℕ, suc, ◌+◌, ◌-◌, ◌<◌, ◌≤◌, List, [], ◌∷◌, ◌++◌, length, take, drop, get_or, refl, ap, arith, sym, subst, ◌∙◌}
use Rattle.std.specs.Prelude.{All}
use Rattle.std.proofs.Math.Seq.{drop-cons}
use Rattle.std.proofs.lemmas.List.{drop_all, length-map, map-append, take-append-drop}
use Rattle.std.proofs.lemmas.List.Elements.{All-cons, All-nil}
use Rattle.ds_base.specs.Values.{Row}
use Rattle.ds_cover.specs.Bank.{Driven, after_table, after_tables, driven_at}
use Rattle.ds_cover.proofs.LentRows.{length-after_tables}
use Rattle.ds_cover.specs.Series.{AreRuns, FindsKnown, IsRunOfTables, after_each, in_table_order, numbers_in, numbers_of, own_tables}
use Rattle.ds_cover.specs.Small.{Shelved}
use Rattle.ds_cover.specs.declared.run.Run.{Run}
use Rattle.ds_cover.proofs.RunTables.{own_in_order, run_after}
use Rattle.ds_cover.proofs.TablesByRun.{drop-drop, finds-split}

after_tables-append : (bank : List Driven) (these those : List ℕ) (nets : Row) → after_tables bank nets (these ++ those) ≡ after_tables bank (after_tables bank nets these) those
after_tables-append bank [] those nets = refl
after_tables-append bank (k ∷ these) those nets = after_tables-append bank these those (after_table bank nets k)

-- what is left of some runs
pub record IsLeft (bank : List Driven) (order : List ℕ) (initial nets : Row) (runs left : List Run) : Type 0 where
  pub same : length nets ≡ length initial
  pub rest : after_tables bank initial (numbers_of order runs) ≡ after_tables bank nets (numbers_of order left)

-- the runs from one on
next_left : (runs : List Run) (i : ℕ) (d : Run) → i < length runs → drop i runs ≡ get_or runs i d ∷ drop (i + 1) runs
next_left runs i d inside =
    let n : suc i ≡ i + 1 = omega arith in
    drop-cons runs i d inside ∙ ap (λ m. get_or runs i d ∷ drop m runs) n

-- one run less
pub left_less : (bank : List Driven) (order : List ℕ) (initial nets nets' : Row) (runs : List Run) (i : ℕ) (d : Run) → i < length runs
    → IsLeft bank order initial nets runs (drop i runs) → nets' ≡ after_each (own_tables (in_table_order bank order) (get_or runs i d)) nets → IsLeft bank order initial nets' runs (drop (i + 1) runs)
left_less bank order initial nets nets' runs i d inside left is =
    let next : drop i runs ≡ get_or runs i d ∷ drop (i + 1) runs = next_left runs i d inside in
    let now : nets' ≡ after_tables bank nets (numbers_in order (get_or runs i d)) = is ∙ run_after bank order (get_or runs i d) nets in
    record {
      same = ap length now ∙ (length-after_tables bank nets (numbers_in order (get_or runs i d)) ∙ left.same);
      rest = left.rest ∙ (ap (λ (rs : List Run). after_tables bank nets (numbers_of order rs)) next
          ∙ (after_tables-append bank (numbers_in order (get_or runs i d)) (numbers_of order (drop (i + 1) runs)) nets
          ∙ ap (λ (ns : Row). after_tables bank ns (numbers_of order (drop (i + 1) runs))) (sym now)));
    }

-- none is left
pub left_none : (bank : List Driven) (order : List ℕ) (initial nets : Row) (runs : List Run) (i : ℕ) → length runs ≤ i
    → IsLeft bank order initial nets runs (drop i runs) → nets ≡ after_tables bank initial (numbers_of order runs)
left_none bank order initial nets runs i past left =
    sym (left.rest ∙ ap (λ (rs : List Run). after_tables bank nets (numbers_of order rs)) (drop_all i runs past))

-- the tables of some runs, in order
abbrev pub tables_of : List Driven → List ℕ → List Run → List Driven
tables_of bank order runs = in_table_order bank (numbers_of order runs)

-- where those of all runs that are left find their inputs known, those of the first one do, and
-- those behind it once it is set
pub known_less : (bank : List Driven) (order : List ℕ) (nets : Row) (runs : List Run) (i : ℕ) (d : Run) → i < length runs
    → FindsKnown (tables_of bank order (drop i runs)) nets
    → FindsKnown (own_tables (in_table_order bank order) (get_or runs i d)) nets
    × ((nets' : Row) → nets' ≡ after_each (own_tables (in_table_order bank order) (get_or runs i d)) nets → FindsKnown (tables_of bank order (drop (i + 1) runs)) nets')
known_less bank order nets runs i d inside known =
    let run : Run = get_or runs i d in
    let own : List Driven = own_tables (in_table_order bank order) run in
    let rest : List Driven = tables_of bank order (drop (i + 1) runs) in
    let split : tables_of bank order (drop i runs) ≡ own_tables (in_table_order bank order) (get_or runs i d) ++ tables_of bank order (drop (i + 1) runs) =
    ap (tables_of bank order) (next_left runs i d inside) ∙ (map-append (driven_at bank) (numbers_in order run) (numbers_of order (drop (i + 1) runs))
    ∙ ap (λ (ts : List Driven). ts ++ rest) (sym (own_in_order bank order run))) in
    let (here, behind) = finds-split own rest nets (subst (λ (ts : List Driven). FindsKnown ts nets) split known) in
    (here, λ nets' is. subst (λ (ns : Row). FindsKnown (tables_of bank order (drop (i + 1) runs)) ns) (sym is) behind)

-- what is left of some runs, where each table finds its inputs known
pub record IsLeftKnown (bank : List Driven) (order : List ℕ) (initial nets : Row) (runs left : List Run) : Type 0 where
  pub set : IsLeft bank order initial nets runs left
  pub known : FindsKnown (tables_of bank order left) nets

module _ (shelves : List Shelved) (bank : List Driven) (order : List ℕ) where
  -- the runs of a series, each
  pub runs_each : (at : ℕ) (runs : List Run) → AreRuns shelves (in_table_order bank order) at runs → All (IsRunOfTables shelves (in_table_order bank order)) runs
  runs_each at [] are = All-nil (IsRunOfTables shelves (in_table_order bank order))
  runs_each at (run ∷ runs) (here, is, rest) = All-cons (IsRunOfTables shelves (in_table_order bank order)) run runs is (runs_each (at + (run.end - run.first)) runs rest)

  -- and the numbers of their tables are the order from there on
  pub runs_numbers : (at : ℕ) (runs : List Run) → AreRuns shelves (in_table_order bank order) at runs → numbers_of order runs ≡ drop at order
  runs_numbers at [] are =
      let size : length (in_table_order bank order) ≡ length order = length-map order (driven_at bank) in
      sym (drop_all at order (let e : at ≡ length (in_table_order bank order) = are in omega (e, size, arith)))
  runs_numbers at (run ∷ runs) (here, is, rest) =
      let count : ℕ = run.end - run.first in
      let e : run.at ≡ at = here in
      ap (λ (ns : List ℕ). numbers_in order run ++ ns) (runs_numbers (at + count) runs rest)
      ∙ (ap (λ (m : ℕ). take count (drop m order) ++ drop (at + count) order) e
      ∙ (ap (λ (ns : List ℕ). take count (drop at order) ++ ns) (sym (drop-drop count at order)) ∙ take-append-drop count (drop at order)))
