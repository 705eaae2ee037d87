-- Lists of tables between bounds of runs.
use Rattle.std.proofs.Common.{◌≡◌, ℕ, zero, suc, ◌+◌, ◌-◌, ◌<◌, ◌≤◌, ◌∙◌, List, [], ◌∷◌, ◌++◌, length, take, drop, get_or, refl, ap, arith, sym, subst, length-append, inl, inr}
use Rattle.std.specs.Prelude.{All}
use Rattle.std.proofs.Math.Seq.{drop-append_seam}
use Rattle.std.proofs.lemmas.Bool.{cases_eq}
use Rattle.std.proofs.lemmas.List.{get_or_append_left, get_or_default, get_or_push, length-map, map-append, take_all}
use Rattle.std.proofs.lemmas.List.Elements.{All-append, All-nil, All-head, All-push, All-tail, All-weaker}
use Rattle.ds_base.specs.Values.{Row}
use Rattle.ds_cover.specs.Bank.{Driven, after_tables, driven_at}
use Rattle.ds_cover.proofs.StoredTables.{part_stays}
use Rattle.ds_cover.specs.Selections.{AreBounded, Selected, lists_between}
use Rattle.ds_cover.specs.Series.{AreAdded, FindsKnown, IsRunOfTables, in_table_order, numbers_in, numbers_of}
use Rattle.ds_cover.specs.Small.{Shelved, no_shelf, part_of}
use Rattle.ds_cover.specs.declared.run.Run.{Run}
use Rattle.ds_cover.proofs.RemainingRuns.{runs_each, runs_numbers}
use Rattle.ds_cover.proofs.TablesByRun.{All-drop, All-take}

-- runs are of an order's places
abbrev pub Fit : List ℕ → Run → Type 0
Fit order run = run.at + (run.end - run.first) ≤ length order

numbers-longer : (order more : List ℕ) (runs : List Run) → All (Fit order) runs → numbers_of (order ++ more) runs ≡ numbers_of order runs
numbers-longer order more [] fit = refl
numbers-longer order more (run ∷ runs) fit =
    ap (λ (ns : List ℕ). ns ++ numbers_of (order ++ more) runs) (part_stays run.at (run.end - run.first) order more (All-head (Fit order) run runs fit))
    ∙ ap (λ (ns : List ℕ). numbers_in order run ++ ns) (numbers-longer order more runs (All-tail (Fit order) run runs fit))

-- the lists stay where the order and the runs have more behind
between-longer : (order more : List ℕ) (runs own : List Run) (bounds : List ℕ) → All (Fit order) runs → All (λ b. b ≤ length runs) bounds
    → lists_between (order ++ more) (runs ++ own) bounds ≡ lists_between order runs bounds
between-longer order more runs own [] fit inside = refl
between-longer order more runs own (first ∷ []) fit inside = refl
between-longer order more runs own (first ∷ end ∷ bounds) fit inside =
    let rest : All (λ b. b ≤ length runs) (end ∷ bounds) = All-tail (λ b. b ≤ length runs) first (end ∷ bounds) inside in
    let low : first ≤ length runs = All-head (λ b. b ≤ length runs) first (end ∷ bounds) inside in
    let high : end ≤ length runs = All-head (λ b. b ≤ length runs) end bounds rest in
    let here : numbers_of (order ++ more) (part_of first end (runs ++ own)) ≡ numbers_of order (part_of first end runs) =
    ap (numbers_of (order ++ more)) (part_stays first (end - first) runs own (omega (low, high, arith)))
    ∙ numbers-longer order more (part_of first end runs) (All-take (Fit order) (end - first) (drop first runs) (All-drop (Fit order) first runs fit)) in
    ap (λ (ns : List ℕ). ns ∷ lists_between (order ++ more) (runs ++ own) (end ∷ bounds)) here
    ∙ ap (λ (ls : List (List ℕ)). numbers_of order (part_of first end runs) ∷ ls) (between-longer order more runs own (end ∷ bounds) fit rest)

-- one bound more
between-push : (order : List ℕ) (runs : List Run) (first : ℕ) (bounds : List ℕ) (end : ℕ)
    → lists_between order runs (first ∷ bounds ++ end ∷ []) ≡ lists_between order runs (first ∷ bounds) ++ numbers_of order (part_of (get_or (first ∷ bounds) (length bounds) 0) end runs) ∷ []
between-push order runs first [] end = refl
between-push order runs first (next ∷ bounds) end =
    ap (λ (ls : List (List ℕ)). numbers_of order (part_of first next runs) ∷ ls) (between-push order runs next bounds end)

pub between-push_at : (order : List ℕ) (runs : List Run) (bounds : List ℕ) (end n : ℕ) → length bounds ≡ n + 1
    → lists_between order runs (bounds ++ end ∷ []) ≡ lists_between order runs bounds ++ numbers_of order (part_of (get_or bounds n 0) end runs) ∷ []
between-push_at order runs [] end n size = absurd (let h : 0 ≡ n + 1 = size in omega (h, arith))
between-push_at order runs (first ∷ bounds) end n size =
    let same : length bounds ≡ n = (let h : suc (length bounds) ≡ n + 1 = size in omega (h, arith)) in
    subst (λ (m : ℕ). lists_between order runs (first ∷ bounds ++ end ∷ []) ≡ lists_between order runs (first ∷ bounds) ++ numbers_of order (part_of (get_or (first ∷ bounds) m 0) end runs) ∷ [])
    same (between-push order runs first bounds end)

-- a list by its number
pub between-at : (order : List ℕ) (runs : List Run) (bounds : List ℕ) (n : ℕ) → n + 1 < length bounds
    → get_or (lists_between order runs bounds) n [] ≡ numbers_of order (part_of (get_or bounds n 0) (get_or bounds (n + 1) 0) runs)
between-at order runs [] n inside = absurd (let h : n + 1 < 0 = inside in omega (h, arith))
between-at order runs (first ∷ []) n inside = absurd (let h : n + 1 < 1 = inside in omega (h, arith))
between-at order runs (first ∷ end ∷ bounds) zero inside = refl
between-at order runs (first ∷ end ∷ bounds) (suc n) inside =
    let more : suc (n + 1) ≡ suc n + 1 = omega arith in
    between-at order runs (end ∷ bounds) n (omega (inside, arith))
    ∙ ap (λ (m : ℕ). numbers_of order (part_of (get_or (end ∷ bounds) n 0) (get_or (first ∷ end ∷ bounds) m 0) runs)) more

pub length-between : (order : List ℕ) (runs : List Run) (bounds : List ℕ) → 0 < length bounds → length (lists_between order runs bounds) + 1 ≡ length bounds
length-between order runs [] some = absurd (let h : 0 < 0 = some in omega (h, arith))
length-between order runs (first ∷ []) some = refl
length-between order runs (first ∷ end ∷ bounds) some =
    let rest : length (lists_between order runs (end ∷ bounds)) + 1 ≡ length (end ∷ bounds) = length-between order runs (end ∷ bounds) (omega arith) in
    omega (rest, arith)

-- some lists are added
pub record AreListed (shelves : List Shelved) (bank : List Driven) (lists : List (List ℕ)) (n : ℕ) (order : List ℕ) (runs : List Run) (bounds : List ℕ) : Type 0 where
  pub places : All (λ k. k < length bank) order
  pub bounded : AreBounded shelves (in_table_order bank order) runs bounds
  pub size : length bounds ≡ n + 1
  pub last : get_or bounds n 0 ≡ length runs
  pub listed : lists_between order runs bounds ≡ take n lists

-- no list yet
pub listed_none : (bank : List Driven) (lists : List (List ℕ)) → AreListed (no_shelf ∷ no_shelf ∷ no_shelf ∷ no_shelf ∷ no_shelf ∷ []) bank lists 0 [] [] (0 ∷ [])
listed_none bank lists = record {
  places = All-nil (λ k. k < length bank);
  bounded = record {
    each = All-nil (IsRunOfTables (no_shelf ∷ no_shelf ∷ no_shelf ∷ no_shelf ∷ no_shelf ∷ []) (in_table_order bank []));
    some = omega arith;
    inside = All-push (λ b. b ≤ 0) [] 0 (All-nil (λ b. b ≤ 0)) (omega arith);
    rising = λ i low. absurd (omega arith);
  };
  size = refl;
  last = refl;
  listed = refl;
}

-- one list more
module _ (old new : List Shelved) (bank : List Driven) (lists : List (List ℕ)) (n : ℕ) (order list : List ℕ) (before after : List Run) (bounds : List ℕ)
    (so_far : AreListed old bank lists n order before bounds) (within : All (λ k. k < length bank) list)
    (added : AreAdded old new (in_table_order bank (order ++ list)) (length order) before after) where
  abbrev own : List Run
  own = added.own

  abbrev end : ℕ
  end = length after

  long : end ≡ length before + length own
  long = ap (λ (rs : List Run). length rs) added.behind ∙ length-append before own

  whole : in_table_order bank (order ++ list) ≡ in_table_order bank order ++ in_table_order bank list
  whole = map-append (driven_at bank) order list

  each_before : All (IsRunOfTables new (in_table_order bank (order ++ list))) before
  each_before =
      subst (λ (ts : List Driven). All (IsRunOfTables new ts) before) (sym whole)
      (All-weaker (IsRunOfTables old (in_table_order bank order)) (IsRunOfTables new (in_table_order bank order ++ in_table_order bank list))
      (λ run is. added.stay (in_table_order bank order) (in_table_order bank list) run is) before so_far.bounded.each)

  fits : All (Fit order) before
  fits =
      let size : length (in_table_order bank order) ≡ length order = length-map order (driven_at bank) in
      All-weaker (IsRunOfTables old (in_table_order bank order)) (Fit order) (λ run is. let f = is.fits in omega (f, size, arith)) before so_far.bounded.each

  own_numbers : numbers_of (order ++ list) (part_of (get_or bounds n 0) end after) ≡ list
  own_numbers =
      let here : get_or bounds n 0 ≡ length before = so_far.last in
      let part : part_of (get_or bounds n 0) end after ≡ own =
      ap (λ (m : ℕ). take (end - m) (drop m after)) here ∙ (ap (λ (rs : List Run). take (end - length before) (drop (length before) rs)) added.behind
      ∙ (ap (take (end - length before)) (drop-append_seam before own) ∙ take_all (end - length before) own (omega (long, arith)))) in
      ap (numbers_of (order ++ list)) part
      ∙ (runs_numbers new bank (order ++ list) (length order) own added.runs ∙ drop-append_seam order list)

  rises : (i : ℕ) → i + 1 < length (bounds ++ end ∷ []) → get_or (bounds ++ end ∷ []) i 0 ≤ get_or (bounds ++ end ∷ []) (i + 1) 0
  rises i low = (
      let size : length (bounds ++ end ∷ []) ≡ length bounds + 1 = length-append bounds (end ∷ []) in
      let many : length bounds ≡ n + 1 = so_far.size in
      let here : get_or (bounds ++ end ∷ []) i 0 ≡ get_or bounds i 0 = get_or_append_left bounds (end ∷ []) 0 i (omega (low, size, arith)) in
      elim (cases_eq i n) [
        | inl e ↦
            (let next : get_or (bounds ++ end ∷ []) (i + 1) 0 ≡ end = get_or_push bounds end 0 (i + 1) (omega (many, e, arith)) in
            let is : get_or bounds i 0 ≡ length before = ap (λ (m : ℕ). get_or bounds m 0) e ∙ so_far.last in
            omega (here, next, is, long, arith))
        | inr ne ↦
            (let inside : i + 1 < length bounds = omega (low, size, many, ne, arith) in
            let next : get_or (bounds ++ end ∷ []) (i + 1) 0 ≡ get_or bounds (i + 1) 0 = get_or_append_left bounds (end ∷ []) 0 (i + 1) inside in
            let up : get_or bounds i 0 ≤ get_or bounds (i + 1) 0 = so_far.bounded.rising i inside in
            omega (here, next, up, arith))
      ])

  pub listed_more : (end' : ℕ) → end' ≡ length after → list ≡ get_or lists n [] → n < length lists → take (n + 1) lists ≡ take n lists ++ get_or lists n [] ∷ []
      → AreListed new bank lists (n + 1) (order ++ list) after (bounds ++ end' ∷ [])
  listed_more end' is item inside more =
      subst (λ (m : ℕ). AreListed new bank lists (n + 1) (order ++ list) after (bounds ++ m ∷ [])) (sym is) (record {
        places = All-append (λ k. k < length bank) order list so_far.places within;
        bounded = record {
          each = subst (λ (rs : List Run). All (IsRunOfTables new (in_table_order bank (order ++ list))) rs) (sym added.behind)
              (All-append (IsRunOfTables new (in_table_order bank (order ++ list))) before own each_before (runs_each new bank (order ++ list) (length order) own added.runs));
          some = omega (length-append bounds (end ∷ []), arith);
          inside = All-push (λ b. b ≤ end) bounds end
              (All-weaker (λ b. b ≤ length before) (λ b. b ≤ end) (λ b low. omega (low, long, arith)) bounds so_far.bounded.inside) (omega arith);
          rising = rises;
        };
        size = length-append bounds (end ∷ []) ∙ ap (λ (m : ℕ). m + 1) so_far.size;
        last = get_or_push bounds end 0 (n + 1) so_far.size;
        listed = between-push_at (order ++ list) after bounds end n so_far.size
            ∙ (ap (λ (ns : List ℕ). lists_between (order ++ list) after bounds ++ ns ∷ []) (own_numbers ∙ item)
            ∙ (ap (λ (ls : List (List ℕ)). ls ++ get_or lists n [] ∷ []) (ap (λ (rs : List Run). lists_between (order ++ list) rs bounds) added.behind
            ∙ (between-longer order list before own bounds fits so_far.bounded.inside ∙ so_far.listed)) ∙ sym more));
      })

-- what a list's number says of its bounds
module _ (shelves : List Shelved) (bank : List Driven) (order : List ℕ) (runs : List Run) (bounds : List ℕ) (bounded : AreBounded shelves (in_table_order bank order) runs bounds)
    (selected : Selected) (is : record { tables = bank; lists = lists_between order runs bounds } ≡ selected) where
  pub count_is : length selected.lists + 1 ≡ length bounds
  count_is = ap (λ (s : Selected). length s.lists + 1) (sym is) ∙ length-between order runs bounds bounded.some

  module _ (n first end : ℕ) (inside : n < length selected.lists) (first_is : first ≡ get_or bounds n first) (end_is : end ≡ get_or bounds (n + 1) end) where
    there : n + 1 < length bounds
    there = omega (inside, count_is, arith)

    at_first : first ≡ get_or bounds n 0
    at_first = first_is ∙ get_or_default bounds n first 0 (omega (there, arith))

    at_end : end ≡ get_or bounds (n + 1) 0
    at_end = end_is ∙ get_or_default bounds (n + 1) end 0 there

    pub bounds_rise : first ≤ end
    bounds_rise = (let up : get_or bounds n 0 ≤ get_or bounds (n + 1) 0 = bounded.rising n there in omega (up, at_first, at_end, arith))

    pub bounds_inside : end ≤ length runs
    bounds_inside = (let low : get_or bounds (n + 1) 0 ≤ length runs = bounded.inside (n + 1) 0 there in omega (low, at_end, arith))

    pub each_part : (part : List Run) → part ≡ part_of first end runs → All (IsRunOfTables shelves (in_table_order bank order)) part
    each_part part part_is =
        subst (λ (rs : List Run). All (IsRunOfTables shelves (in_table_order bank order)) rs) (sym part_is)
        (All-take (IsRunOfTables shelves (in_table_order bank order)) (end - first) (drop first runs) (All-drop (IsRunOfTables shelves (in_table_order bank order)) first runs bounded.each))

    numbers_are : (part : List Run) → part ≡ part_of first end runs → numbers_of order part ≡ get_or (lists_between order runs bounds) n []
    numbers_are part part_is =
        ap (numbers_of order) (part_is ∙ (ap (λ (m : ℕ). part_of m end runs) at_first ∙ ap (λ (m : ℕ). part_of (get_or bounds n 0) m runs) at_end))
        ∙ sym (between-at order runs bounds n there)

    pub set_list : (part : List Run) (initial nets : Row) → part ≡ part_of first end runs → nets ≡ after_tables bank initial (numbers_of order part)
        → nets ≡ after_tables selected.tables initial (get_or selected.lists n [])
    set_list part initial nets part_is set =
        set ∙ (ap (λ (ns : List ℕ). after_tables bank initial ns) (numbers_are part part_is)
        ∙ ap (λ (s : Selected). after_tables s.tables initial (get_or s.lists n [])) is)

    pub finds_list : (part : List Run) (nets : Row) → part ≡ part_of first end runs → FindsKnown (in_table_order selected.tables (get_or selected.lists n [])) nets
        → FindsKnown (in_table_order bank (numbers_of order part)) nets
    finds_list part nets part_is known =
        subst (λ (ns : List ℕ). FindsKnown (in_table_order bank ns) nets) (sym (numbers_are part part_is))
        (subst (λ (s : Selected). FindsKnown (in_table_order s.tables (get_or s.lists n [])) nets) (sym is) known)
