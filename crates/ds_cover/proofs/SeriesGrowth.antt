-- A table that is added to a series.
use Rattle.std.proofs.Common.{◌≡◌, ◌≢◌, ℕ, ◌+◌, ◌-◌, ◌^◌, ◌<◌, ◌≤◌, true, List, [], ◌∷◌, ◌++◌, length, take, drop, map, refl, ap, arith, sym, ◌∙◌, subst, length-append, length-drop, inl, inr}
use Rattle.std.proofs.lemmas.Bool.{cases_eq}
use Rattle.std.proofs.lemmas.List.{drop-append-le, drop_at, get_or-set_other, length-map, map_push, take_all}
use Rattle.std.proofs.Common.{append-nil}
use Rattle.ds_base.specs.Values.{Row}
use Rattle.ds_cover.specs.Bank.{Driven}
use Rattle.ds_cover.specs.Kept.{IsQuick}
use Rattle.ds_cover.specs.Small.{IsFolded, IsWordShelved, Shelved, Small, StandsFor, Worded, WordsFor, no_shelf, paired, part_of, values_of_word, worded_by}
use Rattle.ds_cover.specs.Series.{AreFor, AreRuns, IsAddedTo, IsOfWidth, StandsForRun, IsRunOfTables, IsSmallAdded, joined_runs, own_tables, shelf_at, size_of_kind}
use Rattle.ds_cover.specs.Ternary.{IsWordOf}
use Rattle.ds_cover.specs.declared.entry.Quick.{Quick}
use Rattle.ds_cover.specs.declared.run.TableKind.{TableKind}
use Rattle.ds_cover.specs.declared.run.TableKind.TheVariants.{Twos, Threes, Fours, Fives, Sixes, Others}
use Rattle.ds_cover.specs.declared.run.Run.{Run}
use Rattle.ds_cover.proofs.StoredTables.{part_stays}
use Rattle.ds_cover.proofs.Folded.{stands_for}
use Rattle.ds_cover.proofs.TablesByRun.{length-paired, paired-append}
use Rattle.ds_cover.proofs.UpToThree.{words_for}

module _ {S : Type 0} (IsFor : S → Driven → Type 0) where
  standing-more : (smalls : List S) (tables : List Driven) (s : S) (t : Driven) → AreFor IsFor smalls tables → IsFor s t → AreFor IsFor (smalls ++ s ∷ []) (tables ++ t ∷ [])
  standing-more [] [] s t stand stands = (stands, tt)
  standing-more [] (u ∷ tables) s t stand stands = absurd (let h : length (u ∷ tables) ≡ 0 = stand in omega arith)
  standing-more (r ∷ smalls) [] s t stand stands = absurd (let h : length (r ∷ smalls) ≡ 0 = stand in omega arith)
  standing-more (r ∷ smalls) (u ∷ tables) s t (here, rest) stands = (here, standing-more smalls tables s t rest stands)

-- the rest of a list with one item more
rest-more : {A : Type 0} (n at : ℕ) (xs : List A) (x : A) → at + n ≡ length xs → take (n + 1) (drop at (xs ++ x ∷ [])) ≡ take n (drop at xs) ++ x ∷ []
rest-more n at xs x whole =
    let l1 : length (drop at xs) ≡ length xs - at = length-drop at xs in
    let l2 : length (drop at xs ++ x ∷ []) ≡ length (drop at xs) + 1 = length-append (drop at xs) (x ∷ []) in
    ap (take (n + 1)) (drop-append-le at xs (x ∷ []) (omega arith))
    ∙ (take_all (n + 1) (drop at xs ++ x ∷ []) (omega arith) ∙ ap (λ ys. ys ++ x ∷ []) (sym (take_all n (drop at xs) (omega arith))))

rest-one : {A : Type 0} (n : ℕ) (xs : List A) (x : A) → n ≡ length xs → take 1 (drop n (xs ++ x ∷ [])) ≡ x ∷ []
rest-one n xs x is = ap (λ m. take 1 (drop m (xs ++ x ∷ []))) is ∙ ap (take 1) (drop_at xs (x ∷ []) (length xs) refl)

-- a part stays where more follows
part_longer : {S : Type 0} (IsFor : S → Driven → Type 0) (smalls more : List S) (tables others : List Driven) (run : Run) → run.first ≤ run.end → run.at + (run.end - run.first) ≤ length tables
    → StandsForRun IsFor smalls tables run → StandsForRun IsFor (smalls ++ more) (tables ++ others) run
part_longer IsFor smalls more tables others run low fits part =
    let inside = part.inside in
    let l : length (smalls ++ more) ≡ length smalls + length more = length-append smalls more in
    record {
      inside = omega arith;
      stands = subst (λ ss. AreFor IsFor ss (own_tables (tables ++ others) run)) (sym (part_stays run.first (run.end - run.first) smalls more (omega arith)))
          (subst (λ ts. AreFor IsFor (part_of run.first run.end smalls) ts) (sym (part_stays run.at (run.end - run.first) tables others fits)) part.stands);
    }

-- a part of one
part_one : {S : Type 0} (IsFor : S → Driven → Type 0) (smalls : List S) (s : S) (tables : List Driven) (t : Driven) (run : Run) → run.at ≡ length tables → run.first ≡ length smalls → run.end ≡ run.first + 1
    → IsFor s t → StandsForRun IsFor (smalls ++ s ∷ []) (tables ++ t ∷ []) run
part_one IsFor smalls s tables t run at first one stands =
    let l : length (smalls ++ s ∷ []) ≡ length smalls + 1 = length-append smalls (s ∷ []) in
    let n : run.end - run.first ≡ 1 = omega arith in
    record {
      inside = omega arith;
      stands = subst (λ ss. AreFor IsFor ss (own_tables (tables ++ t ∷ []) run)) (sym (ap (λ m. take m (drop run.first (smalls ++ s ∷ []))) n ∙ rest-one run.first smalls s first))
          (subst (λ ts. AreFor IsFor (s ∷ []) ts) (sym (ap (λ m. take m (drop run.at (tables ++ t ∷ []))) n ∙ rest-one run.at tables t at)) (stands, tt));
    }

-- a part with one more
part_more : {S : Type 0} (IsFor : S → Driven → Type 0) (smalls : List S) (s : S) (tables : List Driven) (t : Driven) (last run : Run) → last.first ≤ last.end → last.at + (last.end - last.first) ≡ length tables
    → last.end ≡ run.first → run.first ≡ length smalls → run.end ≡ run.first + 1 → StandsForRun IsFor smalls tables last → IsFor s t → StandsForRun IsFor (smalls ++ s ∷ []) (tables ++ t ∷ []) (joined_runs last run)
part_more IsFor smalls s tables t last run low whole meets first one part stands =
    let l : length (smalls ++ s ∷ []) ≡ length smalls + 1 = length-append smalls (s ∷ []) in
    let n : run.end - last.first ≡ last.end - last.first + 1 = omega arith in
    record {
      inside = omega arith;
      stands = subst (λ ss. AreFor IsFor ss (own_tables (tables ++ t ∷ []) (joined_runs last run)))
          (sym (ap (λ m. take m (drop last.first (smalls ++ s ∷ []))) n ∙ rest-more (last.end - last.first) last.first smalls s (omega arith)))
          (subst (λ ts. AreFor IsFor (take (last.end - last.first) (drop last.first smalls) ++ s ∷ []) ts)
          (sym (ap (λ m. take m (drop last.at (tables ++ t ∷ []))) n ∙ rest-more (last.end - last.first) last.at tables t whole))
          (standing-more IsFor (part_of last.first last.end smalls) (own_tables tables last) s t part.stands stands));
    }

-- tables of one size with their words
abbrev pub shelf_of : {S W : Type 0} → (S → Small) → (W → Row) → List S → List W → Shelved
shelf_of small values tables words = record { smalls = map small tables; worded = paired (worded_by small values) tables words }

-- one of them is added
pub word_shelved : {S W : Type 0} (small : S → Small) (values : W → Row) (width : ℕ) (quick : Quick) (word : ℕ) (tables tables' : List S) (words words' : List W) (before : Shelved) (first : ℕ) (table : S) (own : W)
    → length words ≡ length tables → shelf_of small values tables words ≡ before → tables' ≡ tables ++ table ∷ [] → words' ≡ words ++ own ∷ []
    → first ≡ length tables → first < 2 ^ 63 → IsFolded width quick (small table) → values own ≡ values_of_word width word → IsWordShelved quick width word before (shelf_of small values tables' words') first
word_shelved small values width quick word tables tables' words words' before first table own even was more more' size low folded own_is =
    let f = worded_by small values in
    subst (λ (s : Shelved). IsWordShelved quick width word s (shelf_of small values tables' words') first) was (record {
      shelved = record {
        small = small table;
        folded = folded;
        first_is = size ∙ sym (length-map tables small);
        few = low;
        smalls_are = ap (map small) more ∙ map_push small tables table;
      };
      first_is = size ∙ sym (length-paired f tables words even);
      worded_are = ap (λ ts. paired f ts words') more ∙ (ap (paired f (tables ++ table ∷ [])) more'
          ∙ (paired-append f tables (table ∷ []) words (own ∷ []) even
          ∙ ap (λ (vs : Row). paired f tables words ++ record { small = small table; values = vs } ∷ []) own_is));
    })

-- a shelf has more behind
pub record Grows (old new : Shelved) (width : ℕ) : Type 0 where
  pub smalls : List Small
  pub smalls_are : new.smalls ≡ old.smalls ++ smalls
  pub worded_are : width ≤ 3 → (more : List Worded) × (new.worded ≡ old.worded ++ more)

grows_none : (old new : Shelved) (width : ℕ) → new ≡ old → Grows old new width
grows_none old new width is = record {
  smalls = [];
  smalls_are = ap (λ (s : Shelved). s.smalls) is ∙ sym (append-nil old.smalls);
  worded_are = λ few. ([], ap (λ (s : Shelved). s.worded) is ∙ sym (append-nil old.worded));
}

-- all shelves have
abbrev pub AllGrow : List Shelved → List Shelved → Type 0
AllGrow old new = (width : ℕ) → 2 ≤ width → width ≤ 6 → Grows (shelf_at old width) (shelf_at new width) width

width_low : (kind : TableKind) → 2 ≤ size_of_kind kind
width_low Twos = omega arith
width_low Threes = omega arith
width_low Fours = omega arith
width_low Fives = omega arith
width_low Sixes = omega arith
width_low Others = omega arith

module _ (old new : List Shelved) (grow : AllGrow old new) (tables others : List Driven) where
  width_stays : (run : Run) → run.first ≤ run.end → run.at + (run.end - run.first) ≤ length tables → (width : ℕ) → 2 ≤ width
      → IsOfWidth (shelf_at old width) tables run width → IsOfWidth (shelf_at new width) (tables ++ others) run width
  width_stays run low fits width two is = record {
    small = λ six.
        let g = grow width two six in
        subst (λ ss. StandsForRun StandsFor ss (tables ++ others) run) (sym g.smalls_are)
        (part_longer StandsFor (shelf_at old width).smalls g.smalls tables others run low fits (is.small six));
    worded = λ few.
        let g = grow width two (omega (few, arith)) in
        let (more, are) = g.worded_are few in
        subst (λ ss. StandsForRun WordsFor ss (tables ++ others) run) (sym are)
        (part_longer WordsFor (shelf_at old width).worded more tables others run low fits (is.worded few));
    other = is.other;
  }

  pub run_stays : (run : Run) → IsRunOfTables old tables run → IsRunOfTables new (tables ++ others) run
  run_stays run is =
      let fits = is.fits in
      let l : length (tables ++ others) ≡ length tables + length others = length-append tables others in
      record { low = is.low; fits = omega arith; kind = width_stays run is.low is.fits (size_of_kind run.kind) (width_low run.kind) is.kind }

-- what is added stands for the table
module _ (quick : Quick) (old new : List Shelved) (tables : List Driven) (t : Driven) (run : Run)
    (added : IsSmallAdded quick t.cover.masks t.cover.on (length t.cover.inputs) (length tables) old new run)
    (drives : quick.output ≡ t.output) (is_quick : quick.few ≡ true → IsQuick quick t.cover) where
  abbrev IsAdded' : ℕ → Type 0
  IsAdded' width = IsAddedTo quick t.cover.masks t.cover.on (length t.cover.inputs) (length tables) old new run.first width

  longer : length (tables ++ t ∷ []) ≡ length tables + 1
  longer = length-append tables (t ∷ [])

  stands : (width : ℕ) → 2 ≤ width → (is : IsAdded' width) → (six : width ≤ 6) → StandsFor (is.small six).small t
  stands width two is six = stands_for quick t (is.small six).small width two six (is_quick (is.few six)) drives (is.small six).folded (is.fits six)

  words : (width : ℕ) → 2 ≤ width → (is : IsAdded' width) → (few : width ≤ 3) (word : ℕ) → IsWordOf t.cover.masks t.cover.on word
      → (s : IsWordShelved quick width word (shelf_at old width) (shelf_at new width) run.first) → WordsFor (record { small = s.shelved.small; values = values_of_word width word }) t
  words width two is few word is_word s =
      words_for quick t s.shelved.small word width two few (is_quick (is.few (omega (few, arith)))) drives s.shelved.folded is_word (is.fits (omega (few, arith)))

  width_one : (width : ℕ) → 2 ≤ width → IsAdded' width → IsOfWidth (shelf_at new width) (tables ++ t ∷ []) run width
  width_one width two is = record {
    small = λ six.
        let s = is.small six in
        subst (λ ss. StandsForRun StandsFor ss (tables ++ t ∷ []) run) (sym s.smalls_are)
        (part_one StandsFor (shelf_at old width).smalls s.small tables t run added.at_is s.first_is added.one (stands width two is six));
    worded = λ few.
        let (word, is_word, s) = is.worded few in
        subst (λ ss. StandsForRun WordsFor ss (tables ++ t ∷ []) run) (sym s.worded_are)
        (part_one WordsFor (shelf_at old width).worded (record { small = s.shelved.small; values = values_of_word width word }) tables t run added.at_is s.first_is added.one (words width two is few word is_word s));
    other = λ many. is.other many ∙ sym added.at_is;
  }

  run_one : IsRunOfTables new (tables ++ t ∷ []) run
  run_one =
      let one = added.one in
      let at = added.at_is in
      let l = longer in
      record { low = omega arith; fits = omega arith; kind = width_one (size_of_kind run.kind) (width_low run.kind) added.kind }

  module _ (last : Run) (meets : last.end ≡ run.first) (whole : last.at + (last.end - last.first) ≡ length tables) (is_run : IsRunOfTables old tables last) where
    width_more : (width : ℕ) → 2 ≤ width → IsAdded' width → IsOfWidth (shelf_at old width) tables last width → IsOfWidth (shelf_at new width) (tables ++ t ∷ []) (joined_runs last run) width
    width_more width two is was = record {
      small = λ six.
          let s = is.small six in
          subst (λ ss. StandsForRun StandsFor ss (tables ++ t ∷ []) (joined_runs last run)) (sym s.smalls_are)
          (part_more StandsFor (shelf_at old width).smalls s.small tables t last run is_run.low whole meets s.first_is added.one (was.small six) (stands width two is six));
      worded = λ few.
          let (word, is_word, s) = is.worded few in
          subst (λ ss. StandsForRun WordsFor ss (tables ++ t ∷ []) (joined_runs last run)) (sym s.worded_are)
          (part_more WordsFor (shelf_at old width).worded (record { small = s.shelved.small; values = values_of_word width word }) tables t last run is_run.low whole meets s.first_is added.one (was.worded few) (words width two is few word is_word s));
      other = was.other;
    }

    run_more : last.kind ≡ run.kind → IsRunOfTables new (tables ++ t ∷ []) (joined_runs last run)
    run_more kind =
        let one = added.one in
        let low = is_run.low in
        let l = longer in
        record {
          low = omega arith;
          fits = omega arith;
          kind = width_more (size_of_kind last.kind) (width_low last.kind) (subst (λ (k : TableKind). IsAdded' (size_of_kind k)) (sym kind) added.kind) is_run.kind;
        }

  own_grows : (width : ℕ) → IsAdded' width → width ≤ 6 → Grows (shelf_at old width) (shelf_at new width) width
  own_grows width is six =
      let s = is.small six in
      record {
        smalls = s.small ∷ [];
        smalls_are = s.smalls_are;
        worded_are = λ few. let (word, is_word, w) = is.worded few in (record { small = w.shelved.small; values = values_of_word width word } ∷ [], w.worded_are);
      }

  pub grows : AllGrow old new
  grows width two six = elim (cases_eq width (size_of_kind run.kind)) [
    | inl e ↦ own_grows width (subst IsAdded' (sym e) added.kind) six
    | inr ne ↦
        (let low = width_low run.kind in
        let other : width - 2 ≢ size_of_kind run.kind - 2 = λ same. ne (omega (same, two, low, arith)) in
        grows_none (shelf_at old width) (shelf_at new width) width
        (ap (λ (ss : List Shelved). shelf_at ss width) added.kind.rest ∙ get_or-set_other old (size_of_kind run.kind - 2) (width - 2) (shelf_at new (size_of_kind run.kind)) no_shelf other))
  ]

  pub runs_alone : (at : ℕ) (runs : List Run) → AreRuns old tables at runs → AreRuns new (tables ++ t ∷ []) at (runs ++ run ∷ [])
  runs_alone at [] are =
      let one = added.one in
      let here = added.at_is in
      let l = longer in
      (here ∙ sym are, run_one, omega arith)
  runs_alone at (r ∷ runs) (here, is, rest) = (here, run_stays old new grows tables (t ∷ []) r is, runs_alone (at + (r.end - r.first)) runs rest)

  pub runs_joined : (at : ℕ) (front : List Run) (last : Run) → last.end ≡ run.first → last.kind ≡ run.kind → AreRuns old tables at (front ++ last ∷ []) → AreRuns new (tables ++ t ∷ []) at (front ++ joined_runs last run ∷ [])
  runs_joined at [] last meets kind (here, is, all) =
      let one = added.one in
      let low = is.low in
      let l = longer in
      let e : last.at ≡ at = here in
      let w : at + (last.end - last.first) ≡ length tables = all in
      (here, run_more last meets (omega arith) is kind, omega arith)
  runs_joined at (r ∷ front) last meets kind (here, is, rest) = (here, run_stays old new grows tables (t ∷ []) r is, runs_joined (at + (r.end - r.first)) front last meets kind rest)
