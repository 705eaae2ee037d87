-- Tables that a bank keeps.
use Rattle.std.proofs.Common.{◌≡◌, ℕ, ◌+◌, ◌-◌, ◌<◌, ◌≤◌, List, [], ◌∷◌, ◌++◌, length, length-append, length-drop, Bool, true, false, take, drop, get_or, map, refl, ap, arith, sym, ◌∙◌, subst, inl, inr}
use Rattle.std.specs.Prelude.{All}
use Rattle.std.proofs.lemmas.Bool.{cases_lt}
use Rattle.std.proofs.lemmas.List.{drop-append-le, drop-map, drop_at, get_or-map, get_or_default, length-map, map_push, take-append-le, take-map, take_all, take_rest}
use Rattle.std.proofs.lemmas.List.Elements.{All-head, All-tail}
use Rattle.ds_base.specs.Values.{Row}
use Rattle.ds_base.proofs.AppendedPairs.{get_or-left, get_or-right}
use Rattle.ds_base.specs.declared.value.Value.TheVariants.{One}
use Rattle.ds_cover.specs.Cover.{Cover, signed, some_match, value_at, values_at}
use Rattle.ds_cover.specs.Packed.{masks_value, words_of_values}
use Rattle.ds_cover.specs.Bank.{Driven, IsDriven, IsMore, driven_at}
use Rattle.ds_cover.specs.Kept.{AddsRows, AreKept, IsAdded, IsTableKept, IsPrefix, IsQuick, IsSingle, driven_in}
use Rattle.ds_cover.proofs.Added.{added_value}
use Rattle.ds_cover.proofs.Masks.{some_match_short}
use Rattle.ds_cover.specs.declared.entry.Quick.{Quick}
use Rattle.ds_cover.specs.declared.entry.TableSpan.{TableSpan}
use Rattle.ds_cover.specs.declared.mask.Mask.{Mask}

-- the values of a part of the inputs
pub part_words : (nets : Row) (inputs : List ℕ) (first : ℕ) → words_of_values (values_at nets (take (first + 64 - first) (drop first inputs))) ≡ words_of_values (take 64 (drop first (values_at nets inputs)))
part_words nets inputs first =
    let wide : first + 64 - first ≡ 64 = omega arith in
    ap (λ (n : ℕ). words_of_values (values_at nets (take n (drop first inputs)))) wide
    ∙ ap words_of_values (sym (take-map (value_at nets) 64 (drop first inputs)) ∙ ap (take 64) (sym (drop-map (value_at nets) first inputs)))

pub rest_words : (nets : Row) (inputs : List ℕ) (first : ℕ) → length inputs ≤ first + 64 → words_of_values (values_at nets (take (length inputs - first) (drop first inputs))) ≡ words_of_values (take 64 (drop first (values_at nets inputs)))
rest_words nets inputs first short =
    let lengths : length (values_at nets inputs) ≡ length inputs = length-map inputs (value_at nets) in
    ap (λ (ns : List ℕ). words_of_values (values_at nets ns)) (take_rest inputs first)
    ∙ ap words_of_values (sym (drop-map (value_at nets) first inputs) ∙ sym (take_all 64 (drop first (values_at nets inputs)) (rw length-drop (omega arith))))

-- the table with a number
pub driven-is : (inputs : List ℕ) (masks : List Mask) (spans : List TableSpan) (k : ℕ) (d : TableSpan) → k < length spans → driven_at (map (driven_in inputs masks) spans) k ≡ driven_in inputs masks (get_or spans k d)
driven-is inputs masks spans k d inside = get_or-map (driven_in inputs masks) spans k d _ inside

pub kept_at : (inputs : List ℕ) (masks : List Mask) (spans : List TableSpan) (quicks : List Quick) → AreKept inputs masks spans quicks → (k : ℕ) (span : TableSpan) (quick : Quick) → k < length spans
    → span ≡ get_or spans k span → quick ≡ get_or quicks k quick → IsTableKept inputs masks span quick
kept_at inputs masks spans quicks are k span quick inside is is' =
    subst (λ (s : TableSpan). IsTableKept inputs masks s quick) (sym is) (subst (λ (q : Quick). IsTableKept inputs masks (get_or spans k span) q) (sym is') (are.kept k span quick inside))

-- some span
abbrev pub no_span : TableSpan
no_span = record { first_input = 0; inputs = 0; first_mask = 0; masks = 0; on = true; output = 0 }

-- some quick entry
abbrev pub no_quick : Quick
no_quick = record { truth = 0; nets = []; output = 0; few = false; at_most_three = false }

-- the table with a number is what its span and its quick entry keep
pub record IsTable (tables : List Driven) (inputs : List ℕ) (masks : List Mask) (k : ℕ) (span : TableSpan) (quick : Quick) : Type 0 where
  pub is : driven_at tables k ≡ driven_in inputs masks span
  pub kept : IsTableKept inputs masks span quick

-- the table with a number, where one of the two or both are read
module _ {tables : List Driven} {inputs : List ℕ} {masks : List Mask} {spans : List TableSpan} {quicks : List Quick} {k : ℕ}
    (are : AreKept inputs masks spans quicks) (view : map (driven_in inputs masks) spans ≡ tables) (inside : k < length tables) where
  stands : k < length spans
  stands =
      let same : length spans ≡ length tables = sym (length-map spans (driven_in inputs masks)) ∙ ap (λ (ds : List Driven). length ds) view in
      omega arith

  pub table_at : (span : TableSpan) (quick : Quick) → span ≡ get_or spans k span → quick ≡ get_or quicks k quick → IsTable tables inputs masks k span quick
  table_at span quick is is' = record {
    is = ap (λ (ds : List Driven). driven_at ds k) (sym view) ∙ (driven-is inputs masks spans k span stands ∙ ap (driven_in inputs masks) (sym is));
    kept = kept_at inputs masks spans quicks are k span quick stands is is';
  }

  pub table_of_span : (span : TableSpan) → span ≡ get_or spans k span → IsTable tables inputs masks k span (get_or quicks k no_quick)
  table_of_span span is =
      let same : length quicks ≡ length spans = are.one_each in
      let below : k < length spans = stands in
      table_at span (get_or quicks k no_quick) is (get_or_default quicks k no_quick (get_or quicks k no_quick) (omega arith))

  pub table_of_quick : (quick : Quick) → quick ≡ get_or quicks k quick → IsTable tables inputs masks k (get_or spans k no_span) quick
  table_of_quick quick is = table_at (get_or spans k no_span) quick (get_or_default spans k no_span (get_or spans k no_span) stands) is

-- a part of a list stays where more follows
pub part_stays : {A : Type 0} (first count : ℕ) (xs more : List A) → first + count ≤ length xs → take count (drop first (xs ++ more)) ≡ take count (drop first xs)
part_stays first count xs more inside =
    ap (take count) (drop-append-le first xs more (omega arith)) ∙ take-append-le count (drop first xs) more (rw length-drop (omega arith))

driven_stays : (inputs more_inputs : List ℕ) (masks more_masks : List Mask) (span : TableSpan) → span.first_input + span.inputs ≤ length inputs → span.first_mask + span.masks ≤ length masks
    → driven_in (inputs ++ more_inputs) (masks ++ more_masks) span ≡ driven_in inputs masks span
driven_stays inputs more_inputs masks more_masks span low low' =
    ap (λ (ns : List ℕ). record { cover = record { inputs = ns; masks = take span.masks (drop span.first_mask (masks ++ more_masks)); on = span.on }; output = span.output }) (part_stays span.first_input span.inputs inputs more_inputs low)
    ∙ ap (λ (ms : List Mask). record { cover = record { inputs = take span.inputs (drop span.first_input inputs); masks = ms; on = span.on }; output = span.output }) (part_stays span.first_mask span.masks masks more_masks low')

kept_stays : (inputs more_inputs : List ℕ) (masks more_masks : List Mask) (span : TableSpan) (quick : Quick) → IsTableKept inputs masks span quick → IsTableKept (inputs ++ more_inputs) (masks ++ more_masks) span quick
kept_stays inputs more_inputs masks more_masks span quick kept =
    let same = driven_stays inputs more_inputs masks more_masks span kept.inputs_in kept.masks_in in
    let l1 : length (inputs ++ more_inputs) ≡ length inputs + length more_inputs = length-append inputs more_inputs in
    let l2 : length (masks ++ more_masks) ≡ length masks + length more_masks = length-append masks more_masks in
    let low = kept.inputs_in in
    let low' = kept.masks_in in
    record {
      inputs_in = omega arith;
      masks_in = omega arith;
      fit = subst (λ (e : Driven). All (λ mask. mask.first ≤ span.inputs) e.cover.masks) (sym same) kept.fit;
      drives = kept.drives;
      is_quick = λ few. subst (λ (e : Driven). IsQuick quick e.cover) (sym same) (kept.is_quick few);
    }

maps_agree : {A B : Type 0} (f g : A → B) (xs : List A) → All (λ x. f x ≡ g x) xs → map f xs ≡ map g xs
maps_agree f g [] same = refl
maps_agree f g (x ∷ xs) same = ap (λ y. y ∷ map f xs) (All-head (λ x. f x ≡ g x) x xs same) ∙ ap (λ ys. g x ∷ ys) (maps_agree f g xs (All-tail (λ x. f x ≡ g x) x xs same))

-- tables stay where more inputs and masks stand behind theirs
module _ (inputs : List ℕ) (masks : List Mask) (spans : List TableSpan) (quicks : List Quick) (are : AreKept inputs masks spans quicks)
    (inputs' : List ℕ) (masks' : List Mask) (longer : IsPrefix inputs inputs') (longer' : IsPrefix masks masks') where
  old_stays : (s : TableSpan) → s.first_input + s.inputs ≤ length inputs → s.first_mask + s.masks ≤ length masks → driven_in inputs' masks' s ≡ driven_in inputs masks s
  old_stays s low low' =
      ap (λ (ns : List ℕ). driven_in ns masks' s) longer.is ∙ (ap (λ (ms : List Mask). driven_in (inputs ++ longer.more) ms s) longer'.is
      ∙ driven_stays inputs longer.more masks longer'.more s low low')

  pub spans_stay : map (driven_in inputs' masks') spans ≡ map (driven_in inputs masks) spans
  spans_stay =
      maps_agree (driven_in inputs' masks') (driven_in inputs masks) spans
      (λ k d inside. let kept = are.kept k d no_quick inside in old_stays (get_or spans k d) kept.inputs_in kept.masks_in)

  pub are_still : AreKept inputs' masks' spans quicks
  are_still = record {
    one_each = are.one_each;
    kept = λ k d e inside.
        subst (λ (ns : List ℕ). IsTableKept ns masks' (get_or spans k d) (get_or quicks k e)) (sym longer.is)
        (subst (λ (ms : List Mask). IsTableKept (inputs ++ longer.more) ms (get_or spans k d) (get_or quicks k e)) (sym longer'.is)
        (kept_stays inputs longer.more masks longer'.more (get_or spans k d) (get_or quicks k e) (are.kept k d e inside)));
  }

module _ (inputs : List ℕ) (masks : List Mask) (spans : List TableSpan) (quicks : List Quick) (are : AreKept inputs masks spans quicks)
    (cover : Cover) (output : ℕ) (inputs' : List ℕ) (masks' : List Mask) (span : TableSpan) (quick : Quick) (added : IsAdded inputs masks cover output inputs' masks' span quick) where
  longer : IsPrefix inputs inputs'
  longer = record { more = added.more_inputs; is = added.inputs_are }

  longer' : IsPrefix masks masks'
  longer' = record { more = added.more_masks; is = added.masks_are }

  pub is_more : IsMore (map (driven_in inputs masks) spans) cover output (map (driven_in inputs' masks') (spans ++ span ∷ []))
  is_more = record {
    last = driven_in inputs' masks' span;
    is = map_push (driven_in inputs' masks') spans span
        ∙ ap (λ (ds : List Driven). ds ++ driven_in inputs' masks' span ∷ []) (spans_stay inputs masks spans quicks are inputs' masks' longer longer');
    stands = added.stands;
  }

  pub are_more : AreKept inputs' masks' (spans ++ span ∷ []) (quicks ++ quick ∷ [])
  are_more = record {
    one_each = length-append quicks (quick ∷ []) ∙ (ap (λ n. n + 1) are.one_each ∙ sym (length-append spans (span ∷ [])));
    kept = λ k d e inside.
        let long : length (spans ++ span ∷ []) ≡ length spans + 1 = length-append spans (span ∷ []) in
        let same : length quicks ≡ length spans = are.one_each in
        elim (cases_lt k (length spans)) [
          | inl below ↦
              subst (λ (s : TableSpan). IsTableKept inputs' masks' s (get_or (quicks ++ quick ∷ []) k e)) (sym (get_or-left spans (span ∷ []) k d below))
              (subst (λ (q : Quick). IsTableKept inputs' masks' (get_or spans k d) q) (sym (get_or-left quicks (quick ∷ []) k e (omega arith)))
              ((are_still inputs masks spans quicks are inputs' masks' longer longer').kept k d e below))
          | inr above ↦
              subst (λ (s : TableSpan). IsTableKept inputs' masks' s (get_or (quicks ++ quick ∷ []) k e)) (sym (get_or-right spans (span ∷ []) 0 k d (omega arith)))
              (subst (λ (q : Quick). IsTableKept inputs' masks' span q) (sym (get_or-right quicks (quick ∷ []) 0 k e (omega arith))) added.kept)
        ];
  }

-- what a table adds
module _ (inputs : List ℕ) (masks : List Mask) (cover : Cover) (output : ℕ) (masks' : List Mask) (width : All (λ row. length row ≡ length cover.inputs) cover.rows)
    (adds : AddsRows masks (length cover.inputs) cover.rows masks') where
  own_masks : take (length masks' - length masks) (drop (length masks) masks') ≡ adds.added
  own_masks = take_rest masks' (length masks) ∙ (ap (drop (length masks)) adds.is ∙ drop_at masks adds.added (length masks) refl)

  abbrev own : List Mask
  own = take (length masks' - length masks) (drop (length masks) masks')

  rows_value : (values : Row) → masks_value values One own ≡ some_match cover.rows values
  rows_value values = ap (masks_value values One) own_masks ∙ added_value masks (length cover.inputs) cover.rows masks' adds values

  pub own_reads : (values : Row) → masks_value values One own ≡ masks_value (take (length cover.inputs) values) One own
  own_reads values =
      rows_value values
      ∙ (sym (some_match_short (length cover.inputs) cover.rows values (λ k d inside. let w : length (get_or cover.rows k d) ≡ length cover.inputs = width k d inside in omega arith))
      ∙ sym (rows_value (take (length cover.inputs) values)))

  pub own_single : length cover.inputs ≤ 6 → All IsSingle own
  own_single few = subst (λ (ms : List Mask). All IsSingle ms) (sym own_masks) (λ k d inside. (adds.fit k d inside).1 (omega arith))

  own_count : length adds.added ≡ length masks' - length masks
  own_count = (let l : length masks' ≡ length masks + length adds.added = ap (λ (ms : List Mask). length ms) adds.is ∙ length-append masks adds.added in omega arith)

  module _ (inputs' : List ℕ) (grown : inputs' ≡ inputs ++ cover.inputs) (span : TableSpan) (quick : Quick)
      (span_is : span ≡ record { first_input = length inputs; inputs = length cover.inputs; first_mask = length masks; masks = length own; on = cover.on; output = output })
      (drives : quick.output ≡ output) (is_quick : quick.few ≡ true → IsQuick quick (record { inputs = cover.inputs; masks = own; on = cover.on })) where
    own_long : length own ≡ length masks' - length masks
    own_long = ap (λ (ms : List Mask). length ms) own_masks ∙ own_count

    abbrev whole : TableSpan
    whole = record { first_input = length inputs; inputs = length cover.inputs; first_mask = length masks; masks = length own; on = cover.on; output = output }

    driven_own : driven_in inputs' masks' whole ≡ record { cover = record { inputs = cover.inputs; masks = own; on = cover.on }; output = output }
    driven_own =
        let left : take (length cover.inputs) (drop (length inputs) inputs') ≡ cover.inputs =
        ap (λ (ns : List ℕ). take (length cover.inputs) (drop (length inputs) ns)) grown ∙ (ap (take (length cover.inputs)) (drop_at inputs cover.inputs (length inputs) refl) ∙ take_all (length cover.inputs) cover.inputs (omega arith)) in
        let right : take (length own) (drop (length masks) masks') ≡ own = ap (λ (n : ℕ). take n (drop (length masks) masks')) own_long in
        ap (λ (ns : List ℕ). record { cover = record { inputs = ns; masks = take (length own) (drop (length masks) masks'); on = cover.on }; output = output }) left
        ∙ ap (λ (ms : List Mask). record { cover = record { inputs = cover.inputs; masks = ms; on = cover.on }; output = output }) right

    kept_whole : IsTableKept inputs' masks' whole quick
    kept_whole =
        let l1 : length inputs' ≡ length inputs + length cover.inputs = ap (λ (ns : List ℕ). length ns) grown ∙ length-append inputs cover.inputs in
        let l2 : length masks' ≡ length masks + length adds.added = ap (λ (ms : List Mask). length ms) adds.is ∙ length-append masks adds.added in
        let l3 : length own ≡ length masks' - length masks = own_long in
        record {
          inputs_in = omega arith;
          masks_in = omega arith;
          fit = subst (λ (e : Driven). All (λ mask. mask.first ≤ length cover.inputs) e.cover.masks) (sym driven_own)
              (subst (λ (ms : List Mask). All (λ mask. mask.first ≤ length cover.inputs) ms) (sym own_masks) (λ k d inside. (adds.fit k d inside).0));
          drives = drives;
          is_quick = λ few. subst (λ (e : Driven). IsQuick quick e.cover) (sym driven_own) (is_quick few);
        }

    pub is_added : IsAdded inputs masks cover output inputs' masks' span quick
    is_added = record {
      more_inputs = cover.inputs;
      more_masks = adds.added;
      inputs_are = grown;
      masks_are = adds.is;
      kept = subst (λ (s : TableSpan). IsTableKept inputs' masks' s quick) (sym span_is) kept_whole;
      stands = subst (λ (s : TableSpan). IsDriven (driven_in inputs' masks' s) cover output) (sym span_is) (subst (λ (e : Driven). IsDriven e cover output) (sym driven_own) (record {
        packs = record {
          inputs = refl;
          value = λ nets. ap (signed cover.on) (rows_value (values_at nets cover.inputs));
        };
        drives = refl;
      }));
    }

-- parts that are the same make the same
abbrev pub span_of : ℕ → ℕ → ℕ → ℕ → Bool → ℕ → TableSpan
span_of a b c d on o = record { first_input = a; inputs = b; first_mask = c; masks = d; on = on; output = o }

pub span_same : (a b c d o a' b' c' d' : ℕ) (on on' : Bool) → a ≡ a' → b ≡ b' → c ≡ c' → d ≡ d' → on ≡ on'
    → span_of a b c d on o ≡ span_of a' b' c' d' on' o
span_same a b c d o a' b' c' d' on on' p q r s t = rw (p, q, r, s, t) refl

pub part_same : (masks' lent masks : List Mask) (first : ℕ) → lent ≡ masks' → first ≡ length masks
    → take (length lent - first) (drop first lent) ≡ take (length masks' - length masks) (drop (length masks) masks')
part_same masks' lent masks first p q = rw (p, q) refl

pub quick_same : (quick : Quick) (ins ins' : List ℕ) (ms ms' : List Mask) (on on' : Bool) → ins ≡ ins' → ms ≡ ms' → on ≡ on'
    → (quick.few ≡ true → IsQuick quick (record { inputs = ins; masks = ms; on = on })) → quick.few ≡ true → IsQuick quick (record { inputs = ins'; masks = ms'; on = on' })
quick_same quick ins ins' ms ms' on on' p q r is few =
    subst (λ (n : List ℕ). IsQuick quick (record { inputs = n; masks = ms'; on = on' })) p
    (subst (λ (m : List Mask). IsQuick quick (record { inputs = ins; masks = m; on = on' })) q
    (subst (λ (b : Bool). IsQuick quick (record { inputs = ins; masks = ms; on = b })) r (is few)))
