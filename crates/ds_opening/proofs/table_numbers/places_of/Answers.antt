use Rattle.std.proofs.Common.{◌≡◌, ◌∙◌, ◌<◌, ◌+◌, ◌++◌, ◌∷◌, [], ℕ, List, ap, arith, get_or, length, set, subst, sym, take}
use Rattle.std.proofs.Common.{Vec, Global}
use Rattle.std.proofs.lemmas.List.{get_or_default, take_more}
use Rattle.ds_opening.specs.Numbers.{AreClassPlaces}
use Rattle.ds_opening.proofs.ClassNumbers.{places_new, places_old}
use Rattle.ds_opening.proofs.table_numbers.places_of.Goals as goal
use Rattle.ds_opening.proofs.table_numbers.places_of.Goals.{then-index-eq0, else-index-eq0}

pub loop-table-preserved : goal.loop-table-preserved
loop-table-preserved c =
    let order : List ℕ = c.args.order.now in
    let i : ℕ = c.loop-table.table-index in
    let inside : i < length order = c.loop-table-test.true in
    let table : ℕ = get_or order i 0 in
    let classes : List ℕ = c.args.classes.now.of.items in
    let count : ℕ = c.args.classes.now.count in
    let places : List ℕ = c.loop-table.places.items in
    let next : ℕ = c.loop-table.next in
    let near : table < length classes = c.requires.order i 0 inside in
    let class_is : c.index-class.result.now ≡ get_or classes table 0 = c.index-class.ensures ∙ get_or_default classes table c.index-class.result.now 0 near in
    let low : get_or classes table 0 < count = c.requires.below table 0 near in
    let long : length places ≡ count = c.loop-table.invariant.long in
    let read : c.index.result.now ≡ get_or places (get_or classes table 0) 0 =
    c.index.ensures ∙ (get_or_default places c.index-class.result.now c.index.result.now 0 (omega (class_is, low, long, arith))
    ∙ ap (λ (k : ℕ). get_or places k 0) class_is) in
    subst (λ (xs : List ℕ). AreClassPlaces xs classes count c.if-index-eq0.places.items c.if-index-eq0.next) (sym (take_more order i 0 inside))
    (elim c.if-index-eq0.branch [
      | then-index-eq0 w ↦
          (let s : c.if-index-eq0.places.items ≡ set places (get_or classes table 0) (next + 1) =
          ap (λ (v : Vec ℕ Global). v.items) w.places-is ∙ ap (λ (k : ℕ). set places k (next + 1)) class_is in
          subst (λ (ps : List ℕ). AreClassPlaces (take i order ++ table ∷ []) classes count ps c.if-index-eq0.next) (sym s)
          (subst (λ (m : ℕ). AreClassPlaces (take i order ++ table ∷ []) classes count (set places (get_or classes table 0) (next + 1)) m) (sym w.next-is)
          (places_new (take i order) classes count places next c.loop-table.invariant table (sym read ∙ w.if-index-eq0.true) low)))
      | else-index-eq0 w ↦
          (let s : c.if-index-eq0.places.items ≡ places = ap (λ (v : Vec ℕ Global). v.items) w.places-is in
          let some : 0 < get_or places (get_or classes table 0) 0 = omega (read, w.if-index-eq0.false, arith) in
          subst (λ (ps : List ℕ). AreClassPlaces (take i order ++ table ∷ []) classes count ps c.if-index-eq0.next) (sym s)
          (subst (λ (m : ℕ). AreClassPlaces (take i order ++ table ∷ []) classes count places m) (sym w.next-is)
          (places_old (take i order) classes count places next c.loop-table.invariant table some)))
    ])
