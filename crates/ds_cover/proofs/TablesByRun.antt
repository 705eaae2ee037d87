-- Tables that are set run by run.
use Rattle.std.proofs.Common.{◌≡◌, ℕ, zero, suc, ◌+◌, ◌-◌, ◌<◌, List, [], ◌∷◌, ◌++◌, length, take, drop, map, set, refl, ap, arith, sym, ◌∙◌, subst}
use Rattle.std.specs.Prelude.{All}
use Rattle.std.proofs.lemmas.List.{drop-map, get_or-map, length-map, take-map}
use Rattle.std.proofs.lemmas.List.Elements.{All-head, All-tail, All-cons}
use Rattle.ds_base.specs.Values.{Row}
use Rattle.ds_cover.specs.Packed.{packed_value}
use Rattle.ds_cover.specs.Bank.{Driven, AreNetsWithin, driven_at}
use Rattle.ds_cover.specs.Small.{IsSmallWithin, Small, StandsFor, Worded, WordsFor, after_smalls, after_worded, paired, part_of, small_value, worded_value}
use Rattle.ds_cover.specs.Series.{AreFor, FindsKnown, StandsForRun, after_each, in_table_order, own_tables}
use Rattle.ds_cover.specs.declared.run.Run.{Run}
use Rattle.ds_cover.proofs.LentRows.{length-set}

pub finds-split : (these those : List Driven) (nets : Row) → FindsKnown (these ++ those) nets → FindsKnown these nets × FindsKnown those (after_each these nets)
finds-split [] those nets known = (tt, known)
finds-split (t ∷ these) those nets (here, rest) =
    let (a, b) = finds-split these those (set nets t.output (packed_value t.cover nets)) rest in
    ((here, a), b)

-- small tables are within where the tables are that they stand for
pub smalls_within : (smalls : List Small) (tables : List Driven) (nets : Row) → AreFor StandsFor smalls tables → All (λ t. AreNetsWithin t nets) tables → All (λ s. IsSmallWithin s nets) smalls
smalls_within [] tables nets stand within = λ k d inside. absurd (let h : k < 0 = inside in omega arith)
smalls_within (s ∷ smalls) [] nets stand within = absurd (let h : length (s ∷ smalls) ≡ 0 = stand in omega arith)
smalls_within (s ∷ smalls) (t ∷ tables) nets (stands, rest) within =
    let here : AreNetsWithin t nets = All-head (λ t. AreNetsWithin t nets) t tables within in
    All-cons (λ s. IsSmallWithin s nets) s smalls
    (record { inputs = stands.within (length nets) here.inputs; output = (let e = stands.drives in let o = here.output in omega arith) })
    (smalls_within smalls tables nets rest (All-tail (λ t. AreNetsWithin t nets) t tables within))

-- and set the same
pub smalls_after : (smalls : List Small) (tables : List Driven) (nets : Row) → AreFor StandsFor smalls tables → FindsKnown tables nets → after_smalls smalls nets ≡ after_each tables nets
smalls_after [] [] nets stand known = refl
smalls_after [] (t ∷ tables) nets stand known = absurd (let h : length (t ∷ tables) ≡ 0 = stand in omega arith)
smalls_after (s ∷ smalls) [] nets stand known = absurd (let h : length (s ∷ smalls) ≡ 0 = stand in omega arith)
smalls_after (s ∷ smalls) (t ∷ tables) nets (stands, rest) (here, known) =
    let same : set nets s.output (small_value s nets) ≡ set nets t.output (packed_value t.cover nets) =
    ap (λ n. set nets n (small_value s nets)) stands.drives ∙ ap (set nets t.output) (stands.value nets here) in
    ap (after_smalls smalls) same ∙ smalls_after smalls tables (set nets t.output (packed_value t.cover nets)) rest known

pub All-take : {A : Type 0} (P : A → Type 0) (n : ℕ) (xs : List A) → All P xs → All P (take n xs)
All-take P zero xs all = λ k d inside. absurd (let h : k < 0 = inside in omega arith)
All-take P (suc n) [] all = λ k d inside. absurd (let h : k < 0 = inside in omega arith)
All-take P (suc n) (x ∷ xs) all = All-cons P x (take n xs) (All-head P x xs all) (All-take P n xs (All-tail P x xs all))

pub All-drop : {A : Type 0} (P : A → Type 0) (n : ℕ) (xs : List A) → All P xs → All P (drop n xs)
All-drop P zero xs all = all
All-drop P (suc n) [] all = all
All-drop P (suc n) (x ∷ xs) all = All-drop P n xs (All-tail P x xs all)

pub own_within : (tables : List Driven) (run : Run) (nets : Row) → All (λ t. AreNetsWithin t nets) tables → All (λ t. AreNetsWithin t nets) (own_tables tables run)
own_within tables run nets within = All-take (λ t. AreNetsWithin t nets) (run.end - run.first) (drop run.at tables) (All-drop (λ t. AreNetsWithin t nets) run.at tables within)

pub All-unmap : {A B : Type 0} (f : A → B) (P : B → Type 0) (xs : List A) → All P (map f xs) → All (λ x. P (f x)) xs
All-unmap f P xs all k d inside = subst P (get_or-map f xs k d (f d) inside) (all k (f d) (let l = length-map xs f in omega arith))

pub part-map : {A B : Type 0} (f : A → B) (first end : ℕ) (xs : List A) → part_of first end (map f xs) ≡ map f (part_of first end xs)
part-map f first end xs = ap (take (end - first)) (drop-map f first xs) ∙ take-map f (end - first) (drop first xs)

abbrev nothing : {A : Type 0} → List A
nothing = []

drop-none : {A : Type 0} (n : ℕ) → drop n (nothing {A = A}) ≡ []
drop-none zero = refl
drop-none (suc n) = refl

pub drop-drop : {A : Type 0} (n m : ℕ) (xs : List A) → drop n (drop m xs) ≡ drop (m + n) xs
drop-drop n zero xs = (let e : 0 + n ≡ n = omega arith in ap (λ i. drop i xs) (sym e))
drop-drop n (suc m) [] = drop-none n ∙ sym (drop-none (suc m + n))
drop-drop n (suc m) (x ∷ xs) = (let e : suc m + n ≡ suc (m + n) = omega arith in drop-drop n m xs ∙ ap (λ i. drop i (x ∷ xs)) (sym e))

-- the tables of a bank are within, in an order too
pub order_within : (bank : List Driven) (order : List ℕ) (nets : Row) → All (λ k. k < length bank) order → All (λ t. AreNetsWithin t nets) bank → All (λ t. AreNetsWithin t nets) (in_table_order bank order)
order_within bank [] nets places within = λ k d inside. absurd (let h : k < 0 = inside in omega arith)
order_within bank (n ∷ order) nets places within =
    let low : n < length bank = All-head (λ k. k < length bank) n order places in
    All-cons (λ t. AreNetsWithin t nets) (driven_at bank n) (in_table_order bank order) (within n _ low)
    (order_within bank order nets (All-tail (λ k. k < length bank) n order places) within)

-- a part of small tables is within
pub part_unmap : {A : Type 0} (f : A → Small) (first end : ℕ) (xs : List A) (nets : Row) → All (λ s. IsSmallWithin s nets) (part_of first end (map f xs)) → All (λ x. IsSmallWithin (f x) nets) (part_of first end xs)
part_unmap f first end xs nets within =
    All-unmap f (λ s. IsSmallWithin s nets) (part_of first end xs) (subst (λ (ss : List Small). All (λ s. IsSmallWithin s nets) ss) (part-map f first end xs) within)

-- a run of one size
module _ (smalls : List Small) (tables : List Driven) (run : Run) (nets : Row) (part : StandsForRun StandsFor smalls tables run) where
  pub part_within : All (λ t. AreNetsWithin t nets) tables → All (λ s. IsSmallWithin s nets) (part_of run.first run.end smalls)
  part_within within = smalls_within (part_of run.first run.end smalls) (own_tables tables run) nets part.stands (own_within tables run nets within)

  pub part_after : FindsKnown (own_tables tables run) nets → after_smalls (part_of run.first run.end smalls) nets ≡ after_each (own_tables tables run) nets
  part_after known = smalls_after (part_of run.first run.end smalls) (own_tables tables run) nets part.stands known

-- tables by their words set the same
pub worded_after : (items : List Worded) (tables : List Driven) (nets : Row) → AreFor WordsFor items tables → after_worded items nets ≡ after_each tables nets
worded_after [] [] nets are = refl
worded_after [] (t ∷ tables) nets are = absurd (let h : length (t ∷ tables) ≡ 0 = are in omega arith)
worded_after (s ∷ items) [] nets are = absurd (let h : length (s ∷ items) ≡ 0 = are in omega arith)
worded_after (s ∷ items) (t ∷ tables) nets (stands, rest) =
    let same : set nets s.small.output (worded_value s nets) ≡ set nets t.output (packed_value t.cover nets) =
    ap (λ n. set nets n (worded_value s nets)) stands.drives ∙ ap (set nets t.output) (stands.value nets) in
    ap (after_worded items) same ∙ worded_after items tables (set nets t.output (packed_value t.cover nets)) rest

module _ {A W : Type 0} (f : A → W → Worded) where
  paired-none : (xs : List A) → paired f xs [] ≡ []
  paired-none [] = refl
  paired-none (x ∷ xs) = refl

  paired-take : (n : ℕ) (xs : List A) (ws : List W) → take n (paired f xs ws) ≡ paired f (take n xs) (take n ws)
  paired-take zero xs ws = refl
  paired-take (suc n) [] ws = refl
  paired-take (suc n) (x ∷ xs) [] = refl
  paired-take (suc n) (x ∷ xs) (w ∷ ws) = ap (λ (r : List Worded). f x w ∷ r) (paired-take n xs ws)

  paired-drop : (n : ℕ) (xs : List A) (ws : List W) → drop n (paired f xs ws) ≡ paired f (drop n xs) (drop n ws)
  paired-drop zero xs ws = refl
  paired-drop (suc n) [] ws = refl
  paired-drop (suc n) (x ∷ xs) [] = sym (paired-none (drop n xs))
  paired-drop (suc n) (x ∷ xs) (w ∷ ws) = paired-drop n xs ws

  pub paired-part : (first end : ℕ) (xs : List A) (ws : List W) → part_of first end (paired f xs ws) ≡ paired f (part_of first end xs) (part_of first end ws)
  paired-part first end xs ws = ap (take (end - first)) (paired-drop first xs ws) ∙ paired-take (end - first) (drop first xs) (drop first ws)

  pub paired-append : (xs ys : List A) (ws us : List W) → length ws ≡ length xs → paired f (xs ++ ys) (ws ++ us) ≡ paired f xs ws ++ paired f ys us
  paired-append [] ys [] us same = refl
  paired-append [] ys (w ∷ ws) us same = absurd (omega arith)
  paired-append (x ∷ xs) ys [] us same = absurd (omega arith)
  paired-append (x ∷ xs) ys (w ∷ ws) us same = ap (λ (r : List Worded). f x w ∷ r) (paired-append xs ys ws us (omega arith))

  pub length-paired : (xs : List A) (ws : List W) → length ws ≡ length xs → length (paired f xs ws) ≡ length xs
  length-paired [] ws same = refl
  length-paired (x ∷ xs) [] same = absurd (omega arith)
  length-paired (x ∷ xs) (w ∷ ws) same = ap suc (length-paired xs ws (omega arith))

-- as many values as before
pub length-after_smalls : (smalls : List Small) (nets : Row) → length (after_smalls smalls nets) ≡ length nets
length-after_smalls [] nets = refl
length-after_smalls (s ∷ smalls) nets = length-after_smalls smalls (set nets s.output (small_value s nets)) ∙ length-set nets s.output (small_value s nets)

pub length-after_worded : (items : List Worded) (nets : Row) → length (after_worded items nets) ≡ length nets
length-after_worded [] nets = refl
length-after_worded (s ∷ items) nets = length-after_worded items (set nets s.small.output (worded_value s nets)) ∙ length-set nets s.small.output (worded_value s nets)
