-- Known values give known values: what a caller of `set_all_known` has to show, and the same tables by their numbers.
use Rattle.std.proofs.Common.{◌≡◌, ◌≢◌, ℕ, zero, suc, ◌<◌, Bool, true, false, if◌then◌else◌, List, [], ◌∷◌, length, take, drop, get_or, set, refl, arith, sym, subst}
use Rattle.std.specs.Prelude.{All}
use Rattle.std.proofs.lemmas.List.Elements.{All-cons, All-head, All-tail}
use Rattle.ds_base.specs.Values.{AreKnown, Row, both, either}
use Rattle.ds_base.specs.declared.value.Value.{Value}
use Rattle.ds_base.specs.declared.value.Value.TheVariants.{Zero, One, Unknown}
use Rattle.ds_cover.specs.Cover.{value_at, values_at}
use Rattle.ds_cover.specs.Packed.{PackedCover, mask_value, masks_value, packed_value, words_of_values}
use Rattle.ds_cover.specs.Bank.{Driven, AreNetsWithin, after_tables, driven_at}
use Rattle.ds_cover.specs.Series.{FindsKnown, after_each, in_table_order}
use Rattle.ds_cover.specs.declared.mask.Mask.{Mask}
use Rattle.ds_cover.proofs.SmallTableWords.{either_known, mask_known, no_unknowns, signed_known}
use Rattle.ds_cover.proofs.LentRows.{length-set}
use Rattle.ds_cover.proofs.TablesByRun.{All-drop, All-take}

both_known : (a b : Value) → a ≢ Unknown → b ≢ Unknown → both a b ≢ Unknown
both_known Zero b p q = p
both_known One b p q = q
both_known Unknown b p q = absurd (p refl)

chosen : (b : Bool) (x y : Value) → x ≢ Unknown → y ≢ Unknown → (if b then x else y) ≢ Unknown
chosen true x y p q = p
chosen false x y p q = q

zero_sure : Zero ≢ Unknown
zero_sure e = cc

one_sure : One ≢ Unknown
one_sure e = cc

masks_known : (masks : List Mask) (values : Row) (so_far : Value) → AreKnown values → so_far ≢ Unknown → masks_value values so_far masks ≢ Unknown
masks_known [] values so_far known sure = zero_sure
masks_known (mask ∷ masks) values so_far known sure =
    let part = take 64 (drop mask.first values) in
    let here : both so_far (mask_value mask (words_of_values part)) ≢ Unknown =
    both_known so_far (mask_value mask (words_of_values part)) sure
    (mask_known mask (words_of_values part) (no_unknowns part (All-take (λ value. value ≢ Unknown) 64 (drop mask.first values) (All-drop (λ value. value ≢ Unknown) mask.first values known)))) in
    chosen mask.last (either (both so_far (mask_value mask (words_of_values part))) (masks_value values One masks)) (masks_value values (both so_far (mask_value mask (words_of_values part))) masks)
    (either_known (both so_far (mask_value mask (words_of_values part))) (masks_value values One masks) here (masks_known masks values One known one_sure))
    (masks_known masks values (both so_far (mask_value mask (words_of_values part))) known here)

-- a table whose inputs are known has a known value
pub packed_known : (cover : PackedCover) (nets : Row) → AreKnown (values_at nets cover.inputs) → packed_value cover nets ≢ Unknown
packed_known cover nets known = signed_known cover.on (masks_value (values_at nets cover.inputs) One cover.masks) (masks_known cover.masks (values_at nets cover.inputs) One known one_sure)

-- a known value leaves all known
pub set_known : (nets : Row) (i : ℕ) (value : Value) → AreKnown nets → value ≢ Unknown → AreKnown (set nets i value)
set_known [] i value known sure = known
set_known (v ∷ nets) zero value known sure = All-cons (λ v. v ≢ Unknown) value nets sure (All-tail (λ v. v ≢ Unknown) v nets known)
set_known (v ∷ nets) (suc i) value known sure =
    All-cons (λ v. v ≢ Unknown) v (set nets i value) (All-head (λ v. v ≢ Unknown) v nets known) (set_known nets i value (All-tail (λ v. v ≢ Unknown) v nets known) sure)

inputs_known : (inputs : List ℕ) (nets : Row) → AreKnown nets → All (λ net. net < length nets) inputs → AreKnown (values_at nets inputs)
inputs_known [] nets known within = λ k d inside. absurd (let h : k < 0 = inside in omega arith)
inputs_known (net ∷ inputs) nets known within =
    All-cons (λ v. v ≢ Unknown) (value_at nets net) (values_at nets inputs) (known net Zero (All-head (λ n. n < length nets) net inputs within))
    (inputs_known inputs nets known (All-tail (λ n. n < length nets) net inputs within))

within_set : (tables : List Driven) (nets : Row) (i : ℕ) (value : Value) → All (λ t. AreNetsWithin t nets) tables → All (λ t. AreNetsWithin t (set nets i value)) tables
within_set tables nets i value within k d inside =
    let w = within k d inside in
    let same = length-set nets i value in
    record { inputs = subst (λ n. All (λ net. net < n) (get_or tables k d).cover.inputs) (sym same) w.inputs; output = (let o = w.output in omega arith) }

-- where all nets are known each table finds its inputs known, and all nets stay known
pub finds_known : (tables : List Driven) (nets : Row) → AreKnown nets → All (λ t. AreNetsWithin t nets) tables → FindsKnown tables nets × AreKnown (after_each tables nets)
finds_known [] nets known within = (tt, known)
finds_known (t ∷ tables) nets known within =
    let head : AreNetsWithin t nets = All-head (λ t. AreNetsWithin t nets) t tables within in
    let here = inputs_known t.cover.inputs nets known head.inputs in
    let rest = finds_known tables (set nets t.output (packed_value t.cover nets)) (set_known nets t.output (packed_value t.cover nets) known (packed_known t.cover nets here))
    (within_set tables nets t.output (packed_value t.cover nets) (All-tail (λ t. AreNetsWithin t nets) t tables within)) in
    ((here, rest.0), rest.1)

-- the tables of a bank in an order
pub after_order : (bank : List Driven) (order : List ℕ) (nets : Row) → after_each (in_table_order bank order) nets ≡ after_tables bank nets order
after_order bank [] nets = refl
after_order bank (k ∷ order) nets = after_order bank order (set nets (driven_at bank k).output (packed_value (driven_at bank k).cover nets))
