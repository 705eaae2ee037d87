-- Rows whose values are lent: as long as before, and what they are at the end.
use Rattle.std.proofs.Common.{◌≡◌, ℕ, zero, suc, List, [], ◌∷◌, ◌++◌, length, take, drop, set, refl, ap, arith, ◌∙◌, append-nil}
use Rattle.std.proofs.lemmas.List.{take_all}
use Rattle.ds_base.specs.Lent.{with_values}
use Rattle.ds_base.specs.Values.{Row}
use Rattle.ds_base.specs.declared.value.Value.{Value}
use Rattle.ds_cover.specs.Bank.{Driven, after_table, after_tables, driven_at}
use Rattle.ds_cover.specs.Packed.{packed_value}

pub length-set : (nets : Row) (i : ℕ) (value : Value) → length (set nets i value) ≡ length nets
length-set [] i value = refl
length-set (v ∷ nets) zero value = refl
length-set (v ∷ nets) (suc i) value = ap suc (length-set nets i value)

pub length-after_table : (tables : List Driven) (nets : Row) (k : ℕ) → length (after_table tables nets k) ≡ length nets
length-after_table tables nets k = length-set nets (driven_at tables k).output (packed_value (driven_at tables k).cover nets)

pub length-after_tables : (tables : List Driven) (nets : Row) (ks : List ℕ) → length (after_tables tables nets ks) ≡ length nets
length-after_tables tables nets [] = refl
length-after_tables tables nets (k ∷ ks) = length-after_tables tables (after_table tables nets k) ks ∙ length-after_table tables nets k

drop-whole : (xs : Row) → drop (length xs) xs ≡ []
drop-whole [] = refl
drop-whole (x ∷ xs) = drop-whole xs

-- a row whose values were all lent has what they are at the end
pub with-all : (row values : Row) → length values ≡ length row → with_values row values ≡ values
with-all row values same =
    let none : drop (length values) row ≡ [] = ap (λ n. drop n row) same ∙ drop-whole row in
    ap (λ rest. take (length row) (values ++ rest)) none
    ∙ (ap (take (length row)) (append-nil values) ∙ take_all (length row) values (omega arith))
