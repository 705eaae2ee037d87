-- What the packed tables of a design do to nets.
use Rattle.std.proofs.Common.{◌≡◌, ℕ, ◌+◌, ◌<◌, List, [], ◌∷◌, ◌++◌, length, length-append, take, get_or, sym, ap, ◌∙◌, subst, arith, inl, inr}
use Rattle.std.specs.Prelude.{All}
use Rattle.std.proofs.Math.ListN.{set}
use Rattle.std.proofs.lemmas.List.{take_more}
use Rattle.std.proofs.lemmas.Bool.{cases_lt}
use Rattle.ds_base.proofs.AppendedPairs.{get_or-left, get_or-right}
use Rattle.ds_base.specs.Values.{Row}
use Rattle.ds_base.specs.declared.value.Value.{Value}
use Rattle.ds_cover.specs.Cover.{value_of}
use Rattle.ds_cover.specs.Packed.{packed_value}
use Rattle.ds_cover.specs.Bank.{Driven, IsDriven, IsMore, AreNetsWithin, after_table, driven_at}
use Rattle.ds_design.specs.Banked.{IsBankOf}
use Rattle.ds_design.specs.Circuit.{Circuit}
use Rattle.ds_design.specs.InRange.{IsInRange}
use Rattle.ds_design.specs.declared.design.Gate.{Gate}

-- a packed table gives its output the value of the table
pub after_table-is : (tables : List Gate) (bank : List Driven) → IsBankOf tables bank → (nets : Row) (k : ℕ) (d : Gate) → k < length tables
    → after_table bank nets k ≡ set nets (get_or tables k d).output (value_of (get_or tables k d).table nets)
after_table-is tables bank is nets k d inside =
    let stands = is.table k d inside in
    ap (λ (n : ℕ). set nets n (packed_value (driven_at bank k).cover nets)) stands.drives ∙ ap (λ (v : Value). set nets (get_or tables k d).output v) (stands.packs.value nets)

-- the inputs and the output of a packed table are nets of the design
pub within_at : (c : Circuit) (bank : List Driven) → IsInRange c → IsBankOf c.tables bank → (nets : Row) → length nets ≡ length c.nets
    → (k : ℕ) (d : Gate) → k < length c.tables → AreNetsWithin (driven_at bank k) nets
within_at c bank in_range is nets same k d inside =
    let stands = is.table k d inside in
    let range = in_range.tables k d inside in
    record {
      inputs = subst (λ (ns : List ℕ). All (λ net. net < length nets) ns) (sym stands.packs.inputs) (subst (λ (n : ℕ). All (λ net. net < n) (get_or c.tables k d).table.inputs) (sym same) range.0);
      output = subst (λ (n : ℕ). n < length nets) (sym stands.drives) (subst (λ (n : ℕ). (get_or c.tables k d).output < n) (sym same) range.1);
    }

-- one table more
pub bank-append : (tables : List Gate) (bank more : List Driven) (gate : Gate) → IsBankOf tables bank → IsMore bank gate.table gate.output more → IsBankOf (tables ++ gate ∷ []) more
bank-append tables bank more gate is one = record {
  one_each = ap (λ (b : List Driven). length b) one.is ∙ (length-append bank (one.last ∷ []) ∙ (ap (λ n. n + 1) is.one_each ∙ sym (length-append tables (gate ∷ []))));
  table = λ k d inside.
      let long : length (tables ++ gate ∷ []) ≡ length tables + 1 = length-append tables (gate ∷ []) in
      let same : length bank ≡ length tables = is.one_each in
      elim (cases_lt k (length tables)) [
        | inl below ↦
            (let left : driven_at more k ≡ driven_at bank k = ap (λ (b : List Driven). driven_at b k) one.is ∙ get_or-left bank (one.last ∷ []) k _ (omega arith) in
            let gates : get_or (tables ++ gate ∷ []) k d ≡ get_or tables k d = get_or-left tables (gate ∷ []) k d below in
            subst (λ (g : Gate). IsDriven (driven_at more k) g.table g.output) (sym gates)
            (subst (λ (e : Driven). IsDriven e (get_or tables k d).table (get_or tables k d).output) (sym left) (is.table k d below)))
        | inr above ↦
            (let left : driven_at more k ≡ one.last = ap (λ (b : List Driven). driven_at b k) one.is ∙ get_or-right bank (one.last ∷ []) 0 k _ (omega arith) in
            let gates : get_or (tables ++ gate ∷ []) k d ≡ gate = get_or-right tables (gate ∷ []) 0 k d (omega arith) in
            subst (λ (g : Gate). IsDriven (driven_at more k) g.table g.output) (sym gates)
            (subst (λ (e : Driven). IsDriven e gate.table gate.output) (sym left) one.stands))
      ];
}

-- the same, of the first tables of a list
pub bank-take_more : (tables : List Gate) (bank more : List Driven) (i : ℕ) (gate : Gate) → i < length tables → gate ≡ get_or tables i gate
    → IsBankOf (take i tables) bank → IsMore bank gate.table gate.output more → IsBankOf (take (i + 1) tables) more
bank-take_more tables bank more i gate inside at is one =
    let split : take (i + 1) tables ≡ take i tables ++ gate ∷ [] = take_more tables i gate inside ∙ ap (λ (g : Gate). take i tables ++ g ∷ []) (sym at) in
    subst (λ (ts : List Gate). IsBankOf ts more) (sym split) (bank-append (take i tables) bank more gate is one)
