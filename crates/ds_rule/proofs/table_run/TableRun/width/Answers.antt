use Rattle.std.proofs.Common.{◌≡◌, ◌∙◌, ◌<◌, ℕ, List, length, get_or, arith, sym, ap}
use Rattle.ds_base.specs.Word.{count_of_words}
use Rattle.atomic_table.proofs.Lists.{at_index}
use Rattle.ds_rule.specs.Run.{Run}
use Rattle.ds_rule.proofs.GetElemLemmas.{at_get}
use Rattle.ds_rule.proofs.PlaceLaws.{width-is}
use Rattle.ds_rule.proofs.table_run.TableRun.width.Goals as goal

-- the length of the node's rows, as it was read
read : (run : Run) (ls : List ℕ) (l n : ℕ) → ls ≡ run.lengths → l < length run.lengths
    → n ≡ get_or ls l n
    → n ≡ get_or run.lengths l 0
read run ls l n same near is =
    sym (at_get ls l n 0 (at_index ls l n (omega (
      arith,
      near,
      ap (λ (xs : List ℕ). length xs) same,
    )) is))
    ∙ ap (λ (xs : List ℕ). get_or xs l 0) same

pub returns-then-length-eq0 : goal.returns-then-length-eq0
returns-then-length-eq0 g c =
    let n = read c.args.self.now c.self.inside.lengths.items c.args.node c.index-length.result.now
    (ap (λ (r : Run). r.lengths) c.self.view_is) c.requires c.index-length.ensures in
    omega (arith, ap count_of_words n, width-is c.args.self.now c.args.node, c.if-length-eq0.true)

pub returns-else-length-eq0 : goal.returns-else-length-eq0
returns-else-length-eq0 g c =
    let n = read c.args.self.now c.self.inside.lengths.items c.args.node c.index-length.result.now
    (ap (λ (r : Run). r.lengths) c.self.view_is) c.requires c.index-length.ensures in
    omega (arith, ap count_of_words n, width-is c.args.self.now c.args.node, c.if-length-eq0.false)
