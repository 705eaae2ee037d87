use Rattle.std.proofs.Common.{◌≡◌, ◌∙◌, ◌+◌, ap, sym, subst, List, None, arith}
use Rattle.ds_base.specs.Values.{Row}
use Rattle.ds_lines.specs.Line.{line_or_none}
use Rattle.ds_rows.specs.Vector.{fault_of_vector, row_of}
use Rattle.ds_rows.proofs.RowsSoFar.{IsRead, read_more}
use Rattle.ds_rows.proofs.reader.read_vectors.Goals as goal

pub loop-i-preserved : goal.loop-i-preserved
loop-i-preserved c =
    let lines = c.args.lines.now in
    let i = c.loop-i.i in
    let clean : fault_of_vector c.args.width i (line_or_none lines i).words ≡ None = ap (fault_of_vector c.args.width i) (sym c.line-words.ensures.value) ∙ (sym c.fault_of.ensures ∙ c.in_default.is) in
    let is = ap (row_of c.args.width) c.line-words.ensures.value in
    subst (λ (rows : List Row). IsRead c.args.width (i + 1) lines rows) (sym c.in_ok-push_row.ensures)
    (read_more c.args.width i lines c.loop-i.rows _ (omega arith) c.loop-i.invariant clean is)
