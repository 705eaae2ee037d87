use Rattle.std.proofs.Common.{◌<◌, ◌≤◌, [], List, arith, get_or, length, subst, sym, take}
use Rattle.std.specs.Prelude.{All}
use Rattle.std.proofs.lemmas.List.{take_all, take_more}
use Rattle.std.proofs.lemmas.List.Elements.{All-push}
use Rattle.ds_base.specs.Values.{AreKnown, Row}
use Rattle.ds_run.proofs.known.are_rows_known.Goals as goal

pub loop-k-preserved : goal.loop-k-preserved
loop-k-preserved c = let (known, _) = c.all_known.ensures in
    let rows : List Row = c.args.vectors.now.rows in
    let inside : c.loop-k.k < length c.args.vectors.now.rows = omega (c.loop-k-test.true, c.count-k-end.ensures.value, arith) in
    let here : AreKnown (get_or rows c.loop-k.k []) = subst AreKnown c.row.ensures.row (known c.if-not-all_known.false) in
    subst (λ (rs : List Row). All AreKnown rs) (sym (take_more rows c.loop-k.k [] inside))
    (All-push AreKnown (take c.loop-k.k rows) (get_or rows c.loop-k.k []) c.loop-k.invariant here)

pub returns : goal.returns
returns c holds =
    let past : length c.args.vectors.now.rows ≤ c.loop-k.k = omega (c.loop-k-test.false, c.count-k-end.ensures.value, arith) in
    subst (λ (rs : List Row). All AreKnown rs) (take_all c.loop-k.k c.args.vectors.now.rows past) c.loop-k.invariant
