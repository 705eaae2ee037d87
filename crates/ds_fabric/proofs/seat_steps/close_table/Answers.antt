use Rattle.std.proofs.Common.{◌≡◌, ◌∙◌, ℕ, List, get_or, ap, arith, subst}
use Rattle.ds_rule.specs.Run.{Run}
use Rattle.ds_rule.specs.Log.{Recorded}
use Rattle.ds_rule.specs.Rule.{Lawful, tickets}
use Rattle.ds_rule.proofs.GetElemLemmas.{at_get}
use Rattle.ds_rule.proofs.Hands.{ends}
use Rattle.ds_rule.proofs.PassAtRest.{St}
use Rattle.ds_rule.proofs.PlaceLaws.{counts_inside}
use Rattle.ds_fabric.proofs.seat_steps.close_table.Goals as goal

pub word-many-requires : goal.word-many-requires
word-many-requires g c = let (_, _, q) = c.requires.table in let (counts, _) = c.close_with-closed.ensures.counts in let (values, _, _) = c.close_with-closed.ensures.values in
    (omega (arith, counts, q.sized, counts_inside c.args.run.now 0 (omega arith)), values)

pub returns : goal.returns
returns g c = let (_, _, f) = c.close_with-closed.ensures.values in let (_, _, q) = c.requires.table in let (live, at_rest) = c.requires.idle in
    let run : Run = c.args.run.now in let s : St = f.0 in
    let o : Lawful run s = subst (λ (r : Run). Lawful r s) q.keyed f.1.0 in
    let r = ends run s o c.args.seat.id c.args.seat.me.0 f.1.1 live at_rest c.requires.all in
    let is : get_or s.words 0 0 ≡ c.word-many.result = ap (λ (ws : List ℕ). get_or ws 0 0) f.2
    ∙ at_get _ 0 c.word-many.result 0 c.word-many.ensures in
    subst (λ (n : ℕ). Recorded run (tickets c.args.seat.me.0) n) is r
