use Rattle.std.proofs.Common.{arith}
use Rattle.ds_outside.proofs.Pens.{puts_nothing, with_put}
use Rattle.ds_app.proofs.Listing.{blank_first, blank_further}
use Rattle.ds_app.proofs.list_clusters.put_blank.Goals as goal

pub returns-then-k-gt0 : goal.returns-then-k-gt0
returns-then-k-gt0 g c = with_put (blank_further c.args.k (omega (arith, c.if-k-gt0.true))) c.put.ensures

pub returns-else-k-gt0 : goal.returns-else-k-gt0
returns-else-k-gt0 g c = with_put (blank_first c.args.k (omega (arith, c.if-k-gt0.false))) (puts_nothing (g.P.Pen.writing c.args.pen.now))
