use Rattle.ds_app.proofs.RunEnds.{few_vectors}
use Rattle.ds_app.proofs.run.reader_for.Goals as goal

pub new-requires : goal.new-requires
new-requires c = rw c.most_vectors.ensures (few_vectors c.args.log)
