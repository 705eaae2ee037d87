use Rattle.ds_cover.proofs.TernaryPlaces.{worded_at}
use Rattle.ds_cover.proofs.small.ThreeWordedTableU64.worded.Goals as goal

pub returns : goal.returns
returns c =
    worded_at c.args.words.now (record { nets = c.args.self.now.nets; truth = c.args.self.now.truth; output = c.args.self.now.output }) c.args.nets.now c.value_in.result c.code-a.result c.code-b.result c.code-c.result _ _ _ _ _ _ (search)
    c.index.ensures c.index-2.ensures c.index-3.ensures c.code-a.ensures.code c.code-b.ensures.code c.code-c.ensures.code c.value_in.ensures
