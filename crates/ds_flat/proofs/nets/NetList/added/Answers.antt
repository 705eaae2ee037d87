use Rattle.std.proofs.Common.{◌∙◌}
use Rattle.ds_flat.proofs.NetKeyLemmas.{key_number, key_added}
use Rattle.ds_flat.proofs.nets.NetList.added.Goals as goal

pub returns-clause-number : goal.returns-clause-number
returns-clause-number c = c.new.ensures
    ∙ key_number c.args.net c.self.inside.set.keys c.args.self.now c.self.view_is c.in_ok-place.place
    c.in_ok-place.ensures.index

pub returns-clause-ok : goal.returns-clause-ok
returns-clause-ok c = key_added c.args.net c.self.inside.set.keys c.args.self.now c.self.view_is
    c.requires.new c.insert_full.new.self.keys c.in_ok-place.ensures.keys
