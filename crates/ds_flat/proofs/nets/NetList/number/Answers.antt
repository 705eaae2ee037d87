use Rattle.std.proofs.Common.{◌∙◌, sym, false}
use Rattle.ds_lines.proofs.WordKeys.{position_some}
use Rattle.ds_flat.proofs.NetKeyLemmas.{same_key, key_has, key_number, key_there}
use Rattle.ds_flat.proofs.nets.NetList.number.Goals as goal

pub added-requires : goal.added-requires
added-requires c = record {
  new = key_has c.args.net c.self.inside.set.keys c.args.self.now c.self.view_is false
      c.in-None.ensures.found;
}

pub returns-in-Some-clause-number : goal.returns-in-Some-clause-number
returns-in-Some-clause-number c = c.new.ensures
    ∙ key_number c.args.net c.self.inside.set.keys c.args.self.now c.self.view_is c.in-Some.place
    (position_some (same_key c.args.net) c.self.inside.set.keys c.in-Some.place (sym c.in-Some.ensures.index))

pub returns-in-Some-clause-ok : goal.returns-in-Some-clause-ok
returns-in-Some-clause-ok c = key_there c.args.net c.self.inside.set.keys c.args.self.now
    c.self.view_is c.in-Some.ensures.found
