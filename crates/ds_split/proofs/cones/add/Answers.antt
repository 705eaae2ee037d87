use Rattle.ds_split.proofs.cones.add.Goals as goal

pub returns-clause-ok : goal.returns-clause-ok
returns-clause-ok c = (c.in_ok-cone_of.field-0, c.in_ok-cone_of.ensures.ok, c.in_ok-push.ensures.items)
