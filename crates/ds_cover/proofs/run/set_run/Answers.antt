use Rattle.std.proofs.Common.{arith}
use Rattle.ds_cover.specs.Series.{shelves_of}
use Rattle.ds_cover.specs.declared.run.TableKind.TheVariants.{Twos, Threes}
use Rattle.ds_cover.proofs.RunTables.{order_after}
use Rattle.ds_cover.proofs.RunShelves.{shelf_within, shelf_worded}
use Rattle.ds_cover.proofs.run.set_run.Goals as goal

pub set_worded-requires-clause-within : goal.set_worded-requires-clause-within
set_worded-requires-clause-within c = shelf_within c.args.bank.now c.args.order.now (shelves_of c.args.lists.now) c.args.run.now c.args.nets.now c.requires.run Twos c.in-Twos.is (omega arith) c.requires.places c.requires.within

pub set_worded-requires-in-Threes-clause-within : goal.set_worded-requires-in-Threes-clause-within
set_worded-requires-in-Threes-clause-within c = shelf_within c.args.bank.now c.args.order.now (shelves_of c.args.lists.now) c.args.run.now c.args.nets.now c.requires.run Threes c.in-Threes.is (omega arith) c.requires.places c.requires.within

pub returns-in-Twos : goal.returns-in-Twos
returns-in-Twos c = shelf_worded c.args.bank.now c.args.order.now (shelves_of c.args.lists.now) c.args.run.now c.args.nets.now c.requires.run Twos c.in-Twos.is (omega arith) c.set_worded.new.nets c.set_worded.ensures

pub returns-in-Threes : goal.returns-in-Threes
returns-in-Threes c = shelf_worded c.args.bank.now c.args.order.now (shelves_of c.args.lists.now) c.args.run.now c.args.nets.now c.requires.run Threes c.in-Threes.is (omega arith) c.set_worded-in-Threes.new.nets c.set_worded-in-Threes.ensures

pub returns-in_default : goal.returns-in_default
returns-in_default c = order_after c.args.bank.now c.args.order.now c.own_order.result.now c.args.run.now c.args.nets.now c.set_all.new.nets c.own_order.ensures c.set_all.ensures
