use Rattle.std.proofs.Common.{arith}
use Rattle.ds_cover.specs.Series.{shelves_of}
use Rattle.ds_cover.specs.declared.run.TableKind.TheVariants.{Twos, Threes, Fours, Fives, Sixes}
use Rattle.ds_cover.proofs.RunTables.{order_after}
use Rattle.ds_cover.proofs.RunShelves.{shelf_after, shelf_within}
use Rattle.ds_cover.proofs.run.set_known.Goals as goal

pub set-requires-clause-within : goal.set-requires-clause-within
set-requires-clause-within c = shelf_within c.args.bank.now c.args.order.now (shelves_of c.args.lists.now) c.args.run.now c.args.nets.now c.requires.run Twos c.in-Twos.is (omega arith) c.requires.places c.requires.within

pub set-requires-in-Threes-clause-within : goal.set-requires-in-Threes-clause-within
set-requires-in-Threes-clause-within c = shelf_within c.args.bank.now c.args.order.now (shelves_of c.args.lists.now) c.args.run.now c.args.nets.now c.requires.run Threes c.in-Threes.is (omega arith) c.requires.places c.requires.within

pub set-requires-in-Fours-clause-within : goal.set-requires-in-Fours-clause-within
set-requires-in-Fours-clause-within c = shelf_within c.args.bank.now c.args.order.now (shelves_of c.args.lists.now) c.args.run.now c.args.nets.now c.requires.run Fours c.in-Fours.is (omega arith) c.requires.places c.requires.within

pub set-requires-in-Fives-clause-within : goal.set-requires-in-Fives-clause-within
set-requires-in-Fives-clause-within c = shelf_within c.args.bank.now c.args.order.now (shelves_of c.args.lists.now) c.args.run.now c.args.nets.now c.requires.run Fives c.in-Fives.is (omega arith) c.requires.places c.requires.within

pub set-requires-in-Sixes-clause-within : goal.set-requires-in-Sixes-clause-within
set-requires-in-Sixes-clause-within c = shelf_within c.args.bank.now c.args.order.now (shelves_of c.args.lists.now) c.args.run.now c.args.nets.now c.requires.run Sixes c.in-Sixes.is (omega arith) c.requires.places c.requires.within

pub returns-in-Twos : goal.returns-in-Twos
returns-in-Twos c = shelf_after c.args.bank.now c.args.order.now (shelves_of c.args.lists.now) c.args.run.now c.args.nets.now c.requires.run Twos c.in-Twos.is (omega arith) c.requires.known c.set.new.nets c.set.ensures

pub returns-in-Threes : goal.returns-in-Threes
returns-in-Threes c = shelf_after c.args.bank.now c.args.order.now (shelves_of c.args.lists.now) c.args.run.now c.args.nets.now c.requires.run Threes c.in-Threes.is (omega arith) c.requires.known c.set-in-Threes.new.nets c.set-in-Threes.ensures

pub returns-in-Fours : goal.returns-in-Fours
returns-in-Fours c = shelf_after c.args.bank.now c.args.order.now (shelves_of c.args.lists.now) c.args.run.now c.args.nets.now c.requires.run Fours c.in-Fours.is (omega arith) c.requires.known c.set-in-Fours.new.nets c.set-in-Fours.ensures

pub returns-in-Fives : goal.returns-in-Fives
returns-in-Fives c = shelf_after c.args.bank.now c.args.order.now (shelves_of c.args.lists.now) c.args.run.now c.args.nets.now c.requires.run Fives c.in-Fives.is (omega arith) c.requires.known c.set-in-Fives.new.nets c.set-in-Fives.ensures

pub returns-in-Sixes : goal.returns-in-Sixes
returns-in-Sixes c = shelf_after c.args.bank.now c.args.order.now (shelves_of c.args.lists.now) c.args.run.now c.args.nets.now c.requires.run Sixes c.in-Sixes.is (omega arith) c.requires.known c.set-in-Sixes.new.nets c.set-in-Sixes.ensures

pub returns-in-Others : goal.returns-in-Others
returns-in-Others c = order_after c.args.bank.now c.args.order.now c.own_order.result.now c.args.run.now c.args.nets.now c.set_all.new.nets c.own_order.ensures c.set_all.ensures
