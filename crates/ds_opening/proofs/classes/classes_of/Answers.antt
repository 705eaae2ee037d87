use Rattle.std.proofs.Common.{◌≡◌, ◌≢◌, ◌<◌, ◌+◌, ◌++◌, ◌∷◌, [], ℕ, List, length, get_or, take, sym, subst, arith}
use Rattle.std.specs.Prelude.{All, AllPairs}
use Rattle.std.proofs.lemmas.List.{take_all}
use Rattle.ds_settle.specs.Cone.{Parts as Cone}
use Rattle.ds_opening.specs.Classes.{AreClasses, HasTables, IsSplitBy}
use Rattle.ds_opening.proofs.ListPrefix.{take_item}
use Rattle.ds_opening.proofs.CommonCones.{classes_more}
use Rattle.ds_opening.proofs.classes.classes_of.Goals as goal

-- a cone among these has tables
has_at : (count : ℕ) (cones : List Cone) → All (HasTables count) cones → (i : ℕ) (item : Cone) → i < length cones
    → item ≡ get_or cones i item → HasTables count item
has_at count cones all i item inside is = subst (HasTables count) (sym is) (all i item inside)

pub part-requires-clause-tables : goal.part-requires-clause-tables
part-requires-clause-tables c =
    let h = has_at c.args.tables c.args.cones.now c.requires c.loop-cone.cone-index c.cone-item.result c.loop-cone-test.true c.cone-item.is in
    let size : length c.loop-cone.classes.items ≡ c.args.tables = c.loop-cone.invariant.are.one_each in
    subst (λ (m : ℕ). All (λ k. k < m) c.tables.result.now) (sym size)
    (subst (λ (xs : List ℕ). All (λ k. k < c.args.tables) xs) (sym c.tables.ensures) h.within)

pub part-requires-clause-once : goal.part-requires-clause-once
part-requires-clause-once c =
    let h = has_at c.args.tables c.args.cones.now c.requires c.loop-cone.cone-index c.cone-item.result c.loop-cone-test.true c.cone-item.is in
    subst (λ (xs : List ℕ). AllPairs (λ j k. j ≢ k) xs) (sym c.tables.ensures) h.once

pub loop-cone-preserved : goal.loop-cone-preserved
loop-cone-preserved c =
    let cones : List Cone = c.args.cones.now in
    let i : ℕ = c.loop-cone.cone-index in
    let cone : Cone = c.cone-item.result in
    let more : take (i + 1) cones ≡ take i cones ++ cone ∷ [] = take_item cones i cone c.loop-cone-test.true c.cone-item.is in
    let split : IsSplitBy cone.tables c.loop-cone.classes.items c.part.new.classes.items =
    subst (λ (xs : List ℕ). IsSplitBy xs c.loop-cone.classes.items c.part.new.classes.items) c.tables.ensures c.in_ok-part.ensures.ok in
    record {
      are = subst (λ (cs : List Cone). AreClasses cs c.args.tables c.part.new.classes.items) (sym more)
          (classes_more (take i cones) cone c.args.tables c.loop-cone.classes.items c.part.new.classes.items c.loop-cone.invariant.are c.in_ok-part.ensures.same split);
      classes = c.in_ok-part.ensures.classes;
      moved = c.in_ok-part.ensures.moved;
      some = c.in_ok-part.ensures.some;
    }

pub returns-clause-ok : goal.returns-clause-ok
returns-clause-ok c =
    let cones : List Cone = c.args.cones.now in
    let all : take c.loop-cone.cone-index cones ≡ cones = take_all c.loop-cone.cone-index cones (omega (c.loop-cone-test.false, arith)) in
    subst (λ (cs : List Cone). AreClasses cs c.args.tables c.loop-cone.classes.items) all c.loop-cone.invariant.are
