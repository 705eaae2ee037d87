use Rattle.std.proofs.Common.{◌≡◌, ◌≢◌, ◌<◌, ℕ, List, get_or, length, subst, sym}
use Rattle.std.specs.Prelude.{All, AllPairs}
use Rattle.ds_settle.specs.Cone.{Parts as Cone}
use Rattle.ds_opening.specs.Classes.{HasTables}
use Rattle.ds_opening.specs.Lacking.{AreTaken}
use Rattle.ds_opening.proofs.Lacks.{lacking_more, some_lack}
use Rattle.ds_opening.proofs.lacking.lacking_of.Goals as goal

-- a cone among these has tables
has_at : (count : ℕ) (cones : List Cone) → All (HasTables count) cones → (i : ℕ) (item : Cone) → i < length cones
    → item ≡ get_or cones i item → HasTables count item
has_at count cones all i item inside is = subst (HasTables count) (sym is) (all i item inside)

pub take_all-requires-clause-within : goal.take_all-requires-clause-within
take_all-requires-clause-within c =
    let h = has_at c.args.tables c.args.cones.now c.requires c.loop-cone.cone-index c.cone-item.result c.loop-cone-test.true c.cone-item.is in
    let size : length c.loop-cone.counts.items ≡ c.args.tables = c.loop-cone.invariant.one_each in
    subst (λ (m : ℕ). All (λ k. k < m) c.tables.result.now) (sym size)
    (subst (λ (xs : List ℕ). All (λ k. k < c.args.tables) xs) (sym c.tables.ensures) h.within)

pub take_all-requires-clause-once : goal.take_all-requires-clause-once
take_all-requires-clause-once c =
    let h = has_at c.args.tables c.args.cones.now c.requires c.loop-cone.cone-index c.cone-item.result c.loop-cone-test.true c.cone-item.is in
    subst (λ (xs : List ℕ). AllPairs (λ a b. a ≢ b) xs) (sym c.tables.ensures) h.once

pub take_all-requires-clause-some : goal.take_all-requires-clause-some
take_all-requires-clause-some c =
    let h = has_at c.args.tables c.args.cones.now c.requires c.loop-cone.cone-index c.cone-item.result c.loop-cone-test.true c.cone-item.is in
    subst (λ (xs : List ℕ). All (λ k. 0 < get_or c.loop-cone.counts.items k 0) xs) (sym c.tables.ensures)
    (some_lack c.args.cones.now c.loop-cone.cone-index c.args.tables c.loop-cone.counts.items c.cone-item.result.tables c.loop-cone-test.true c.loop-cone.invariant h.within)

pub loop-cone-preserved : goal.loop-cone-preserved
loop-cone-preserved c =
    lacking_more c.args.cones.now c.loop-cone.cone-index c.args.tables c.loop-cone.counts.items c.take_all.new.counts.items c.cone-item.result
    c.loop-cone-test.true c.cone-item.is c.loop-cone.invariant
    (subst (λ (xs : List ℕ). AreTaken xs c.loop-cone.counts.items c.take_all.new.counts.items) c.tables.ensures c.take_all.ensures)
