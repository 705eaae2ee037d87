use Rattle.std.proofs.Common.{◌≡◌, ◌∙◌, ◌<◌, ◌≤◌, ◌+◌, ◌++◌, ◌∷◌, [], ℕ, List, length, take, sym, subst, arith}
use Rattle.std.specs.Prelude.{All}
use Rattle.std.proofs.lemmas.List.Elements.{All-weaker}
use Rattle.ds_settle.specs.Cone.{Parts as Cone}
use Rattle.ds_opening.specs.Classes.{HasTables}
use Rattle.ds_opening.specs.Lists.{IsListOf, AreLists}
use Rattle.ds_opening.proofs.ListPrefix.{take_item}
use Rattle.ds_opening.proofs.FoundTables.{lists_more}
use Rattle.ds_opening.proofs.lists.lists_of.Goals as goal

pub list_of-requires-clause-tables : goal.list_of-requires-clause-tables
list_of-requires-clause-tables c =
    let count : ℕ = length c.args.numbers.now.of.items in
    let h : HasTables count c.index-cones-i.result = subst (HasTables count) (sym c.index-cones-i.is) (c.requires.tables c.loop-i.i c.index-cones-i.result c.loop-i-test.true) in
    subst (λ (xs : List ℕ). All (λ k. k < length xs) c.tables.result.now) (sym c.as_slice.ensures.value)
    (subst (λ (xs : List ℕ). All (λ k. k < count) xs) (sym c.tables.ensures) h.within)

pub loop-i-preserved : goal.loop-i-preserved
loop-i-preserved c =
    let cones : List Cone = c.args.cones.now in
    let i : ℕ = c.loop-i.i in
    let cone : Cone = c.index-cones-i.result in
    let numbers : List ℕ = c.args.numbers.now.of.items in
    let more : take (i + 1) cones ≡ take i cones ++ cone ∷ [] = take_item cones i cone c.loop-i-test.true c.index-cones-i.is in
    let found : IsListOf cone.tables numbers c.in_ok-list_of.field-0 =
    subst (λ (xs : List ℕ). IsListOf xs numbers c.in_ok-list_of.field-0) c.tables.ensures
    (subst (λ (ns : List ℕ). IsListOf c.tables.result.now ns c.in_ok-list_of.field-0) c.as_slice.ensures.value c.in_ok-list_of.ensures.ok) in
    record {
      are = subst (λ (cs : List Cone). AreLists cs numbers c.push.new.self.items) (sym more)
          (subst (λ (ls : List (List ℕ)). AreLists (take i cones ++ cone ∷ []) numbers ls) (sym c.in_ok-push.ensures.items)
          (lists_more (take i cones) numbers c.loop-i.lists.items cone c.in_ok-list_of.field-0 c.loop-i.invariant.are found));
      long = c.list_of.ensures.same ∙ c.loop-i.invariant.long;
      unseen = All-weaker (λ s. s ≤ i + 1) (λ s. s < i + 1 + 1) (λ s low. omega (low, arith)) c.list_of.new.seen.items c.list_of.ensures.seen;
    }
