use Rattle.std.proofs.Common.{◌≡◌, ◌<◌, List, ℕ, ap, arith, length, subst, sym}
use Rattle.std.specs.Prelude.{All, Contains}
use Rattle.std.specs.List.Sorted.{IsNonDecreasingBy}
use Rattle.std.proofs.lemmas.List.Sorted.{All-permutation, Contains-permutation, length_permutation}
use Rattle.ds_opening.specs.Classes.{AreClasses}
use Rattle.ds_opening.specs.Lacking.{AreByLacking, cones_without}
use Rattle.ds_opening.specs.Numbers.{AreRenumbered}
use Rattle.ds_opening.proofs.ListPrefix.{if_ok}
use Rattle.ds_opening.proofs.Lacks.{by_lacking_from}
use Rattle.ds_opening.proofs.CommonCones.{classes_numbered}
use Rattle.ds_opening.proofs.table_groups.numbers_of.Goals as goal

pub numbered-requires-clause-order : goal.numbered-requires-clause-order
numbered-requires-clause-order c =
    let long : length c.in_ok-classes.classes.of.items ≡ c.args.tables = c.in_ok-classes.ensures.ok.one_each in
    subst (λ (xs : List ℕ). All (λ k. k < length c.in_ok-classes.classes.of.items) xs) (sym c.as_slice.ensures.value)
    (subst (λ (m : ℕ). All (λ k. k < m) c.in_ok-sorted.sorted.items) (sym long)
    (All-permutation (λ k. k < c.args.tables) c.args.order.now c.in_ok-sorted.sorted.items c.in_ok-sorted.ensures.ok.permuted c.requires.order))

pub numbered-requires-clause-all : goal.numbered-requires-clause-all
numbered-requires-clause-all c k low =
    let long : length c.in_ok-classes.classes.of.items ≡ c.args.tables = c.in_ok-classes.ensures.ok.one_each in
    subst (λ (xs : List ℕ). Contains xs k) (sym c.as_slice.ensures.value)
    (Contains-permutation c.args.order.now c.in_ok-sorted.sorted.items k c.in_ok-sorted.ensures.ok.permuted (c.requires.all k (omega (low, long, arith))))

pub numbered-requires-clause-few : goal.numbered-requires-clause-few
numbered-requires-clause-few c =
    let size : length c.as_slice.result.now ≡ length c.in_ok-sorted.sorted.items = ap (λ (xs : List ℕ). length xs) c.as_slice.ensures.value in
    let same : length c.in_ok-sorted.sorted.items ≡ length c.args.order.now =
    length_permutation c.args.order.now c.in_ok-sorted.sorted.items c.in_ok-sorted.ensures.ok.permuted in
    omega (size, same, c.requires.few, arith)

pub returns-clause-ok : goal.returns-clause-ok
returns-clause-ok c =
    if_ok c.numbered.result (λ v. AreRenumbered c.as_slice.result.now c.in_ok-classes.classes.of.items v.count v.of.items) (λ v. AreClasses c.args.cones.now c.args.tables v.of.items)
    (λ v is. classes_numbered c.args.cones.now c.args.tables v.count c.as_slice.result.now c.in_ok-classes.classes.of.items v.of.items c.in_ok-classes.ensures.ok is)
    c.numbered.ensures.ok

pub returns-clause-below : goal.returns-clause-below
returns-clause-below c =
    if_ok c.numbered.result (λ v. AreRenumbered c.as_slice.result.now c.in_ok-classes.classes.of.items v.count v.of.items) (λ v. All (λ n. n < v.count) v.of.items)
    (λ v is. is.below) c.numbered.ensures.ok

pub returns-clause-rising : goal.returns-clause-rising
returns-clause-rising c =
    let sorted : List ℕ = c.as_slice.result.now in
    let up : IsNonDecreasingBy (cones_without c.args.cones.now) sorted =
    subst (λ (xs : List ℕ). IsNonDecreasingBy (cones_without c.args.cones.now) xs) (sym c.as_slice.ensures.value) c.in_ok-sorted.ensures.ok.rising in
    let within : All (λ k. k < c.args.tables) sorted =
    subst (λ (xs : List ℕ). All (λ k. k < c.args.tables) xs) (sym c.as_slice.ensures.value)
    (All-permutation (λ k. k < c.args.tables) c.args.order.now c.in_ok-sorted.sorted.items c.in_ok-sorted.ensures.ok.permuted c.requires.order) in
    let all : (k : ℕ) → k < c.args.tables → Contains sorted k =
    λ k low. subst (λ (xs : List ℕ). Contains xs k) (sym c.as_slice.ensures.value)
    (Contains-permutation c.args.order.now c.in_ok-sorted.sorted.items k c.in_ok-sorted.ensures.ok.permuted (c.requires.all k low)) in
    if_ok c.numbered.result (λ v. AreRenumbered c.as_slice.result.now c.in_ok-classes.classes.of.items v.count v.of.items) (λ v. AreByLacking c.args.cones.now v.of.items)
    (λ v is. by_lacking_from c.args.cones.now c.args.tables v.count sorted c.in_ok-classes.classes.of.items v.of.items c.in_ok-classes.ensures.ok is up within all)
    c.numbered.ensures.ok
