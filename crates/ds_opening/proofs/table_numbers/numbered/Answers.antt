use Rattle.std.proofs.Common.{List, ℕ, subst}
use Rattle.ds_opening.specs.Numbers.{AreOneLess}
use Rattle.ds_opening.proofs.ClassNumbers.{numbers_by}
use Rattle.ds_opening.proofs.table_numbers.numbered.Goals as goal

pub returns : goal.returns
returns c =
    let classes : List ℕ = c.args.classes.now.of.items in
    let places : List ℕ = c.in_ok-places.places.items in
    let numbers : List ℕ = c.in_ok-of.of.items in
    let less : AreOneLess classes places numbers =
    subst (λ (xs : List ℕ). AreOneLess xs places numbers) c.as_slice.ensures.value
    (subst (λ (ps : List ℕ). AreOneLess c.as_slice.result.now ps numbers) c.as_slice-2.ensures.value c.in_ok-of.ensures.ok) in
    record { ok = numbers_by c.args.order.now classes c.args.classes.now.count places c.in_ok-places.count numbers c.in_ok-places.ensures.ok less c.requires.order c.requires.all }
