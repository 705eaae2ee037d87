use Rattle.std.proofs.Common.{◌≡◌, ◌∙◌, ℕ, List, false, length, ap, arith, map, ◌==◌}
use Rattle.std.proofs.Math.ListN.{replicate}
use Rattle.std.proofs.lemmas.List.{length-map, with_items_is}
use Rattle.ds_settle.proofs.Stamps.{none_marked}
use Rattle.ds_settle.proofs.marks.Marks.begin.Goals as goal

pub returns : goal.returns
returns c =
    let new : List ℕ = c.next_stamp-self-inside.new.marks in
    let stamp : ℕ = c.next_stamp-self-inside.result in
    let sizes : length (map (λ mark. mark == c.self.inside.stamp) c.self.inside.marks.items) ≡ length c.args.self.now = ap length c.self.view_is in
    let old : length c.self.inside.marks.items ≡ length c.args.self.now = omega (arith, length-map c.self.inside.marks.items (λ mark. mark == c.self.inside.stamp)) in
    let lent : c.as_mut_slice.result.now ≡ c.self.inside.marks.items = c.as_mut_slice.ensures.value in
    let kept : length c.next_stamp-self-inside.new.marks ≡ length c.as_mut_slice.result.now = c.next_stamp-self-inside.auto.marks in
    let long : length c.next_stamp-self-inside.new.marks ≡ length c.args.self.now = kept ∙ (ap length lent ∙ old) in
    let full : length c.next_stamp-self-inside.new.marks ≡ c.self.inside.marks.len = omega (arith, ap length lent, c.self.inside.marks.ok.0) in
    ap (λ (xs : List ℕ). map (λ mark. mark == stamp) xs) (with_items_is c.self.inside.marks new full)
    ∙ (none_marked new stamp c.next_stamp-self-inside.ensures ∙ ap (λ (n : ℕ). replicate n false) long)
