use Rattle.std.proofs.Common.{◌≡◌, ℕ, ◌+◌, ◌<◌, List, length, get_or, set, sym, ◌∙◌, ap, subst, arith}
use Rattle.ds_split.specs.Groups.{AreGroups, with_member}
use Rattle.ds_split.specs.Keyed.{HaveOneKey, IsPlaceOf}
use Rattle.ds_split.proofs.Keyed.{AreKeyed, next_keyed}
use Rattle.ds_split.proofs.grouping.by_keys.Goals as goal

pub loop-i-preserved : goal.loop-i-preserved
loop-i-preserved c =
    let n : c.len.result ≡ length c.loop-i.groups.items = omega (arith, c.len.ensures) in
    let at : IsPlaceOf c.loop-i.places.items (get_or c.args.keys.now c.loop-i.i 0) (length c.loop-i.groups.items) c.place_of-place.result =
    subst (λ (n : ℕ). IsPlaceOf c.loop-i.places.items (get_or c.args.keys.now c.loop-i.i 0) n c.place_of-place.result) n c.place_of-place.ensures.place in
    let is : c.add.new.groups.items ≡ with_member c.loop-i.groups.items c.place_of-place.result c.loop-i.i =
    c.in_ok-add.ensures ∙ ap (with_member c.loop-i.groups.items c.place_of-place.result) c.new.ensures in
    let low : get_or c.args.keys.now c.loop-i.i 0 < c.args.most = c.requires.few c.loop-i.i 0 (omega arith) in
    subst (λ (gs : List (List ℕ)). AreKeyed c.args.keys.now c.args.most (c.loop-i.i + 1) gs c.place_of-place.new.places.items) (sym is)
    (subst (λ (ps : List ℕ). AreKeyed c.args.keys.now c.args.most (c.loop-i.i + 1) (with_member c.loop-i.groups.items c.place_of-place.result c.loop-i.i) ps) (sym c.place_of-place.ensures.kept)
    (next_keyed c.args.keys.now c.args.most c.loop-i.i c.loop-i.groups.items c.loop-i.places.items c.place_of-place.result c.loop-i.invariant low at))

pub returns : goal.returns
returns c =
    let e : c.loop-i.i ≡ length c.args.keys.now = omega arith in
    subst (λ (n : ℕ). AreGroups (HaveOneKey c.args.keys.now) n c.loop-i.groups.items) e c.loop-i.invariant.are
