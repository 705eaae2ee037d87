use Rattle.std.proofs.Common.{◌∙◌, ◌++◌, ◌∷◌, [], Some, ℕ, sym, ap, subst, refl, arith}
use Rattle.ds_base.proofs.ListLemmas.{get_or-default}
use Rattle.ds_design.specs.declared.design.Net.{Net}
use Rattle.ds_groups.specs.Indexed.{NetIndex, IsIndex}
use Rattle.ds_groups.specs.Keys.{IsKeyPlaced}
use Rattle.ds_groups.proofs.Indexing.{put_some, put_none}
use Rattle.ds_groups.proofs.net_index.NetIndex.put.Goals as goal

pub returns-in_ok-push : goal.returns-in_ok-push
returns-in_ok-push c = λ nets own is.
    put_some nets c.args.register c.args.net.now
    (record { nets = c.self.inside.keys; latest = c.self.inside.latest.items; earlier = c.self.inside.earlier.items })
    (subst (λ (i : NetIndex). IsIndex nets c.args.register i) (sym c.self.view_is) is) own
    c.place.new.self c.in_ok-place.place
    (subst (λ (n : Net). IsKeyPlaced c.self.inside.keys n c.place.new.self c.in_ok-place.place) c.key_of.ensures c.in_ok-place.ensures)
    _ c.push.new.self.items (omega (arith, c.if-place-len.true, c.len.ensures)) refl (c.in_ok-push.ensures.items ∙ ap (λ (x : ℕ). c.self.inside.earlier.items ++ Some x ∷ [])
    (c.index.ensures ∙ get_or-default c.self.inside.latest.items c.in_ok-place.place c.index.result.now 0 (omega (arith, c.if-place-len.true, c.len.ensures))))

pub returns-in_ok-push-3 : goal.returns-in_ok-push-3
returns-in_ok-push-3 c = λ nets own is.
    put_none nets c.args.register c.args.net.now
    (record { nets = c.self.inside.keys; latest = c.self.inside.latest.items; earlier = c.self.inside.earlier.items })
    (subst (λ (i : NetIndex). IsIndex nets c.args.register i) (sym c.self.view_is) is) own
    c.place.new.self c.in_ok-place.place
    (subst (λ (n : Net). IsKeyPlaced c.self.inside.keys n c.place.new.self c.in_ok-place.place) c.key_of.ensures c.in_ok-place.ensures)
    c.push-else-place-len-2.new.self.items c.push-else-place-len.new.self.items
    (omega (arith, c.if-place-len.false, c.len.ensures)) c.in_ok-push-3.ensures.items c.in_ok-push-2.ensures.items
