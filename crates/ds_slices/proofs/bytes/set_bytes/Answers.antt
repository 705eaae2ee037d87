use Rattle.std.proofs.Common.{◌≡◌, ◌∙◌, List, ℕ, ap, sym, length, drop, subst, take_at}
use Rattle.ds_slices.specs.Bytes.{AreBytes}
use Rattle.ds_slices.proofs.bytes.set_bytes.Goals as goal

pub returns : goal.returns
returns c =
    let new : List ℕ = c.fill_bytes.new.bytes in
    let own : length c.fill_bytes.new.bytes ≡ c.args.bytes.now.len = c.fill_bytes.ensures.same ∙ c.as_mut_slice.ensures.len in
    let is = take_at new (drop (length new) c.args.bytes.now.items) c.args.bytes.now.len own in
    record {
      same = ap length is ∙ (c.fill_bytes.ensures.same ∙ ap length c.as_mut_slice.ensures.value);
      set = subst (λ (bs : List ℕ). AreBytes c.args.words.now c.args.nets.now c.args.block bs) (sym is) c.fill_bytes.ensures.set;
    }
