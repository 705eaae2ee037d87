use Rattle.std.proofs.Common.{◌≡◌, ◌∙◌, ◌≤◌, ap, arith, length, take, ◌-◌, subst, sym, List, ℕ, ◌++◌, vec_len, min}
use Rattle.std.proofs.lemmas.Grind.{common_steps}
use Rattle.ds_outside.specs.Held.{Held, ReadsHeld}
use Rattle.ds_outside.proofs.PiecewiseRead.{front_more, FrontSoFar}
use Rattle.ds_outside.proofs.files.read_whole.Goals as goal

pub reading-preserved : goal.reading-preserved
reading-preserved g c =
    let n_within : c.in-Ok.n ≤ length (take c.min-room.result c.reading.piece) = c.in-Ok.ensures.within in
    let room : c.min-room.result ≡ min 65536 (c.args.most - vec_len c.reading.bytes) = grind (arith, common_steps) in
    let same_len : length c.read_at.new.into ≡ length (take c.min-room.result c.reading.piece) = c.read_at.auto.into in
    let more : c.extend_from_slice.new.self.items ≡ c.reading.bytes.items ++ take c.in-Ok.n c.read_at.new.into = grind (arith, common_steps) in
    let end : c.len-in-reading.result ≡ length c.reading.bytes.items = grind (arith, common_steps) in
    let held_is : g.F.Files.held c.reading.files c.args.name.now ≡ g.F.Files.held c.args.files.now c.args.name.now = ap (λ (h : List ℕ → Held). h c.args.name.now) c.reading.invariant.same_held in
    let P : Held → ℕ → Type 0 = λ held at. ReadsHeld held at c.in-Ok.n (take c.min-room.result c.reading.piece) c.read_at.new.into in
    record {
      within = grind (arith, common_steps);
      buffer = grind (arith, common_steps);
      so_far = subst (λ bytes. FrontSoFar (g.F.Files.held c.args.files.now c.args.name.now) bytes) (sym more)
          (front_more (g.F.Files.held c.args.files.now c.args.name.now) c.reading.bytes.items (take c.min-room.result c.reading.piece) c.read_at.new.into c.in-Ok.n
          c.reading.invariant.so_far (subst (λ held. P held (length c.reading.bytes.items)) held_is (subst (λ at. P (g.F.Files.held c.reading.files c.args.name.now) at) end c.in-Ok.ensures.ok)) n_within same_len);
      same_held = c.in-Ok.ensures.same_held ∙ c.reading.invariant.same_held;
      same_faults = c.in-Ok.ensures.ok_same ∙ c.reading.invariant.same_faults;
    }
