use Rattle.std.proofs.Common.{◌≡◌, ◌∙◌, ◌≤◌, ◌<◌, ◌+◌, ap, sym, refl, subst, ℕ, List, length, take, drop, ◌++◌, Ok, Err, arith}
use Rattle.std.proofs.lemmas.Grind.{common_steps}
use Rattle.ds_base.specs.Values.{Row}
use Rattle.ds_outside.specs.Held.{Held, ReadsHeld}
use Rattle.ds_stream.specs.Filling.{Filled, TakesBytes}
use Rattle.ds_stream.specs.Stream.{Shown}
use Rattle.ds_stream.specs.Next.{FitsHeld, GivesHeld}
use Rattle.ds_stream.proofs.Nexting.{SoFar, behind_rows, end_read, given_to_end, given_whole, reader_of, refused_at_end, refused_behind, fault_in, never_unread, take-within, so_far_at_first, so_far_behind, fits_behind}
use Rattle.ds_stream.proofs.reader.VectorReader.next.Given
use Rattle.ds_stream.proofs.reader.VectorReader.next.Goals as goal
use Rattle.ds_stream.proofs.reader.VectorReader.next.Goals.{After-end, After-take}

-- what the read gave stood there at the call
end_reads : (g : Given.Over) (c : After-end g)
    → ReadsHeld (g.F.Files.held c.args.files.now c.args.name.now) c.reading.filling.place c.in-Ok-eq0.field-0 (take c.ask-room.result c.reading.piece) c.read_at.new.into
end_reads g c =
    let old = take c.ask-room.result c.reading.piece in
    let n = c.in-Ok-eq0.field-0 in
    let held_is : g.F.Files.held c.reading.files c.args.name.now ≡ g.F.Files.held c.args.files.now c.args.name.now = ap (λ (h : List ℕ → Held). h c.args.name.now) c.reading.invariant.same_held in
    subst (λ (h : Held). ReadsHeld h c.reading.filling.place n old c.read_at.new.into) held_is
    (subst (λ (p : ℕ). ReadsHeld (g.F.Files.held c.reading.files c.args.name.now) p n old c.read_at.new.into) c.place-place.ensures.value c.in-Ok-eq0.ensures.ok)

take_reads : (g : Given.Over) (c : After-take g)
    → ReadsHeld (g.F.Files.held c.args.files.now c.args.name.now) c.reading.filling.place c.in-Ok.n (take c.ask-room.result c.reading.piece) c.read_at.new.into
take_reads g c =
    let old = take c.ask-room.result c.reading.piece in
    let n = c.in-Ok.n in
    let held_is : g.F.Files.held c.reading.files c.args.name.now ≡ g.F.Files.held c.args.files.now c.args.name.now = ap (λ (h : List ℕ → Held). h c.args.name.now) c.reading.invariant.same_held in
    subst (λ (h : Held). ReadsHeld h c.reading.filling.place n old c.read_at.new.into) held_is
    (subst (λ (p : ℕ). ReadsHeld (g.F.Files.held c.reading.files c.args.name.now) p n old c.read_at.new.into) c.place-place.ensures.value c.in-Ok.ensures.ok)

-- and these are the bytes that are taken
take_front : (g : Given.Over) (c : After-take g) → take c.in-Ok.n (c.read_at.new.into ++ drop c.ask-room.result c.reading.piece) ≡ take c.in-Ok.n c.read_at.new.into
take_front g c =
    let same : length c.read_at.new.into ≡ length (take c.ask-room.result c.reading.piece) = c.read_at.auto.into in
    take-within c.in-Ok.n c.read_at.new.into (drop c.ask-room.result c.reading.piece) (subst (λ (k : ℕ). c.in-Ok.n ≤ k) (sym same) c.in-Ok.ensures.within)

pub reading-init : goal.reading-init
reading-init g c =
    let held = g.F.Files.held c.args.files.now c.args.name.now in
    let is = c.begin-filling.ensures.value in
    record {
      buffer = refl;
      same_held = refl;
      same_faults = refl;
      never_falls = λ w n. omega arith;
      other_kinds = λ w n ne. refl;
      width = ap (λ (f : Filled). f.width) is;
      most = ap (λ (f : Filled). f.most) is;
      sum = ap (λ (f : Filled). f.seen + f.missing) is;
      seen = grind (arith, common_steps);
      bounds = c.begin-filling.ensures.bounds;
      so_far = subst (λ (f : Filled). SoFar held c.args.self c.args.count f) (sym is) (so_far_at_first held c.args.self c.args.count c.requires.fits);
    }

pub returns-clause-gives : goal.returns-clause-gives
returns-clause-gives g c =
    let held = g.F.Files.held c.args.files.now c.args.name.now in
    let none : c.reading.filling.missing ≡ 0 = grind (arith, common_steps) in
    subst (λ (s : Shown). GivesHeld held c.args.self c.args.count s c.finish-2.result.1.rows) (sym c.finish-2.ensures.reader)
    (subst (λ (rows : List Row). GivesHeld held c.args.self c.args.count (reader_of c.reading.filling) rows) (sym (ap (λ r. r.rows) c.finish-2.ensures.rows))
    (given_whole held c.args.self c.args.count c.reading.filling c.reading.invariant.so_far c.requires.fits none c.reading.invariant.width c.reading.invariant.most c.reading.invariant.seen))

pub returns-in-Ok-end-clause-gives : goal.returns-in-Ok-end-clause-gives
returns-in-Ok-end-clause-gives g c =
    let held = g.F.Files.held c.args.files.now c.args.name.now in
    let f = c.reading.filling in
    let after = c.end.new.self in
    let old = take c.ask-room.result c.reading.piece in
    let n = c.in-Ok-eq0.field-0 in
    let same = c.in-Ok-end.ensures.same in
    let reads = end_reads g (goal.at.returns-in-Ok-end-clause-gives g c).After-end in
    let none : n ≡ 0 = grind (arith, common_steps) in
    let room : 0 < length old = grind (arith, common_steps) in
    let some : 0 < f.missing = grind (arith, common_steps) in
    let seen : after.seen ≡ c.args.self.given + length after.rows = omega (arith, same.rows, c.reading.invariant.seen) in
    subst (λ (s : Shown). GivesHeld held c.args.self c.args.count s c.finish.result.1.rows) (sym c.finish.ensures.reader)
    (subst (λ (rows : List Row). GivesHeld held c.args.self c.args.count (reader_of after) rows) (sym (ap (λ r. r.rows) c.finish.ensures.rows))
    (given_to_end held c.args.self c.args.count f after n old c.read_at.new.into c.in-Ok-end.field-0 c.reading.invariant.so_far c.requires.fits reads none room some c.in-Ok-end.ensures.ends
    (same.width ∙ c.reading.invariant.width) (same.most ∙ c.reading.invariant.most) seen))

pub returns-in-Err-end-clause-gives : goal.returns-in-Err-end-clause-gives
returns-in-Err-end-clause-gives g c =
    let held = g.F.Files.held c.args.files.now c.args.name.now in
    let f = c.reading.filling in
    let old = take c.ask-room.result c.reading.piece in
    let n = c.in-Ok-eq0.field-0 in
    let reads = end_reads g (goal.at.returns-in-Err-end-clause-gives g c).After-end in
    let none : n ≡ 0 = grind (arith, common_steps) in
    let room : 0 < length old = grind (arith, common_steps) in
    let some : 0 < f.missing = grind (arith, common_steps) in
    refused_at_end held c.args.self c.args.count f c.end.new.self n old c.read_at.new.into c.in-Err-end.why c.reading.invariant.so_far reads none room some c.in-Err-end.ensures.ends

pub returns-in-Err-take-clause-gives : goal.returns-in-Err-take-clause-gives
returns-in-Err-take-clause-gives g c =
    let held = g.F.Files.held c.args.files.now c.args.name.now in
    let f = c.reading.filling in
    let old = take c.ask-room.result c.reading.piece in
    let n = c.in-Ok.n in
    let reads = take_reads g (goal.at.returns-in-Err-take-clause-gives g c).After-take in
    let some : 0 < n = grind (arith, common_steps) in
    let same : length c.read_at.new.into ≡ length old = c.read_at.auto.into in
    let few : n ≤ length old = c.in-Ok.ensures.within in
    let front = take_front g (goal.at.returns-in-Err-take-clause-gives g c).After-take in
    refused_behind held c.args.self c.args.count f c.take.new.self n old c.read_at.new.into c.in-Err-take.why c.reading.invariant.so_far reads same few some
    (subst (λ (bs : List ℕ). TakesBytes (Err c.in-Err-take.why) f c.take.new.self bs) front c.in-Err-take.ensures.takes)

pub reading-preserved : goal.reading-preserved
reading-preserved g c =
    let held = g.F.Files.held c.args.files.now c.args.name.now in
    let f = c.reading.filling in
    let after = c.take.new.self in
    let old = take c.ask-room.result c.reading.piece in
    let n = c.in-Ok.n in
    let is_of = c.in-Ok-take.ensures.same in
    let reads = take_reads g (goal.at.reading-preserved g c).After-take in
    let some : 0 < n = grind (arith, common_steps) in
    let same : length c.read_at.new.into ≡ length old = c.read_at.auto.into in
    let few : n ≤ length old = c.in-Ok.ensures.within in
    let front = take_front g (goal.at.reading-preserved g c).After-take in
    record {
      buffer = grind (arith, common_steps);
      same_held = c.in-Ok.ensures.same_held ∙ c.reading.invariant.same_held;
      same_faults = c.in-Ok.ensures.ok_same ∙ c.reading.invariant.same_faults;
      never_falls = λ w k. omega (arith, c.reading.invariant.never_falls w k, c.in-Ok.ensures.never_falls w k);
      other_kinds = λ w k ne. c.in-Ok.ensures.other_kinds w k ne ∙ c.reading.invariant.other_kinds w k ne;
      width = is_of.width ∙ c.reading.invariant.width;
      most = is_of.most ∙ c.reading.invariant.most;
      sum = is_of.seen ∙ c.reading.invariant.sum;
      seen = omega (arith, is_of.rows, c.reading.invariant.seen);
      bounds = c.in-Ok-take.ensures.bounds c.reading.invariant.bounds;
      so_far = so_far_behind held c.args.self c.args.count f after n old c.read_at.new.into c.in-Ok-take.field-0 c.reading.invariant.so_far reads same few some
          (subst (λ (bs : List ℕ). TakesBytes (Ok c.in-Ok-take.field-0) f after bs) front c.in-Ok-take.ensures.takes)
          (subst (λ (bs : List ℕ). 0 < after.missing → after.place ≡ f.place + length bs) front c.in-Ok-take.ensures.place);
    }

pub returns-in-Err-take-clause-cause : goal.returns-in-Err-take-clause-cause
returns-in-Err-take-clause-cause g c = λ is.
    absurd (never_unread c.in-Err-take.why c.reading.filling c.take.new.self (take c.in-Ok.n (c.read_at.new.into ++ drop c.ask-room.result c.reading.piece)) c.in-Err-take.ensures.takes (ap fault_in is))

pub returns-clause-fits : goal.returns-clause-fits
returns-clause-fits g c =
    subst (λ (h : List ℕ → Held). FitsHeld (h c.args.name.now) c.finish-2.result.0) (sym c.reading.invariant.same_held)
    (fits_behind (g.F.Files.held c.args.files.now c.args.name.now) c.args.self c.args.count c.finish-2.result.0 c.finish-2.result.1.rows (returns-clause-gives g c))

pub returns-in-Ok-end-clause-fits : goal.returns-in-Ok-end-clause-fits
returns-in-Ok-end-clause-fits g c =
    subst (λ (h : List ℕ → Held). FitsHeld (h c.args.name.now) c.finish.result.0) (sym (c.in-Ok-eq0.ensures.same_held ∙ c.reading.invariant.same_held))
    (fits_behind (g.F.Files.held c.args.files.now c.args.name.now) c.args.self c.args.count c.finish.result.0 c.finish.result.1.rows (returns-in-Ok-end-clause-gives g c))

pub returns-clause-behind : goal.returns-clause-behind
returns-clause-behind g c =
    behind_rows c.args.self c.args.count c.reading.filling c.finish-2.result.0 c.finish-2.result.1.rows c.finish-2.ensures.reader (ap (λ r. r.rows) c.finish-2.ensures.rows)
    c.reading.invariant.width c.reading.invariant.most c.reading.invariant.seen c.reading.invariant.sum

pub returns-clause-width : goal.returns-clause-width
returns-clause-width g c = ap (λ r. r.width) c.finish-2.ensures.rows ∙ c.reading.invariant.width

pub returns-clause-same_held : goal.returns-clause-same_held
returns-clause-same_held g c = c.reading.invariant.same_held

pub returns-clause-same_faults : goal.returns-clause-same_faults
returns-clause-same_faults g c = λ read. c.reading.invariant.same_faults

pub returns-clause-never_falls : goal.returns-clause-never_falls
returns-clause-never_falls g c = c.reading.invariant.never_falls

pub returns-clause-other_kinds : goal.returns-clause-other_kinds
returns-clause-other_kinds g c = c.reading.invariant.other_kinds

pub returns-in-Ok-end-clause-behind : goal.returns-in-Ok-end-clause-behind
returns-in-Ok-end-clause-behind g c =
    let same = c.in-Ok-end.ensures.same in
    behind_rows c.args.self c.args.count c.end.new.self c.finish.result.0 c.finish.result.1.rows c.finish.ensures.reader (ap (λ r. r.rows) c.finish.ensures.rows)
    (same.width ∙ c.reading.invariant.width) (same.most ∙ c.reading.invariant.most) (omega (arith, same.rows, c.reading.invariant.seen))
    (same.seen ∙ c.reading.invariant.sum)

pub returns-in-Ok-end-clause-width : goal.returns-in-Ok-end-clause-width
returns-in-Ok-end-clause-width g c = ap (λ r. r.width) c.finish.ensures.rows ∙ (c.in-Ok-end.ensures.same.width ∙ c.reading.invariant.width)

pub returns-in-Ok-end-clause-same_held : goal.returns-in-Ok-end-clause-same_held
returns-in-Ok-end-clause-same_held g c = c.in-Ok-eq0.ensures.same_held ∙ c.reading.invariant.same_held

pub returns-in-Ok-end-clause-same_faults : goal.returns-in-Ok-end-clause-same_faults
returns-in-Ok-end-clause-same_faults g c = λ read. c.in-Ok-eq0.ensures.ok_same ∙ c.reading.invariant.same_faults

pub returns-in-Ok-end-clause-never_falls : goal.returns-in-Ok-end-clause-never_falls
returns-in-Ok-end-clause-never_falls g c = λ w n. omega (arith, c.reading.invariant.never_falls w n, c.in-Ok-eq0.ensures.never_falls w n)

pub returns-in-Ok-end-clause-other_kinds : goal.returns-in-Ok-end-clause-other_kinds
returns-in-Ok-end-clause-other_kinds g c = λ w n ne. c.in-Ok-eq0.ensures.other_kinds w n ne ∙ c.reading.invariant.other_kinds w n ne

pub returns-in-Err-end-clause-same_held : goal.returns-in-Err-end-clause-same_held
returns-in-Err-end-clause-same_held g c = c.in-Ok-eq0.ensures.same_held ∙ c.reading.invariant.same_held

pub returns-in-Err-end-clause-same_faults : goal.returns-in-Err-end-clause-same_faults
returns-in-Err-end-clause-same_faults g c = λ read. c.in-Ok-eq0.ensures.ok_same ∙ c.reading.invariant.same_faults

pub returns-in-Err-end-clause-never_falls : goal.returns-in-Err-end-clause-never_falls
returns-in-Err-end-clause-never_falls g c = λ w n. omega (arith, c.reading.invariant.never_falls w n, c.in-Ok-eq0.ensures.never_falls w n)

pub returns-in-Err-end-clause-other_kinds : goal.returns-in-Err-end-clause-other_kinds
returns-in-Err-end-clause-other_kinds g c = λ w n ne. c.in-Ok-eq0.ensures.other_kinds w n ne ∙ c.reading.invariant.other_kinds w n ne

pub returns-in-Err-take-clause-same_held : goal.returns-in-Err-take-clause-same_held
returns-in-Err-take-clause-same_held g c = c.in-Ok.ensures.same_held ∙ c.reading.invariant.same_held

pub returns-in-Err-take-clause-same_faults : goal.returns-in-Err-take-clause-same_faults
returns-in-Err-take-clause-same_faults g c = λ read. c.in-Ok.ensures.ok_same ∙ c.reading.invariant.same_faults

pub returns-in-Err-take-clause-never_falls : goal.returns-in-Err-take-clause-never_falls
returns-in-Err-take-clause-never_falls g c = λ w n. omega (arith, c.reading.invariant.never_falls w n, c.in-Ok.ensures.never_falls w n)

pub returns-in-Err-take-clause-other_kinds : goal.returns-in-Err-take-clause-other_kinds
returns-in-Err-take-clause-other_kinds g c = λ w n ne. c.in-Ok.ensures.other_kinds w n ne ∙ c.reading.invariant.other_kinds w n ne

pub returns-in-Err-clause-same_held : goal.returns-in-Err-clause-same_held
returns-in-Err-clause-same_held g c = c.in-Err.ensures.same_held ∙ c.reading.invariant.same_held

pub returns-in-Err-clause-same_faults : goal.returns-in-Err-clause-same_faults
returns-in-Err-clause-same_faults g c = λ read. absurd (read refl)

pub returns-in-Err-clause-never_falls : goal.returns-in-Err-clause-never_falls
returns-in-Err-clause-never_falls g c = λ w n. omega (arith, c.reading.invariant.never_falls w n, c.in-Err.ensures.never_falls w n)

pub returns-in-Err-clause-other_kinds : goal.returns-in-Err-clause-other_kinds
returns-in-Err-clause-other_kinds g c = λ w n ne. c.in-Err.ensures.other_kinds w n ne ∙ c.reading.invariant.other_kinds w n ne

pub returns-in-Err-end-clause-cause : goal.returns-in-Err-end-clause-cause
returns-in-Err-end-clause-cause g c = λ is.
    absurd (end_read c.in-Err-end.why c.reading.filling c.end.new.self c.in-Err-end.ensures.ends (ap fault_in is))
