use Rattle.std.proofs.Common.{◌∙◌, ◌≤◌, ap, sym, subst, ℕ, ◌∷◌, [], List, false}
use Rattle.ds_stream.specs.Alike.{told_line}
use Rattle.ds_stream.specs.Filling.{Filled, TakesBytes, on_lines, on_text}
use Rattle.ds_stream.specs.Stream.{Placed}
use Rattle.ds_stream.specs.contracts.filling.Filling.{the_view}
use Rattle.ds_stream.proofs.Likeness.{plain_told}
use Rattle.ds_stream.proofs.TakenBytes.{keep_takes, not_newline, placed_hash, placed_seen, too_long}
use Rattle.ds_stream.proofs.filling.Filling.take_byte.Goals as goal

pub returns-then-self-ge-LONGEST-clause-takes : goal.returns-then-self-ge-LONGEST-clause-takes
returns-then-self-ge-LONGEST-clause-takes c = λ size rest is.
    let long : 281474976710656 ≤ c.args.self.now.place = subst (λ (f : Filled). 281474976710656 ≤ f.place) c.self.view_is c.if-self-ge-LONGEST.true in
    too_long c.args.self.now c.args.byte size rest c.requires long is

pub returns-then-byte-eq35-clause-takes : goal.returns-then-byte-eq35-clause-takes
returns-then-byte-eq35-clause-takes c = λ size rest.
    let inside = c.self.inside in
    let v = the_view inside in
    let plain = plain_told inside.joined inside.line.items c.self.invariant.0.plain in
    ap (λ (ps : List Placed). on_lines v size ps) (placed_hash v.first [] inside.comment (told_line false inside.joined inside.line.items) v.place v.lines rest plain)
    ∙ (ap (λ (b : ℕ). on_text v size (b ∷ rest)) (sym c.if-byte-eq35.true)
    ∙ ap (λ (f : Filled). on_text f size (c.args.byte ∷ rest)) c.self.view_is)

pub returns-then-self-clause-takes : goal.returns-then-self-clause-takes
returns-then-self-clause-takes c = λ size rest.
    let inside = c.self.inside in
    let v = the_view inside in
    let plain = plain_told inside.joined inside.line.items c.self.invariant.0.plain in
    ap (λ (ps : List Placed). on_lines v size ps) (placed_seen v.first [] inside.comment (told_line false inside.joined inside.line.items) v.place v.lines c.args.byte rest plain
    c.if-self.true (not_newline c.args.byte c.if-byte-eq10.false))
    ∙ ap (λ (f : Filled). on_text f size (c.args.byte ∷ rest)) c.self.view_is

pub returns-else-self-clause-takes : goal.returns-else-self-clause-takes
returns-else-self-clause-takes c =
    subst (λ (f : Filled). TakesBytes c.keep.result f c.keep.new.self (c.args.byte ∷ [])) c.self.view_is
    (keep_takes c.keep.result (the_view c.self.inside) c.keep.new.self c.args.byte (not_newline c.args.byte c.if-byte-eq10.false) c.keep.ensures.ok c.keep.ensures.same)
