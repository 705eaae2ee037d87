use Rattle.std.proofs.Common.{◌≡◌, ◌∙◌, ap, sym, subst, ℕ, ◌-◌, List, length, arith, ◌++◌, ◌∷◌, [], false, true, slice_set}
use Rattle.std.specs.List.{list_any}
use Rattle.std.proofs.lemmas.Grind.{common_steps}
use Rattle.std.proofs.lemmas.Bool.{false≢true}
use Rattle.ds_lines.specs.Line.{is_hash}
use Rattle.ds_stream.specs.Alike.{IsFull, IsLike, told_line}
use Rattle.ds_stream.specs.Filling.{Filled}
use Rattle.ds_stream.proofs.Likeness.{blank_like, no_comment, tell_backslash, tell_other}
use Rattle.ds_stream.proofs.filling.Filling.tell.Goals as goal

pub invariant_of-self-then-not-blank : goal.invariant_of-self-then-not-blank
invariant_of-self-then-not-blank c =
    let inside = c.self.inside in
    let v = c.self.invariant in
    let line : told_line inside.comment inside.joined inside.line.items ≡ c.args.self.now.line = ap (λ (f : Filled). f.line) c.self.view_is in
    let uncut : inside.comment ≡ false = no_comment inside.comment inside.joined inside.line.items (c.args.byte ∷ [])
    (ap (λ (l : List ℕ). list_any is_hash (l ++ c.args.byte ∷ [])) line ∙ c.requires.plain) in
    let full : IsFull inside.width c.args.self.now.line = subst (λ (f : Filled). IsFull f.width c.args.self.now.line) (sym c.self.view_is) c.requires.full in
    let count : c.len-last.result ≡ length inside.line.items = grind (arith, common_steps) in
    let told = tell_other inside.width inside.comment inside.joined inside.line.items c.args.self.now.line c.len-last.result c.args.byte uncut line v.9 full count
    (sym c.blank.ensures ∙ c.if-not-blank.true) c.if-byte-eq92.false c.requires.plain in
    (told.1.begun, v.1, v.2, v.3, v.4, v.5, v.6, v.7, v.8, λ same. absurd (false≢true same))

pub returns-then-byte-eq92-clause-like : goal.returns-then-byte-eq92-clause-like
returns-then-byte-eq92-clause-like c =
    let inside = c.self.inside in
    let line : told_line inside.comment inside.joined inside.line.items ≡ c.args.self.now.line = ap (λ (f : Filled). f.line) c.self.view_is in
    let uncut : inside.comment ≡ false = no_comment inside.comment inside.joined inside.line.items (c.args.byte ∷ [])
    (ap (λ (l : List ℕ). list_any is_hash (l ++ c.args.byte ∷ [])) line ∙ c.requires.plain) in
    let full : IsFull inside.width c.args.self.now.line = subst (λ (f : Filled). IsFull f.width c.args.self.now.line) (sym c.self.view_is) c.requires.full in
    subst (λ (f : Filled). IsLike f.width [] (told_line inside.comment true inside.line.items) [] (c.args.self.now.line ++ c.args.byte ∷ [])) c.self.view_is
    (tell_backslash inside.width inside.comment inside.joined inside.line.items c.args.self.now.line c.args.byte uncut line c.self.invariant.9 full c.if-byte-eq92.true)

pub returns-then-not-blank-clause-like : goal.returns-then-not-blank-clause-like
returns-then-not-blank-clause-like c =
    let inside = c.self.inside in
    let line : told_line inside.comment inside.joined inside.line.items ≡ c.args.self.now.line = ap (λ (f : Filled). f.line) c.self.view_is in
    let uncut : inside.comment ≡ false = no_comment inside.comment inside.joined inside.line.items (c.args.byte ∷ [])
    (ap (λ (l : List ℕ). list_any is_hash (l ++ c.args.byte ∷ [])) line ∙ c.requires.plain) in
    let full : IsFull inside.width c.args.self.now.line = subst (λ (f : Filled). IsFull f.width c.args.self.now.line) (sym c.self.view_is) c.requires.full in
    let count : c.len-last.result ≡ length inside.line.items = grind (arith, common_steps) in
    let told = tell_other inside.width inside.comment inside.joined inside.line.items c.args.self.now.line c.len-last.result c.args.byte uncut line c.self.invariant.9 full count
    (sym c.blank.ensures ∙ c.if-not-blank.true) c.if-byte-eq92.false c.requires.plain in
    subst (λ (f : Filled). IsLike f.width [] (told_line inside.comment false (slice_set inside.line.items (c.len-last.result - 1) c.args.byte)) [] (c.args.self.now.line ++ c.args.byte ∷ [])) c.self.view_is told.0

pub returns-else-not-blank-clause-like : goal.returns-else-not-blank-clause-like
returns-else-not-blank-clause-like c =
    blank_like c.args.self.now.width c.args.self.now.line c.args.byte c.requires.full (sym c.blank.ensures ∙ c.if-not-blank.false) c.requires.plain
