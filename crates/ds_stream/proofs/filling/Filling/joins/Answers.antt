use Rattle.std.proofs.Common.{◌∙◌, ap, sym, Bool}
use Rattle.std.specs.Prelude.{◌||◌}
use Rattle.ds_lines.specs.Line.{is_joined, joins}
use Rattle.ds_stream.specs.Filling.{Filled}
use Rattle.ds_stream.proofs.Likeness.{joins_told}
use Rattle.ds_stream.proofs.filling.Filling.joins.Goals as goal

pub returns-then-self : goal.returns-then-self
returns-then-self c =
    let inside = c.self.inside in
    c.if-self.true ∙ sym (ap (λ (f : Filled). joins f.line) (sym c.self.view_is)
    ∙ (joins_told inside.comment inside.joined inside.line.items c.self.invariant.0.plain ∙ ap (λ (b : Bool). b || is_joined inside.line.items) c.if-self.true))

pub returns-else-self : goal.returns-else-self
returns-else-self c =
    let inside = c.self.inside in
    c.trim.ensures.joined ∙ (ap is_joined c.deref.ensures.value ∙ sym (ap (λ (f : Filled). joins f.line) (sym c.self.view_is)
    ∙ (joins_told inside.comment inside.joined inside.line.items c.self.invariant.0.plain ∙ ap (λ (b : Bool). b || is_joined inside.line.items) c.if-self.false)))
