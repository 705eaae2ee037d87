use Rattle.std.proofs.Common.{◌≡◌, ◌∙◌, ap, sym, subst, ℕ, List, length, arith, ◌++◌, ◌∷◌, [], false}
use Rattle.std.specs.List.{list_any}
use Rattle.std.proofs.lemmas.Grind.{common_steps}
use Rattle.ds_lines.specs.Line.{is_hash}
use Rattle.ds_stream.specs.Alike.{IsLike, told_line}
use Rattle.ds_stream.specs.Filling.{Filled}
use Rattle.ds_stream.proofs.Likeness.{keep_front, no_comment}
use Rattle.ds_stream.proofs.filling.Filling.keep.Goals as goal

pub returns-then-blank-clause-ok : goal.returns-then-blank-clause-ok
returns-then-blank-clause-ok c =
    let inside = c.self.inside in
    let line : told_line inside.comment inside.joined inside.line.items ≡ c.args.self.now.line = ap (λ (f : Filled). f.line) c.self.view_is in
    let uncut : inside.comment ≡ false = no_comment inside.comment inside.joined inside.line.items (c.args.byte ∷ [])
    (ap (λ (l : List ℕ). list_any is_hash (l ++ c.args.byte ∷ [])) line ∙ c.requires.plain) in
    let none : length inside.line.items ≡ 0 = grind (arith, common_steps) in
    subst (λ (f : Filled). IsLike f.width [] c.args.self.now.line [] (c.args.self.now.line ++ c.args.byte ∷ [])) c.self.view_is
    (keep_front inside.width inside.comment inside.joined inside.line.items c.args.self.now.line c.args.byte uncut line c.self.invariant.9 none (sym c.blank.ensures ∙ c.if-blank.true) c.requires.plain)
