use Rattle.std.proofs.Common.{◌≡◌, ◌∙◌, ap, sym, refl, subst, ℕ, List, [], false}
use Rattle.std.specs.Prelude.{OnOk}
use Rattle.std.specs.List.{list_any}
use Rattle.std.proofs.lemmas.Bool.{false≢true}
use Rattle.ds_lines.specs.Line.{is_hash, kept_len, trimmed, words_in, words_of}
use Rattle.ds_stream.specs.Alike.{IsBegun, IsLike}
use Rattle.ds_stream.specs.Filling.{Filled}
use Rattle.ds_stream.proofs.Cut.{plain_front}
use Rattle.ds_stream.proofs.CutLines.{whole_kept, words_kept}
use Rattle.ds_stream.proofs.Likeness.{begun_take, join_next, plain_more}
use Rattle.ds_stream.proofs.filling.Filling.join.Goals as goal

pub invariant_of-self : goal.invariant_of-self
invariant_of-self c =
    let v = c.self.invariant in
    (subst IsBegun (sym c.truncate.ensures.items) (begun_take c.trim-kept.result.0 c.self.inside.line.items v.0), v.1, v.2, v.3, v.4, v.5, v.6, v.7, v.8, λ same. absurd (false≢true same))

pub keep-requires : goal.keep-requires
keep-requires c = record {
  plain = plain_more false c.truncate.new.self.items 32 (ap (list_any is_hash) c.truncate.ensures.items ∙ plain_front c.trim-kept.result.0 c.self.inside.line.items c.self.invariant.0.plain) refl;
}

pub returns-clause-ok : goal.returns-clause-ok
returns-clause-ok c =
    let inside = c.self.inside in
    let kept = c.trim-kept.result.0 in
    let items = c.truncate.new.self.items in
    let is : kept ≡ kept_len inside.line.items = c.trim-kept.ensures.kept ∙ ap kept_len c.deref.ensures.value in
    let are = c.truncate.ensures.items in
    let plain : list_any is_hash items ≡ false = ap (list_any is_hash) are ∙ plain_front kept inside.line.items c.self.invariant.0.plain in
    let whole : trimmed items ≡ items = subst (λ (l : List ℕ). trimmed l ≡ l) (sym are) (whole_kept inside.line.items kept is) in
    let words : words_in c.args.self.now.line ≡ words_of items = ap (λ (f : Filled). words_in f.line) (sym c.self.view_is)
    ∙ (words_kept inside.comment inside.joined inside.line.items kept c.self.invariant.0 is ∙ ap words_of (sym are)) in
    subst (λ (f : Filled). OnOk c.keep.result (IsLike f.width [] c.keep.new.self.line (words_in c.args.self.now.line) [])) c.self.view_is
    (join_next c.keep.result inside.width items c.args.self.now.line c.keep.new.self.line c.keep.ensures.ok plain whole words)
