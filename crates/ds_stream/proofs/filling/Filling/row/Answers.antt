use Rattle.std.proofs.Common.{◌≡◌, ◌∙◌, ap, sym, refl, subst, ℕ, List, take, true, None, Some}
use Rattle.ds_lines.specs.Line.{is_some, kept_len, words_in, words_of}
use Rattle.ds_rows.specs.Vector.{row_of}
use Rattle.ds_stream.specs.Alike.{told_line}
use Rattle.ds_stream.specs.Bounded.{fault_under}
use Rattle.ds_stream.specs.Filling.{Filled}
use Rattle.ds_stream.specs.Word.{IsCut}
use Rattle.ds_stream.proofs.CutLines.{is_cut, kept_words, none_kept, positive, words_kept}
use Rattle.ds_stream.proofs.filling.Filling.row.Goals as goal
use Rattle.ds_stream.proofs.filling.Filling.row.Goals.{After-fault_of}

-- the line has a word, and its words are those of what is kept of it
told_words : (c : After-fault_of) → (is_some (words_in (told_line c.self.inside.comment c.self.inside.joined c.self.inside.line.items)) ≡ true)
    × (words_in (told_line c.self.inside.comment c.self.inside.joined c.self.inside.line.items) ≡ words_of (take c.trim-kept.result.0 c.deref-2.result.now))
told_words c =
    let inside = c.self.inside in
    let kept = c.trim-kept.result.0 in
    let is : kept ≡ kept_len inside.line.items = c.trim-kept.ensures.kept ∙ ap kept_len c.deref.ensures.value in
    kept_words inside.comment inside.joined inside.line.items c.deref-2.result.now kept c.self.invariant.0 is (positive kept c.if-kept-eq0.false) c.deref-2.ensures.value

pub returns-then-kept-eq0 : goal.returns-then-kept-eq0
returns-then-kept-eq0 c =
    let inside = c.self.inside in
    let kept = c.trim-kept.result.0 in
    let is : kept ≡ kept_len inside.line.items = c.trim-kept.ensures.kept ∙ ap kept_len c.deref.ensures.value in
    ap (λ (f : Filled). words_in f.line) (sym c.self.view_is)
    ∙ (words_kept inside.comment inside.joined inside.line.items kept c.self.invariant.0 is ∙ none_kept inside.line.items kept c.if-kept-eq0.true)

pub fault_of-requires : goal.fault_of-requires
fault_of-requires c =
    let inside = c.self.inside in
    let kept = c.trim-kept.result.0 in
    let is : kept ≡ kept_len inside.line.items = c.trim-kept.ensures.kept ∙ ap kept_len c.deref.ensures.value in
    subst (λ (l : List ℕ). IsCut (take kept l)) (sym c.deref-2.ensures.value) (is_cut inside.line.items kept c.self.invariant.0 is (positive kept c.if-kept-eq0.false))

pub returns-in-Some : goal.returns-in-Some
returns-in-Some c =
    let inside = c.self.inside in
    let told = told_words (goal.at.returns-in-Some c).After-fault_of in
    subst (λ (f : Filled). (is_some (words_in f.line) ≡ true) × (inside.first ≡ f.first) × (fault_under f.most f.width f.seen (words_in f.line) ≡ Some c.in-Some.kind)) c.self.view_is (
      told.0,
      refl,
      ap (fault_under inside.most inside.width inside.seen) told.1 ∙ (sym c.fault_of.ensures.value ∙ c.in-Some.is),
    )

pub returns : goal.returns
returns c =
    let inside = c.self.inside in
    let told = told_words (goal.at.returns c).After-fault_of in
    subst (λ (f : Filled). (is_some (words_in f.line) ≡ true) × (fault_under f.most f.width f.seen (words_in f.line) ≡ None) × (c.in_ok-row.row ≡ row_of f.width (words_in f.line))) c.self.view_is (
      told.0,
      ap (fault_under inside.most inside.width inside.seen) told.1 ∙ (sym c.fault_of.ensures.value ∙ c.in_default.is),
      c.in_ok-row.ensures ∙ ap (row_of inside.width) (sym told.1),
    )
