use Rattle.std.proofs.Common.{◌≡◌, ◌∙◌, length, refl, arith}
use Rattle.ds_lines.proofs.LineSteps.{truncated, trimmed_again}
use Rattle.ds_lines.proofs.line.push_line.Goals as goal

pub returns-in_ok-push_words-clause-words : goal.returns-in_ok-push_words-clause-words
returns-in_ok-push_words-clause-words c =
    let count : c.len-count.result ≡ length c.args.words.now.items = omega arith in
    let before = truncated c.args.words.now.items c.push_words.new.words.items
    c.truncate.new.self.items _ _ c.in_ok-place.ensures.words count
    c.truncate.ensures.items in
    let again = trimmed_again c.args.text.now _ _ c.in_ok-place.ensures.place
    c.trim-kept.ensures.kept in
    c.in_ok-push_words.ensures.words ∙ rw (before, again) refl
