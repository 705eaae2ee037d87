use Rattle.std.proofs.Common.{◌∙◌, sym, ap, ◌||◌, ◌-◌, Bool, arith, get_or}
use Rattle.std.proofs.Math.Bool.{or-false}
use Rattle.std.proofs.lemmas.Bool.{false≢true, or_right}
use Rattle.std.proofs.lemmas.List.Sums.{suffix_len-take_yes}
use Rattle.ds_lines.specs.Line.{is_end, is_backslash}
use Rattle.ds_lines.proofs.LineSteps.{words_less, backslash_more}
use Rattle.ds_lines.proofs.line.trim.Goals.{then-joined, else-joined}
use Rattle.ds_lines.proofs.line.trim.Goals as goal

pub trimming-preserved : goal.trimming-preserved
trimming-preserved c =
    let some = c.trimming-test.true in
    let within = c.trimming.invariant.within in
    let ends = sym c.ends.ensures ∙ c.if-ends.true in
    let suffix = suffix_len-take_yes is_end c.args.line.now c.trimming.kept 0 some within ends in
    let more = backslash_more c.args.line.now c.trimming.kept some within in
    record {
      within = omega arith;
      so_far = omega arith;
      joined = elim c.if-joined.branch [
        | then-joined w ↦ w.joined-is ∙ (w.if-joined.true ∙ sym (more ∙ or_right _ _ (sym
            c.trimming.invariant.joined ∙ w.if-joined.true)))
        | else-joined w ↦ w.joined-is ∙ sym (more ∙ (ap (λ (rest : Bool). is_backslash
            (get_or c.args.line.now (c.trimming.kept - 1) 0) || rest) (sym
            c.trimming.invariant.joined ∙ w.if-joined.false) ∙ or-false (is_backslash
            (get_or c.args.line.now (c.trimming.kept - 1) 0))))
      ];
      words = elim c.if-joined.branch [
        | then-joined w ↦ λ none. absurd (false≢true (sym none ∙ (w.joined-is ∙ w.if-joined.true)))
        | else-joined w ↦ λ none. words_less c.args.line.now c.trimming.kept some within ends
            (sym w.joined-is ∙ none) ∙ c.trimming.invariant.words w.if-joined.false
      ];
    }
