use Rattle.std.proofs.Common.{◌≡◌, ◌≤◌, ◌+◌, ◌∷◌, ◌∙◌, ap, arith, length, take, drop, ◌-◌}
use Rattle.std.specs.List.{slice_split, position_or_len}
use Rattle.std.proofs.lemmas.List.{take_rest}
use Rattle.ds_lines.specs.Line.{is_newline}
use Rattle.ds_lines.specs.Draft.{is_stop}
use Rattle.ds_lines.proofs.FirstLine.{position_le, newline_behind, split_alone}
use Rattle.ds_lines.proofs.Split.{split_first}
use Rattle.ds_lines.proofs.line.behind.Goals as goal

pub slice_bounds-place_of-count : goal.slice_bounds-place_of-count
slice_bounds-place_of-count c = let less = position_le is_stop c.args.text.now in omega arith

pub slice_bounds-place_of-start : goal.slice_bounds-place_of-start
slice_bounds-place_of-start c = let less = position_le is_stop c.args.text.now in omega arith

pub overflow_add-end : goal.overflow_add-end
overflow_add-end c =
    let at = newline_behind c.args.text.now c.args.place c.requires in
    let less = position_le is_newline c.args.text.now in
    let e = ap (position_or_len is_newline) (take_rest c.args.text.now c.args.place) in
    omega arith

pub returns-then-end-text-clause-some : goal.returns-then-end-text-clause-some
returns-then-end-text-clause-some c =
    let at = newline_behind c.args.text.now c.args.place c.requires in
    let e = ap (position_or_len is_newline) (take_rest c.args.text.now c.args.place) in
    let end : c.args.place + c.place_of.result ≡ position_or_len is_newline c.args.text.now =
    omega arith in
    split_first c.args.text.now (c.args.place + c.place_of.result) end c.if-end-text.true
    ∙ ap (λ n. take n c.args.text.now ∷ slice_split is_newline (take (length c.args.text.now -
    (c.args.place + c.place_of.result + 1)) (drop (c.args.place + c.place_of.result + 1)
    c.args.text.now))) end

pub returns-else-end-text-clause-none : goal.returns-else-end-text-clause-none
returns-else-end-text-clause-none c =
    let at = newline_behind c.args.text.now c.args.place c.requires in
    let e = ap (position_or_len is_newline) (take_rest c.args.text.now c.args.place) in
    let long : length c.args.text.now ≤ position_or_len is_newline c.args.text.now = omega arith in
    split_alone c.args.text.now long
