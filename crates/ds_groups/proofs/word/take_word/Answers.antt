use Rattle.std.proofs.Common.{◌∙◌, map, sym}
use Rattle.std.proofs.lemmas.List.{length-map}
use Rattle.ds_rows.specs.Nets.{net_text}
use Rattle.ds_groups.proofs.PatternWords.{by_match, by_name, word_told}
use Rattle.ds_groups.proofs.word.take_word.Goals as goal

pub returns-then-by_name : goal.returns-then-by_name
returns-then-by_name c = word_told (map net_text c.args.named.now) c.args.line c.args.holders.now c.take_name-by_name.new.holders c.args.word.now c.take_name-by_name.result c.told.result
    (c.requires.one_each ∙ sym (length-map c.args.named.now net_text))
    (by_name c.args.named.now c.args.line c.args.holders.now c.take_name-by_name.new.holders c.args.word.now c.take_name-by_name.result c.requires.one_each c.if-by_name.true c.take_name-by_name.ensures)
    c.told.ensures

pub returns : goal.returns
returns c = word_told (map net_text c.args.named.now) c.args.line c.args.holders.now c.take_pattern.new.holders c.args.word.now c.in_ok-matching.matching c.told-2.result
    (c.requires.one_each ∙ sym (length-map c.args.named.now net_text))
    (by_match c.args.named.now c.args.line c.args.holders.now c.take_name-by_name.new.holders c.take_pattern.new.holders c.args.word.now c.take_name-by_name.result c.in_ok-matching.matching
    c.requires.one_each c.if-by_name.false c.take_name-by_name.ensures c.in_ok-matching.ensures)
    c.told-2.ensures
