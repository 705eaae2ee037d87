use Rattle.std.proofs.Common.{◌≡◌, drop}
use Rattle.ds_lines.specs.Words.{texts}
use Rattle.ds_astg.specs.Links.{link_words as link_words_in}
use Rattle.ds_astg.specs.Keys.{node_seen}
use Rattle.ds_astg.proofs.links.link_words.Given as goal

abbrev pub invariant-loop-i : goal.invariant-loop-i
invariant-loop-i l = link_words_in l.signals l.source.line (node_seen l.source.node) (drop 1 (texts l.words)) l.fn.places
    ≡ link_words_in l.signals l.source.line (node_seen l.source.node) (drop l.i (texts l.words)) l.places
