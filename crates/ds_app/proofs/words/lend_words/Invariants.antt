use Rattle.std.proofs.Common.{◌≡◌, map, take, string_bytes}
use Rattle.ds_app.proofs.words.lend_words.Given as goal

abbrev pub invariant-loop-word : goal.invariant-loop-word
invariant-loop-word l = map (λ t. t.now) l.texts.items ≡ map (λ w. string_bytes w) (take l.word-index l.words)
