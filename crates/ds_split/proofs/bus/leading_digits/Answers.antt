use Rattle.std.proofs.Common.{◌≡◌, length, rules, sym, arith}
use Rattle.std.specs.Char.{is_ascii_digit}
use Rattle.std.proofs.lemmas.List.Sums.{prefix_len_is}
use Rattle.ds_split.proofs.bus.leading_digits.Goals as goal

pub returns-then-not-is_ascii_digit-clause-value :
    goal.returns-then-not-is_ascii_digit-clause-value
returns-then-not-is_ascii_digit-clause-value c =
    sym (prefix_len_is is_ascii_digit c.args.text.now c.loop-i.i 0 (omega arith) c.loop-i.invariant (λ low. search rules))

pub returns-clause-value : goal.returns-clause-value
returns-clause-value c =
    let all : c.loop-i.i ≡ length c.args.text.now = omega arith in
    sym (prefix_len_is is_ascii_digit c.args.text.now (length c.args.text.now) 0 (omega arith)
    (λ k low. c.loop-i.invariant k (omega arith)) (λ low. absurd (omega arith)))
