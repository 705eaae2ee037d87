use Rattle.std.proofs.Common.{◌∙◌, ◌≤◌, arith}
use Rattle.ds_outside.proofs.Pens.{puts_nothing, puts_on, with_put}
use Rattle.ds_astg.proofs.GraphTextCases.{few_tokens, many_tokens}
use Rattle.ds_astg.proofs.entry.put_tokens.Goals as goal

pub returns-then-tokens-lt2 : goal.returns-then-tokens-lt2
returns-then-tokens-lt2 g c = with_put (few_tokens c.args.tokens c.if-tokens-lt2.true) (puts_nothing (g.P.Pen.writing c.args.pen.now))

pub returns : goal.returns
returns g c =
    let many : 2 ≤ c.args.tokens = (let few = c.if-tokens-lt2.false in omega arith) in
    with_put (many_tokens c.args.tokens many) (puts_on c.put.ensures (with_put (c.as_bytes.ensures.value ∙ c.format.ensures.text) c.put-2.ensures))
