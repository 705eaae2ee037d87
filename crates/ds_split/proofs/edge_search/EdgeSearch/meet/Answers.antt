use Rattle.std.proofs.Common.{◌≡◌, ◌-◌, ◌≤◌, length, get_or, sym, ◌∙◌, subst, arith}
use Rattle.ds_split.specs.Search.{Found, HasMet}
use Rattle.ds_split.proofs.Searching.{met_again, met_new}
use Rattle.ds_split.proofs.edge_search.EdgeSearch.meet.Goals as goal

pub last_of-requires : goal.last_of-requires
last_of-requires c =
    let low : get_or c.args.self.now.producers c.args.net 0 ≤ length c.args.self.now.seen = c.requires.at.labels c.args.net in
    omega (arith, c.label_of-label.ensures, c.if-label-eq0.false)

pub returns-then-last_of-consumer : goal.returns-then-last_of-consumer
returns-then-last_of-consumer c =
    met_again c.args.consumer c.args.self.now c.requires.at c.args.net (c.label_of-label.result - 1)
    (omega (arith, c.label_of-label.ensures, c.if-label-eq0.false)) (sym c.last_of.ensures ∙ c.if-last_of-consumer.true)

pub returns : goal.returns
returns c =
    let low : get_or c.args.self.now.producers c.args.net 0 ≤ length c.args.self.now.seen = c.requires.at.labels c.args.net in
    subst (λ (f : Found). HasMet c.args.consumer c.args.self.now (λ other. other ≡ c.args.net) f) (sym c.in_ok-push.ensures)
    (met_new c.args.consumer c.args.self.now c.requires.at c.args.net (c.label_of-label.result - 1)
    (omega (arith, c.label_of-label.ensures, c.if-label-eq0.false)) (omega (arith, c.label_of-label.ensures, c.if-label-eq0.false))
    (λ e. c.if-last_of-consumer.false (c.last_of.ensures ∙ e)))
