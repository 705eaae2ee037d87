use Rattle.std.proofs.Common.{◌∙◌, ap, length}
use Rattle.std.specs.Prelude.{replicate}
use Rattle.std.proofs.lemmas.List.{length-replicate}
use Rattle.ds_run.specs.Logged.{Listed}
use Rattle.ds_run.proofs.WindowTexts.{listing, log_text}
use Rattle.ds_run.proofs.log.Log.write.Goals as goal

pub put_firings-requires-clause-counts : goal.put_firings-requires-clause-counts
put_firings-requires-clause-counts g c =
    c.begin.ensures
    ∙ ap (λ n. replicate n 0) (ap (λ (log : Listed). log.kinds) c.self.view_is ∙ c.requires.kinds)

pub returns-clause-writes : goal.returns-clause-writes
returns-clause-writes g c =
    log_text c.args.plan.now.graph c.args.self.now.events c.as_slice.result.now
    (c.as_slice.ensures.value ∙ ap (λ (log : Listed). log.events) c.self.view_is)
    c.put.ensures c.put_firings.ensures.writes

pub returns-clause-same : goal.returns-clause-same
returns-clause-same g c =
    ap (λ n. listing c.self.inside.events.items n)
    (c.put_firings.ensures.same_kinds
    ∙ (ap length c.begin.ensures ∙ length-replicate (length c.self.inside.counts) 0))
    ∙ c.self.view_is
