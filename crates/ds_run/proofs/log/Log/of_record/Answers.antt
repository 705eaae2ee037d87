use Rattle.std.proofs.Common.{◌∙◌, List, ap, length}
use Rattle.std.proofs.lemmas.List.{length-replicate}
use Rattle.ds_marked.specs.Graph.{Graph}
use Rattle.ds_marked.specs.declared.marked.Event.{Event}
use Rattle.ds_run.proofs.log.Log.of_record.Goals as goal

pub returns : goal.returns
returns c = record {
  listed = c.in_ok-firings.ensures.ok;
  kinds = ap length c.in_ok-zero.ensures
      ∙ (length-replicate (length c.events.result.now) 0
      ∙ (ap (λ (es : List Event). length es) c.events.ensures.events
      ∙ ap (λ (g : Graph). length g.events) c.graph.ensures.graph));
}
