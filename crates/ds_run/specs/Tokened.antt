-- The data edges with their tokens.
use Rattle.ds_latch.specs.declared.latches.Edge.{Edge}
use Rattle.ds_control.specs.Orders.{tokens_after}
use Rattle.ds_rule.specs.declared.table_run.DataEdge.{DataEdge}

-- an edge with its tokens
abbrev pub tokened : Edge → DataEdge
tokened e = record {
  producer = e.producer;
  consumer = e.consumer;
  tokens = tokens_after e.producer;
}
