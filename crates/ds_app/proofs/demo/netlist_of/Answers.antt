use Rattle.ds_app.proofs.DemoSplit.{only_memory}
use Rattle.ds_app.proofs.demo.netlist_of.Goals as goal

pub memory_in-requires : goal.memory_in-requires
memory_in-requires c = only_memory c.args.design c.in-Err.refusal.1 c.requires c.in-Err.ensures.fault
