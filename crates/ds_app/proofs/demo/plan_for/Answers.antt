use Rattle.std.proofs.Common.{ℕ, List, [], length, subst}
use Rattle.ds_base.specs.declared.number.Mode.TheVariants.{Each}
use Rattle.ds_stage.specs.Ends.{Never, Stops}
use Rattle.ds_stage.specs.SplitStage.{parted_stage}
use Rattle.ds_stage.specs.declared.stop.Stop.{Stop}
use Rattle.ds_app.proofs.demo.plan_for.Goals as goal

pub split_groups-requires : goal.split_groups-requires
split_groups-requires c = c.no_groups-none.ensures.disjoint (length c.args.netlist.now.registers)

pub unreachable-requires : goal.unreachable-requires
unreachable-requires c =
    c.requires c.in-Err-Refused.field-0-0
    (subst (λ (s : Stop). Stops (parted_stage [] Each c.args.netlist.now []) Never s) c.in-Err-Refused.field-0-is
    (subst (λ (groups : List (List ℕ)). Stops (parted_stage [] Each c.args.netlist.now groups) Never c.in-Err-Refused.field-0) c.no_groups-none.ensures.value c.in-Err-Refused.ensures))
