use Rattle.std.proofs.Common.{◌∙◌, length, ap}
use Rattle.std.proofs.lemmas.Result.{err_from_is_err_and}
use Rattle.std.proofs.lemmas.List.{length-replicate}
use Rattle.ds_base.specs.Values.{Row}
use Rattle.ds_base.specs.declared.value.Value.TheVariants.{Zero}
use Rattle.ds_design.specs.Circuit.{Circuit}
use Rattle.ds_fire.proofs.kept.Kept.first.Goals as goal

pub first_rows-requires : goal.first_rows-requires
first_rows-requires c = c.requires.few

pub histories-requires : goal.histories-requires
histories-requires c = record { short = c.requires.short }

pub returns-in_err-with_len : goal.returns-in_err-with_len
returns-in_err-with_len c =
    let p = err_from_is_err_and c.from_residual.result c.from_residual.ensures.1 in
    record { nets = rw p.1 tt; rows = rw p.1 tt; stored = rw p.1 tt }

pub returns-in_err-first_rows : goal.returns-in_err-first_rows
returns-in_err-first_rows c =
    let p = err_from_is_err_and c.from_residual-in_err-first_rows.result c.from_residual-in_err-first_rows.ensures.1 in
    record { nets = rw p.1 tt; rows = rw p.1 tt; stored = rw p.1 tt }

pub returns-in_err-histories : goal.returns-in_err-histories
returns-in_err-histories c =
    let p = err_from_is_err_and c.from_residual-in_err-histories.result c.from_residual-in_err-histories.ensures.1 in
    record { nets = rw p.1 tt; rows = rw p.1 tt; stored = rw p.1 tt }

pub returns : goal.returns
returns c = record {
  nets = ap (λ (row : Row). length row) c.in_ok-with_len.ensures
      ∙ (length-replicate (length c.nets.result.now) Zero
      ∙ (ap length c.nets.ensures ∙ ap (λ (circuit : Circuit). length circuit.nets) (c.design.ensures.design ∙ c.netlist.ensures.netlist)));
  rows = c.in_ok-first_rows.ensures;
  stored = c.in_ok-histories.ensures;
}
