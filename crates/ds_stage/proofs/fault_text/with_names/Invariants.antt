use Rattle.std.proofs.Common.{◌≡◌, ◌++◌, drop}
use Rattle.ds_stage.specs.FaultText.{with_blanks}
use Rattle.ds_stage.proofs.fault_text.with_names.Given as goal

-- with the names that are left behind it, this is the whole text
abbrev pub invariant-loop-name : goal.invariant-loop-name
invariant-loop-name l = l.all.items ++ with_blanks (drop l.name-index l.names) ≡ l.text ++ with_blanks l.names
