use Rattle.std.proofs.Common.{◌≡◌, ◌++◌, drop, map}
use Rattle.ds_rows.specs.Nets.{text_of_net}
use Rattle.ds_stage.specs.FaultText.{with_blanks}
use Rattle.ds_stage.proofs.net_text.with_nets.Given as goal

-- with the nets that are left behind it, this is the whole text
abbrev pub invariant-loop-net : goal.invariant-loop-net
invariant-loop-net l = l.text.items ++ with_blanks (map (text_of_net l.design) (drop l.net-index l.nets))
    ≡ l.initial.text.items ++ with_blanks (map (text_of_net l.design) l.nets)
