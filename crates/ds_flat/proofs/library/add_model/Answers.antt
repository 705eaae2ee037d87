use Rattle.std.proofs.Common.{◌∙◌, ap, [], ◌∷◌, ◌++◌, ℕ, List}
use Rattle.ds_lines.specs.Names.{with_name}
use Rattle.ds_flat.specs.Interface.{with_ports_of}
use Rattle.ds_flat.proofs.library.add_model.Goals as goal

pub returns-clause-names : goal.returns-clause-names
returns-clause-names c =
    c.in_ok-insert.ensures.ok ∙ ap (with_name c.args.names.now) c.name.ensures

pub returns-clause-ports : goal.returns-clause-ports
returns-clause-ports c =
    c.in_ok-push.ensures.items
    ∙ ap (λ (own : List (List ℕ)). c.args.ports.now.items ++ own ∷ [])
    (c.in_ok-ports_in.ensures ∙ ap (with_ports_of []) c.commands.ensures)
