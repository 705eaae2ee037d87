use Rattle.std.proofs.Common.{◌≡◌, ◌∙◌, ℕ, List, ap, sym, subst}
use Rattle.ds_design.specs.Circuit.{Circuit}
use Rattle.ds_design.specs.Levels.{AreLevels, IsSortedByLevel}
use Rattle.ds_design.specs.declared.design.Gate.{Gate}
use Rattle.ds_settle.specs.Cone.{IsCone, Parts}
use Rattle.ds_settle.specs.Walk.{AreReached}
use Rattle.ds_settle.proofs.FoundCone.{is_cone}
use Rattle.ds_settle.proofs.finder.Finder.cone.Goals as goal

pub returns-clause-ok : goal.returns-clause-ok
returns-clause-ok c =
    let design : Circuit = c.args.self.now in
    let found : Parts = c.in_ok-found.found in
    let sorted : List ℕ = c.in_ok-tables.tables.items in
    let levels : List ℕ = c.net_levels-levels.result.now in
    let lent : c.netlist-netlist.result.now ≡ design = c.netlist-netlist.ensures ∙ c.self.view_is in
    let reached : AreReached design c.args.these.now found =
    subst (λ (d : Circuit). AreReached d c.args.these.now found) c.self.view_is c.in_ok-found.ensures.ok in
    let are : AreLevels design levels = subst (λ (d : Circuit). AreLevels d levels) lent c.net_levels-levels.ensures.value in
    let all : c.tables-all.result.now ≡ design.tables = c.tables-all.ensures.tables ∙ ap (λ (d : Circuit). d.tables) (c.design.ensures.design ∙ lent) in
    let by_level : IsSortedByLevel design.tables levels found.tables sorted =
    subst (λ (ts : List Gate). IsSortedByLevel ts levels found.tables sorted) all
    (subst (λ (ts : List ℕ). IsSortedByLevel c.tables-all.result.now levels ts sorted) c.tables.ensures c.in_ok-tables.ensures) in
    subst (IsCone design c.args.these.now) (sym c.with_tables.ensures) (is_cone design c.args.these.now found sorted levels reached are by_level)
