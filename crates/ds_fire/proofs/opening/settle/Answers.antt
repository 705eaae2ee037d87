use Rattle.std.proofs.Common.{◌≡◌, ◌<◌, ◌+◌, ℕ, List, length, get_or, subst, sym, arith}
use Rattle.std.specs.Prelude.{All}
use Rattle.ds_base.specs.Values.{Row}
use Rattle.ds_design.specs.Circuit.{Circuit}
use Rattle.ds_latch.specs.Node.{Split, nets_of, number_of}
use Rattle.ds_latch.specs.declared.node.Node.{Node}
use Rattle.ds_latch.specs.Plan.{IsSplit}
use Rattle.ds_settle.specs.Cone.{AreInOrder, IsCone, IsPartSettled, Parts}
use Rattle.ds_split.specs.Cones.{IsSettlingAt, cone_place}
use Rattle.ds_split.proofs.NodeCones.{cone_at, cone_low}
use Rattle.ds_fire.specs.Feeds.{AreFeeds, IsSourceHome, home_of}
use Rattle.ds_fire.specs.declared.feeds.Feeds.{Feeds}
use Rattle.ds_fire.specs.Turn.{IsLoaded, IsThere}
use Rattle.ds_fire.specs.declared.homes.NetHome.{NetHome}
use Rattle.ds_fire.proofs.NetHomes.{source_homes}
use Rattle.ds_fire.proofs.RowsAfterOpening.{home_there}
use Rattle.ds_fire.proofs.Settles.{part_settles}
use Rattle.ds_fire.proofs.opening.settle.Goals as goal

-- the cone of a node that settles, and the homes of its sources
module _ (s : Split) (split : IsSplit s) (feeds : Feeds) (are : AreFeeds s feeds) (m : Node) (number place : ℕ) (at : IsSettlingAt s m number) (place_is : (n : Node) → number_of n ≡ number → place ≡ cone_place n) (cone : Parts) (is : cone ≡ get_or feeds.cones.items place cone) where
  the_cone : IsCone s.circuit (nets_of s m) cone
  the_cone = cone_at s feeds.cones.items are.cones number place place_is cone is m at

  housed : All (λ net. IsSourceHome s net (home_of feeds.homes.items net)) cone.sources
  housed = source_homes s split m at.node at.settling feeds.homes.items are.homes cone the_cone

pub index-cone-requires : goal.index-cone-requires
index-cone-requires c =
    let (m, at) = c.requires.node in
    let low : cone_place m < length c.args.latches.now.clusters + 1 = cone_low c.args.latches.now m at.node at.settling in
    omega (arith, low, c.cone_place.ensures m at.is, c.requires.feeds.cones.one_each, c.args.feeds.now.cones.ok.0)

pub load-requires-clause-homes : goal.load-requires-clause-homes
load-requires-clause-homes c =
    let (m, at) = c.requires.node in
    let is_cone : IsCone c.args.latches.now.circuit (nets_of c.args.latches.now m) c.index-cone.result.now = the_cone c.args.latches.now c.requires.design.1 c.args.feeds.now c.requires.feeds m c.args.opening.latch c.cone_place.result at c.cone_place.ensures c.index-cone.result.now c.index-cone.ensures in
    subst (λ (xs : List ℕ). All (λ net. net < length c.as_slice.result.now) xs) (sym c.sources.ensures)
    (subst (λ (hs : List NetHome). All (λ net. net < length hs) c.index-cone.result.now.sources) (sym c.as_slice.ensures.value)
    (subst (λ (n : ℕ). All (λ net. net < n) c.index-cone.result.now.sources) (sym c.requires.feeds.homes.one_each) is_cone.sources_within))

pub load-requires-clause-there : goal.load-requires-clause-there
load-requires-clause-there c =
    let (m, at) = c.requires.node in
    let homes : List NetHome = c.args.feeds.now.homes.items in
    let rows : List Row = c.args.rows.now in
    let sources : List ℕ = c.index-cone.result.now.sources in
    subst (λ (xs : List ℕ). All (λ net. IsThere c.of-places.result c.args.rows.now (home_of c.as_slice.result.now net)) xs) (sym c.sources.ensures)
    (subst (λ (hs : List NetHome). All (λ net. IsThere c.of-places.result c.args.rows.now (home_of hs net)) sources) (sym c.as_slice.ensures.value)
    (λ k d inside. home_there c.args.latches.now rows c.requires.rows c.args.opening.opened c.of-places.result c.of-places.ensures _ _ (housed c.args.latches.now c.requires.design.1 c.args.feeds.now c.requires.feeds m c.args.opening.latch c.cone_place.result at c.cone_place.ensures c.index-cone.result.now c.index-cone.ensures k d inside)))

pub load-requires-clause-nets : goal.load-requires-clause-nets
load-requires-clause-nets c =
    let (m, at) = c.requires.node in
    let is_cone : IsCone c.args.latches.now.circuit (nets_of c.args.latches.now m) c.index-cone.result.now = the_cone c.args.latches.now c.requires.design.1 c.args.feeds.now c.requires.feeds m c.args.opening.latch c.cone_place.result at c.cone_place.ensures c.index-cone.result.now c.index-cone.ensures in
    subst (λ (xs : List ℕ). All (λ net. net < length c.args.nets.now) xs) (sym c.sources.ensures)
    (subst (λ (n : ℕ). All (λ net. net < n) c.index-cone.result.now.sources) (sym c.requires.nets) is_cone.sources_within)

pub settle_part-requires-clause-cone : goal.settle_part-requires-clause-cone
settle_part-requires-clause-cone c =
    let (m, at) = c.requires.node in
    let is_cone : IsCone c.args.latches.now.circuit (nets_of c.args.latches.now m) c.index-cone.result.now = the_cone c.args.latches.now c.requires.design.1 c.args.feeds.now c.requires.feeds m c.args.opening.latch c.cone_place.result at c.cone_place.ensures c.index-cone.result.now c.index-cone.ensures in
    subst (λ (circuit : Circuit). AreInOrder circuit c.index-cone.result.now.tables) (sym c.netlist.ensures.netlist) is_cone.order

pub returns-clause-settled : goal.returns-clause-settled
returns-clause-settled c m at =
    let homes : List NetHome = c.args.feeds.now.homes.items in
    let rows : List Row = c.args.rows.now in
    let sources : List ℕ = c.index-cone.result.now.sources in
    let is_cone : IsCone c.args.latches.now.circuit (nets_of c.args.latches.now m) c.index-cone.result.now = the_cone c.args.latches.now c.requires.design.1 c.args.feeds.now c.requires.feeds m c.args.opening.latch c.cone_place.result at c.cone_place.ensures c.index-cone.result.now c.index-cone.ensures in
    let loaded : All (IsLoaded c.of-places.result c.args.rows.now c.args.feeds.now.homes.items c.load.new.nets) c.index-cone.result.now.sources =
    subst (λ (hs : List NetHome). All (IsLoaded c.of-places.result c.args.rows.now hs c.load.new.nets) sources) c.as_slice.ensures.value
    (subst (λ (xs : List ℕ). All (IsLoaded c.of-places.result c.args.rows.now c.as_slice.result.now c.load.new.nets) xs) c.sources.ensures c.load.ensures.loaded) in
    let part : IsPartSettled c.args.latches.now.circuit c.index-cone.result.now c.load.new.nets c.settle_part.new.nets =
    subst (λ (circuit : Circuit). IsPartSettled circuit c.index-cone.result.now c.load.new.nets c.settle_part.new.nets) c.netlist.ensures.netlist c.settle_part.ensures in
    part_settles c.args.latches.now c.requires.design.1 c.requires.design.0 rows c.requires.rows c.args.opening.opened m c.index-cone.result.now is_cone homes (housed c.args.latches.now c.requires.design.1 c.args.feeds.now c.requires.feeds m c.args.opening.latch c.cone_place.result at c.cone_place.ensures c.index-cone.result.now c.index-cone.ensures) c.of-places.result c.of-places.ensures c.load.new.nets c.settle_part.new.nets loaded part
