use Rattle.std.proofs.Common.{◌≡◌, ◌∙◌, ◌<◌, ◌+◌, ℕ, List, length, ap, sym, subst}
use Rattle.std.specs.List.{AllWithin}
use Rattle.std.proofs.Math.ListN.{set}
use Rattle.std.proofs.lemmas.List.{length-set}
use Rattle.ds_base.specs.Values.{Row}
use Rattle.ds_base.specs.declared.value.Value.{Value}
use Rattle.ds_fire.specs.Feeds.{home_of}
use Rattle.ds_fire.specs.Turn.{IsLoaded, IsThere, home_value}
use Rattle.ds_fire.specs.declared.homes.NetHome.{NetHome}
use Rattle.ds_fire.proofs.RowsAfterOpening.{load_more, read_home}
use Rattle.ds_fire.proofs.opening.load.Goals as goal

pub loop-net-preserved : goal.loop-net-preserved
loop-net-preserved c =
    let i : ℕ = c.loop-net.net-index in
    let net : ℕ = c.net-item.result in
    let homes : List NetHome = c.args.homes.now in
    let rows : List Row = c.args.rows.now in
    let value : Value = c.value-value.result in
    let there : IsThere c.args.places c.args.rows.now (home_of c.args.homes.now c.net-item.result) =
    subst (λ (n : ℕ). IsThere c.args.places c.args.rows.now (home_of c.args.homes.now n)) (sym c.net-item.is) (c.requires.there i net c.loop-net-test.true) in
    let housed : c.net-item.result < length c.args.homes.now = subst (λ (n : ℕ). n < length c.args.homes.now) (sym c.net-item.is) (c.requires.homes i net c.loop-net-test.true) in
    let long : length c.loop-net.nets ≡ length c.args.nets.now = c.loop-net.invariant.same in
    let within : c.net-item.result < length c.loop-net.nets =
    subst (λ (n : ℕ). c.net-item.result < n) (sym long) (subst (λ (n : ℕ). n < length c.args.nets.now) (sym c.net-item.is) (c.requires.nets i net c.loop-net-test.true)) in
    let value_is : c.value-value.result ≡ home_value c.args.places c.args.rows.now (home_of c.args.homes.now c.net-item.result) =
    read_home c.args.places rows homes c.index.result net _ c.index.ensures housed c.row_of.result c.row_of.ensures c.index-rows-row_of.result c.index-rows-row_of.is there c.value-value.result c.value-value.ensures in
    let set_is : c.set.new.self ≡ set c.loop-net.nets c.net-item.result c.value-value.result =
    c.set.ensures ∙ ap (λ (n : ℕ). set c.loop-net.nets n value) c.index-in-loop-net.ensures in
    record {
      same = ap length set_is ∙ (length-set c.loop-net.nets net value ∙ long);
      loaded = subst (λ (nets : Row). AllWithin (IsLoaded c.args.places c.args.rows.now c.args.homes.now nets) c.args.sources.now 0 (i + 1)) (sym set_is)
          (load_more c.args.places rows homes c.args.sources.now c.loop-net.nets i net value c.loop-net-test.true c.net-item.is value_is within c.loop-net.invariant.loaded);
    }
