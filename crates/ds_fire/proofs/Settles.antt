-- What is settled in the cone of a node is the row that it takes.
use Rattle.std.proofs.Common.{◌≡◌, ◌∙◌, ℕ, ◌+◌, ◌*◌, ◌<◌, ◌≤◌, List, [], length, get_or, arith, ap, sym, subst, zero-add}
use Rattle.std.proofs.Math.Nat.{zero-mul}
use Rattle.std.specs.Prelude.{All}
use Rattle.std.proofs.lemmas.List.{get_or-map, length-map}
use Rattle.std.proofs.lemmas.Nat.{mod_below}
use Rattle.ds_base.proofs.Tests.{test_same, test_other}
use Rattle.ds_base.specs.Values.{Row}
use Rattle.ds_base.specs.declared.value.Value.TheVariants.{Zero}
use Rattle.ds_cover.specs.Cover.{value_at, values_at}
use Rattle.ds_design.specs.Circuit.{register_nets}
use Rattle.ds_design.specs.InRange.{IsInRange}
use Rattle.ds_design.specs.Valuation.{IsValuation}
use Rattle.ds_latch.specs.Node.{Split, IsNode, number_of, place_of, members, nets_of}
use Rattle.ds_latch.specs.declared.node.Node.{Node}
use Rattle.ds_latch.specs.declared.node.Node.TheVariants.{In, Out, Master, Slave}
use Rattle.ds_latch.specs.Order.{IsSource}
use Rattle.ds_latch.specs.Plan.{IsSplit}
use Rattle.ds_latch.specs.Firing.{AreRegisters, IsSettled, Takes, opening_read, read_rows}
use Rattle.ds_design.proofs.Exists.{some_valuation}
use Rattle.ds_latch.proofs.Flow.{settles_from_all}
use Rattle.ds_settle.specs.Cone.{IsCone, IsPartSettled, Parts}
use Rattle.ds_settle.proofs.ConeReach.{cone_settles}
use Rattle.ds_fire.specs.Snapshot.{row_index}
use Rattle.ds_split.specs.Settled.{IsSettling}
use Rattle.ds_latch.proofs.TurnValues.{picked}
use Rattle.ds_fire.specs.Feeds.{IsSourceHome, home_of}
use Rattle.ds_fire.specs.Turn.{AreTurnPlaces, AreRows, IsLoaded, home_index, home_value, state_with}
use Rattle.ds_fire.specs.declared.homes.NetHome.{NetHome}
use Rattle.ds_fire.specs.declared.row_places.RowPlaces.{RowPlaces}
use Rattle.ds_fire.proofs.RegistersOfSlaves.{some_registers}

-- the rows of IN stand first
pub zeroth : (s : Split) (place : ℕ) → row_index s 0 place ≡ place
zeroth s place = ap (λ (n : ℕ). n + place) (zero-mul (s.slack + 1)) ∙ zero-add place

pub place_low : (s : Split) (opened : ℕ) → place_of s opened ≤ s.slack
place_low s opened = (let low : place_of s opened < s.slack + 1 = mod_below opened (s.slack + 1) (omega arith) in omega arith)

-- a home is kept where it is read
pub home_place : (s : Split) (opened : ℕ) (places : RowPlaces) → AreTurnPlaces s opened places → (home : NetHome) (p : Node) → IsSource p → home.node ≡ number_of p → home_index places home ≡ row_index s (number_of p) (place_of s (opening_read p opened))
home_place s opened places are home In source is =
    test_same home.node 0 places.next (home.node * places.each + places.same) is ∙ (are.next ∙ sym (zeroth s (place_of s (opened + 1))))
home_place s opened places are home Out source is = absurd source
home_place s opened places are home (Master i) source is = absurd source
home_place s opened places are home (Slave i) source is =
    test_other home.node 0 places.next (home.node * places.each + places.same) (λ e. absurd (omega arith))
    ∙ (ap (λ (n : ℕ). n * places.each + places.same) is
    ∙ (ap (λ (w : ℕ). number_of (Slave i) * w + places.same) are.each
    ∙ ap (λ (x : ℕ). number_of (Slave i) * (s.slack + 1) + x) are.same))

-- what a node reads that has opened so often
abbrev pub read : Split → List Row → ℕ → Node → Row
read s rows opened p = read_rows s (state_with s rows) opened p

pub read_width : (s : Split) (rows : List Row) → AreRows s rows → (opened : ℕ) (p : Node) → IsNode s p → length (read s rows opened p) ≡ length (nets_of s p)
read_width s rows are opened p is_p = are.widths p is_p (place_of s (opening_read p opened)) (place_low s (opening_read p opened))

module _ (s : Split) (split : IsSplit s) (in_range : IsInRange s.circuit) (rows : List Row) (are : AreRows s rows) (opened : ℕ) where
  shown : Node → Row
  shown = read s rows opened

  widths : (i : ℕ) → i < length s.clusters → length (read s rows opened (Slave i)) ≡ length (members s i)
  widths i is_cluster = read_width s rows are opened (Slave i) is_cluster ∙ length-map (members s i) (λ r. get_or (register_nets s.circuit) r 0)

  -- a valuation for registers that the slaves show has what the sources show at their nets
  module _ (state nets : Row) (registers : AreRegisters s (read s rows opened) state) (valuation : IsValuation s.circuit state (read s rows opened In) nets) where
    source_row : (p : Node) → IsSource p → IsNode s p → values_at nets (nets_of s p) ≡ read s rows opened p
    source_row In source is_p = valuation.column
    source_row Out source is_p = absurd source
    source_row (Master i) source is_p = absurd source
    source_row (Slave i) source is_p =
        let sizes : length (register_nets s.circuit) ≡ length s.circuit.registers = length-map s.circuit.registers (λ r. r.output) in
        let within : All (λ r. r < length (register_nets s.circuit)) (members s i) = λ j d inside. (let w : get_or (members s i) j d < length s.circuit.registers = split.within i [] is_p j d inside in omega arith) in
        picked nets (register_nets s.circuit) (members s i) within ∙ (ap (λ (w : Row). values_at w (members s i)) valuation.register ∙ registers.1 i is_p)

    source_value : (p : Node) → IsSource p → IsNode s p → (bit net : ℕ) → bit < length (nets_of s p) → get_or (nets_of s p) bit 0 ≡ net → value_at (read s rows opened p) bit ≡ value_at nets net
    source_value p source is_p bit net inside at =
        ap (λ (row : Row). value_at row bit) (sym (source_row p source is_p))
        ∙ (get_or-map (value_at nets) (nets_of s p) bit 0 Zero inside ∙ ap (value_at nets) at)

    home_is : (places : RowPlaces) → AreTurnPlaces s opened places → (net : ℕ) (home : NetHome) → IsSourceHome s net home → home_value places rows home ≡ value_at nets net
    home_is places at net home (p, source, is_p, (node, inside, is)) =
        ap (λ (k : ℕ). value_at (get_or rows k []) home.bit) (home_place s opened places at home p source node)
        ∙ source_value p source is_p home.bit net inside is

    module _ (n : Node) (cone : Parts) (is_cone : IsCone s.circuit (nets_of s n) cone) (homes : List NetHome) (housed : All (λ net. IsSourceHome s net (home_of homes net)) cone.sources) (places : RowPlaces) (at : AreTurnPlaces s opened places) (loaded part : Row) (are_loaded : All (IsLoaded places rows homes loaded) cone.sources) (is_part : IsPartSettled s.circuit cone loaded part) where
      sources_agree : All (λ net. value_at loaded net ≡ value_at nets net) cone.sources
      sources_agree k d inside =
          let net : ℕ = get_or cone.sources k d in
          are_loaded k d inside ∙ home_is places at net (home_of homes net) (housed k d inside)

      settles : IsSettled s (read s rows opened) n (values_at part (nets_of s n))
      settles =
          subst (IsSettled s (read s rows opened) n)
          (sym (cone_settles s.circuit split.accepted (nets_of s n) cone is_cone state (read s rows opened In) nets valuation loaded part sources_agree is_part).1)
          (settles_from_all s (read s rows opened) n state nets registers valuation)

  pub part_settles : (n : Node) (cone : Parts) → IsCone s.circuit (nets_of s n) cone → (homes : List NetHome) → All (λ net. IsSourceHome s net (home_of homes net)) cone.sources → (places : RowPlaces) → AreTurnPlaces s opened places → (loaded part : Row) → All (IsLoaded places rows homes loaded) cone.sources → IsPartSettled s.circuit cone loaded part → IsSettled s (read s rows opened) n (values_at part (nets_of s n))
  part_settles n cone is_cone homes housed places at loaded part are_loaded is_part =
      let (state, registers) = some_registers s split (read s rows opened) widths in
      let (nets, valuation) = some_valuation s.circuit in_range split.accepted state (read s rows opened In) registers.0 (read_width s rows are opened In tt) in
      settles state nets registers valuation n cone is_cone homes housed places at loaded part are_loaded is_part

pub takes_settled : (s : Split) (vectors rows : List Row) (opened : ℕ) (n : Node) → IsSettling n → (row : Row) → IsSettled s (read s rows opened) n row → Takes s vectors (state_with s rows) opened n row
takes_settled s vectors rows opened In settling row is = absurd settling
takes_settled s vectors rows opened Out settling row is = is
takes_settled s vectors rows opened (Master i) settling row is = is
takes_settled s vectors rows opened (Slave i) settling row is = absurd settling
