-- The rows after an opening, as the code puts them.
use Rattle.std.proofs.Common.{◌≡◌, ◌∙◌, ℕ, suc, ◌+◌, ◌-◌, ◌*◌, ◌/◌, ◌%◌, ◌<◌, ◌≤◌, List, [], ◌++◌, length, get_or, take, drop, inl, inr, refl, arith, ap, sym, subst, add-zero}
use Rattle.std.specs.List.{AllWithin}
use Rattle.std.proofs.Math.ListN.{set}
use Rattle.std.proofs.Math.Nat.{suc-mul}
use Rattle.std.proofs.lemmas.Bool.{cases_eq}
use Rattle.std.proofs.lemmas.List.{get_or-set_same, get_or-set_other, get_or_default, take-append-drop, take-set, drop-set-add, length-map, get_or-map, map-set, set-get_or}
use Rattle.ds_base.specs.Values.{Row}
use Rattle.ds_base.specs.declared.value.Value.{Value}
use Rattle.ds_base.specs.declared.value.Value.TheVariants.{Zero}
use Rattle.ds_cover.specs.Cover.{value_at, values_at}
use Rattle.ds_design.specs.Circuit.{data_nets, register_nets}
use Rattle.ds_latch.specs.Node.{Split, IsNode, number_of, nodes, place_of, members, nets_of}
use Rattle.ds_latch.specs.declared.node.Node.{Node}
use Rattle.ds_latch.specs.declared.node.Node.TheVariants.{In, Out, Master, Slave}
use Rattle.ds_latch.specs.Firing.{IsSettled, opening_read}
use Rattle.ds_latch.proofs.OrderTokens.{number_below, same_node}
use Rattle.ds_fire.specs.Snapshot.{row_index, rows_of}
use Rattle.ds_split.specs.Settled.{IsSettling}
use Rattle.ds_fire.specs.Feeds.{IsSourceHome, home_of, no_source_home}
use Rattle.ds_fire.specs.StoredRows.{Stored}
use Rattle.ds_fire.specs.Turn.{AreTurnPlaces, AreRows, IsClosed, IsLoaded, IsOpened, IsThere, Opens, home_index, home_value, rooms_of, values_of}
use Rattle.ds_fire.specs.declared.homes.NetHome.{NetHome}
use Rattle.ds_fire.specs.declared.row_places.RowPlaces.{RowPlaces}
use Rattle.ds_fire.proofs.Settles.{home_place, place_low, read, takes_settled}
use Rattle.ds_fire.proofs.Shown.{index_inside}

-- the nets of the node with a number, as they are lent
pub bits_are : (s : Split) (bits : List (List ℕ)) (number : ℕ) (bit : List ℕ) → number < length bits → bit ≡ get_or bits number bit → ((n : Node) → IsNode s n → get_or bits (number_of n) [] ≡ nets_of s n) → (n : Node) → IsNode s n → number_of n ≡ number → bit ≡ nets_of s n
bits_are s bits number bit inside is lent n is_node e =
    is ∙ (get_or_default bits number bit [] inside ∙ (ap (λ (k : ℕ). get_or bits k []) (sym e) ∙ lent n is_node))

-- what is read by way of a home is the value there
pub read_home : (places : RowPlaces) (rows : List Row) (homes : List NetHome) (k net : ℕ) (d : NetHome) → k ≡ net → net < length homes → (at : ℕ) → at ≡ home_index places (get_or homes k d) → (row : Row) → row ≡ get_or rows at row → IsThere places rows (home_of homes net) → (value : Value) → value ≡ value_at row (get_or homes k d).bit → value ≡ home_value places rows (home_of homes net)
read_home places rows homes k net d same inside at at_is row row_is there value value_is =
    let home : get_or homes k d ≡ home_of homes net = ap (λ (j : ℕ). get_or homes j d) same ∙ get_or_default homes net d no_source_home inside in
    let place : at ≡ home_index places (home_of homes net) = at_is ∙ ap (home_index places) home in
    let here : row ≡ get_or rows (home_index places (home_of homes net)) [] =
    row_is ∙ (ap (λ (j : ℕ). get_or rows j row) place ∙ get_or_default rows (home_index places (home_of homes net)) row [] there.row) in
    value_is ∙ (ap (λ (h : NetHome). value_at row h.bit) home ∙ ap (λ (r : Row). value_at r (home_of homes net).bit) here)

-- one net more has the value at its home
pub load_more : (places : RowPlaces) (rows : List Row) (homes : List NetHome) (sources : List ℕ) (nets : Row) (i net : ℕ) (value : Value) → i < length sources → net ≡ get_or sources i net → value ≡ home_value places rows (home_of homes net) → net < length nets
    → AllWithin (IsLoaded places rows homes nets) sources 0 i → AllWithin (IsLoaded places rows homes (set nets net value)) sources 0 (i + 1)
load_more places rows homes sources nets i net value inside is value_is within so_far k d low below =
    elim (cases_eq (get_or sources k d) net) [
      | inl same ↦
          ap (value_at (set nets net value)) same
          ∙ (get_or-set_same nets net value Zero within ∙ (value_is ∙ ap (λ (n : ℕ). home_value places rows (home_of homes n)) (sym same)))
      | inr ne ↦
          (let before : k < i = elim (cases_eq k i) [
            | inl e ↦ absurd (ne (ap (λ (j : ℕ). get_or sources j d) e ∙ (get_or_default sources i d net inside ∙ sym is)))
            | inr other ↦ omega arith
          ] in
          get_or-set_other nets net (get_or sources k d) value Zero ne ∙ so_far k d low before)
    ]

pub copy_is : (rows before rest : List Row) (from to : ℕ) (x : Row) → before ≡ take to rows → rest ≡ drop to rows → x ≡ get_or rows from [] → before ++ set rest 0 x ≡ set rows to (get_or rows from [])
copy_is rows before rest from to x front back is =
    let y : Row = get_or rows from [] in
    let dropped : drop to (set rows to y) ≡ set (drop to rows) 0 y = ap (λ (k : ℕ). drop to (set rows k y)) (sym (add-zero to)) ∙ drop-set-add to rows 0 y in
    ap (λ (b : List Row). b ++ set rest 0 x) front
    ∙ (ap (λ (r : List Row). take to rows ++ set r 0 x) back
    ∙ (ap (λ (v : Row). take to rows ++ set (drop to rows) 0 v) is
    ∙ (ap (λ (b : List Row). b ++ set (drop to rows) 0 y) (sym (take-set rows to y))
    ∙ (ap (λ (r : List Row). take to (set rows to y) ++ r) (sym dropped) ∙ take-append-drop to (set rows to y)))))

-- a home has its row and a value in it
pub home_there : (s : Split) (rows : List Row) → AreRows s rows → (opened : ℕ) (places : RowPlaces) → AreTurnPlaces s opened places → (net : ℕ) (home : NetHome) → IsSourceHome s net home → IsThere places rows home
home_there s rows are opened places at net home (p, source, is_p, (node, inside, is)) =
    let place : ℕ = place_of s (opening_read p opened) in
    let index : home_index places home ≡ row_index s (number_of p) (place_of s (opening_read p opened)) = home_place s opened places at home p source node in
    let below : row_index s (number_of p) (place_of s (opening_read p opened)) < nodes s * (s.slack + 1) = index_inside s (number_of p) place (number_below s p is_p) (place_low s (opening_read p opened)) in
    let rows_long : length rows ≡ nodes s * (s.slack + 1) = are.one_each in
    let wide : length (rows_of s rows p (place_of s (opening_read p opened))) ≡ length (nets_of s p) = are.widths p is_p place (place_low s (opening_read p opened)) in
    record {
      row = omega arith;
      bit = subst (λ (k : ℕ). home.bit < length (get_or rows k [])) (sym index) (subst (λ (k : ℕ). home.bit < k) (sym wide) inside);
    }

master_before : (s : Split) (i place : ℕ) → row_index s (number_of (Slave i)) place ≡ row_index s (number_of (Master i)) place + (s.slack + 1)
master_before s i place =
    let step : suc (2 * i + 2) * (s.slack + 1) ≡ (2 * i + 2) * (s.slack + 1) + (s.slack + 1) = suc-mul (2 * i + 2) (s.slack + 1) in
    let number : (2 * i + 3) * (s.slack + 1) ≡ suc (2 * i + 2) * (s.slack + 1) = ap (λ (n : ℕ). n * (s.slack + 1)) (let e : 2 * i + 3 ≡ suc (2 * i + 2) = omega arith in e) in
    omega arith

pub next_index : (s : Split) (opened : ℕ) (places : RowPlaces) → AreTurnPlaces s opened places → (number : ℕ) → number * places.each + places.next ≡ row_index s number (place_of s (opened + 1))
next_index s opened places are number =
    ap (λ (w : ℕ). number * w + places.next) are.each ∙ ap (λ (p : ℕ). number * (s.slack + 1) + p) are.next

module _ (s : Split) (vectors rows : List Row) (are : AreRows s rows) (opened : ℕ) (places : RowPlaces) (at : AreTurnPlaces s opened places) where
  module _ (i : ℕ) (is_node : IsNode s (Slave i)) (number : ℕ) (is : number_of (Slave i) ≡ number) where
    abbrev to : ℕ
    to = number * places.each + places.next

    pub slave_at : number * places.each + places.next ≡ row_index s (number_of (Slave i)) (place_of s (opened + 1))
    slave_at = ap (λ (n : ℕ). n * places.each + places.next) (sym is) ∙ next_index s opened places at (number_of (Slave i))

    pub master_at : number * places.each + places.next - places.each ≡ row_index s (number_of (Master i)) (place_of s (opened + 1))
    master_at =
        let here : number * places.each + places.next ≡ row_index s (number_of (Slave i)) (place_of s (opened + 1)) = slave_at in
        let before : row_index s (number_of (Slave i)) (place_of s (opened + 1)) ≡ row_index s (number_of (Master i)) (place_of s (opened + 1)) + (s.slack + 1) = master_before s i (place_of s (opened + 1)) in
        let each : places.each ≡ s.slack + 1 = at.each in
        omega arith

    pub slave_inside : number * places.each + places.next < length rows
    slave_inside =
        let here : number * places.each + places.next ≡ row_index s (number_of (Slave i)) (place_of s (opened + 1)) = slave_at in
        let below : row_index s (number_of (Slave i)) (place_of s (opened + 1)) < nodes s * (s.slack + 1) =
        index_inside s (number_of (Slave i)) (place_of s (opened + 1)) (number_below s (Slave i) is_node) (place_low s (opened + 1)) in
        let long : length rows ≡ nodes s * (s.slack + 1) = are.one_each in
        omega arith

    pub each_before : places.each ≤ number * places.each + places.next
    each_before =
        let here : number * places.each + places.next ≡ row_index s (number_of (Slave i)) (place_of s (opened + 1)) = slave_at in
        let before : row_index s (number_of (Slave i)) (place_of s (opened + 1)) ≡ row_index s (number_of (Master i)) (place_of s (opened + 1)) + (s.slack + 1) = master_before s i (place_of s (opened + 1)) in
        let each : places.each ≡ s.slack + 1 = at.each in
        omega arith

    pub each_under : number * places.each + places.next - places.each < number * places.each + places.next
    each_under =
        let before : places.each ≤ number * places.each + places.next = each_before in
        let each : places.each ≡ s.slack + 1 = at.each in
        omega arith

    master_wide : length (rows_of s rows (Master i) (place_of s (opened + 1))) ≡ length (nets_of s (Slave i))
    master_wide =
        are.widths (Master i) is_node (place_of s (opened + 1)) (place_low s (opened + 1))
        ∙ (length-map (members s i) (λ r. get_or (data_nets s.circuit) r 0) ∙ sym (length-map (members s i) (λ r. get_or (register_nets s.circuit) r 0)))

    pub same_width : length (get_or rows (number * places.each + places.next - places.each) []) ≡ length (get_or rows (number * places.each + places.next) [])
    same_width =
        ap (λ (k : ℕ). length (get_or rows k [])) master_at
        ∙ (master_wide
        ∙ (sym (are.widths (Slave i) is_node (place_of s (opened + 1)) (place_low s (opened + 1)))
        ∙ ap (λ (k : ℕ). length (get_or rows k [])) (sym slave_at)))

    pub opened_slave : (rows' : List Row) → rows' ≡ set rows (number * places.each + places.next) (get_or rows (number * places.each + places.next - places.each) []) → Opens s vectors opened number rows rows'
    opened_slave rows' puts n is_n e =
        let row : Row = rows_of s rows (Master i) (place_of s (opened + 1)) in
        let node : n ≡ Slave i = same_node n (Slave i) (e ∙ sym is) in
        let here : IsOpened s vectors opened (Slave i) rows rows' = record {
          row = row;
          takes = refl;
          width = master_wide;
          puts = puts
              ∙ (ap (λ (k : ℕ). set rows to (get_or rows k [])) master_at
              ∙ ap (λ (k : ℕ). set rows k (rows_of s rows (Master i) (place_of s (opened + 1)))) slave_at);
        } in
        subst (λ (m : Node). IsOpened s vectors opened m rows rows') (sym node) here

  module _ (m : Node) (is_m : IsNode s m) (settling : IsSettling m) (number : ℕ) (is : number_of m ≡ number) where
    settling_at : number * places.each + places.next ≡ row_index s (number_of m) (place_of s (opened + 1))
    settling_at = ap (λ (n : ℕ). n * places.each + places.next) (sym is) ∙ next_index s opened places at (number_of m)

    pub settling_inside : number * places.each + places.next < length rows
    settling_inside =
        let here : number * places.each + places.next ≡ row_index s (number_of m) (place_of s (opened + 1)) = settling_at in
        let below : row_index s (number_of m) (place_of s (opened + 1)) < nodes s * (s.slack + 1) = index_inside s (number_of m) (place_of s (opened + 1)) (number_below s m is_m) (place_low s (opened + 1)) in
        let long : length rows ≡ nodes s * (s.slack + 1) = are.one_each in
        omega arith

    pub settling_wide : length (get_or rows (number * places.each + places.next) []) ≡ length (nets_of s m)
    settling_wide = ap (λ (k : ℕ). length (get_or rows k [])) settling_at ∙ are.widths m is_m (place_of s (opened + 1)) (place_low s (opened + 1))

    pub opened_settled : (rows' : List Row) (nets : Row) (bit : List ℕ) → bit ≡ nets_of s m → IsSettled s (read s rows opened) m (values_at nets (nets_of s m)) → rows' ≡ set rows (number * places.each + places.next) (values_at nets bit) → Opens s vectors opened number rows rows'
    opened_settled rows' nets bit bit_is settled puts n is_n e =
        let node : n ≡ m = same_node n m (e ∙ sym is) in
        let here : IsOpened s vectors opened m rows rows' = record {
          row = values_at nets (nets_of s m);
          takes = takes_settled s vectors rows opened m settling (values_at nets (nets_of s m)) settled;
          width = length-map (nets_of s m) (value_at nets);
          puts = puts
              ∙ (ap (λ (b : List ℕ). set rows (number * places.each + places.next) (values_at nets b)) bit_is
              ∙ ap (λ (k : ℕ). set rows k (values_at nets (nets_of s m))) settling_at);
        } in
        subst (λ (x : Node). IsOpened s vectors opened x rows rows') (sym node) here

-- the node with a number stores the row of its next opening
pub closed_is : (s : Split) (closed number : ℕ) (n : Node) → number_of n ≡ number → (rows : List Row) (stored : List Stored) (h new : Stored) (row : Row) → number < length stored → h ≡ get_or stored number h → row ≡ rows_of s rows n (place_of s (closed + 1)) → new ≡ record { values = h.values ++ row; room = h.room } → IsClosed s closed n rows stored (set stored number new)
closed_is s closed number n e rows stored h new row inside is row_is new_is =
    let values : get_or (values_of stored) number [] ≡ h.values = get_or-map (λ (x : Stored). x.values) stored number h [] inside ∙ ap (λ (x : Stored). x.values) (sym is) in
    let room : get_or (rooms_of stored) number 0 ≡ h.room = get_or-map (λ (x : Stored). x.room) stored number h 0 inside ∙ ap (λ (x : Stored). x.room) (sym is) in
    record {
      values =
          map-set (λ (x : Stored). x.values) stored number new
          ∙ (ap (λ (x : Stored). set (values_of stored) number x.values) new_is
          ∙ (ap (λ (v : Row). set (values_of stored) number (v ++ row)) (sym values)
          ∙ (ap (λ (r : Row). set (values_of stored) number (get_or (values_of stored) number [] ++ r)) row_is
          ∙ ap (λ (k : ℕ). set (values_of stored) k (get_or (values_of stored) k [] ++ rows_of s rows n (place_of s (closed + 1)))) (sym e))));
      rooms =
          map-set (λ (x : Stored). x.room) stored number new
          ∙ (ap (λ (x : Stored). set (rooms_of stored) number x.room) new_is
          ∙ (ap (λ (r : ℕ). set (rooms_of stored) number r) (sym room) ∙ set-get_or (rooms_of stored) number 0));
    }

-- where the row of the next opening is kept
pub next_row : (s : Split) (rows : List Row) (opened : ℕ) (places : RowPlaces) → AreTurnPlaces s opened places → (number : ℕ) (n : Node) → number_of n ≡ number → get_or rows (number * places.each + places.next) [] ≡ rows_of s rows n (place_of s (opened + 1))
next_row s rows opened places at number n e =
    ap (λ (k : ℕ). get_or rows k []) (ap (λ (m : ℕ). m * places.each + places.next) (sym e) ∙ next_index s opened places at (number_of n))

pub next_inside : (s : Split) (rows : List Row) → AreRows s rows → (opened : ℕ) (places : RowPlaces) → AreTurnPlaces s opened places → (number : ℕ) → number < nodes s → number * places.each + places.next < length rows
next_inside s rows are opened places at number below =
    let here : number * places.each + places.next ≡ row_index s number (place_of s (opened + 1)) = next_index s opened places at number in
    let inside : row_index s number (place_of s (opened + 1)) < nodes s * (s.slack + 1) = index_inside s number (place_of s (opened + 1)) below (place_low s (opened + 1)) in
    let long : length rows ≡ nodes s * (s.slack + 1) = are.one_each in
    omega arith

-- where the row of the last opening is kept
same_index : (s : Split) (opened : ℕ) (places : RowPlaces) → AreTurnPlaces s opened places → (number : ℕ) → number * places.each + places.same ≡ row_index s number (place_of s opened)
same_index s opened places are number =
    ap (λ (w : ℕ). number * w + places.same) are.each ∙ ap (λ (p : ℕ). number * (s.slack + 1) + p) are.same

pub same_row : (s : Split) (rows : List Row) (opened : ℕ) (places : RowPlaces) → AreTurnPlaces s opened places → (number : ℕ) (n : Node) → number_of n ≡ number → get_or rows (number * places.each + places.same) [] ≡ rows_of s rows n (place_of s opened)
same_row s rows opened places at number n e =
    ap (λ (k : ℕ). get_or rows k []) (ap (λ (m : ℕ). m * places.each + places.same) (sym e) ∙ same_index s opened places at (number_of n))

pub same_inside : (s : Split) (rows : List Row) → AreRows s rows → (opened : ℕ) (places : RowPlaces) → AreTurnPlaces s opened places → (number : ℕ) → number < nodes s → number * places.each + places.same < length rows
same_inside s rows are opened places at number below =
    let here : number * places.each + places.same ≡ row_index s number (place_of s opened) = same_index s opened places at number in
    let inside : row_index s number (place_of s opened) < nodes s * (s.slack + 1) = index_inside s number (place_of s opened) below (place_low s opened) in
    let long : length rows ≡ nodes s * (s.slack + 1) = are.one_each in
    omega arith
