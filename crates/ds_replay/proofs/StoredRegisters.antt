-- What the registers have stored, as it is written.
use Rattle.std.proofs.Common.{◌≡◌, ◌∙◌, ℕ, suc, ◌+◌, ◌*◌, ◌/◌, ◌<◌, List, [], ◌∷◌, ◌++◌, length, get_or, map, take, drop, refl, arith, ap, sym}
use Rattle.std.specs.List.{flat_map, range_with_len}
use Rattle.std.proofs.Math.Nat.{mul-div_cancel, suc-mul, zero-mul}
use Rattle.std.proofs.lemmas.List.{get_or-drop, get_or-map, get_or-take, length-append, length-map, same_lists}
use Rattle.std.proofs.lemmas.List.FromFn.{get_or-map-range_with_len, length-map-range_with_len}
use Rattle.ds_base.specs.Values.{Row}
use Rattle.ds_base.specs.declared.value.Value.{Value}
use Rattle.ds_base.specs.declared.value.Value.TheVariants.{Zero}
use Rattle.ds_design.specs.Circuit.{Circuit}
use Rattle.ds_marked.specs.Graph.{IsLegal}
use Rattle.ds_latch.specs.Node.{Split, members}
use Rattle.ds_latch.specs.declared.node.Node.TheVariants.{Slave}
use Rattle.ds_latch.specs.Headline.{values_stored}
use Rattle.ds_fire.specs.Snapshot.{Snapshot, graph_of, limit_of, rows_joined, split_of, stored_values}
use Rattle.ds_fire.specs.Fired.{IsAfter, IsSnapshotSound}
use Rattle.ds_latch.proofs.Spelt.{range_agree}
use Rattle.ds_fire.proofs.Lawful.{chunk, slave_wide}
use Rattle.ds_rows.specs.Homes.{AreHomes, IsHome, no_home}
use Rattle.ds_rows.specs.Log.{joined_at_place, fired_line, stored_text}
use Rattle.ds_rows.specs.Nets.{register_of}
use Rattle.ds_rows.specs.StateText.{IsStateText}
use Rattle.ds_rows.specs.declared.homes.Home.{Home}
use Rattle.ds_replay.specs.Kept.{register_line, state_text}

-- a line that is spelt by the home of its register
pub line_is : (kept : Snapshot) (s : Split) (homes : List Home) (r : ℕ) (c : Circuit) (width : ℕ) (values : Row) → split_of kept ≡ s → c ≡ s.circuit
    → width ≡ length (members s (get_or homes r no_home).cluster) → values ≡ stored_values kept (Slave (get_or homes r no_home).cluster)
    → stored_text (register_of c r) (joined_at_place width (get_or homes r no_home).place values) ≡ register_line kept homes r
line_is kept s homes r c width values split circuit wide stored =
    let home : Home = get_or homes r no_home in
    ap (λ (d : Circuit). stored_text (register_of d r) (joined_at_place width home.place values)) (circuit ∙ ap (λ (t : Split). t.circuit) (sym split))
    ∙ (ap (λ (w : ℕ). stored_text (register_of (split_of kept).circuit r) (joined_at_place w home.place values)) (wide ∙ ap (λ (t : Split). length (members t home.cluster)) (sym split))
    ∙ ap (λ (vs : Row). stored_text (register_of (split_of kept).circuit r) (joined_at_place (length (members (split_of kept) home.cluster)) home.place vs)) stored)

-- rows of one width have so many values together
rows_long : (rows : List Row) (w : ℕ) → ((j : ℕ) → j < length rows → length (get_or rows j []) ≡ w) → length (rows_joined rows) ≡ length rows * w
rows_long [] w widths = sym (zero-mul w)
rows_long (row ∷ rows) w widths =
    let first : length row ≡ w = widths 0 (omega arith) in
    let rest : length (rows_joined rows) ≡ length rows * w = rows_long rows w (λ j low. widths (suc j) (omega arith)) in
    let step : suc (length rows) * w ≡ length rows * w + w = suc-mul (length rows) w in
    length-append row (rows_joined rows) ∙ (let sum : length row + length (rows_joined rows) ≡ suc (length rows) * w = omega arith in sum)

-- at a place of joined rows of one width is of each row the value at this place
pub joined_is : (rows : List Row) (w p : ℕ) → ((j : ℕ) → j < length rows → length (get_or rows j []) ≡ w) → p < w
    → joined_at_place w p (rows_joined rows) ≡ map (λ row. get_or row p Zero) rows
joined_is rows w p widths low =
    let all : Row = rows_joined rows in
    let count : length (rows_joined rows) / w ≡ length rows = ap (λ (n : ℕ). n / w) (rows_long rows w widths) ∙ mul-div_cancel (length rows) (omega arith) in
    let at : ℕ → Value = λ k. get_or all (k * w + p) Zero in
    let long : length (joined_at_place w p (rows_joined rows)) ≡ length rows = length-map-range_with_len at 0 (length all / w) ∙ count in
    same_lists (joined_at_place w p all) (map (λ row. get_or row p Zero) rows) (long ∙ sym (length-map rows (λ row. get_or row p Zero)))
    (λ k d inside.
    let inside_rows : k < length rows = omega arith in
    let row : Row = get_or rows k [] in
    let whole : take w (drop (k * w) all) ≡ get_or rows k [] = chunk rows w k (k * w) widths inside_rows refl in
    get_or-map-range_with_len at 0 (length all / w) k k d (omega arith) (let e : 0 + k ≡ k = omega arith in e)
    ∙ (sym (get_or-drop (k * w) all p Zero)
    ∙ (sym (get_or-take w (drop (k * w) all) p Zero low)
    ∙ (ap (λ (r : Row). get_or r p Zero) whole
    ∙ sym (get_or-map (λ r. get_or r p Zero) rows k [] d inside_rows)))))

-- the lines of registers that have their homes are the text of the state that is kept
unfoldable pub text_of_kept : (kept : Snapshot) (events : List ℕ) (homes : List Home) (fired most : ℕ)
    → IsLegal (graph_of kept) (limit_of kept) events → IsAfter kept events → IsSnapshotSound kept → AreHomes (split_of kept) homes
    → fired ≡ length events → most ≡ length (graph_of kept).events * limit_of kept
    → IsStateText kept.planned kept.vectors events (state_text kept homes fired most)
text_of_kept kept events homes fired most legal (now, all, shows) sound are many each =
    let s : Split = split_of kept in
    let home : ℕ → Home = λ r. get_or homes r no_home in
    let line : ℕ → List ℕ = λ r. stored_text (register_of (split_of kept).circuit r) (values_stored now (get_or homes r no_home).cluster (get_or homes r no_home).place) in
    let one : (r : ℕ) → r < length (split_of kept).circuit.registers → register_line kept homes r ≡ stored_text (register_of (split_of kept).circuit r) (values_stored now (get_or homes r no_home).cluster (get_or homes r no_home).place) =
    λ r low.
    let i : ℕ = (get_or homes r no_home).cluster in
    let p : ℕ = (get_or homes r no_home).place in
    let here : IsHome (split_of kept) r (get_or homes r no_home) = are.each r low in
    ap (λ (values : Row). stored_text (register_of (split_of kept).circuit r) values)
    (ap (λ (values : Row). joined_at_place (length (members (split_of kept) i)) p values) (sym (shows.stored (Slave i) here.is_cluster))
    ∙ joined_is (now.stored (Slave i)) (length (members (split_of kept) i)) p
    (slave_wide kept sound events legal now all shows i here.is_cluster) here.inside) in
    record {
      now = now;
      fires = all;
      values = λ r. values_stored now (get_or homes r no_home).cluster (get_or homes r no_home).place;
      stored = λ r low. ((get_or homes r no_home).cluster, (get_or homes r no_home).place, are.each r low, refl);
      spelt = ap (λ (n : ℕ). flat_map (register_line kept homes) (range_with_len 0 n) ++ fired_line fired most) are.one_each
          ∙ (ap (λ (lines : List ℕ). lines ++ fired_line fired most)
          (range_agree (register_line kept homes) line 0 (length (split_of kept).circuit.registers) (λ r low. one r (omega arith)))
          ∙ (ap (λ (n : ℕ). flat_map line (range_with_len 0 (length (split_of kept).circuit.registers)) ++ fired_line n most) many
          ∙ ap (λ (n : ℕ). flat_map line (range_with_len 0 (length (split_of kept).circuit.registers)) ++ fired_line (length events) n) each));
    }
