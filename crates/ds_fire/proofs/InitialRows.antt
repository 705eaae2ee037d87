-- What is kept before the first firing.
use Rattle.std.proofs.Common.{◌≡◌, ◌∙◌, ℕ, ◌+◌, ◌-◌, ◌*◌, ◌/◌, ◌%◌, ◌^◌, ◌<◌, ◌≤◌, ◌==◌, if◌then◌else◌, List, [], ◌∷◌, ◌++◌, length, get_or, replicate, inl, inr, refl, arith, ap, sym, subst}
use Rattle.std.proofs.lemmas.Bool.{cases_eq, cases_lt}
use Rattle.std.specs.Prelude.{All}
use Rattle.std.proofs.lemmas.List.{get_or-map, get_or_append_left, get_or_default, get_or_past, get_or_push, get_or-replicate, length-append, length-map, length-replicate, length_push}
use Rattle.std.proofs.lemmas.List.Elements.{All-push}
use Rattle.std.proofs.lemmas.Nat.{div-mul-add, mod-mul-add}
use Rattle.std.proofs.Math.Nat.{zero-mul}
use Rattle.ds_base.proofs.Tests.{test_same, test_other}
use Rattle.ds_base.specs.Values.{Row}
use Rattle.ds_base.specs.declared.value.Value.TheVariants.{Zero}
use Rattle.ds_cover.specs.Cover.{value_at}
use Rattle.ds_design.specs.Circuit.{columns, register_nets}
use Rattle.ds_design.specs.InRange.{IsInRange}
use Rattle.ds_latch.specs.Node.{Split, IsNode, number_of, nodes, closing, members, nets_of, zeros}
use Rattle.ds_latch.specs.declared.node.Node.{Node}
use Rattle.ds_latch.specs.declared.node.Node.TheVariants.{In, Out, Master, Slave}
use Rattle.ds_latch.specs.Plan.{IsPlan, Planned, split_events}
use Rattle.ds_latch.proofs.OrdersRise.{events_long}
use Rattle.ds_marked.specs.Graph.{Graph}
use Rattle.ds_design.specs.Rows.{AreVectors, Rows}
use Rattle.ds_latch.specs.Firing.{first_row, first_state}
use Rattle.ds_latch.proofs.OrderTokens.{number_below}
use Rattle.ds_fire.specs.First.{AreEmpty, AreFirstRows, HasFirstRow}
use Rattle.ds_fire.specs.Fired.{IsReached, IsSnapshotSound}
use Rattle.ds_fire.specs.StoredRows.{Stored}
use Rattle.ds_fire.specs.Inside.{HaveRoom, snapshot_seen}
use Rattle.ds_fire.specs.Snapshot.{IsFirst, Shows, row_index, rows_of}
use Rattle.ds_fire.specs.Turn.{rooms_of, values_of}
use Rattle.ds_fire.specs.declared.kept.Kept.{Kept}
use Rattle.ds_fire.proofs.Shown.{index_inside}

-- the registers of a slave
pub slave_wide : (s : Split) (i : ℕ) (row : Row) → row ≡ zeros s (Slave i) → (registers : List ℕ) → registers ≡ members s i → length row ≡ length registers
slave_wide s i row all registers is =
    ap length all
    ∙ (length-replicate (length (nets_of s (Slave i))) Zero
    ∙ (length-map (members s i) (λ r. get_or (register_nets s.circuit) r 0) ∙ ap length (sym is)))

-- the first row of a node and a place
abbrev pub the_first : Split → Node → ℕ → Row
the_first s n place = if place == 0 then first_row s n else zeros s n

-- one row more
pub first_more : (s : Split) (rows : List Row) (k places : ℕ) (row : Row) → places ≡ s.slack + 1 → length rows ≡ k
    → ((n : Node) → IsNode s n → (place : ℕ) → place ≤ s.slack → row_index s (number_of n) place < k → rows_of s rows n place ≡ the_first s n place)
    → HasFirstRow s (k / places) (k % places) row
    → (n : Node) → IsNode s n → (place : ℕ) → place ≤ s.slack → row_index s (number_of n) place < k + 1 → rows_of s (rows ++ row ∷ []) n place ≡ the_first s n place
first_more s rows k places row each long before here n is_node place low below =
    elim (cases_eq (row_index s (number_of n) place) k) [
      | inl e ↦
          (let number : k / places ≡ number_of n = ap (λ (w : ℕ). k / w) each ∙ (ap (λ (j : ℕ). j / (s.slack + 1)) (sym e) ∙ div-mul-add (number_of n) (s.slack + 1) place (omega arith)) in
          let at : k % places ≡ place = ap (λ (w : ℕ). k % w) each ∙ (ap (λ (j : ℕ). j % (s.slack + 1)) (sym e) ∙ mod-mul-add (number_of n) (s.slack + 1) place (omega arith)) in
          get_or_push rows row [] (row_index s (number_of n) place) (long ∙ sym e)
          ∙ (here n is_node (sym number) ∙ ap (λ (p : ℕ). the_first s n p) at))
      | inr ne ↦ get_or_append_left rows (row ∷ []) [] (row_index s (number_of n) place) (omega arith) ∙ before n is_node place low (omega arith)
    ]

pub first_all : (s : Split) (rows : List Row) (k places count : ℕ) → places ≡ s.slack + 1 → count ≡ nodes s → length rows ≡ k → k ≡ count * places
    → ((n : Node) → IsNode s n → (place : ℕ) → place ≤ s.slack → row_index s (number_of n) place < k → rows_of s rows n place ≡ the_first s n place)
    → AreFirstRows s rows
first_all s rows k places count each nodes_are long end rows_are =
    let all : k ≡ nodes s * (s.slack + 1) = end ∙ (ap (λ (w : ℕ). count * w) each ∙ ap (λ (n : ℕ). n * (s.slack + 1)) nodes_are) in
    record {
      one_each = long ∙ all;
      each = λ n is_node place low. rows_are n is_node place low (let inside : row_index s (number_of n) place < nodes s * (s.slack + 1) = index_inside s (number_of n) place (number_below s n is_node) low in omega arith);
    }

first_wide : (s : Split) (n : Node) → length (first_row s n) ≡ length (nets_of s n)
first_wide s In = length-replicate (length (nets_of s In)) Zero
first_wide s Out = length-replicate (length (nets_of s Out)) Zero
first_wide s (Master i) = length-replicate (length (nets_of s (Master i))) Zero
first_wide s (Slave i) = length-map (members s i) (value_at s.initial) ∙ sym (length-map (members s i) (λ r. get_or (register_nets s.circuit) r 0))

the_first_wide : (s : Split) (n : Node) (place : ℕ) → length (the_first s n place) ≡ length (nets_of s n)
the_first_wide s n place =
    elim (cases_eq place 0) [
      | inl e ↦ ap length (test_same place 0 (first_row s n) (zeros s n) e) ∙ first_wide s n
      | inr ne ↦ ap length (test_other place 0 (first_row s n) (zeros s n) ne) ∙ length-replicate (length (nets_of s n)) Zero
    ]

none_counted : (counts : List ℕ) (n v : ℕ) → counts ≡ replicate n 0 → get_or counts v 0 ≡ 0
none_counted counts n v is =
    elim (cases_lt v n) [
      | inl inside ↦ ap (λ (cs : List ℕ). get_or cs v 0) is ∙ get_or-replicate n v 0 0 inside
      | inr past ↦ get_or_past counts v 0 (let long : length counts ≡ n = ap length is ∙ length-replicate n 0 in omega arith)
    ]

module _ (planned : Planned) (vectors : Rows) (counts : List ℕ) (kept : Kept) (range : IsInRange planned.split.circuit) (plan : IsPlan planned.split planned.graph) (few : length planned.graph.events < 2 ^ 32) (are : AreVectors vectors) (width : vectors.width ≡ length (columns planned.split.circuit)) (counts_are : counts ≡ replicate (length planned.graph.events) 0) (rows : AreFirstRows planned.split kept.rows.items) (limit : ℕ) (limit_is : limit ≡ length vectors.rows) (stored : AreEmpty planned.split limit kept.stored.items) where
  abbrev S : Split
  S = planned.split

  none : (v : ℕ) → get_or counts v 0 ≡ 0
  none v = none_counted counts (length planned.graph.events) v counts_are

  values_none : (n : Node) → IsNode S n → get_or (values_of kept.stored.items) (number_of n) [] ≡ []
  values_none n is_node =
      let below : number_of n < length kept.stored.items = (let low : number_of n < nodes S = number_below S n is_node in let long : length kept.stored.items ≡ nodes S = stored.one_each in omega arith) in
      let empty : Stored = record { values = []; room = 0 } in
      get_or-map (λ (h : Stored). h.values) kept.stored.items (number_of n) empty [] below ∙ stored.none (number_of n) empty below

  pub shows_first : Shows (snapshot_seen planned vectors counts kept) (first_state planned.split)
  shows_first = record {
    counts = λ v. sym (none v);
    rows = λ n is_node place low. sym (rows.each n is_node place low);
    stored = λ n is_node. sym (values_none n is_node);
    many = λ n is_node. sym (none (closing n));
  }

  pub first_is : IsFirst planned vectors.rows (snapshot_seen planned vectors counts kept)
  first_is = record { planned_is = refl; vectors_are = refl; shows = shows_first }

  pub first_reached : IsReached (snapshot_seen planned vectors counts kept)
  first_reached = ([], tt, (first_state planned.split, refl, shows_first))

  pub first_sound : IsSnapshotSound (snapshot_seen planned vectors counts kept)
  first_sound = record {
    in_range = range;
    plan = plan;
    vectors = λ k d inside. are.one_width k d inside ∙ width;
    few = few;
    counts = ap length counts_are ∙ length-replicate (length planned.graph.events) 0;
    rows = rows.one_each;
    widths = λ n is_node place low. ap length (rows.each n is_node place low) ∙ the_first_wide S n place;
    stored = length-map kept.stored.items (λ (h : Stored). h.values) ∙ stored.one_each;
    lengths = λ n is_node.
        ap length (values_none n is_node)
        ∙ (sym (zero-mul (length (nets_of S n))) ∙ ap (λ (k : ℕ). k * length (nets_of S n)) (sym (none (closing n))));
  }

  pub first_room : HaveRoom (snapshot_seen planned vectors counts kept) kept
  first_room n is_node =
      let below : number_of n < length kept.stored.items = (let low : number_of n < nodes S = number_below S n is_node in let long : length kept.stored.items ≡ nodes S = stored.one_each in omega arith) in
      let empty : Stored = record { values = []; room = 0 } in
      let room : get_or (rooms_of kept.stored.items) (number_of n) 0 ≡ limit * length (nets_of S n) = get_or-map (λ (h : Stored). h.room) kept.stored.items (number_of n) empty 0 below ∙ stored.room n is_node empty in
      let same : limit * length (nets_of S n) ≡ length vectors.rows * length (nets_of S n) = ap (λ (k : ℕ). k * length (nets_of S n)) limit_is in
      omega arith

pub plan_events : (s : Split) (g : Graph) → IsPlan s g → 2 * nodes s ≤ length g.events
plan_events s g plan =
    let long : length (split_events s) ≡ 2 * nodes s = events_long s in
    let events_are : length g.events ≡ length (split_events s) + length plan.extra = ap length plan.events ∙ length-append (split_events s) plan.extra in
    omega arith

-- the stored rows of the first nodes, which have stored nothing yet
pub record AreEmptyBelow (limit i : ℕ) (bits : List (List ℕ)) (stored : List Stored) : Type 0 where
  pub one_each : length stored ≡ i
  pub none : All (λ h. h.values ≡ []) stored
  pub room : (j : ℕ) (d : Stored) (e : List ℕ) → j < i → (get_or stored j d).room ≡ limit * length (get_or bits j e)

pub none_empty : (limit : ℕ) (bits : List (List ℕ)) (stored : List Stored) → stored ≡ [] → AreEmptyBelow limit 0 bits stored
none_empty limit bits stored is = record {
  one_each = ap (λ (hs : List Stored). length hs) is;
  none = subst (λ (hs : List Stored). All (λ h. h.values ≡ []) hs) (sym is) (λ k d lt. absurd (omega arith));
  room = λ j d e lt. absurd (omega arith);
}

-- the stored rows of one node more
pub more_empty : (limit i : ℕ) (bits : List (List ℕ)) (stored stored' : List Stored) (h : Stored) (nets d' : List ℕ)
    → AreEmptyBelow limit i bits stored → stored' ≡ stored ++ h ∷ [] → h ≡ record { values = []; room = limit * length nets }
    → nets ≡ get_or bits i d' → i < length bits → AreEmptyBelow limit (i + 1) bits stored'
more_empty limit i bits stored stored' h nets d' before is h_is nets_are inside =
    let all : All (λ x. x.values ≡ []) (stored ++ h ∷ []) =
    All-push (λ (x : Stored). x.values ≡ []) stored h before.none (ap (λ (x : Stored). x.values) h_is) in
    record {
      one_each = ap (λ (hs : List Stored). length hs) is ∙ (length_push stored h ∙ ap (λ (n : ℕ). n + 1) before.one_each);
      none = subst (λ (hs : List Stored). All (λ x. x.values ≡ []) hs) (sym is) all;
      room = λ j d e lt. ap (λ (hs : List Stored). (get_or hs j d).room) is ∙ elim (cases_eq j i) [
        | inl same ↦
            ap (λ (x : Stored). x.room) (get_or_push stored h d j (before.one_each ∙ sym same))
            ∙ (ap (λ (x : Stored). x.room) h_is
            ∙ ap (λ (ns : List ℕ). limit * length ns)
            (nets_are ∙ (get_or_default bits i d' e inside ∙ ap (λ (k : ℕ). get_or bits k e) (sym same))))
        | inr ne ↦
            ap (λ (x : Stored). x.room) (get_or_append_left stored (h ∷ []) d j (let low : j < length stored = omega (arith, before.one_each) in low))
            ∙ before.room j d e (omega arith)
      ];
    }

-- the stored rows of all nodes
pub all_empty : (s : Split) (limit i : ℕ) (bits : List (List ℕ)) (stored : List Stored) → AreEmptyBelow limit i bits stored
    → i ≡ length bits → length bits ≡ nodes s → ((n : Node) → IsNode s n → get_or bits (number_of n) [] ≡ nets_of s n)
    → AreEmpty s limit stored
all_empty s limit i bits stored all end one_each nets = record {
  one_each = all.one_each ∙ (end ∙ one_each);
  none = all.none;
  room = λ n is_node d.
      (let low : number_of n < nodes s = number_below s n is_node in
      all.room (number_of n) d [] (omega arith) ∙ ap (λ (ns : List ℕ). limit * length ns) (nets n is_node));
}
