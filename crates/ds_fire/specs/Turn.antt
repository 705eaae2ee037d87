-- What one firing leaves of the rows and of what is stored.
use Rattle.std.specs.Prelude.{◌≡◌, ℕ, ◌+◌, ◌*◌, ◌<◌, ◌≤◌, List, [], ◌++◌, length, map}
use Rattle.std.specs.Prelude.{slice_index_or, slice_set, ◌==◌, if◌then◌else◌}
use Rattle.ds_base.specs.Values.{Row}
use Rattle.ds_base.specs.declared.value.Value.{Value}
use Rattle.ds_cover.specs.Cover.{value_at, values_at}
use Rattle.ds_latch.specs.Node.{Split, IsNode, number_of, nodes, nets_of, opening, closing}
use Rattle.ds_latch.specs.declared.node.Node.{Node}
use Rattle.ds_latch.specs.Node.{extra_event, place_of}
use Rattle.ds_latch.specs.Firing.{State, IsSettled, Takes, read_rows}
use Rattle.ds_fire.specs.Snapshot.{row_index, rows_of}
use Rattle.ds_fire.specs.StoredRows.{Stored}
use Rattle.ds_fire.specs.Feeds.{home_of}
use Rattle.ds_fire.specs.declared.homes.NetHome.{NetHome}
use Rattle.ds_fire.specs.declared.kept.Kept.{Kept}
use Rattle.ds_fire.specs.declared.row_places.RowPlaces.{RowPlaces}

-- a state that has these rows
abbrev pub state_with : Split → List Row → State
state_with s rows = record { count = λ _. 0; rows = rows_of s rows; stored = λ _. [] }

-- there is a row of its node's width for each place
pub record AreRows (s : Split) (rows : List Row) : Type 0 where
  pub one_each : length rows ≡ nodes s * (s.slack + 1)
  pub widths : (n : Node) → IsNode s n → (place : ℕ) → place ≤ s.slack
      → length (rows_of s rows n place) ≡ length (nets_of s n)

-- places are below how many there are
pub record AreLow (places : RowPlaces) : Type 0 where
  pub each : places.each ≤ 16
  pub same : places.same < places.each
  pub next : places.next < places.each

-- how many places a node has, the place of an opening and that of the one after it
pub record AreTurnPlaces (s : Split) (opened : ℕ) (places : RowPlaces) : Type 0 where
  pub low : AreLow places
  pub each : places.each ≡ s.slack + 1
  pub same : places.same ≡ place_of s opened
  pub next : places.next ≡ place_of s (opened + 1)

-- where the row of a home is kept: of IN at the next place, of the others at the same one
abbrev pub home_index : RowPlaces → NetHome → ℕ
home_index places home = if home.node == 0 then places.next else home.node * places.each +
    places.same

-- the value at a home
abbrev pub home_value : RowPlaces → List Row → NetHome → Value
home_value places rows home = value_at (slice_index_or rows (home_index places home) []) home.bit

-- a home has a row, and a value in it
pub record IsThere (places : RowPlaces) (rows : List Row) (home : NetHome) : Type 0 where
  pub row : home_index places home < length rows
  pub bit : home.bit < length (slice_index_or rows (home_index places home) [])

-- a net has the value at its home
abbrev pub IsLoaded : RowPlaces → List Row → List NetHome → Row → ℕ → Type 0
IsLoaded places rows homes nets net = value_at nets net ≡ home_value places rows (home_of homes net)

-- on these nets, a node that has opened so often has what settles for what its producers keep
abbrev pub IsSettledOn : Split → List Row → ℕ → Node → Row → Type 0
IsSettledOn s rows opened n nets =
    IsSettled s (read_rows s (state_with s rows) opened) n (values_at nets (nets_of s n))

-- a node that has opened so often has taken its row, at its next place
pub record IsOpened (s : Split) (vectors : List Row) (opened : ℕ) (n : Node)
    (old new : List Row) : Type 0 where
  pub row : Row
  pub takes : Takes s vectors (state_with s old) opened n row
  pub width : length row ≡ length (nets_of s n)
  pub puts : new ≡ slice_set old (row_index s (number_of n) (place_of s (opened + 1))) row

-- the node with this number has opened so
abbrev pub Opens : Split → List Row → ℕ → ℕ → List Row → List Row → Type 0
Opens s vectors opened number old new =
    (n : Node) → IsNode s n → number_of n ≡ number → IsOpened s vectors opened n old new

-- what the nodes have stored
abbrev pub values_of : List Stored → List Row
values_of stored = map (λ h. h.values) stored

-- for how much each has room
abbrev pub rooms_of : List Stored → List ℕ
rooms_of stored = map (λ h. h.room) stored

-- a node that has closed so often has stored the row of its next opening behind the others
pub record IsClosed (s : Split) (closed : ℕ) (n : Node) (rows : List Row)
    (old new : List Stored) : Type 0 where
  pub values : values_of new ≡ slice_set (values_of old) (number_of n)
      (slice_index_or (values_of old) (number_of n) []
      ++ rows_of s rows n (place_of s (closed + 1)))
  pub rooms : rooms_of new ≡ rooms_of old

-- the node with this number has stored so
abbrev pub Closes : Split → ℕ → ℕ → List Row → List Stored → List Stored → Type 0
Closes s closed number rows old new =
    (n : Node) → IsNode s n → number_of n ≡ number → IsClosed s closed n rows old new

-- a node has room for one row more
abbrev pub HasRowRoom : Split → Node → List Stored → Type 0
HasRowRoom s n stored = (d : Stored)
    → length (slice_index_or stored (number_of n) d).values + length (nets_of s n) ≤
    (slice_index_or stored (number_of n) d).room

-- what is left of a firing of an event that has fired so often
pub record IsTurned (s : Split) (vectors : List Row) (v count : ℕ) (old new : Kept) : Type 0 where
  pub nets : length new.nets ≡ length old.nets
  pub opens : (n : Node) → IsNode s n → opening n ≡ v
      → IsOpened s vectors count n old.rows.items new.rows.items
      × (new.stored.items ≡ old.stored.items)
  pub closes : (n : Node) → IsNode s n → closing n ≡ v
      → (new.rows.items ≡ old.rows.items)
      × IsClosed s count n old.rows.items old.stored.items new.stored.items
  pub passes : (e : ℕ) → extra_event s e ≡ v
      → (new.rows.items ≡ old.rows.items) × (new.stored.items ≡ old.stored.items)
