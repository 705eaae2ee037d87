-- Packed tables in the order in which they are set, small ones in shelves by size, and runs of
-- them.
use Rattle.std.specs.Prelude.{◌≡◌, ℕ, ◌+◌, ◌-◌, ◌<◌, ◌≤◌, Bool, true, List, [], ◌∷◌, ◌++◌, length}
use Rattle.std.specs.Prelude.{map, take, drop, slice_index_or, slice_set}
use Rattle.ds_base.specs.Values.{AreKnown, Row}
use Rattle.ds_cover.specs.Cover.{values_at}
use Rattle.ds_cover.specs.Packed.{packed_value}
use Rattle.ds_cover.specs.Bank.{Driven, driven_at}
use Rattle.ds_cover.specs.Ternary.{IsWordOf}
use Rattle.ds_cover.specs.Small.{IsShelved, IsWordShelved, Shelved, StandsFor, WordsFor, no_shelf}
use Rattle.ds_cover.specs.Small.{part_of}
use Rattle.ds_cover.specs.declared.entry.Quick.{Quick}
use Rattle.ds_cover.specs.declared.lists.Lists.{Lists}
use Rattle.ds_cover.specs.declared.mask.Mask.{Mask}
use Rattle.ds_cover.specs.declared.run.TableKind.{TableKind}
use Rattle.ds_cover.specs.declared.run.TableKind.TheVariants.{Twos, Threes, Fours, Fives}
use Rattle.ds_cover.specs.declared.run.TableKind.TheVariants.{Sixes, Others}
use Rattle.ds_cover.specs.declared.run.Run.{Run}

-- packed tables by their numbers, and the order in which they are set
pub record Ordered : Type 0 where
  pub tables : List Driven
  pub order : List ℕ

-- the tables in the order
abbrev pub in_table_order : List Driven → List ℕ → List Driven
in_table_order tables order = map (driven_at tables) order

-- the nets after tables are set one after another
abbrev pub after_each : List Driven → Row → Row
after_each [] nets = nets
after_each (table ∷ tables) nets =
    after_each tables (slice_set nets table.output (packed_value table.cover nets))

-- each table, when it is set, finds its inputs known
abbrev pub FindsKnown : List Driven → Row → Type 0
FindsKnown [] nets = Unit {0}
FindsKnown (table ∷ tables) nets =
    AreKnown (values_at nets table.cover.inputs)
    × FindsKnown tables (slice_set nets table.output (packed_value table.cover nets))

-- the shelves, from that of two inputs on
abbrev pub shelves_of : Lists → List Shelved
shelves_of lists =
    lists.twos ∷ lists.threes ∷ lists.fours ∷ lists.fives ∷ lists.sixes ∷ []

-- how many inputs the tables of a kind have; those of more than six have no shelf
abbrev pub size_of_kind : TableKind → ℕ
size_of_kind Twos = 2
size_of_kind Threes = 3
size_of_kind Fours = 4
size_of_kind Fives = 5
size_of_kind Sixes = 6
size_of_kind Others = 7

-- the shelf of tables of so many
abbrev pub shelf_at : List Shelved → ℕ → Shelved
shelf_at shelves width = slice_index_or shelves (width - 2) no_shelf

-- one for each table
abbrev pub AreFor : {S : Type 0} → (S → Driven → Type 0) → List S → List Driven → Type 0
AreFor IsFor [] [] = Unit {0}
AreFor IsFor [] (table ∷ tables) = length (table ∷ tables) ≡ 0
AreFor IsFor (item ∷ items) [] = length (item ∷ items) ≡ 0
AreFor IsFor (item ∷ items) (table ∷ tables) = IsFor item table × AreFor IsFor items tables

-- the tables of a run
abbrev pub own_tables : List Driven → Run → List Driven
own_tables tables run = take (run.end - run.first) (drop run.at tables)

-- a part of a list stands for the tables of a run
pub record StandsForRun {S : Type 0} (IsFor : S → Driven → Type 0) (items : List S)
    (tables : List Driven)
    (run : Run) : Type 0 where
  pub inside : run.end ≤ length items
  pub stands : AreFor IsFor (part_of run.first run.end items) (own_tables tables run)

-- tables of up to six inputs stand in the shelf of their size, others where their numbers say
pub record IsOfWidth (shelf : Shelved) (tables : List Driven) (run : Run) (width : ℕ) :
    Type 0 where
  pub small : width ≤ 6 → StandsForRun StandsFor shelf.smalls tables run
  pub worded : width ≤ 3 → StandsForRun WordsFor shelf.worded tables run
  pub other : 6 < width → run.first ≡ run.at

-- a run of these tables
pub record IsRunOfTables (shelves : List Shelved) (tables : List Driven) (run : Run) : Type 0 where
  pub low : run.first ≤ run.end
  pub fits : run.at + (run.end - run.first) ≤ length tables
  pub kind : IsOfWidth (shelf_at shelves (size_of_kind run.kind)) tables run (size_of_kind run.kind)

-- one after another they are all tables from a number on
abbrev pub AreRuns : List Shelved → List Driven → ℕ → List Run → Type 0
AreRuns shelves tables at [] = at ≡ length tables
AreRuns shelves tables at (run ∷ runs) = (run.at ≡ at) × IsRunOfTables shelves tables run
    × AreRuns shelves tables (at + (run.end - run.first)) runs

-- the numbers of the tables of a run
abbrev pub numbers_in : List ℕ → Run → List ℕ
numbers_in order run = take (run.end - run.first) (drop run.at order)

-- those of runs, one run after another
abbrev pub numbers_of : List ℕ → List Run → List ℕ
numbers_of order [] = []
numbers_of order (run ∷ runs) = numbers_in order run ++ numbers_of order runs

-- two runs that follow each other, as one
abbrev pub joined_runs : Run → Run → Run
joined_runs last run = record { kind = last.kind; at = last.at; first = last.first; end = run.end }

-- a run is added; it joins none of the first ones, so many
pub data IsRunAdded (others : ℕ) (before : List Run) (run : Run) (after : List Run) : Type 0 where
  alone : after ≡ before ++ run ∷ [] → IsRunAdded others before run after
  joins : (front : List Run) (last : Run) → before ≡ front ++ last ∷ [] → others ≤ length front
      → last.kind ≡ run.kind → last.end ≡ run.first
      → after ≡ front ++ joined_runs last run ∷ [] → IsRunAdded others before run after

-- what is a run of some tables stays one where more tables follow
abbrev pub StayRuns : List Shelved → List Shelved → Type 0
StayRuns old new = (tables more : List Driven) (run : Run) → IsRunOfTables old tables run
    → IsRunOfTables new (tables ++ more) run

-- the tables from a number on are added, in runs of their own
pub record AreAdded (old new : List Shelved) (tables : List Driven) (start : ℕ)
    (before after : List Run) :
    Type 0 where
  pub stay : StayRuns old new
  pub own : List Run
  pub behind : after ≡ before ++ own
  pub runs : AreRuns new tables start own

-- so many inputs make a table of a size: one makes one of two
abbrev pub FitsSize : ℕ → ℕ → Type 0
FitsSize width inputs = (inputs ≤ width) × (2 < width → inputs ≡ width)

-- a table is added to the shelf of its size
pub record IsAddedTo (quick : Quick) (masks : List Mask) (on : Bool) (inputs at : ℕ)
    (before after : List Shelved) (first width : ℕ) : Type 0 where
  pub few : width ≤ 6 → quick.few ≡ true
  pub fits : width ≤ 6 → FitsSize width inputs
  pub small : width ≤ 6
      → IsShelved quick width (shelf_at before width) (shelf_at after width) first
  pub worded : width ≤ 3 → (word : ℕ) × IsWordOf masks on word
      × IsWordShelved quick width word (shelf_at before width) (shelf_at after width) first
  pub other : 6 < width → first ≡ at
  pub rest : after ≡ slice_set before (width - 2) (shelf_at after width)

-- and this run of one table says where it stands
pub record IsSmallAdded (quick : Quick) (masks : List Mask) (on : Bool) (inputs at : ℕ)
    (before after : List Shelved) (run : Run) : Type 0 where
  pub at_is : run.at ≡ at
  pub one : run.end ≡ run.first + 1
  pub kind : IsAddedTo quick masks on inputs at before after run.first (size_of_kind run.kind)
