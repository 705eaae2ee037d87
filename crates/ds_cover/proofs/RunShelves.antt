-- The tables of a run of one kind, in the shelf of their size.
use Rattle.std.proofs.Common.{◌≡◌, ℕ, ◌<◌, ◌≤◌, ◌∙◌, List, length, subst}
use Rattle.std.specs.Prelude.{All}
use Rattle.ds_base.specs.Values.{Row}
use Rattle.ds_cover.specs.Bank.{AreNetsWithin, Driven}
use Rattle.ds_cover.specs.Small.{IsSmallWithin, Shelved, after_smalls, after_worded, part_of}
use Rattle.ds_cover.specs.Series.{FindsKnown, IsOfWidth, IsRunOfTables, after_each, in_table_order, own_tables, shelf_at, size_of_kind}
use Rattle.ds_cover.specs.declared.run.TableKind.{TableKind}
use Rattle.ds_cover.specs.declared.run.Run.{Run}
use Rattle.ds_cover.proofs.TablesByRun.{order_within, part_after, part_within, worded_after}

module _ (bank : List Driven) (order : List ℕ) (shelves : List Shelved) (run : Run) (nets : Row) (is : IsRunOfTables shelves (in_table_order bank order) run) (kind : TableKind) (kind_is : run.kind ≡ kind) where
  abbrev tables : List Driven
  tables = in_table_order bank order

  abbrev shelf : Shelved
  shelf = shelf_at shelves (size_of_kind kind)

  here : IsOfWidth (shelf_at shelves (size_of_kind kind)) tables run (size_of_kind kind)
  here = subst (λ (k : TableKind). IsOfWidth (shelf_at shelves (size_of_kind k)) tables run (size_of_kind k)) kind_is is.kind

  pub shelf_within : size_of_kind kind ≤ 6 → All (λ k. k < length bank) order → All (λ t. AreNetsWithin t nets) bank → All (λ s. IsSmallWithin s nets) (part_of run.first run.end shelf.smalls)
  shelf_within six places within = part_within shelf.smalls tables run nets (here.small six) (order_within bank order nets places within)

  pub shelf_after : size_of_kind kind ≤ 6 → FindsKnown (own_tables tables run) nets → (nets' : Row) → nets' ≡ after_smalls (part_of run.first run.end shelf.smalls) nets → nets' ≡ after_each (own_tables tables run) nets
  shelf_after six known nets' set = set ∙ part_after shelf.smalls tables run nets (here.small six) known

  pub shelf_worded : size_of_kind kind ≤ 3 → (nets' : Row) → nets' ≡ after_worded (part_of run.first run.end shelf.worded) nets → nets' ≡ after_each (own_tables tables run) nets
  shelf_worded few nets' set = set ∙ worded_after (part_of run.first run.end shelf.worded) (own_tables tables run) nets (here.worded few).stands
