-- The stage of groups: what their text gives the file gives, and groups that are read are not
-- refused.
use Rattle.std.proofs.Common.{◌≡◌, ◌≢◌, List, [], Option, None, Some, ℕ, refl, sym, ◌∙◌}
use Rattle.ds_outside.specs.Held.{Held, FrontIsHeld, untold}
use Rattle.ds_outside.specs.declared.files.Which.TheVariants as which
use Rattle.ds_design.specs.Circuit.{Circuit}
use Rattle.ds_groups.specs.Names.{register_names}
use Rattle.ds_groups.specs.Read.{groups_of}
use Rattle.ds_stage.specs.Ends.{Never}
use Rattle.ds_stage.specs.GroupsStage.{group_text, grouped_stage, groups_stage, named_groups_stage}
use Rattle.ds_stage.specs.Stage.{OfFile, IsExclusive, then_stage}
use Rattle.ds_stage.specs.Stages.{lines_stage, read_or_line, text_stage}
use Rattle.ds_stage.proofs.ExclusiveStages.{lines_exclusive, result_exclusive, then_exclusive}
use Rattle.ds_stage.proofs.Stages.{IsWider, read_means, read_refused, wider_first}

module _ (held : List ℕ → Held) (file : List ℕ) (c : Circuit) where
  -- the groups of a text that was read are those of the file
  pub groups_wider : (text : List ℕ) (more : OfFile) → FrontIsHeld (held file) 16777217 text
      → IsWider (then_stage (text_stage file text) (grouped_stage file c)) (named_groups_stage held file c) Never more
  groups_wider text more front =
      wider_first (text_stage file text) (lines_stage held which.Groups file) (grouped_stage file c) Never more
      (record {
        means = read_means (held file) file text front;
        refused = read_refused (held file) file text front;
        unread = λ line none. absurd none;
      })
      (λ lines. record {
        means = λ a is. is;
        refused = λ line is. is;
        unread = λ line none. absurd none;
      })

-- a file that tells what it holds gives one list of groups, and is then not refused
pub groups_exclusive : (held : List ℕ → Held) (groups : Option (List ℕ)) → ((file : List ℕ) → groups ≡ Some file → held file ≢ untold) → (c : Circuit)
    → IsExclusive (groups_stage held groups c)
groups_exclusive held None told c = record {
  one = λ a b is also. is ∙ sym also;
  not_refused = λ a line is none. none;
}
groups_exclusive held (Some file) told c =
    then_exclusive (lines_stage held which.Groups file) (grouped_stage file c) (lines_exclusive held which.Groups file (told file refl))
    (λ lines. result_exclusive (read_or_line file group_text (groups_of (register_names c) lines)))
