-- The words of the table before anything has fired.
use Rattle.std.specs.Prelude.{◌≡◌, ℕ, ◌<◌, ◌≤◌, List, length, slice_index}
use Rattle.ds_rule.specs.Run.{Run}
use Rattle.ds_rule.specs.Words.{width, place, value}

-- the words of the first n nodes are laid, and where they begin is noted
pub record LaidBelow (run : Run) (n : ℕ) (words starts : List ℕ) : Type 0 where
  pub words_long : length words ≡ place run n 0 0
  pub zeros : (x : ℕ) → x ≤ run.nodes → slice_index words x ≡ 0
  pub firsts : (l i : ℕ) → l < n → i < width run l
      → slice_index words (place run l 0 i) ≡ value run l 0 i
  pub starts_long : length starts ≡ n
  pub started : (l : ℕ) → l < n → slice_index starts l ≡ place run l 0 0
