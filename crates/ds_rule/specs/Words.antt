-- The words of the table: the next ticket, the firings of each node, and the value words.
-- The steps of the rule use these definitions by their laws alone (proofs/PlaceLaws).
use Rattle.std.specs.Prelude.{ℕ, ◌+◌, ◌*◌, ◌%◌, List, [], ◌∷◌, map, zero, suc, slice_index}
use Rattle.std.specs.Prelude.{slice_index_or}
use Rattle.ds_base.specs.Values.{Row}
use Rattle.ds_base.specs.Word.{word_of, count_of_words}
use Rattle.ds_rule.specs.Run.{Run}

-- how many value words a row of each node has
abbrev pub widths : Run → List ℕ
widths run = map count_of_words run.lengths

-- how many value words a row of the node has
unfoldable pub width : Run → ℕ → ℕ
width run l = slice_index (widths run) l

-- the value words of the nodes below l, with n places of each node
abbrev pub before : ℕ → List ℕ → ℕ → ℕ
before n ws zero = 0
before n [] (suc l) = 0
before n (w ∷ ws) (suc l) = n * w + before n ws l

-- how many words the table has
unfoldable pub size : Run → ℕ
size run = 1 + run.nodes + before (run.slack + 1) (widths run) run.nodes

-- where word i of a node's opening number k stands
unfoldable pub place : Run → ℕ → ℕ → ℕ → ℕ
place run l k i =
    1 + run.nodes
    + (before (run.slack + 1) (widths run) l +
    (k % (run.slack + 1) * slice_index (widths run) l + i))

-- value number k of a node: its values, one a place
abbrev pub node_values : Run → ℕ → ℕ → Row
node_values run l k = slice_index_or run.rows (k * run.nodes + l) []

-- word i of value number k of a node; no step looks inside
unfoldable pub value : Run → ℕ → ℕ → ℕ → ℕ
value run l k i = word_of (node_values run l k) i
