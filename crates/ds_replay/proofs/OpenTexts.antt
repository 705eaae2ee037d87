-- The text of a state with the lines of what its open latches show.
use Rattle.std.proofs.Common.{◌≡◌, ◌∙◌, ℕ, ◌+◌, ◌*◌, ◌<◌, ◌==◌, if◌then◌else◌, Bool, true, false, List, [], ◌∷◌, ◌++◌, length, get_or, replicate, refl, arith, ap, ap₂, sym, subst, inl, inr}
use Rattle.std.proofs.lemmas.Bool.{cases_eq}
use Rattle.std.proofs.lemmas.List.{append-nil, get_or_append_left, get_or_push, length-replicate}
use Rattle.ds_base.specs.Values.{Row}
use Rattle.ds_marked.specs.Graph.{IsLegal}
use Rattle.ds_base.specs.declared.value.Value.TheVariants.{Zero}
use Rattle.ds_latch.specs.Node.{IsNode, Split, opening, closing, nets_of, nodes, number_of}
use Rattle.ds_latch.specs.declared.node.Node.{Node}
use Rattle.ds_latch.specs.declared.node.Node.TheVariants.{In, Out, Master, Slave}
use Rattle.ds_latch.specs.Plan.{Planned}
use Rattle.ds_fire.specs.Snapshot.{Snapshot, count_of, graph_of, held_row, is_open, limit_of, split_of}
use Rattle.ds_fire.specs.Fired.{IsAfter, IsReached, IsSnapshotSound}
use Rattle.ds_latch.proofs.Spelt.{range_agree}
use Rattle.ds_fire.proofs.RowsAfterOpening.{bits_are}
use Rattle.ds_fire.proofs.OpenNodesHold.{held_is_shown}
use Rattle.ds_rows.specs.Homes.{AreHomes}
use Rattle.ds_rows.specs.Log.{open_text}
use Rattle.ds_rows.specs.StateText.{IsStateText}
use Rattle.ds_rows.specs.declared.homes.Home.{Home}
use Rattle.ds_replay.specs.OpenLines.{AreShown, IsShownAt, open_line_of, open_lines, open_pair}
use Rattle.ds_replay.specs.ReplayText.{IsOpenText, IsReplayText}
use Rattle.ds_replay.specs.Kept.{IsKeptText, open_part, state_text}
use Rattle.ds_replay.proofs.StoredRegisters.{text_of_kept}

-- no row
pub none_shown : (kept : Snapshot) (rows : List Row) → rows ≡ []
    → (length rows ≡ 0) × ((j : ℕ) → j < 0 → IsShownAt kept j (get_or rows j []))
none_shown kept rows is = (ap (λ (rs : List Row). length rs) is, λ j below. absurd (omega arith))

-- a row of as many values as the node with a number has nets
pub row_wide : (kept : Snapshot) (s : Split) (bits : List (List ℕ)) (number node : ℕ) (bit nets : List ℕ) (row : Row)
    → split_of kept ≡ s → row ≡ replicate (length nets) Zero → nets ≡ bit → number < length bits → bit ≡ get_or bits number bit
    → ((n : Node) → IsNode s n → get_or bits (number_of n) [] ≡ nets_of s n) → node ≡ number
    → (n : Node) → IsNode (split_of kept) n → number_of n ≡ node → length row ≡ length (nets_of (split_of kept) n)
row_wide kept s bits number node bit nets row split row_is nets_are inside is lent node_is =
    subst (λ (t : Split). (n : Node) → IsNode t n → number_of n ≡ node → length row ≡ length (nets_of t n)) (sym split)
    (λ n is_node e.
    ap (λ (r : Row). length r) row_is
    ∙ (length-replicate (length nets) Zero
    ∙ ap (λ (ns : List ℕ). length ns) (nets_are ∙ bits_are s bits number bit inside is lent n is_node (e ∙ node_is))))

-- the rows of all nodes
pub all_shown : (kept : Snapshot) (s : Split) (rows : List Row) (number count : ℕ) → split_of kept ≡ s → length rows ≡ number
    → ((j : ℕ) → j < number → IsShownAt kept j (get_or rows j [])) → number ≡ count → count ≡ nodes s → AreShown kept rows
all_shown kept s rows number count split long shown end one_each = record {
  one_each = long ∙ (end ∙ (one_each ∙ ap nodes (sym split)));
  each = λ k below. shown k (subst (λ (n : ℕ). k < n) long below);
}

-- a node with this number
pub node_there : (kept : Snapshot) (s : Split) (node number count : ℕ) → split_of kept ≡ s → node ≡ number → number < count
    → count ≡ nodes s → node < nodes (split_of kept)
node_there kept s node number count split node_is inside one_each =
    subst (λ (t : Split). node < nodes t) (sym split) (omega (arith, node_is, inside, one_each))

-- one row more
pub shown_more : (kept : Snapshot) (rows : List Row) (k : ℕ) (row : Row) → length rows ≡ k
    → ((j : ℕ) → j < k → IsShownAt kept j (get_or rows j [])) → IsShownAt kept k row
    → (j : ℕ) → j < k + 1 → IsShownAt kept j (get_or (rows ++ row ∷ []) j [])
shown_more kept rows k row long before here j below =
    elim (cases_eq j k) [
      | inl e ↦
          subst (λ (r : Row). IsShownAt kept j r) (sym (get_or_push rows row [] j (long ∙ sym e)))
          (subst (λ (n : ℕ). IsShownAt kept n row) (sym e) here)
      | inr ne ↦
          subst (λ (r : Row). IsShownAt kept j r) (sym (get_or_append_left rows (row ∷ []) [] j (omega arith)))
          (before j (omega arith))
    ]

-- counts that are the same open the same nodes
module _ (one other : ℕ → ℕ) (same : (v : ℕ) → one v ≡ other v) (shown : Node → Row) where
  line_agrees : (n : Node) → open_line_of one shown n ≡ open_line_of other shown n
  line_agrees n =
      ap₂ (λ (a b : ℕ). if a == b + 1 then open_text n (shown n) else []) (same (opening n)) (same (closing n))

  pub lines_agree : (clusters : ℕ) → open_lines one shown clusters ≡ open_lines other shown clusters
  lines_agree clusters =
      ap₂ (λ (a b : List ℕ). a ++ b) (ap₂ (λ (a b : List ℕ). a ++ b) (line_agrees In) (line_agrees Out))
      (range_agree (open_pair one shown) (open_pair other shown) 0 clusters
      (λ i below. ap₂ (λ (a b : List ℕ). a ++ b) (line_agrees (Master i)) (line_agrees (Slave i))))

-- a closed node has no line
pub closed_line : (kept : Snapshot) (n : Node) → is_open kept n ≡ false → open_line_of (count_of kept) (held_row kept) n ≡ []
closed_line kept n is = ap (λ (test : Bool). if test then open_text n (held_row kept n) else []) is

-- an open one has the line of what it holds
pub open_line_is : (kept : Snapshot) (n : Node) (row : Row) → is_open kept n ≡ true → row ≡ held_row kept n
    → open_text n row ≡ open_line_of (count_of kept) (held_row kept) n
open_line_is kept n row is same =
    ap (open_text n) same ∙ sym (ap (λ (test : Bool). if test then open_text n (held_row kept n) else []) is)

-- behind the text of the state that is kept, the lines of its open nodes
open_of_kept : (kept : Snapshot) (events : List ℕ) (homes : List Home) (fired most : ℕ)
    → IsLegal (graph_of kept) (limit_of kept) events → IsAfter kept events → IsSnapshotSound kept → AreHomes (split_of kept) homes
    → fired ≡ length events → most ≡ length (graph_of kept).events * limit_of kept → IsReached kept → (split_of kept).slack ≡ 0
    → IsOpenText kept.planned kept.vectors events (state_text kept homes fired most ++ open_lines (count_of kept) (held_row kept) (length (split_of kept).clusters))
unfolding text_of_kept
open_of_kept kept events homes fired most legal (now, all, shows) sound are many each reached none = record {
  stored = state_text kept homes fired most;
  is_stored = text_of_kept kept events homes fired most legal (now, all, shows) sound are many each;
  shown = held_row kept;
  showing = (held_is_shown kept sound reached none now shows).0;
  spelt = ap (λ (lines : List ℕ). state_text kept homes fired most ++ lines)
      (sym (lines_agree now.count (count_of kept) shows.counts (held_row kept) (length (split_of kept).clusters)));
}

-- where they are wanted, they are all of the part, and else nothing is
pub part_wanted : (transparent : Bool) (kept : Snapshot) → transparent ≡ true
    → open_part transparent kept ≡ open_lines (count_of kept) (held_row kept) (length (split_of kept).clusters)
part_wanted transparent kept is =
    ap (λ (test : Bool). if test then open_lines (count_of kept) (held_row kept) (length (split_of kept).clusters) else []) is

pub part_unwanted : (transparent : Bool) (kept : Snapshot) → transparent ≡ false → open_part transparent kept ≡ []
part_unwanted transparent kept is =
    ap (λ (test : Bool). if test then open_lines (count_of kept) (held_row kept) (length (split_of kept).clusters) else []) is

-- with or without them
replay_of_kept : (transparent : Bool) (kept : Snapshot) (events : List ℕ) (homes : List Home) (fired most : ℕ)
    → IsLegal (graph_of kept) (limit_of kept) events → IsAfter kept events → IsSnapshotSound kept → AreHomes (split_of kept) homes
    → fired ≡ length events → most ≡ length (graph_of kept).events * limit_of kept → IsReached kept
    → (transparent ≡ true → (split_of kept).slack ≡ 0)
    → IsReplayText transparent kept.planned kept.vectors events (state_text kept homes fired most ++ open_part transparent kept)
replay_of_kept true kept events homes fired most legal after sound are many each reached none =
    open_of_kept kept events homes fired most legal after sound are many each reached (none refl)
replay_of_kept false kept events homes fired most legal after sound are many each reached none =
    subst (λ (text : List ℕ). IsStateText kept.planned kept.vectors events text) (sym (append-nil (state_text kept homes fired most)))
    (text_of_kept kept events homes fired most legal after sound are many each)

-- so whatever log led to it
pub text_is : (transparent : Bool) (kept : Snapshot) (s : Split) (homes : List Home) (fired most : ℕ) → split_of kept ≡ s
    → (transparent ≡ true → (split_of kept).slack ≡ 0) → AreHomes s homes → most ≡ length (graph_of kept).events * limit_of kept
    → IsKeptText transparent kept fired (state_text kept homes fired most ++ open_part transparent kept)
text_is transparent kept s homes fired most split none are each = record {
  is = λ planned vectors events after.
      let text : List ℕ = state_text kept homes fired most ++ open_part transparent kept in
      let plan : kept.planned ≡ planned = after.state.planned_is in
      let rows : kept.vectors ≡ vectors = after.state.vectors_are in
      let legal : IsLegal (graph_of kept) (limit_of kept) events =
      subst (λ (p : Planned). IsLegal p.graph (limit_of kept) events) (sym plan)
      (subst (λ (vs : List Row). IsLegal planned.graph (length vs) events) (sym rows) after.state.legal) in
      let homes_are : AreHomes (split_of kept) homes = subst (λ (t : Split). AreHomes t homes) (sym split) are in
      subst (λ (p : Planned). IsReplayText transparent p vectors events (state_text kept homes fired most ++ open_part transparent kept)) plan
      (subst (λ (vs : List Row). IsReplayText transparent kept.planned vs events (state_text kept homes fired most ++ open_part transparent kept)) rows
      (replay_of_kept transparent kept events homes fired most legal after.state.after after.state.sound homes_are after.count each after.state.reached none));
}
