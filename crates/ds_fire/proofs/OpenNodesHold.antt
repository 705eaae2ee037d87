-- Without slack, what open nodes make of what the nodes hold is what they hold.
use Rattle.std.proofs.Common.{◌≡◌, ◌≢◌, ◌∙◌, ℕ, ◌+◌, ◌*◌, ◌%◌, ◌<◌, ◌≤◌, true, List, length, get_or, arith, ap, sym, subst, refl}
use Rattle.std.specs.Prelude.{◌↔◌}
use Rattle.std.proofs.lemmas.Bool.{eqb-true}
use Rattle.std.proofs.lemmas.List.{length-map}
use Rattle.ds_base.specs.Values.{Row}
use Rattle.ds_design.specs.Circuit.{data_nets, register_nets}
use Rattle.ds_design.specs.Run.{row_at}
use Rattle.ds_design.proofs.ClockedRuns.{some_run}
use Rattle.ds_marked.specs.Graph.{IsLegal}
use Rattle.ds_latch.specs.Node.{Split, IsNode, number_of, nodes, opening, closing, place_of, members}
use Rattle.ds_latch.specs.declared.node.Node.{Node}
use Rattle.ds_latch.specs.declared.node.Node.TheVariants.{In, Out, Master, Slave}
use Rattle.ds_latch.specs.Firing.{State, first_state, FiresAll, IsSettled, held, opening_read}
use Rattle.ds_latch.specs.Transparent.{IsOpen, IsShowing, Makes}
use Rattle.ds_latch.proofs.OrderTokens.{accepted_controls}
use Rattle.ds_latch.proofs.Flow.{one_row_taken, settled_where}
use Rattle.ds_latch.proofs.TransparentLatches.{transparent_latches}
use Rattle.ds_split.specs.Settled.{IsSettling}
use Rattle.ds_split.specs.Taken.{TakesFrom, showing}
use Rattle.ds_fire.specs.Snapshot.{Snapshot, Shows, split_of, graph_of, limit_of, count_of, held_row, is_open, rows_of, width_of}
use Rattle.ds_fire.specs.Fired.{IsReached, IsSnapshotSound}
use Rattle.ds_fire.proofs.Settles.{place_low, read}
use Rattle.ds_fire.proofs.Turning.{count_low, events_enough}

-- a state that is shown holds what is kept
pub held_same : (kept : Snapshot) (now : State) → Shows kept now → (n : Node) → IsNode (split_of kept) n → held (split_of kept) now n ≡ held_row kept n
held_same kept now shows n is_node =
    ap (λ (k : ℕ). now.rows n (place_of (split_of kept) k)) (shows.counts (opening n))
    ∙ shows.rows n is_node (place_of (split_of kept) (count_of kept (opening n))) (place_low (split_of kept) (count_of kept (opening n)))

-- whether a node is open in what is kept, and in each state that is shown
pub open_shown : (kept : Snapshot) (now : State) → Shows kept now → (n : Node) → is_open kept n ≡ true → IsOpen now n
open_shown kept now shows n is =
    shows.counts (opening n)
    ∙ (eqb-true (count_of kept (opening n)) (count_of kept (closing n) + 1) is
    ∙ ap (λ (k : ℕ). k + 1) (sym (shows.counts (closing n))))

-- states with the same counts, of nodes that show the same, make the same
makes_same : (s : Split) (vectors : List Row) (now now' : State) → ((v : ℕ) → now.count v ≡ now'.count v) → (shown shown' : Node → Row) → ((p : Node) → IsNode s p → shown p ≡ shown' p)
    → (n : Node) → IsNode s n → (row : Row) → Makes s vectors now shown n row → Makes s vectors now' shown' n row
makes_same s vectors now now' counts shown shown' same In is_node row is = is ∙ ap (row_at vectors) (counts (closing In))
makes_same s vectors now now' counts shown shown' same Out is_node row is = settled_where s Out shown shown' (λ p is_p edge. same p is_p) row is
makes_same s vectors now now' counts shown shown' same (Master i) is_node row is = settled_where s (Master i) shown shown' (λ p is_p edge. same p is_p) row is
makes_same s vectors now now' counts shown shown' same (Slave i) is_node row is = is ∙ same (Master i) is_node

showing_same : (s : Split) (vectors : List Row) (now now' : State) → ((v : ℕ) → now.count v ≡ now'.count v) → ((p : Node) → IsNode s p → held s now p ≡ held s now' p)
    → (shown : Node → Row) → IsShowing s vectors now shown → IsShowing s vectors now' shown
showing_same s vectors now now' counts holds shown shows = record {
  is_closed = λ n is_node e. shows.is_closed n is_node (counts (opening n) ∙ (e ∙ sym (counts (closing n)))) ∙ holds n is_node;
  is_open = λ n is_node is.
      makes_same s vectors now now' counts shown shown (λ p is_p. refl) n is_node (shown n)
      (shows.is_open n is_node (counts (opening n) ∙ (is ∙ ap (λ (k : ℕ). k + 1) (sym (counts (closing n))))));
}

module _ (kept : Snapshot) (sound : IsSnapshotSound kept) (events : List ℕ) (legal : IsLegal (graph_of kept) (limit_of kept) events) (reached : State)
    (all : FiresAll (split_of kept) kept.vectors (first_state (split_of kept)) events reached) (at : Shows kept reached) (none : (split_of kept).slack ≡ 0) (now : State) (shows : Shows kept now) where
  abbrev S : Split
  S = split_of kept

  latches : IsShowing (split_of kept) kept.vectors reached (held (split_of kept) reached)
      × ((shown : Node → Row) → IsShowing (split_of kept) kept.vectors reached shown → (n : Node) → IsNode (split_of kept) n → shown n ≡ held (split_of kept) reached n)
  latches =
      let (state, nets, run) = some_run (split_of kept).circuit sound.in_range sound.plan.split.accepted (split_of kept).initial kept.vectors sound.plan.split.one_value_each sound.vectors in
      transparent_latches (split_of kept) (graph_of kept) (accepted_controls (split_of kept) (graph_of kept) sound.plan) none kept.vectors state nets run events legal reached all

  counts : (v : ℕ) → reached.count v ≡ now.count v
  counts v = at.counts v ∙ sym (shows.counts v)

  one : IsShowing S kept.vectors now (held_row kept)
  one = record {
    is_closed = λ n is_node e. sym (held_same kept now shows n is_node);
    is_open = λ n is_node is.
        subst (λ (row : Row). Makes S kept.vectors now (held_row kept) n row) (held_same kept reached at n is_node)
        (makes_same S kept.vectors reached now counts (held S reached) (held_row kept) (held_same kept reached at) n is_node (held S reached n)
        (latches.0.is_open n is_node (counts (opening n) ∙ (is ∙ ap (λ (k : ℕ). k + 1) (sym (counts (closing n)))))));
  }

  only : (shown : Node → Row) → IsShowing S kept.vectors now shown → (n : Node) → IsNode S n → shown n ≡ held_row kept n
  only shown is n is_node =
      latches.1 shown
      (showing_same S kept.vectors now reached (λ v. sym (counts v)) (λ p is_p. held_same kept now shows p is_p ∙ sym (held_same kept reached at p is_p)) shown is)
      n is_node
      ∙ held_same kept reached at n is_node

pub held_is_shown : (kept : Snapshot) → IsSnapshotSound kept → IsReached kept → (split_of kept).slack ≡ 0 → (now : State) → Shows kept now
    → IsShowing (split_of kept) kept.vectors now (held_row kept)
    × ((shown : Node → Row) → IsShowing (split_of kept) kept.vectors now shown → (n : Node) → IsNode (split_of kept) n → shown n ≡ held_row kept n)
held_is_shown kept sound (events, legal, (reached, all, at)) none now shows =
    (one kept sound events legal reached all at none now shows, only kept sound events legal reached all at none now shows)

-- what an open node makes is what it takes as it opens
makes_takes : (s : Split) (vectors : List Row) (now : State) (shown : Node → Row) (n : Node) (row : Row) → Makes s vectors now shown n row → TakesFrom s vectors (now.count (closing n)) shown n row
makes_takes s vectors now shown In row is = is
makes_takes s vectors now shown Out row is = is
makes_takes s vectors now shown (Master i) row is = is
makes_takes s vectors now shown (Slave i) row is = is

-- what an open node makes of what the others hold is what it holds
pub made_is_held : (kept : Snapshot) → IsSnapshotSound kept → IsReached kept → (split_of kept).slack ≡ 0 → (n : Node) → IsNode (split_of kept) n → is_open kept n ≡ true
    → (row : Row) → TakesFrom (split_of kept) kept.vectors (count_of kept (closing n)) (held_row kept) n row → row ≡ held_row kept n
made_is_held kept sound reached none n is_node is row takes =
    let (events, legal, (now, all, shows)) = reached in
    let shown : IsShowing (split_of kept) kept.vectors now (held_row kept) = (held_is_shown kept sound reached none now shows).0 in
    let made : TakesFrom (split_of kept) kept.vectors (now.count (closing n)) (held_row kept) n (held_row kept n) =
    makes_takes (split_of kept) kept.vectors now (held_row kept) n (held_row kept n) (shown.is_open n is_node (open_shown kept now shows n is)) in
    one_row_taken (split_of kept) sound.plan.split kept.vectors (showing (held_row kept)) (count_of kept (closing n)) n row (held_row kept n) is_node takes
    (subst (λ (k : ℕ). TakesFrom (split_of kept) kept.vectors k (held_row kept) n (held_row kept n)) (shows.counts (closing n)) made)

-- without slack a node has one place
pub one_place : (s : Split) → s.slack ≡ 0 → (a b : ℕ) → place_of s a ≡ place_of s b
one_place s none a b =
    let first : place_of s a ≤ s.slack = place_low s a in
    let second : place_of s b ≤ s.slack = place_low s b in
    omega arith

-- without slack, what any opening reads of a producer is what it holds
pub read_held : (kept : Snapshot) → (split_of kept).slack ≡ 0 → (opened : ℕ) (p : Node) → read (split_of kept) kept.rows opened p ≡ held_row kept p
read_held kept none opened p =
    ap (λ (place : ℕ). rows_of (split_of kept) kept.rows p place) (one_place (split_of kept) none (opening_read p opened) (count_of kept (opening p)))

-- so what settles for what an opening reads settles for what the nodes hold
pub settled_held : (kept : Snapshot) → (split_of kept).slack ≡ 0 → (opened : ℕ) (n : Node) (row : Row) → IsSettled (split_of kept) (read (split_of kept) kept.rows opened) n row → IsSettled (split_of kept) (held_row kept) n row
settled_held kept none opened n row is =
    settled_where (split_of kept) n (read (split_of kept) kept.rows opened) (held_row kept) (λ p is_p edge. read_held kept none opened p) row is

-- both events of a node are there
pub events_there : (kept : Snapshot) → IsSnapshotSound kept → (l : ℕ) → l < nodes (split_of kept) → 2 * l + 1 < length (graph_of kept).events
events_there kept sound l below = (let enough : 2 * nodes (split_of kept) ≤ length (graph_of kept).events = events_enough kept sound in omega arith)

-- an open IN has a vector
pub vector_there : (kept : Snapshot) → IsSnapshotSound kept → IsReached kept → is_open kept In ≡ true → count_of kept (closing In) < limit_of kept
vector_there kept sound reached is =
    let there : 2 * 0 + 1 < length (graph_of kept).events = events_there kept sound 0 (omega arith) in
    let low : count_of kept (opening In) ≤ limit_of kept = count_low kept reached (opening In) (omega arith) in
    let more : count_of kept (opening In) ≡ count_of kept (closing In) + 1 = eqb-true (count_of kept (opening In)) (count_of kept (closing In) + 1) is in
    omega arith

-- what a node holds is as wide as its nets
pub held_wide : (kept : Snapshot) → IsSnapshotSound kept → (n : Node) → IsNode (split_of kept) n → length (held_row kept n) ≡ width_of kept n
held_wide kept sound n is_node = sound.widths n is_node (place_of (split_of kept) (count_of kept (opening n))) (place_low (split_of kept) (count_of kept (opening n)))

-- what a master holds is as wide as its slave
pub master_wide : (kept : Snapshot) → IsSnapshotSound kept → (i : ℕ) → IsNode (split_of kept) (Slave i) → length (held_row kept (Master i)) ≡ width_of kept (Slave i)
master_wide kept sound i is_node =
    held_wide kept sound (Master i) is_node
    ∙ (length-map (members (split_of kept) i) (λ r. get_or (data_nets (split_of kept).circuit) r 0)
    ∙ sym (length-map (members (split_of kept) i) (λ r. get_or (register_nets (split_of kept).circuit) r 0)))

pub first_settles : (n : Node) → number_of n ≡ 1 → IsSettling n
first_settles In e = absurd (omega (arith, e))
first_settles Out e = tt
first_settles (Master i) e = tt
first_settles (Slave i) e = absurd (omega (arith, e))
