-- The two steps on value words. No word that is being read is being written.
use Rattle.std.proofs.Common.{◌≡◌, ◌≢◌, ℕ, ◌+◌, ◌-◌, ◌<◌, ◌≤◌, true, List, length, get_or, set}
use Rattle.std.proofs.Common.{sym, refl, ap, ◌∙◌, subst, arith, le_refl, le_of_eq, length-set}
use Rattle.std.proofs.Common.{get_or-set_other, get_or-set_same}
use mathlib.Core.Logic.{dite}
use mathlib.Core.Option.{none, some}
use native.Mathlib.Decide.{ℕ_discrete, dec_lt}
use lib.ListN.{get_elem?}
use Rattle.atomic_table.specs.Table.{step, keeps, Allows}
use Rattle.ds_marked.specs.Graph.{counted}
use Rattle.ds_marked.proofs.CountLemmas.{agrees_kept, counted-same, counted-other}
use Rattle.ds_rule.specs.Run.{Run, graph, node_of, turns, opens, opening, closing, opened, count}
use Rattle.ds_rule.specs.Words.{width, place, value}
use Rattle.ds_rule.specs.Sound.{HasOrder}
use Rattle.ds_rule.specs.Rule.{firings_shown, seen, event, version, Fits, Lawful}
use Rattle.ds_rule.specs.Plays.{Sat, read, wrote, after_write}
use Rattle.ds_rule.specs.declared.table_run.DataEdge.{DataEdge}
use Rattle.ds_rule.specs.declared.view.View.{View}
use Rattle.ds_rule.proofs.EventLaws.{next-opens, node-opening}
use Rattle.ds_rule.proofs.EventLaws.{node-closing, turns-opening, turns-closing, opening-is}
use Rattle.ds_rule.proofs.EventLaws.{closing-is}
use Rattle.ds_rule.proofs.GraphLaws.{flight_enabled, consistent_same}
use Rattle.ds_rule.proofs.PlaceLaws.{place_behind, place_inside, places_apart}
use Rattle.ds_rule.proofs.PassAtRest.{St, inside, version-old, version-new}
use Rattle.ds_rule.proofs.StepKeepsRule.{unmoved, renewed, later}

-- the counts of a latch's two events
count-opening : (run : Run) (fired : ℕ → ℕ) (e l : ℕ) → e ≡ opening l → l < run.design_nodes
    → count run fired e ≡ opened run l (fired l)
count-opening run fired e l is low = ap (count run fired) is
    ∙ (ap (λ (m : ℕ). turns run (opening l) (fired m)) (node-opening run l low)
    ∙ turns-opening run l (fired l) low)

count-closing : (run : Run) (fired : ℕ → ℕ) (e l : ℕ) → e ≡ closing l → l < run.design_nodes
    → count run fired e ≡ turns run (closing l) (fired l)
count-closing run fired e l is low = ap (count run fired) is
    ∙ ap (λ (m : ℕ). turns run (closing l) (fired m)) (node-closing run l low)

-- what is in flight is counted once more, and an order into it is met with one firing to spare
flight_meets : (run : Run) (s : St) (o : Lawful run s) (id : ℕ) (v : View)
    → get_elem? s.views id ≡ some v → v.live ≡ true → 0 < v.phase
    → (source target tokens : ℕ) → HasOrder run source target tokens → target ≡ event run v
    → source ≢ event run v
    → count run (firings_shown s.words) target + 1 ≤ count run (firings_shown s.words) source + tokens
flight_meets run s o id v me live flying source target tokens order is far =
    let E : ℕ = event run v in let counts : ℕ → ℕ = count run (firings_shown s.words) in omega (
      arith,
      order (counted E counts) (agrees_kept (graph run) run.limit counts E
          (flight_enabled run s o id v me live flying) o.consistent.agrees),
      counted-same E target counts is,
      counted-other E source counts far,
    )

-- the heart of the rule: what stands in a producer's words while its consumer is in flight with an
-- opening
pub stands : (run : Run) (s : St) (o : Lawful run s) (id : ℕ) (v : View)
    → get_elem? s.views id ≡ some v → v.live ≡ true → 0 < v.phase
    → opens run (event run v) ≡ true → (k : ℕ) (e : DataEdge) (i : ℕ)
    → get_elem? run.edges k ≡ some e → e.consumer ≡ v.node → i < width run e.producer
    → get_or s.words (place run e.producer (opened run v.node (seen v v.node) + 1 - e.tokens) i) 0
    ≡ value run e.producer (opened run v.node (seen v v.node) + 1 - e.tokens) i
stands run s o id v me live flying begins k e i at consumer near =
    let c : ℕ = v.node in let p : ℕ = e.producer in let f = o.views id v me live in
    let up = f.flies flying in let d = o.sound.orders k e at in
    let low-p : p < run.design_nodes = d.from in let low-c : c < run.design_nodes =
    omega (arith, d.into, consumer) in
    let near-p : p < run.nodes = omega (arith, o.sound.among) in
    let h = o.held p near-p in let u : View = h.0 in let g = o.views (o.owner p) u h.1 h.2 in
    let C : ℕ = opened run c (seen v c) in let P : ℕ = opened run p (seen u p) in
    let n : ℕ = C + 1 - e.tokens in let counts : ℕ → ℕ = count run (firings_shown s.words) in
    let opens-c : counts (opening e.consumer) ≡ C =
    count-opening run (firings_shown s.words) (opening e.consumer) c (ap opening consumer) low-c
    ∙ ap (opened run c) (f.counted c up.0) in
    let opens-p : counts (opening p) ≡ P =
    count-opening run (firings_shown s.words) (opening p) p refl low-p
    ∙ ap (opened run p) (g.counted p h.3) in
    let closes-c : counts (closing e.consumer) ≡ C =
    count-closing run (firings_shown s.words) (closing e.consumer) c (ap closing consumer) low-c
    ∙ (ap (turns run (closing c)) (f.counted c up.0)
    ∙ turns-closing run c (seen v c) low-c begins) in
    let event-c : event run v ≡ opening c = next-opens run c (seen v c) begins in
    -- the producer has opened often enough
    let ready : n ≤ P = omega (
      arith,
      flight_meets run s o id v me live flying (opening p) (opening e.consumer) e.tokens d.there
          (ap opening consumer ∙ sym event-c)
          (λ t. d.apart (omega (arith, t, event-c, opening-is p, opening-is c, consumer))),
      opens-c,
      opens-p,
    ) in
    -- the order back agrees
    let agrees : P ≤ n + run.slack =
    omega (arith, d.back counts o.consistent.agrees, opens-p, closes-c, d.tokens_few) in
    -- and so it does where the producer is in flight with its next opening
    let bounds : (n ≤ version run u p i) × (version run u p i ≤ n + run.slack) =
    dite (ℕ_discrete u.node p)
    (λ is. dite (dec_lt i u.written)
    (λ written. let now = version-new run u p i is written in
    let aloft = g.writes (omega arith) in
    let event-p : event run u ≡ opening p = next-opens run u.node (seen u u.node) aloft.1
    ∙ ap opening is in (
      omega arith,
      omega (
        arith,
        flight_meets run s o (o.owner p) u h.1 h.2 aloft.0 (closing e.consumer) (opening p)
            (1 - e.tokens + run.slack) d.back (sym event-p)
            (λ t. omega (arith, t, event-p, opening-is p, closing-is e.consumer)),
        opens-p,
        closes-c,
        d.tokens_few,
      ),
    ))
    (λ old. let now = version-old run u p i (λ _ t. old t) in (omega arith, omega arith)))
    (λ other. let now = version-old run u p i (λ t _. other t) in (omega arith, omega arith)) in
    g.values p n i h.3 near bounds.0 bounds.1

pub reads : (run : Run) (n id : ℕ) (m : Sat) (j : ℕ) → m.0.live ≡ true → 0 < m.0.phase
    → opens run (event run m.0) ≡ true
    → Allows (Lawful run) n id m j (λ y. y) (read (step n j 0 0 none) m)
reads run n id m j live flying begins s o wide me _ =
    let v : View = m.0 in let f = o.views id v me live in
    let Told : Run → Type 0 = λ r. (k : ℕ) (e : DataEdge) (i : ℕ) → get_elem? r.edges k ≡ some e
    → e.consumer ≡ v.node → i < width r e.producer
    → j ≡ place r e.producer (opened r v.node (seen v v.node) + 1 - e.tokens) i
    → get_or s.words j 0 ≡ value r e.producer (opened r v.node (seen v v.node) + 1 - e.tokens) i in
    let told : Told run = λ k e i at consumer near is. ap (λ (z : ℕ). get_or s.words z 0) is
    ∙ stands run s o id v me live flying begins k e i at consumer near in (
      v,
      keeps,
      tt,
      unmoved run s o j id v v me live (λ x. refl) f,
      (refl, subst Told (sym f.same_run) told),
    )

pub writes : (run : Run) (n id : ℕ) (m : Sat) (j new : ℕ) → m.0.live ≡ true → 0 < m.0.phase
    → opens run (event run m.0) ≡ true → m.0.written < width run m.0.node
    → j ≡ place run m.0.node (opened run m.0.node (seen m.0 m.0.node) + 1) m.0.written
    → new ≡ value run m.0.node (opened run m.0.node (seen m.0 m.0.node) + 1) m.0.written
    → Allows (Lawful run) n id m j (λ _. new) (λ _. wrote (step n j new 0 none) m new)
writes run n id m j new live flying begins small is value-is s o wide me _ =
    let v : View = m.0 in let f = o.views id v me live in let c : ℕ = v.node in
    let w : View = after_write v in let up = f.flies flying in
    let N : ℕ = opened run c (seen v c) + 1 in
    let ws : List ℕ = set s.words j new in
    let counts : (x : ℕ) → x < run.nodes → firings_shown ws x ≡ firings_shown s.words x =
    λ x h. get_or-set_other s.words j (x + 1) new 0
    (λ e. omega (arith, place_behind run c N v.written)) in
    let here : get_or ws j 0 ≡ new = get_or-set_same s.words j new 0
    (omega (arith, o.wide, place_inside run c N v.written up.1 small)) in
    let same-counts : (a : ℕ) → node_of run a < run.nodes
    → count run (firings_shown ws) a ≡ count run (firings_shown s.words) a =
    λ a h. ap (turns run a) (counts (node_of run a) h) in
    -- each other word of the latest values is as it was
    let still : (l k i : ℕ) → i < width run l
    → (l ≡ c → i ≡ v.written → k ≤ N → N ≤ k + run.slack → k ≡ N → ⊥)
    → (l ≡ c → i ≡ v.written → (k ≤ N) × (N ≤ k + run.slack))
    → get_or ws (place run l k i) 0 ≡ get_or s.words (place run l k i) 0 =
    λ l k i h ne near. get_or-set_other s.words j (place run l k i) new 0 (λ e. let t =
    places_apart run l k i c N v.written h small (e ∙ is) in
    let b = near t.0 t.1 in ne t.0 t.1 b.0 b.1 (t.2 N b.0 b.1 (le_refl N) (omega arith))) in
    let mine : Fits run ws o.log o.owner id w = record {
      same_run = f.same_run;
      held_long = f.held_long;
      tickets_long = f.tickets_long;
      seen_long = f.seen_long;
      owns = f.owns;
      counted = λ l h. counts l (inside f l h) ∙ f.counted l h;
      logged = f.logged;
      known = λ l h. omega (arith, counts l h, f.known l h);
      kept = f.kept;
      known_drawn = f.known_drawn;
      values = λ l k i h h' a b. dite (ℕ_discrete l c)
          (λ e. dite (ℕ_discrete i v.written)
          (λ e'. let now : version run w l i ≡ N = version-new run w l i (sym e) (omega arith)
          ∙ ap (λ (z : ℕ). opened run z (seen v z) + 1) e in
          let old : version run v l i + 1 ≡ N = ap (λ (z : ℕ). z + 1)
          (version-old run v l i (λ _ t. omega arith))
          ∙ ap (λ (z : ℕ). opened run z (seen v z) + 1) e in
          dite (ℕ_discrete k N)
          (λ e''. let at : place run l k i ≡ j = ap (λ (z : ℕ). place run z k i) e
          ∙ (ap (λ (z : ℕ). place run c z i) e'' ∙ (ap (place run c N) e' ∙ sym is)) in
          ap (λ (z : ℕ). get_or ws z 0) at ∙ (here ∙ (value-is
          ∙ (ap (value run c N) (sym e') ∙ (ap (λ (z : ℕ). value run c z i) (sym e'')
          ∙ ap (λ (z : ℕ). value run z k i) (sym e))))))
          (λ n. still l k i h' (λ _ _ _ _ t. n t) (λ _ _. (omega arith, omega arith))
          ∙ f.values l k i h h' (omega arith) (omega arith)))
          (λ n. let same : version run w l i ≡ version run v l i = dite (dec_lt i v.written)
          (λ y. version-new run w l i (sym e) (omega arith) ∙ sym (version-new run v l i (sym e) y))
          (λ y. version-old run w l i (λ _ t. omega arith)
          ∙ sym (version-old run v l i (λ _ t. y t))) in
          still l k i h' (λ _ t _ _ _. n t) (λ _ t. absurd (n t))
          ∙ f.values l k i h h' (omega arith) (omega arith)))
          (λ n. let same : version run w l i ≡ version run v l i =
          version-old run w l i (λ t _. n (sym t)) ∙ sym
          (version-old run v l i (λ t _. n (sym t))) in
          still l k i h' (λ t _ _ _ _. n t) (λ t _. absurd (n t))
          ∙ f.values l k i h h' (omega arith) (omega arith));
      writes = λ _. (flying, begins);
      flies = λ _. up;
      no_clash = f.no_clash;
    } in (
      w,
      keeps,
      tt,
      renewed run s o id v w ws o.log me live (λ x. refl) (length-set s.words j new)
          (get_or-set_other s.words j 0 new 0 (λ e. omega (arith, place_behind run c N v.written))
          ∙ o.next_ticket)
          o.legal o.in_turn
          (consistent_same run o.sound (count run (firings_shown s.words)) (count run (firings_shown ws))
          same-counts o.consistent)
          (λ x h. omega (arith, counts x h, o.behind x h))
          mine
          (λ j' u other g. later ws o.log g (λ x h. counts x (inside g x h)) (λ x h. refl)
          (λ e h. refl) (λ x h. le_of_eq (sym (counts x h))) (le_refl (length o.log))
          (λ x k y h h'. let far : x ≡ c → ⊥ = λ e. other (sym (g.owns x h)
          ∙ (ap o.owner e ∙ f.owns c up.0)) in still x k y h' (λ t _ _ _ _. far t)
          (λ t _. absurd (far t)))),
      refl,
    )
