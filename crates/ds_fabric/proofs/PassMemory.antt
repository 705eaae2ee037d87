-- What a pass has in memory, beside its view, through loads and firings.
use Rattle.std.proofs.Common.{◌≡◌, ℕ, ◌+◌, ◌<◌, ◌≤◌, ◌≢◌, true, List}
use Rattle.std.proofs.Common.{[], ◌∷◌, ◌++◌, length}
use Rattle.std.proofs.Common.{get_or, set, sym, refl, ap, ◌∙◌, subst, arith, le_trans}
use Rattle.std.proofs.Common.{le_of_eq, length-set}
use Rattle.std.proofs.Common.{get_or-set_other, get_or-set_same, length-append}
use Rattle.std.proofs.Common.{⊎_elim, inl, inr, false, ◌-◌, vec_capacity}
use Rattle.std.proofs.lemmas.List.{append_assoc}
use Rattle.std.proofs.Common.{◌/◌, ◌*◌, cond, eq-eqb, ne_eqb}
use Rattle.ds_rule.proofs.EventLaws.{opened-low}
use mathlib.Core.Logic.{dite}
use mathlib.Core.Option.{some}
use native.Mathlib.Decide.{ℕ_discrete}
use lib.ListN.{get_elem?}
use Rattle.atomic_table.proofs.Lists.{at_set, set_else, at_index}
use Rattle.ds_rule.specs.Run.{Run, events, node_of, next, turns, opens, opening, opened}
use Rattle.ds_rule.specs.Run.{count, IsEnabledInRun}
use Rattle.ds_rule.specs.Rule.{holds, tickets, seen}
use Rattle.ds_rule.specs.Plays.{Sat, after_depart, after_draw, after_publish}
use Rattle.ds_rule.specs.declared.view.View.{View}
use Rattle.ds_rule.proofs.GetElemLemmas.{same_at, set_there, apart_set, at_below, has_below, by_bool}
use Rattle.ds_rule.proofs.GraphLaws.{enabled_same}
use Rattle.ds_rule.proofs.EventLaws.{node-next, turns-next, turns-other, event_below}
use Rattle.ds_rule.proofs.EventLaws.{even_opens, next-opens, turns-opening, node-opening}
use Rattle.ds_fabric.specs.declared.history.History.{History}
use Rattle.ds_fabric.specs.Looks.{LooksOn}
use Rattle.ds_fabric.specs.HistoryList.{stride_of, new_row, turns_told, StandByTurn, list_of_words}
use Rattle.ds_fabric.specs.HistoryList.{list_room}
use Rattle.ds_fabric.specs.declared.histories.Histories.{Histories}
use Rattle.ds_fabric.specs.HistoryList.{next_turn_of, offset_of, start_of_words, end_of_turn}
use Rattle.ds_fabric.specs.Noted.{HasNotedWords, HasFired}
use Rattle.ds_fabric.specs.Showing.{Tells, Keeps, AreBeside, AreSideBySide}
use Rattle.ds_fabric.specs.Stepped.{FiresNext, done, seen_at_departure}
use Rattle.ds_fabric.proofs.LoadedViews.{has_after}
use Rattle.ds_fabric.proofs.HistoryLayout.{told_same, told_fires, told_place}
use Rattle.ds_fabric.proofs.WordsInLists.{stands_more, stands_else}

-- the history of a node, beside another view that says the same of the node
pub tells_moved : (v w : View) (h : History) (words : List ℕ) (room : ℕ) → Tells v h words room
    → w.run ≡ v.run → holds w h.node ≡ true → seen w h.node ≡ seen v h.node
    → ((e : ℕ) → node_of v.run e ≡ h.node → tickets w e ≡ tickets v e) → Tells w h words room
tells_moved v w h words room t run has same ticks = let l : ℕ = h.node in record {
  has = has;
  fired = t.fired ∙ sym same;
  stride = t.stride ∙ ap (λ (r : Run). stride_of r l) (sym run);
  turns = subst (StandByTurn words h.first h.stride h.step)
      (sym (ap (λ (r : Run). turns_told r (tickets w) l (seen w l)) run
      ∙ (ap (turns_told v.run (tickets w) l) same
      ∙ told_same v.run (tickets v) (tickets w) l (seen v l) (λ g _.
      ap (λ (ts : List ℕ). get_or ts (turns v.run (next v.run l g) g) 0)
      (ticks (next v.run l g) (node-next v.run l g)))))) t.turns;
  fits = subst (λ (r : Run). r.limit * h.step ≤ room) (sym run) t.fits;
}

-- loads keep what a pass has in memory
pub looks_keep : (me me' : Sat) (s : Histories) → Keeps me s → LooksOn me.0 me'.0
    → me'.1 ≡ me.1 → Keeps me' s
looks_keep me me' s k q slots =
    let v : View = me.0 in let w : View = me'.0 in
    let has : (l : ℕ) → holds w l ≡ holds v l = λ l. has_after v w l q in
    let ticks : (e : ℕ) → tickets w e ≡ tickets v e =
    λ e. ap (λ (ts : List (List ℕ)). get_or ts e []) q.tickets_same in
    let P : Run → Type 0 = λ r. (e : ℕ) → holds w (node_of r e) ≡ true
    → turns r e (seen w (node_of r e)) ≡ length (tickets w e) in record {
      no_slot = slots ∙ k.no_slot;
      live = q.live ∙ k.live;
      idle = q.phase ∙ k.idle;
      held_long = ap length q.holds_same ∙ (k.held_long ∙ ap (λ (r : Run). r.nodes) (sym q.run));
      tickets_long = ap length q.tickets_same ∙ (k.tickets_long ∙ ap events (sym q.run));
      seen_long = q.seen_long ∙ (k.seen_long ∙ ap (λ (r : Run). r.nodes) (sym q.run));
      among = subst (λ (r : Run). r.design_nodes ≤ r.nodes) (sym q.run) k.among;
      counts = subst P (sym q.run) (λ e h. let l : ℕ = node_of v.run e in
          let h' : holds v l ≡ true = sym (has l) ∙ h in
          ap (turns v.run e) (q.own l h') ∙ (k.counts e h' ∙ ap length (sym (ticks e))));
      listed = λ i h at. let t = k.listed i h at in
          tells_moved v w h (list_of_words s h) (list_room s h) t q.run (has h.node ∙ t.has)
          (q.own h.node t.has) (λ e is. ticks e);
      found = λ l h. k.found l (sym (has l) ∙ h);
      distinct = k.distinct;
      beside = k.beside;
      all = λ one l near. has l
          ∙ k.all one l (subst (λ (r : Run). l < r.nodes) q.run near);
    }

abbrev pub landed : View → ℕ → ℕ → View
landed v l t = after_publish (after_draw (after_depart v l) t)

-- the event that the node fires next
abbrev coming : View → ℕ → ℕ
coming v l = next v.run l (seen v l)

pub near-node : (me : Sat) (s : Histories) (l : ℕ) → Keeps me s → holds me.0 l ≡ true
    → l < me.0.run.nodes
near-node me s l k h = omega (arith, has_below me.0.holds l h, k.held_long)

near-event : (me : Sat) (s : Histories) (l : ℕ) → Keeps me s → holds me.0 l ≡ true
    → coming me.0 l < length me.0.tickets
near-event me s l k h = omega (
  arith,
  k.tickets_long,
  event_below me.0.run (coming me.0 l) k.among
      (omega (arith, node-next me.0.run l (seen me.0 l), near-node me s l k h)),
)

tickets-landed : (v : View) (l t e : ℕ) → coming v l < length v.tickets → e ≡ coming v l
    → tickets (landed v l t) e ≡ tickets v (coming v l) ++ t ∷ []
tickets-landed v l t e near is = ap (tickets (landed v l t)) is
    ∙ get_or-set_same v.tickets (coming v l) (tickets v (coming v l) ++ t ∷ []) [] near

tickets-else : (v : View) (l t e : ℕ) → e ≢ coming v l → tickets (landed v l t) e ≡ tickets v e
tickets-else v l t e n = get_or-set_other v.tickets (coming v l) e (tickets v (coming v l)
    ++ t ∷ []) [] n

seen-landed : (v : View) (l t x : ℕ) → l < length v.seen → x ≡ l
    → seen (landed v l t) x ≡ seen v l + 1
seen-landed v l t x near is = ap (seen (landed v l t)) is
    ∙ get_or-set_same v.seen l (seen v l + 1) 0 near

seen-else : (v : View) (l t x : ℕ) → x ≢ l → seen (landed v l t) x ≡ seen v x
seen-else v l t x n = get_or-set_other v.seen l x (seen v l + 1) 0 n

-- what the firing told stands in the list of its history
told_more : (R : Run) (ts us : ℕ → List ℕ) (l seen' ticket : ℕ) (s t : Histories) (g h : History)
    → g.node ≡ l → g.fired ≡ seen' → g.stride ≡ stride_of R l
    → StandByTurn (list_of_words s g) g.first g.stride g.step (turns_told R ts l seen')
    → HasNotedWords R s t g h (new_row R g.node g.fired ++ ticket ∷ [])
    → turns_told R us l (seen' + 1)
    ≡ (turns_told R ts l seen' ++ new_row R l seen') ++ ticket ∷ []
    → StandByTurn (list_of_words t h) h.first h.stride h.step (turns_told R us l (seen' + 1))
told_more R ts us l seen' ticket s t g h node fired stride st f told =
    let f' : ℕ = g.fired in let x : ℕ = g.node in
    let P : ℕ → ℕ → Type 0 = λ y n. StandByTurn (list_of_words s g) g.first g.stride g.step
    (turns_told R ts y n) in
    let at-g = subst (λ (y : ℕ). P y f') (sym node) (subst (P l) (sym fired) st) in
    let p = told_place R ts x f' in let more : List ℕ = new_row R x f' ++ ticket ∷ [] in
    let wide : g.stride ≡ stride_of R x = stride ∙ ap (stride_of R) (sym node) in
    let k : ℕ = turns R (next R x f') f' in
    let k-is : k * g.stride ≡ k * stride_of R x = ap (λ (y : ℕ). k * y) wide in
    let o-is : offset_of R g ≡ cond (opens R (next R x f')) 0 (stride_of R x - 1) =
    ap (λ (y : ℕ). cond (opens R (next R x f')) 0 (y - 1)) wide in
    let next-told = stands_more (list_of_words s g) (list_of_words t h) g.first g.stride g.step k
    (offset_of R g) (start_of_words R g) (end_of_turn R g) (turns_told R ts x f') more at-g f.written
    (omega (arith, p.0, k-is, o-is)) refl refl
    (omega (arith, p.1, o-is, wide, length-append (new_row R x f') (ticket ∷ []))) in
    let same : turns_told R ts x f' ++ more ≡ turns_told R us l (seen' + 1) =
    sym (append_assoc (turns_told R ts x f') (new_row R x f') (ticket ∷ []))
    ∙ (ap (λ (y : ℕ). (turns_told R ts y f' ++ new_row R y f') ++ ticket ∷ []) node
    ∙ (ap (λ (y : ℕ). (turns_told R ts l y ++ new_row R l y) ++ ticket ∷ []) fired ∙ sym told)) in
    subst (λ (y : ℕ). StandByTurn (list_of_words t h) h.first h.stride y (turns_told R us l (seen' + 1)))
    (sym f.step)
    (subst (λ (y : ℕ). StandByTurn (list_of_words t h) h.first y g.step (turns_told R us l (seen' + 1)))
    (sym f.stride)
    (subst (λ (y : ℕ). StandByTurn (list_of_words t h) y g.stride g.step (turns_told R us l (seen' + 1)))
    (sym f.first)
    (subst (StandByTurn (list_of_words t h) g.first g.stride g.step) same next-told)))

-- a history beside it has its words and its room still
beside_stays : (v : View) (s t : Histories) (g h x : History) (told : List ℕ) → t.apart ≡ s.apart
    → (s.apart ≡ false → AreBeside x g) → h.first + h.stride ≤ h.step
    → HasNotedWords v.run s t g h told → offset_of v.run g + length told ≤ g.stride
    → Tells v x (list_of_words s x) (list_room s x) → Tells v x (list_of_words t x) (list_room t x)
beside_stays v s t g h x told apart beside inside f fits o =
    let R : Run = v.run in by_bool (Tells v x (list_of_words t x) (list_room t x)) s.apart
    (λ own. let own' = apart ∙ own in
    let words : list_of_words t x ≡ list_of_words s x = ap (λ b. cond b x.own.items t.together.items) own'
    ∙ sym (ap (λ b. cond b x.own.items s.together.items) own) in
    let room : list_room t x ≡ list_room s x =
    ap (λ b. cond b (vec_capacity x.own) (vec_capacity t.together)) own'
    ∙ sym (ap (λ b. cond b (vec_capacity x.own) (vec_capacity s.together)) own) in
    subst (λ (ws : List ℕ). Tells v x ws (list_room t x)) (sym words)
    (subst (Tells v x (list_of_words s x)) (sym room) o))
    (λ one. let one' = apart ∙ one in let b = beside one in
    let old : list_of_words s x ≡ list_of_words s g = ap (λ b. cond b x.own.items s.together.items) one
    ∙ sym (ap (λ b. cond b g.own.items s.together.items) one) in
    let new : list_of_words t x ≡ list_of_words t h = ap (λ b. cond b x.own.items t.together.items) one'
    ∙ sym (ap (λ b. cond b h.own.items t.together.items) one') in
    let room-old : list_room s x ≡ list_room s g =
    ap (λ b. cond b (vec_capacity x.own) (vec_capacity s.together)) one
    ∙ sym (ap (λ b. cond b (vec_capacity g.own) (vec_capacity s.together)) one) in
    let room-new : list_room t x ≡ list_room t h =
    ap (λ b. cond b (vec_capacity x.own) (vec_capacity t.together)) one'
    ∙ sym (ap (λ b. cond b (vec_capacity h.own) (vec_capacity t.together)) one') in
    let told-x : List ℕ = turns_told R (tickets v) x.node (seen v x.node) in
    let P : List ℕ → Type 0 = λ ws. StandByTurn ws x.first x.stride x.step told-x in
    let k : ℕ = next_turn_of R g in
    let start-is : start_of_words R g ≡ k * x.step + g.first + offset_of R g =
    ap (λ (y : ℕ). k * y + g.first + offset_of R g) (sym b.0) in
    record {
      has = o.has;
      fired = o.fired;
      stride = o.stride;
      turns = subst P (sym new) (stands_else (list_of_words s g) (list_of_words t h) x.first x.stride x.step
          k (offset_of R g) (start_of_words R g) (end_of_turn R g) g.first g.stride told-x told
          (subst P old o.turns) f.written start-is fits
          (omega (arith, b.0, inside, f.first, f.stride, f.step)) b.1);
      fits = omega (arith, o.fits, room-old, room-new, f.room);
    })

-- a history that is put back stands beside the others still
beside_set : (nodes : List History) (i : ℕ) (h h' : History) → get_elem? nodes i ≡ some h
    → h'.first ≡ h.first → h'.stride ≡ h.stride → h'.step ≡ h.step → AreSideBySide nodes
    → AreSideBySide (set nodes i h')
beside_set nodes i h h' at first stride step old j j' g g' a a' n = ⊎_elim
    (λ e. ⊎_elim (λ e'. absurd (n (e.0 ∙ sym e'.0)))
    (λ e'. let b = old i j' h g' at e'.1 (λ z. n (e.0 ∙ z)) in
    subst (λ (x : History). AreBeside x g') e.1 (
      step ∙ b.0,
      ⊎_elim
          (λ y. inl (omega (arith, first, stride, y))) (λ y. inr (omega (arith, first, y))) b.1,
    ))
    (at_set nodes i j' h' g' a'))
    (λ e. ⊎_elim (λ e'. let b = old j i g h e.1 at (λ z. n (z ∙ sym e'.0)) in
    subst (AreBeside g) e'.1 (
      b.0 ∙ sym step,
      ⊎_elim
          (λ y. inl (omega (arith, first, y))) (λ y. inr (omega (arith, first, stride, y))) b.1,
    ))
    (λ e'. old j j' g g' e.1 e'.1 n) (at_set nodes i j' h' g' a'))
    (at_set nodes i j h' g a)

-- a firing keeps what a pass has in memory
pub fires_keep : (me me' : Sat) (s t : Histories) (i ticket : ℕ) (h : History) → Keeps me s
    → get_elem? s.nodes.items i ≡ some h → me' ≡ (landed me.0 h.node ticket, me.1)
    → HasFired me.0.run s t i ticket h → Keeps me' t
fires_keep me me' s t i ticket h k at is fired =
    let v : View = me.0 in let l : ℕ = h.node in let w : View = landed v l ticket in
    let R : Run = v.run in let E : ℕ = coming v l in
    let nodes : List History = s.nodes.items in let h' : History = fired.told.new in
    let f : HasNotedWords R s t h h' (new_row R h.node h.fired ++ ticket ∷ []) =
    subst (λ (x : History). HasNotedWords R s t x h' (new_row R h.node h.fired ++ ticket ∷ []))
    fired.old_is fired.told.noted in
    let into : (j : ℕ) (x : History) → get_elem? t.nodes.items j ≡ some x
    → get_elem? (set nodes i h') j ≡ some x = λ j x e.
    subst (λ (ys : List History). get_elem? ys j ≡ some x) fired.told.nodes e in
    let onto : (j : ℕ) (x : History) → get_elem? (set nodes i h') j ≡ some x
    → get_elem? t.nodes.items j ≡ some x = λ j x e.
    subst (λ (ys : List History). get_elem? ys j ≡ some x) (sym fired.told.nodes) e in
    let old = k.listed i h at in
    let of-l : node_of R E ≡ l = node-next R l (seen v l) in
    let near-E = near-event me s l k old.has in
    let near-l : l < length v.seen = omega (
      arith,
      k.seen_long,
      near-node me s l k old.has,
    ) in
    let counted : turns R E (seen v l) ≡ length (tickets v E) =
    ap (λ (y : ℕ). turns R E (seen v y)) (sym of-l) ∙ k.counts E (ap (holds v) of-l ∙ old.has) in
    let far : (x e : ℕ) → x ≢ l → node_of R e ≡ x
    → tickets w e ≡ tickets v e = λ x e n on. tickets-else v l ticket e
    (λ z. n (sym on ∙ (ap (node_of R) z ∙ of-l))) in
    let seen-new : seen w h'.node ≡ seen v l + 1 = seen-landed v l ticket h'.node near-l f.node in
    let standing = told_more R (tickets v) (tickets w) l (seen v l) ticket s t h h' refl old.fired
    old.stride old.turns f (told_fires R (tickets v) (tickets w) l (seen v l) ticket counted
    (tickets-landed v l ticket E near-E refl) (λ e n. tickets-else v l ticket e n)) in
    let new : Tells w h' (list_of_words t h') (list_room t h') = record {
      has = ap (holds v) f.node ∙ old.has;
      fired = f.fired ∙ (ap (λ (x : ℕ). x + 1) old.fired ∙ sym seen-new);
      stride = f.stride ∙ (old.stride ∙ ap (stride_of R) (sym f.node));
      turns = subst (λ (x : ℕ). StandByTurn (list_of_words t h') h'.first h'.stride h'.step
          (turns_told R (tickets w) x (seen w x))) (sym f.node)
          (subst (λ (x : ℕ). StandByTurn (list_of_words t h') h'.first h'.stride h'.step
          (turns_told R (tickets w) l x)) (sym (seen-landed v l ticket l near-l refl)) standing);
      fits = omega (arith, old.fits, ap (λ (x : ℕ). R.limit * x) f.step, f.room);
    } in
    let place = told_place R (tickets v) h.node h.fired in
    let fits : offset_of R h + length (new_row R h.node h.fired ++ ticket ∷ []) ≤ h.stride =
    omega (
      arith,
      place.1,
      old.stride,
      ap (λ (y : ℕ). cond (opens R (next R h.node h.fired)) 0 (y - 1)) old.stride,
      length-append (new_row R h.node h.fired) (ticket ∷ []),
    ) in
    let P : Sat → Type 0 = λ m. Keeps m t in
    subst P (sym is) (record {
      no_slot = k.no_slot;
      live = k.live;
      idle = refl;
      held_long = k.held_long;
      tickets_long = length-set v.tickets E (tickets v E ++ ticket ∷ []) ∙ k.tickets_long;
      seen_long = length-set v.seen l (seen v l + 1) ∙ k.seen_long;
      among = k.among;
      counts = λ e hx. let x : ℕ = node_of R e in dite (ℕ_discrete x l)
          (λ on. ap (turns R e) (seen-landed v l ticket x near-l on) ∙ dite (ℕ_discrete e E)
          (λ z. omega (
            arith,
            ap (λ (y : ℕ). turns R y (seen v l + 1)) z,
            turns-next R l (seen v l),
            counted,
            ap length (tickets-landed v l ticket e near-E z),
            length-append (tickets v E) (ticket ∷ []),
          ))
          (λ z. turns-other R e l (seen v l) on z ∙ (ap (λ (y : ℕ). turns R e (seen v y)) (sym on)
          ∙ (k.counts e hx ∙ ap length (sym (tickets-else v l ticket e z))))))
          (λ off. ap (turns R e) (seen-else v l ticket x off)
          ∙ (k.counts e hx ∙ ap length (sym (far x e off refl))));
      listed = λ j g at'. ⊎_elim
          (λ e. subst (λ (x : History). Tells w x (list_of_words t x) (list_room t x)) e.1 new)
          (λ e. let o = k.listed j g e.1 in let n : g.node ≢ l =
          λ same. e.0 (k.distinct j i g h e.1 at same) in
          tells_moved v w g (list_of_words t g) (list_room t g)
          (beside_stays v s t h h' g (new_row R h.node h.fired ++ ticket ∷ []) fired.told.apart
          (λ one. k.beside one j i g h e.1 at e.0) new.turns.inside f fits o)
          refl o.has (seen-else v l ticket g.node n) (λ x on. far g.node x n on))
          (at_set nodes i j h' g (into j g at'));
      found = λ x hx. let r = k.found x hx in dite (ℕ_discrete r.0 i)
          (λ e. (
            i,
            h',
            onto i h' (set_there nodes i h h' at),
            f.node
                ∙ (ap (λ (y : History). y.node) (same_at nodes i h r.1 at
                (subst (λ j. get_elem? nodes j ≡ some r.1) e r.2)) ∙ r.3),
          ))
          (λ n. (r.0, r.1, onto r.0 r.1 (set_else nodes i r.0 h' n ∙ r.2), r.3));
      distinct = λ j j' g g' a a' same. apart_set (λ
          (x : History). x.node) nodes i h h' at f.node k.distinct j j' g g' (into j g a)
          (into j' g' a') same;
      beside = λ one j j' g g' a a' n. beside_set nodes i h h' at f.first f.stride f.step
          (k.beside (sym fired.told.apart ∙ one)) j j' g g' (into j g a) (into j' g' a') n;
      all = λ one x near. k.all (sym fired.told.apart ∙ one) x near;
    })

-- what was seen at departure: of the node itself what was seen before, of others what is seen
pub at_departure-here : (v w : View) (l x : ℕ) → x ≡ l → seen_at_departure v w l x ≡ seen v l
at_departure-here v w l x e = ap (λ b. cond b (seen v l) (seen w x)) (eq-eqb x l e)

pub at_departure-else : (v w : View) (l x : ℕ) → x ≢ l → seen_at_departure v w l x ≡ seen w x
at_departure-else v w l x n = ap (λ b. cond b (seen v l) (seen w x)) (ne_eqb x l n)

-- what a firing after loads says
pub fires : (run : Run) (me me' : Sat) (s : Histories) (w : View) (l event turn t : ℕ)
    → me.0.run ≡ run → Keeps me s → holds me.0 l ≡ true → LooksOn me.0 me'.0 → me'.1 ≡ me.1
    → event ≡ next run l (seen me.0 l) → turn ≡ done run me.0 l + 1 → turn ≤ run.limit
    → IsEnabledInRun run (seen me'.0) event → me'.0.drawn ≤ t → w ≡ landed me'.0 l t
    → FiresNext run me.0 w l event turn t
fires run me me' s w l event turn t run_is k has q slots event_is turn_is within on fresh is =
    let v : View = me.0 in let u : View = me'.0 in let k' = looks_keep me me' s k q slots in
    let has' : holds u l ≡ true = has_after v u l q ∙ has in
    let P : View → Type 0 = λ x. FiresNext run v x l event turn t in
    let own : seen u l ≡ seen v l = q.own l has in
    let E-is : coming u l ≡ event = ap (λ (r : Run). next r l (seen u l)) (q.run ∙ run_is)
    ∙ (ap (next run l) own ∙ sym event_is) in
    let ticks : (e : ℕ) → tickets u e ≡ tickets v e =
    λ e. ap (λ (ts : List (List ℕ)). get_or ts e []) q.tickets_same in
    let near-E = near-event me' s l k' has' in
    let near-l : l < length u.seen = omega (
      arith,
      k'.seen_long,
      near-node me' s l k' has',
    ) in
    let rises : (x : ℕ) → seen u x ≤ seen (landed u l t) x = λ x. dite (ℕ_discrete x l)
    (λ e. omega (arith, ap (seen u) e, seen-landed u l t x near-l e))
    (λ n. le_of_eq (sym (seen-else u l t x n))) in
    let left : (x : ℕ) → seen u x ≡ seen_at_departure v (landed u l t) l x = λ x. dite (ℕ_discrete x l)
    (λ e. (ap (seen u) e ∙ own) ∙ sym (at_departure-here v (landed u l t) l x e))
    (λ n. sym (seen-else u l t x n) ∙ sym (at_departure-else v (landed u l t) l x n)) in
    subst P (sym is) (record {
      event_is = event_is;
      turn_is = turn_is;
      within = within;
      enabled = enabled_same run (seen u) (seen_at_departure v (landed u l t) l) event
          (left (node_of run event))
          (λ k d near into. left (node_of run (get_or run.arcs k d).source)) on;
      fresh = omega (arith, fresh, q.drawn);
      drawn = refl;
      once_more = seen-landed u l t l near-l refl ∙ ap (λ (x : ℕ). x + 1) own;
      no_other = λ x n h. seen-else u l t x n ∙ q.own x h;
      one_more = tickets-landed u l t event near-E (sym E-is)
          ∙ (ap (λ (x : ℕ). tickets u x ++ t ∷ []) E-is ∙ ap (λ ts. ts ++ t ∷ []) (ticks event));
      others = λ e n. tickets-else u l t e (λ z. n (z ∙ E-is)) ∙ ticks e;
      run_same = q.run;
      holds_same = q.holds_same;
      seen_up = λ x. le_trans (q.seen_up x) (rises x);
      looks_up = omega (arith, q.looks_up);
    })

-- the history that was found, and is read or lent again
pub record Found (me : Sat) (s : Histories) (i node : ℕ) (h : History) : Type 0 where
  pub at : get_elem? s.nodes.items i ≡ some h
  pub node_is : h.node ≡ node
  pub tells : Tells me.0 h (list_of_words s h) (list_room s h)
  pub has : holds me.0 node ≡ true
  pub near : node < me.0.run.nodes

pub reads : (me : Sat) (s : Histories) (zs : List History) (i node : ℕ) (h : History)
    → zs ≡ s.nodes.items → Keeps me s
    → (x : History) × (get_elem? zs i ≡ some x) × (x.node ≡ node) → h ≡ get_or s.nodes.items i h
    → Found me s i node h
reads me s zs i node h e k f is = let nodes : List History = s.nodes.items in
    let there : get_elem? nodes i ≡ some f.0 = subst (λ ys. get_elem? ys i ≡ some f.0) e f.1 in
    let at : get_elem? nodes i ≡ some h = at_index nodes i h (at_below nodes i f.0 there) is in
    let same : h.node ≡ node = ap (λ (x : History). x.node) (same_at nodes i h f.0 at there)
    ∙ f.2 in let o = k.listed i h at in
    let has : holds me.0 node ≡ true = subst (λ y. holds me.0 y ≡ true) same o.has in record {
      at = at;
      node_is = same;
      tells = o;
      has = has;
      near = near-node me s node k has;
    }

-- an opening that is enabled is one of a latch, and of no turn past the limit
pub within : (run : Run) (v : View) (l f : ℕ) → f ≡ seen v l → opens run (next run l f) ≡ true
    → IsEnabledInRun run (seen v) (next run l f) → (l < run.design_nodes) × ((f + 1) / 2 + 1 ≤ run.limit)
within run v l f is o on =
    let even = even_opens run l f o in let e = next-opens run l f o in
    let is-count : count run (seen v) (next run l f) ≡ opened run l f =
    ap (count run (seen v)) e ∙ (ap (λ (m : ℕ). turns run (opening l) (seen v m))
    (node-opening run l even.0)
    ∙ (turns-opening run l (seen v l) even.0 ∙ ap (opened run l) (sym is))) in
    (even.0, omega (arith, on.below, is-count, opened-low run l f even.0))

-- the next event of a node is one of the events
pub next_below : (run : Run) (l f : ℕ) → run.design_nodes ≤ run.nodes → l < run.nodes
    → next run l f < events run
next_below run l f among near = event_below run (next run l f) among
    (omega (arith, node-next run l f))
