-- The arcs into each event, side by side: how they are laid out, and what a walk along those of one
-- event tells.
use Rattle.std.proofs.Common.{◌≡◌, ℕ, ◌+◌, ◌<◌, ◌≤◌, List, [], ◌∷◌, ◌++◌, length, get_or, true}
use Rattle.std.proofs.Common.{sym, refl, ap, ◌∙◌, subst, arith, length-append, ⊎_elim}
use Rattle.std.proofs.Common.{slice_index_or}
use Rattle.std.proofs.lemmas.List.{append_assoc, append-nil, get_or_default}
use mathlib.Core.Logic.{dite}
use native.Mathlib.Decide.{ℕ_discrete, dec_lt}
use Rattle.atomic_table.proofs.Lists.{at_last}
use Rattle.ds_marked.specs.declared.marked.Arc.{Arc}
use Rattle.ds_rule.specs.Run.{Run, events, node_of, turns, count}
use Rattle.ds_rule.specs.Event.{fired_of}
use Rattle.ds_rule.specs.Sound.{IsSound}
use Rattle.ds_rule.specs.Words.{size}
use Rattle.ds_rule.specs.Rule.{holds, seen}
use Rattle.ds_rule.specs.Plays.{Sat, after_look}
use Rattle.ds_rule.specs.declared.view.View.{View}
use Rattle.ds_rule.proofs.EventLaws.{turns_up}
use Rattle.ds_rule.proofs.PlaceLaws.{counts_inside}
use Rattle.ds_rule.proofs.GetElemLemmas.{at_below, at_either, at_end, at_get, at_or, get-first}
use Rattle.ds_fabric.specs.Chained.{absent_arc, arc_numbered, IsLastArc}
use Rattle.ds_fabric.specs.Looks.{LooksOn, Enough, IsSeenLacking}
use Rattle.ds_fabric.specs.Into.{IsInto, ArePart, AreIntoBelow, IsLinedUp}
use Rattle.ds_fabric.specs.declared.arc_in.ArcIn.{ArcIn}
use Rattle.ds_fabric.proofs.LoadedViews.{looks_more, seen-here, seen_rises, gives_up}
use Rattle.ds_fabric.proofs.ArcChains.{read-off}

-- the last place of a list with one number more
get-last : (xs : List ℕ) (m j : ℕ) → j ≡ length xs → get_or (xs ++ m ∷ []) j 0 ≡ m
get-last xs m j e = at_get (xs ++ m ∷ []) j m 0 (at_last xs m j (sym e))

-- behind the last arc into the event there is none
pub part_none : (run : Run) (event h : ℕ) (arcs : List ArcIn) (numbers : List ℕ)
    → IsLastArc run event (length run.arcs) h
    → ArePart run event h (length arcs) (length arcs) arcs numbers
part_none run event h arcs numbers last = record {
  order = omega arith;
  inside = omega arith;
  each = λ j x a b at. absurd (omega arith);
  from = λ j a b. absurd (omega arith);
  falls = λ i j a b c. absurd (omega arith);
  all = λ k a b into. absurd (last.none k a b into);
}

-- arc m, and on to the arc before
pub part_more : (run : Run) (event m h first : ℕ) (arcs : List ArcIn) (x : ArcIn)
    (numbers : List ℕ)
    → IsInto run event m x → IsLastArc run event m h → length numbers ≡ length arcs
    → ArePart run event (m + 1) first (length arcs) arcs numbers
    → ArePart run event h first (length (arcs ++ x ∷ [])) (arcs ++ x ∷ []) (numbers ++ m ∷ [])
part_more run event m h first arcs x numbers into last long old =
    let ys : List ArcIn = arcs ++ x ∷ [] in let ks : List ℕ = numbers ++ m ∷ [] in
    let more : length ys ≡ length arcs + 1 = length-append arcs (x ∷ []) in
    let here : (j : ℕ) → j ≡ length arcs → get_or ks j 0 ≡ m =
    λ j e. get-last numbers m j (e ∙ sym long) in
    let else : (j : ℕ) → j < length arcs → get_or ks j 0 ≡ get_or numbers j 0 =
    λ j b. get-first numbers (m ∷ []) j (omega arith) in
    record {
      order = omega (arith, old.order);
      inside = omega arith;
      each = λ j y a b at. ⊎_elim
          (λ t. let low = at_below arcs j y t in
          subst (λ (k : ℕ). IsInto run event k y) (sym (else j low)) (old.each j y a low t))
          (λ t. subst (λ (z : ArcIn). IsInto run event (get_or ks j 0) z) t.1
          (subst (λ (k : ℕ). IsInto run event k x) (sym (here j t.0)) into))
          (at_end arcs x y j at);
      from = λ j a b. dite (ℕ_discrete j (length arcs))
          (λ e. omega (arith, here j e, last.below))
          (λ n. omega (
            arith,
            else j (omega arith),
            old.from j a (omega arith),
            last.below,
          ));
      falls = λ i j a b c. dite (ℕ_discrete j (length arcs))
          (λ e. omega (
            arith,
            here j e,
            else i (omega arith),
            old.from i a (omega arith),
          ))
          (λ n. omega (
            arith,
            else j (omega arith),
            else i (omega arith),
            old.falls i j a b (omega arith),
          ));
      all = λ k a b to. dite (ℕ_discrete k m)
          (λ e. (length arcs, old.order, omega arith, here (length arcs) refl ∙ sym e))
          (λ n. dite (dec_lt k m) (λ less. absurd (last.none k a less to))
          (λ most. let f = old.all k (omega arith) b to in
          (f.0, f.1, omega (arith, f.2), else f.0 f.2 ∙ f.3)));
    }

-- the part of an event stays, whatever comes behind
part_longer : (run : Run) (event n first last : ℕ) (arcs xs : List ArcIn) (numbers ks : List ℕ)
    → length numbers ≡ length arcs → ArePart run event n first last arcs numbers
    → ArePart run event n first last (arcs ++ xs) (numbers ++ ks)
part_longer run event n first last arcs xs numbers ks long old =
    let same : (j : ℕ) → j < last → get_or (numbers ++ ks) j 0 ≡ get_or numbers j 0 =
    λ j b. get-first numbers ks j (omega (arith, old.inside)) in
    record {
      order = old.order;
      inside = omega (arith, length-append arcs xs, old.inside);
      each = λ j y a b at. ⊎_elim
          (λ t. subst (λ (k : ℕ). IsInto run event k y) (sym (same j b)) (old.each j y a b t))
          (λ t. absurd (omega (arith, t.1, old.inside))) (at_either arcs xs j y at);
      from = λ j a b. omega (arith, same j b, old.from j a b);
      falls = λ i j a b c. omega (
        arith,
        same j c,
        same i (omega arith),
        old.falls i j a b c,
      );
      all = λ k a b to. let f = old.all k a b to in (f.0, f.1, f.2, same f.0 f.2 ∙ f.3);
    }

-- below the first event there is no part
pub into_none : (run : Run) (starts numbers : List ℕ) (arcs : List ArcIn) → starts ≡ 0 ∷ []
    → numbers ≡ [] → arcs ≡ [] → AreIntoBelow run 0 starts arcs numbers
into_none run starts numbers arcs is none none' = record {
  starts_long = ap (λ (xs : List ℕ). length xs) is;
  numbers_long = ap (λ (xs : List ℕ). length xs) none
      ∙ sym (ap (λ (xs : List ArcIn). length xs) none');
  ends = ap (λ (xs : List ℕ). get_or xs 0 0) is
      ∙ sym (ap (λ (xs : List ArcIn). length xs) none');
  parts = λ e h. absurd (omega arith);
}

-- the part of one event more
pub into_more : (run : Run) (n : ℕ) (starts starts' numbers numbers' : List ℕ)
    (arcs arcs' : List ArcIn) → AreIntoBelow run n starts arcs numbers
    → IsLinedUp run n 0 arcs numbers arcs' numbers' → starts' ≡ starts ++ length arcs' ∷ []
    → AreIntoBelow run (n + 1) starts' arcs' numbers'
into_more run n starts starts' numbers numbers' arcs arcs' old laid is =
    let at : (e : ℕ) → e < n + 1 → get_or starts' e 0 ≡ get_or starts e 0 =
    λ e h. ap (λ (xs : List ℕ). get_or xs e 0) is
    ∙ get-first starts (length arcs' ∷ []) e (omega (arith, old.starts_long)) in
    let end : get_or starts' (n + 1) 0 ≡ length arcs' = ap (λ (xs : List ℕ). get_or xs (n + 1) 0) is
    ∙ get-last starts (length arcs') (n + 1) (sym old.starts_long) in
    record {
      starts_long = ap (λ (xs : List ℕ). length xs) is
          ∙ omega (arith, length-append starts (length arcs' ∷ []), old.starts_long);
      numbers_long = laid.long;
      ends = end;
      parts = λ e h. dite (ℕ_discrete e n)
          (λ same. let first : get_or starts' e 0 ≡ length arcs = at e h
          ∙ (ap (λ (x : ℕ). get_or starts x 0) same ∙ old.ends) in
          let last : get_or starts' (e + 1) 0 ≡ length arcs' =
          ap (λ (x : ℕ). get_or starts' (x + 1) 0) same ∙ end in
          subst (λ (x : ℕ). ArePart run e 0 x (get_or starts' (e + 1) 0) arcs' numbers') (sym first)
          (subst (λ (x : ℕ). ArePart run e 0 (length arcs) x arcs' numbers') (sym last)
          (subst (λ (x : ℕ). ArePart run x 0 (length arcs) (length arcs') arcs' numbers')
          (sym same) laid.part)))
          (λ far. let low : e < n = omega arith in
          let part = part_longer run e 0 (get_or starts e 0) (get_or starts (e + 1) 0) arcs
          laid.more.0 numbers laid.more_numbers.0 old.numbers_long (old.parts e low) in
          subst (λ (xs : List ArcIn). ArePart run e 0 (get_or starts' e 0)
          (get_or starts' (e + 1) 0) xs numbers') (sym laid.more.1)
          (subst (λ (ks : List ℕ). ArePart run e 0 (get_or starts' e 0)
          (get_or starts' (e + 1) 0) (arcs ++ laid.more.0) ks) (sym laid.more_numbers.1)
          (subst (λ (x : ℕ). ArePart run e 0 x (get_or starts' (e + 1) 0)
          (arcs ++ laid.more.0) (numbers ++ laid.more_numbers.0)) (sym (at e h))
          (subst (λ (x : ℕ). ArePart run e 0 (get_or starts e 0) x
          (arcs ++ laid.more.0) (numbers ++ laid.more_numbers.0))
          (sym (at (e + 1) (omega arith))) part))));
    }

-- the node of an entry
pub entry_near : (run : Run) (event k : ℕ) (x : ArcIn) → IsSound run → IsInto run event k x
    → x.node < run.nodes
entry_near run event k x sound into = omega (
  arith,
  into.says.node_is,
  (sound.named k absent_arc into.near).0,
)

-- what was seen is enough for this turn on the arcs from the first place on, before place i
abbrev pub EnoughIn : Run → View → ℕ → List ℕ → ℕ → ℕ → Type 0
EnoughIn run w turn numbers first i = (j : ℕ) → first ≤ j → j < i
    → turn ≤ count run (seen w) (arc_numbered run (get_or numbers j 0)).source
    + (arc_numbered run (get_or numbers j 0)).tokens

-- there is no place before the first
pub none_before : (run : Run) (w : View) (turn : ℕ) (numbers : List ℕ) (first i : ℕ) → first ≡ i
    → EnoughIn run w turn numbers first i
none_before run w turn numbers first i is j from below = absurd (omega arith)

-- enough on the whole part of an event is enough
pub enough_all : (run : Run) (w : View) (event turn first last : ℕ) (arcs : List ArcIn)
    (numbers : List ℕ) → ArePart run event 0 first last arcs numbers
    → EnoughIn run w turn numbers first last → Enough run w event turn
enough_all run w event turn first last arcs numbers part enough k d near to =
    let same : arc_numbered run k ≡ get_or run.arcs k d = get_or_default run.arcs k absent_arc d near in
    let f = part.all k (omega arith) near (ap (λ (x : Arc). x.target) same ∙ to) in
    subst (λ (x : Arc). turn ≤ count run (seen w) x.source + x.tokens)
    (ap (λ (y : ℕ). arc_numbered run y) f.3 ∙ same) (enough f.0 f.1 f.2)

-- the load of the source of the arc at place i, whose count is enough, and on to the next place
pub goes_on : (run : Run) (event turn first i : ℕ) (numbers : List ℕ) (u : View) (m m' : Sat)
    (x : ArcIn) (r : ℕ) → IsSound run → IsInto run event (get_or numbers i 0) x
    → m' ≡ (after_look m.0 x.node r, m.1) → LooksOn u m.0 → EnoughIn run m.0 turn numbers first i
    → length u.seen ≡ run.nodes → seen m.0 x.node ≤ r
    → (holds m.0 x.node ≡ true → r ≡ seen m.0 x.node)
    → turn ≤ fired_of x.source r + (arc_numbered run (get_or numbers i 0)).tokens
    → LooksOn u m'.0 × EnoughIn run m'.0 turn numbers first (i + 1)
goes_on run event turn first i numbers u m m' x r sound into is q enough long up own here =
    let k : ℕ = get_or numbers i 0 in let a : Arc = arc_numbered run k in let l : ℕ = x.node in
    let v : View = m.0 in let w : View = after_look v l r in
    let inside : l < length v.seen =
    omega (arith, q.seen_long, entry_near run event k x sound into) in
    let P : Sat → Type 0 = λ y. LooksOn u y.0 × EnoughIn run y.0 turn numbers first (i + 1) in
    subst P (sym is) (
      looks_more u v l r q inside up own,
      λ j from below. dite (ℕ_discrete j i)
          (λ e. subst (λ (y : ℕ). turn ≤ count run (seen w) (arc_numbered run (get_or numbers y 0)).source
          + (arc_numbered run (get_or numbers y 0)).tokens) (sym e) (omega (
            arith,
            here,
            into.says.turns_is r,
            ap (turns run a.source)
                (seen-here v l r (node_of run a.source) inside (sym into.says.node_is)),
          )))
          (λ n. let b : Arc = arc_numbered run (get_or numbers j 0) in omega (
            arith,
            enough j from (omega arith),
            turns_up run b.source (seen v (node_of run b.source)) (seen w (node_of run b.source))
                (seen_rises v l r (node_of run b.source) inside up),
          )),
    )

-- the load of the source of arc k, whose count is too small
pub stops : (run : Run) (event turn k : ℕ) (u : View) (m m' : Sat) (x : ArcIn) (r : ℕ)
    → IsSound run → IsInto run event k x → m' ≡ (after_look m.0 x.node r, m.1) → LooksOn u m.0
    → length u.seen ≡ run.nodes → seen m.0 x.node ≤ r
    → (holds m.0 x.node ≡ true → r ≡ seen m.0 x.node)
    → fired_of x.source r + (arc_numbered run k).tokens < turn
    → LooksOn u m'.0 × IsSeenLacking run u m'.0 event turn k (fired_of x.source r)
stops run event turn k u m m' x r sound into is q long up own short =
    gives_up run event turn k u m m' x.node r (fired_of x.source r) into.says.node_is
    (into.says.turns_is r) is q long (entry_near run event k x sound into) up own into.near
    into.enters short

-- the entry at a place of the part of an event
pub entry_into : (run : Run) (event i : ℕ) (starts numbers : List ℕ) (arcs ys : List ArcIn)
    (d : ArcIn) → event < events run → AreIntoBelow run (events run) starts arcs numbers
    → ys ≡ arcs → get_or starts event 0 ≤ i → i < get_or starts (event + 1) 0
    → IsInto run event (get_or numbers i 0) (get_or ys i d)
entry_into run event i starts numbers arcs ys d near all is from below =
    let part = all.parts event near in
    let inside : i < length arcs = omega (arith, part.inside) in
    subst (λ (zs : List ArcIn). IsInto run event (get_or numbers i 0) (get_or zs i d)) (sym is)
    (part.each i (get_or arcs i d) from below (at_or arcs i d inside))

-- where the part of an event begins and ends, read off
pub ends_read : (run : Run) (event a b : ℕ) (starts numbers : List ℕ) (arcs : List ArcIn)
    → event < events run → AreIntoBelow run (events run) starts arcs numbers
    → a ≡ slice_index_or starts event a → b ≡ slice_index_or starts (event + 1) b
    → (get_or starts event 0 ≡ a) × (get_or starts (event + 1) 0 ≡ b) × (a ≤ b)
ends_read run event a b starts numbers arcs near all a-is b-is =
    let first = read-off starts event a (omega (arith, all.starts_long)) a-is in
    let last = read-off starts (event + 1) b (omega (arith, all.starts_long)) b-is in
    (first, last, omega (arith, first, last, (all.parts event near).order))

-- its node, and the word of the node's count
pub look_near : (run : Run) (event i : ℕ) (starts numbers : List ℕ) (arcs ys : List ArcIn)
    (d : ArcIn) → IsSound run → event < events run
    → AreIntoBelow run (events run) starts arcs numbers → ys ≡ arcs
    → get_or starts event 0 ≤ i → i < get_or starts (event + 1) 0 → (get_or ys i d).node < run.nodes
look_near run event i starts numbers arcs ys d sound near all is from below =
    entry_near run event (get_or numbers i 0) (get_or ys i d) sound
    (entry_into run event i starts numbers arcs ys d near all is from below)

pub peek_near : (run : Run) (event i words : ℕ) (starts numbers : List ℕ) (arcs ys : List ArcIn)
    (d : ArcIn) → IsSound run → event < events run
    → AreIntoBelow run (events run) starts arcs numbers → ys ≡ arcs
    → get_or starts event 0 ≤ i → i < get_or starts (event + 1) 0 → words ≡ size run
    → (get_or ys i d).node + 1 < words
peek_near run event i words starts numbers arcs ys d sound near all is from below sized =
    let n : ℕ = (get_or ys i d).node in
    let low : n < run.nodes =
    look_near run event i starts numbers arcs ys d sound near all is from below in
    omega (arith, sized, counts_inside run (n + 1) (omega arith))

-- nothing was put behind the others yet
pub lined_none : (run : Run) (event h : ℕ) (arcs : List ArcIn) (numbers : List ℕ)
    → length numbers ≡ length arcs → IsLastArc run event (length run.arcs) h
    → IsLinedUp run event h arcs numbers arcs numbers
lined_none run event h arcs numbers long last = record {
  long = long;
  more = ([], sym (append-nil arcs));
  more_numbers = ([], sym (append-nil numbers));
  part = part_none run event h arcs numbers last;
}

-- arc m was put behind the others
pub lined_more : (run : Run) (event m h : ℕ) (arcs arcs' arcs'' : List ArcIn)
    (numbers numbers' numbers'' : List ℕ) (x : ArcIn) → IsInto run event m x → IsLastArc run event m h
    → IsLinedUp run event (m + 1) arcs numbers arcs' numbers' → arcs'' ≡ arcs' ++ x ∷ []
    → numbers'' ≡ numbers' ++ m ∷ [] → IsLinedUp run event h arcs numbers arcs'' numbers''
lined_more run event m h arcs arcs' arcs'' numbers numbers' numbers'' x into last old a b =
    let part = part_more run event m h (length arcs) arcs' x numbers' into last old.long old.part in
    record {
      long = ap (λ (ks : List ℕ). length ks) b ∙ omega (
        arith,
        length-append numbers' (m ∷ []),
        length-append arcs' (x ∷ []),
        ap (λ (xs : List ArcIn). length xs) a,
        old.long,
      );
      more = (
        old.more.0 ++ x ∷ [],
        a ∙ (ap (λ (xs : List ArcIn). xs ++ x ∷ []) old.more.1
            ∙ append_assoc arcs old.more.0 (x ∷ [])),
      );
      more_numbers = (
        old.more_numbers.0 ++ m ∷ [],
        b ∙ (ap (λ (ks : List ℕ). ks ++ m ∷ []) old.more_numbers.1
            ∙ append_assoc numbers old.more_numbers.0 (m ∷ [])),
      );
      part = subst (λ (xs : List ArcIn). ArePart run event h (length arcs) (length xs) xs numbers'')
          (sym a) (subst (λ (ks : List ℕ). ArePart run event h (length arcs)
          (length (arcs' ++ x ∷ [])) (arcs' ++ x ∷ []) ks) (sym b) part);
    }
