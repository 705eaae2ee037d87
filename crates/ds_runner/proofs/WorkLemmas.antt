-- Lemmas of passes and rounds.
use Rattle.std.proofs.Common.{◌≡◌, ℕ, ◌+◌, ◌-◌, ◌*◌, cond, Bool, ◌<◌, ◌≤◌, true, false, List, [], ◌∷◌, ◌++◌, length}
use Rattle.std.proofs.Common.{sym, refl, ap, ◌∙◌, subst, arith, le_trans, replicate, ◌||◌}
use Rattle.std.proofs.Common.{zero, suc, take, drop, get_or, get_or-set_other, get_or-set_same}
use Rattle.std.proofs.lemmas.List.{length-replicate}
use Rattle.std.proofs.Math.Seq.{drop-nil}
use Rattle.std.proofs.lemmas.Bool.{false≢true}
use Rattle.std.proofs.Math.Bool.{or-true, true-or}
use mathlib.Core.Logic.{dite}
use native.Mathlib.Decide.{ℕ_discrete}
use Rattle.ds_rule.specs.Run.{Run, events, node_of, next, turns, count, IsEnabledInRun}
use Rattle.ds_rule.specs.Sound.{IsSound}
use Rattle.ds_rule.specs.Progress.{IsRunAccepted, Stuck}
use Rattle.ds_rule.specs.Rule.{holds, seen}
use Rattle.ds_rule.specs.Plays.{with_cut, without_cut, only_cut, taken_in}
use Rattle.ds_rule.specs.declared.view.View.{View}
use Rattle.ds_rule.proofs.TableProgress.{all_done}
use Rattle.ds_rule.proofs.EventLaws.{node-next, fired_most, event_below}
use Rattle.ds_rule.proofs.GraphLaws.{enabled_same}
use Rattle.ds_rule.proofs.GetElemLemmas.{has_below, get-listed}
use Rattle.ds_base.specs.Scratch.{Memory}
use Rattle.ds_fabric.specs.Base.{Base}
use Rattle.ds_fabric.specs.Chained.{absent_arc, arc_numbered}
use Rattle.ds_fabric.specs.Showing.{Showing, Belongs}
use Rattle.ds_fabric.specs.Stepped.{Stepped}
use Rattle.ds_fabric.specs.declared.step.Step.{Step}
use Rattle.ds_fabric.specs.declared.step.Step.TheVariants.{Fired, NotYet, Done}
use Rattle.ds_runner.specs.Work.{HasFrom, Moved}
use Rattle.ds_runner.specs.Work.{left, Advances, AdvancesBelow}
use Rattle.ds_runner.specs.TurnstileRule.{sum_below}
use Rattle.ds_runner.proofs.TurnstileRuleLemmas.{sum_same}

pub moved_on : (o : Memory) (p q r : Showing) → Moved o p q → Moved o q r → Moved o p r
moved_on o p q r m n = record {
  table = n.table ∙ m.table;
  many = n.many ∙ m.many;
  room = n.room ∙ m.room;
  remembers = λ x. n.remembers (m.remembers x);
  run = n.run ∙ m.run;
  holds_same = n.holds_same ∙ m.holds_same;
  up = λ x. le_trans (m.up x) (n.up x);
}

pub still_belongs : (b : Base) (p q : Showing) → Belongs b p → Moved b.memory p q → Belongs b q
still_belongs b p q h m = record {
  table = m.table ∙ h.table;
  run = m.run ∙ h.run;
  remembers = m.remembers h.remembers;
}

-- after a node left, what is held is what was held but for it
pub without_has : (v : View) (node : ℕ) → HasFrom v node → HasFrom (without_cut (with_cut v node)) (node + 1)
without_has v node h l near far = get_or-set_other v.holds node l false false (λ e. omega arith) ∙ h l (omega arith) far

pub only_has : (v : View) (node : ℕ) → holds v node ≡ true → holds (only_cut (with_cut v node)) node ≡ true
only_has v node h = get_or-set_same (replicate (length v.holds) false) node true false
    (omega (arith, length-replicate (length v.holds) false, has_below v.holds node h))

-- what two passes hold together, of the nodes that are there
both-holds : (v w : View) (l : ℕ) → l < v.run.nodes → holds (taken_in v w) l ≡ (holds v l || holds w l)
both-holds v w l near = get-listed (λ x. holds v x || holds w x) v.run.nodes l false near

pub first_both : (v w : View) (l : ℕ) → l < v.run.nodes → holds v l ≡ true → holds (taken_in v w) l ≡ true
first_both v w l near h = both-holds v w l near ∙ (ap (λ b. b || holds w l) h ∙ true-or (holds w l))

pub second_both : (v w : View) (l : ℕ) → l < v.run.nodes → holds w l ≡ true → holds (taken_in v w) l ≡ true
second_both v w l near h = both-holds v w l near ∙ (ap (λ b. holds v l || b) h ∙ or-true (holds v l))

-- a whole list written over another of its length
pub overwritten : {A : Type 0} (n : ℕ) (xs ys : List A) → length ys ≡ n → take n (ys ++ drop (length ys) xs) ≡ ys
overwritten zero xs [] e = refl
overwritten zero xs (y ∷ ys) e = absurd (omega arith)
overwritten (suc n) xs [] e = absurd (omega arith)
overwritten (suc n) [] (y ∷ ys) e = ap (λ zs. y ∷ zs) (ap (take n) (ap (λ zs. ys ++ zs) (sym (drop-nil (length ys))))
    ∙ overwritten n [] ys (omega arith))
overwritten (suc n) (x ∷ xs) (y ∷ ys) e = ap (λ zs. y ∷ zs) (overwritten n xs ys (omega arith))

-- a sum that falls at one place and rises at none
falls_at : (f g : ℕ → ℕ) (n l : ℕ) → l < n → ((j : ℕ) → g j ≤ f j) → g l < f l → sum_below g n < sum_below f n
falls_at f g zero l h low less = absurd (omega arith)
falls_at f g (suc n) l h low less = dite (ℕ_discrete l n)
    (λ e. omega (arith, falls_no_more n, subst (λ j. g j < f j) e less))
    (λ e. omega (arith, falls_at f g n l (omega arith) low less, low n))
  where
    falls_no_more : (n : ℕ) → sum_below g n ≤ sum_below f n
    falls_no_more zero = omega arith
    falls_no_more (suc n) = omega (arith, falls_no_more n, low n)

-- a pass that holds all nodes has one firing less left, or the node is stuck
pub advances : (run : Run) (v w : View) (l : ℕ) (r : Step) → IsSound run → v.run ≡ run → HasFrom v 0 → l < run.nodes
    → Stepped run v l r w → Advances run v l w (elim r [ Fired e t k ↦ true | NotYet a n ↦ false | Done ↦ false ])
advances run v w l (Fired event turn ticket) sound run-is all near s =
    let most = fired_most run l (seen v l) run.limit (omega (arith, s.turn_is, s.within)) in
    falls_at (λ x. 2 * run.limit - seen v x) (λ x. 2 * run.limit - seen w x) run.nodes l near
    (λ x. omega (arith, s.seen_up x)) (omega (arith, s.once_more, most))
advances run v w l (NotYet arc n) sound run-is all near s =
    let lacks = s.1 in let u : ℕ = node_of run (arc_numbered run arc).source in
    let source : u < run.nodes = (sound.named arc absent_arc lacks.inside).0 in
    let own = lacks.own (all u (omega arith)
    (omega (arith, source, ap (λ (r : Run). r.nodes) run-is))) in (
      (λ x low. s.0.own x (all x (omega arith) (omega (arith, low, ap (λ (r : Run). r.nodes) run-is)))),
      λ on. absurd (omega (
        arith,
        on.ready arc absent_arc lacks.inside lacks.enters,
        ap (turns run (next run l (seen v l))) (ap (seen v) (node-next run l (seen v l))),
        own,
        lacks.short,
      )),
    )
advances run v w l Done sound run-is all near s = (
  (λ x low. ap (λ (y : View). seen y x) s.0),
  λ on. absurd (omega (
    arith,
    on.below,
    s.1,
    ap (turns run (next run l (seen v l))) (ap (seen v) (node-next run l (seen v l))),
  )),
)

same_left : (run : Run) (v w : View) → ((x : ℕ) → x < run.nodes → seen w x ≡ seen v x) → left run w ≡ left run v
same_left run v w same = sum_same (λ l. 2 * run.limit - seen w l) (λ l. 2 * run.limit - seen v l) run.nodes
    (λ j h. ap (λ n. 2 * run.limit - n) (same j h))

-- what is stuck depends on the firings of the nodes that are there
stuck_same : (run : Run) (f g : ℕ → ℕ) (l : ℕ) → IsSound run → ((x : ℕ) → x < run.nodes → f x ≡ g x) → l < run.nodes
    → Stuck run f l → Stuck run g l
stuck_same run f g l sound same near stuck on = let E : ℕ = next run l (f l) in
    stuck (enabled_same run g f E (sym (same (node_of run E) (omega (arith, node-next run l (f l)))))
    (λ k d inside into. sym (same (node_of run (get_or run.arcs k d).source) (sound.named k d inside).0))
    (subst (λ (n : ℕ). IsEnabledInRun run g (next run l n)) (sym (same l near)) on))

abbrev Round : Run → View → ℕ → View → Bool → Type 0
Round run v n w b = AdvancesBelow run v n w b × (left run w ≤ left run v)

pub one_more_node : (run : Run) (v u w : View) (n : ℕ) (b r : Bool) → IsSound run → n < run.nodes → Round run v n u b
    → Advances run u n w r → Round run v (n + 1) w (cond r true b)
one_more_node run v u w n b true sound near h a = let q : left run w < left run v = omega (arith, a, h.1) in (q, omega arith)
one_more_node run v u w n true false sound near h a = let s = same_left run u w a.0 in
    let q : left run w < left run v = omega (arith, s, h.0) in (q, omega arith)
one_more_node run v u w n false false sound near h a = (
  (
    (λ x low. a.0 x low ∙ h.0.0 x low),
    λ l low. dite (ℕ_discrete l n)
        (λ e. subst (Stuck run (seen v)) (sym e) (stuck_same run (seen u) (seen v) n sound h.0.0 near a.1))
        (λ ne. h.0.1 l (omega arith)),
  ),
  omega (arith, same_left run u w a.0, h.1),
)

-- with a step no more is left
pub not_more : (run : Run) (u w : View) (n : ℕ) (r : Bool) → Advances run u n w r → left run w ≤ left run u
not_more run u w n true a = omega (arith, a)
not_more run u w n false a = (let s = same_left run u w a.0 in omega (arith, s))

-- where a round fires nothing, every event has fired as often as it may
pub rounds_end : (run : Run) → IsSound run → IsRunAccepted run → (v w : View) (b : Bool) → AdvancesBelow run v run.nodes w b
    → b ≡ false → (e : ℕ) → node_of run e < run.nodes → run.limit ≤ count run (seen w) e
rounds_end run sound ok v w true a is e near = absurd (false≢true (sym is))
rounds_end run sound ok v w false a is e near = omega (
  arith,
  ap (turns run e) (a.0 (node_of run e) near),
  all_done run sound ok (seen v) a.1 e near,
)

pub shrinks : (run : Run) (v w : View) (b : Bool) → AdvancesBelow run v run.nodes w b → b ≡ true → left run w < left run v
shrinks run v w true a is = a
shrinks run v w false a is = absurd (false≢true is)

-- the number of a node's next event has 32 bits
pub event_small : (run : Run) (l f : ℕ) → IsSound run → l < run.nodes → next run l f < 4294967296
unfolding events
event_small run l f sound near = omega (
  arith,
  event_below run (next run l f) sound.among (subst (λ (m : ℕ). m < run.nodes) (sym (node-next run l f)) near),
  sound.few,
  sound.among,
)
