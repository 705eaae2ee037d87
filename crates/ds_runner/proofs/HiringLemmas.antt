-- Lemmas of passes that are dealt, workers who are hired, and turns that come back.
use Rattle.std.proofs.Common.{◌≡◌, ℕ, zero, suc, ◌+◌, ◌-◌, ◌<◌, ◌≤◌, le_of_eq, true, false, List, [], ◌∷◌, ◌++◌, length, get_or, replicate, sym, refl, ap, ◌∙◌, subst, arith, ⊎_elim, All, sum_by, suc-mul, ◌*◌, take, drop}
use Rattle.std.specs.Prelude.{vec_capacity}
use Rattle.std.proofs.lemmas.List.Sums.{sum_by-cons}
use mathlib.Core.Logic.{dite}
use native.Mathlib.Decide.{ℕ_discrete}
use Rattle.std.proofs.lemmas.List.Elements.{All-cons, All-head, All-nil, All-tail}
use Rattle.std.proofs.lemmas.List.{get_or-replicate, get_or-set_other}
use Rattle.atomic_table.specs.Seated.{TableId}
use Rattle.ds_rule.specs.Run.{Run}
use Rattle.ds_rule.specs.Rule.{first_view, holds, seen}
use Rattle.ds_rule.specs.Plays.{taken_in}
use Rattle.ds_rule.specs.declared.view.View.{View}
use Rattle.ds_rule.proofs.GetElemLemmas.{at_end, replicate-default}
use Rattle.ds_base.specs.Scratch.{Remembers}
use Rattle.ds_fabric.specs.Base.{Base}
use Rattle.ds_fabric.specs.Showing.{Showing, Belongs, IsDealt, IsLeft}
use Rattle.ds_runner.specs.TurnstileRule.{Alone, HasNone, base, fabric_of, has_out, joined, keeps_permits, one_permit, run_of}
use Rattle.ds_runner.specs.Shown.{AreAlone, IsTurnOf, IsTurnstileClosed, IsTurnstileOpened, Stile, Turned}
use Rattle.ds_runner.specs.declared.turn_view.TurnView.{TurnView}
use Rattle.ds_runner.specs.Work.{AreSingle, HasPassOfEach, HasFrom, IsWorkerPool, IsLent, IsUnfired, IsWithin, IsWorker, made_of}
use Rattle.ds_runner.specs.declared.worker_pool.WorkerPool.{WorkerPool}
use Rattle.ds_runner.specs.declared.worker.Worker.{Worker}
use Rattle.ds_runner.proofs.BorderLemmas.{one_longer}
use Rattle.ds_runner.proofs.WorkLemmas.{first_both, only_has, second_both, without_has, overwritten}

-- one pass more
pub one_more_single : (b : Base) (ps : List Showing) (p : Showing) {vs : List Showing} → vs ≡ ps ++ p ∷ [] → AreSingle b ps
    → Alone b.table_id b.run (length ps) p → AreSingle b vs
one_more_single b ps p is all one = subst (AreSingle b) (sym is) (λ l x there.
    ⊎_elim (all l x) (λ e. subst (λ (n : ℕ). Alone b.table_id b.run n x) (sym e.0) (subst (Alone b.table_id b.run (length ps)) e.1 one)) (at_end ps p x l there))

no_more : (n l : ℕ) → get_or (replicate n false) l false ≡ false
no_more zero l = refl
no_more (suc n) zero = refl
no_more (suc n) (suc l) = no_more n l

-- a pass that is dealt is alone with its node
pub dealt_alone : (b : Base) (old p : Showing) (n room : ℕ) → Belongs b old → holds old.view n ≡ true → IsDealt old n room p
    → Alone b.table_id b.run n p
dealt_alone b old p n room fits has dealt = (
  dealt.table ∙ fits.table,
  ap (λ (x : View). x.run) dealt.view ∙ fits.run,
  ap (λ (x : View). holds x n) dealt.view ∙ only_has old.view n has,
  dealt.many,
  (λ j away. ap (λ (x : View). holds x j) dealt.view
      ∙ (get_or-set_other (replicate (length old.view.holds) false) n j true false away ∙ no_more (length old.view.holds) j)),
)

-- what is left once a node more was dealt
pub lent_one : (b : Base) (old mid new : Showing) (n : ℕ) → IsLent b old 0 n mid → IsLeft mid n new → IsLent b old 0 (n + 1) new
lent_one b old mid new n lent rest = record {
  fits = record {
    table = rest.table ∙ lent.fits.table;
    run = ap (λ (x : View). x.run) rest.view ∙ lent.fits.run;
    remembers = subst (Remembers b.memory) (sym rest.scratch) lent.fits.remembers;
  };
  has = subst (λ (x : View). HasFrom x (n + 1)) (sym rest.view) (without_has mid.view n lent.has);
  many = omega (arith, rest.many, lent.many);
  room = rest.room ∙ lent.room;
  unfired = λ l. ap (λ (x : View). seen x l) rest.view ∙ lent.unfired l;
}

-- passes of the fabric, of which there is one, are passes of one fabric
pub single_alone : (b : Base) (ps : List Showing) → AreSingle b ps → 0 < length ps → (fabric_of ps ≡ b.table_id) × (run_of ps ≡ b.run)
single_alone b [] all some_there = absurd (omega (some_there, arith))
single_alone b (p ∷ ps) all some_there = let one = all 0 p refl in (one.0, one.1)

pub are_alone : (b : Base) (ps : List Showing) → AreSingle b ps → 0 < length ps → AreAlone ps
are_alone b ps all some_there l p there =
    let taken_in = single_alone b ps all some_there in
    subst (λ (z : TableId). Alone z (run_of ps) l p) (sym taken_in.0) (subst (λ (r : Run). Alone b.table_id r l p) (sym taken_in.1) (all l p there))

-- a turnstile of these passes fits the fabric
pub opened_fits : (b : Base) (ps : List Showing) (s : Stile) → AreSingle b ps → 0 < length ps → length ps ≡ b.run.nodes → s.given ≡ ps → HasPassOfEach b s
opened_fits b ps s all some_there long is =
    let taken_in = single_alone b ps all some_there in record {
      fabric_is = ap fabric_of is ∙ taken_in.0;
      run_is = ap run_of is ∙ taken_in.1;
      long = ap (λ (xs : List Showing). length xs) is ∙ long;
    }

-- passes that come back are passes of the fabric
pub closed_single : (b : Base) (s : Stile) (made : ℕ) (ps : List Showing) → HasPassOfEach b s → IsTurnstileClosed s made ps → AreSingle b ps
closed_single b s made ps fits closed l p there =
    subst (λ (z : TableId). Alone z b.run l p) fits.fabric_is (subst (λ (r : Run). Alone (fabric_of s.given) r l p) fits.run_is (closed.each l p there))

-- a turn that gives a permit away has out what it had, and the new one has nothing out
pub keeps_none : (v w : TurnView) → w ≡ keeps_permits v → HasNone v → HasNone w
keeps_none v w is none l = ap (λ (x : TurnView). has_out x l) is ∙ none l

pub permit_none : (v w : TurnView) → w ≡ one_permit v → HasNone w
permit_none v w is l = ap (λ (x : TurnView). has_out x l) is ∙ no_more (length v.out) l

pub joined_none : (v w x : TurnView) → x ≡ joined v w → HasNone v → HasNone x
joined_none v w x is none l = ap (λ (y : TurnView). has_out y l) is ∙ none l

-- the pass takes in the last of those that are left
pub taken_last : (b : Base) (v v' : View) (p : Showing) (n : ℕ) → v.run ≡ b.run → v' ≡ taken_in v p.view → Alone b.table_id b.run n p
    → ((k : ℕ) → n + 1 ≤ k → k < b.run.nodes → holds v k ≡ true) → (k : ℕ) → n ≤ k → k < b.run.nodes → holds v' k ≡ true
taken_last b v v' p n run is alone has k near far =
    let there : k < v.run.nodes = omega (far, arith, ap (λ (r : Run). r.nodes) run) in
    ap (λ (x : View). holds x k) is ∙ dite (ℕ_discrete k n)
    (λ e. second_both v p.view k there (ap (holds p.view) e ∙ alone.2))
    (λ ne. first_both v p.view k there (has k (omega (near, ne, arith)) far))

-- what holds of all holds of those before the last, and of the last
pub all_split : {X : Type 0} (P : X → Type 0) (xs : List X) (y : X) → All P (xs ++ y ∷ []) → All P xs × P y
all_split P [] y all = (All-nil P, All-head P y [] all)
all_split P (x ∷ xs) y all =
    let rest : All P xs × P y = all_split P xs y (All-tail P x (xs ++ y ∷ []) all) in
    (All-cons P x xs (All-head P x (xs ++ y ∷ []) all) rest.0, rest.1)

-- one more
pub all_more : {X : Type 0} (P : X → Type 0) (xs ys : List X) (y : X) → ys ≡ xs ++ y ∷ [] → All P xs → P y → All P ys
all_more {X = X} P xs ys y is all one = subst (All P) (sym is) (with_last xs all)
  where
    with_last : (xs : List X) → All P xs → All P (xs ++ y ∷ [])
    with_last [] all = All-cons P y [] one (All-nil P)
    with_last (x ∷ xs) all = All-cons P x (xs ++ y ∷ []) (All-head P x xs all) (with_last xs (All-tail P x xs all))

-- the first pass has seen no firing
pub first_unfired : (run : Run) (v : View) → v ≡ first_view run → IsUnfired v
first_unfired run v is = subst IsUnfired (sym is) (λ l. replicate-default {A = ℕ} run.nodes l 0)

-- one pass more that has seen no firing
pub unfired-more : (ps vs : List Showing) (p : Showing) → vs ≡ ps ++ p ∷ [] → base 0 ps ≡ 0 → IsUnfired p.view → base 0 vs ≡ 0
unfired-more ps vs p is none one = ap (base 0) is ∙ (base-append 0 ps ∙ none)
  where
    base-append : (k : ℕ) (xs : List Showing) → base k (xs ++ p ∷ []) ≡ base k xs
    base-append k [] = omega (arith, one k)
    base-append k (x ∷ xs) = ap (λ n. seen x.view k + n) (base-append (suc k) xs)

-- workers that are back: so many, each of whom has fired at most so often
pub all_back : (b : Base) (s : Stile) (n : ℕ) (ws : List Worker) → ((i : ℕ) (d : Worker) → i < length ws → IsWithin b s n (get_or ws i d))
    → All (IsWorker b s) ws × (sum_by made_of ws ≤ length ws * n)
all_back b s n [] each = (All-nil (IsWorker b s), omega arith)
all_back b s n (w ∷ ws) each = let rest = all_back b s n ws (λ i d near. each (suc i) d (omega arith)) in
    let first : IsWithin b s n w = each 0 w (omega arith) in (
      All-cons (IsWorker b s) w ws first.worker rest.0,
      omega (arith, sum_by-cons made_of w ws, first.few, rest.1, suc-mul (length ws) n),
    )

-- so the workers whom a call wrote over those that were hired have fired so often together
pub all_made : (b : Base) (s : Stile) (n many count : ℕ) (items now new : List Worker) → now ≡ items → length new ≡ length now
    → length items ≡ many → length items ≡ count
    → ((i : ℕ) (d : Worker) → i < length now → IsWithin b s n (get_or new i d))
    → sum_by made_of (take many (new ++ drop (length new) items)) ≤ count * n
all_made b s n many count items now new is long wide all each =
    let same : length now ≡ length items = ap (λ (ws : List Worker). length ws) is in
    let size : length new ≡ count = long ∙ (same ∙ all) in
    subst (λ (ws : List Worker). sum_by made_of ws ≤ count * n) (sym (overwritten many items new (long ∙ (same ∙ wide))))
    (omega (
      arith,
      (all_back b s n new (λ i d near. each i d (omega (arith, near, long)))).1,
      ap (λ (m : ℕ). m * n) size,
    ))

-- workers who have fired at most so often are workers
pub all_workers : (b : Base) (s : Stile) (n : ℕ) (ws : List Worker) → All (IsWithin b s n) ws → All (IsWorker b s) ws
all_workers b s n [] all = All-nil (IsWorker b s)
all_workers b s n (w ∷ ws) all =
    All-cons (IsWorker b s) w ws (All-head (IsWithin b s n) w ws all).worker
    (all_workers b s n ws (All-tail (IsWithin b s n) w ws all))

-- so many of the workers are hired, for whom there is room, and the turn has the other permits
pub record IsHiring (b : Base) (s : Stile) (number count room : ℕ) (ws : List Worker) (t : Turned) : Type 0 where
  pub are : All (IsWithin b s 0) ws
  pub many : length ws ≡ number
  pub belongs : IsTurnOf s t
  pub none : HasNone t.view
  pub permits : t.view.permits + number ≡ count + 1
  pub fits : count ≤ room
  pub made : t.view.made ≡ 0

-- one worker more, whose turn was split off
pub one_more_hired : (b : Base) (s : Stile) (number count : ℕ) {room room' : ℕ} (ws vs : List Worker) (w : Worker) (t u : Turned)
    → IsHiring b s number count room ws t → number < count → vs ≡ ws ++ w ∷ [] → room' ≡ room → IsTurnOf s u
    → u.view ≡ keeps_permits t.view → IsTurnOf s w.turn → w.turn.view ≡ one_permit t.view → Remembers b.memory w.scratch
    → IsHiring b s (number + 1) count room' vs u
one_more_hired b s number count ws vs w t u hiring near is same fits left own new remembers =
    let one : IsWithin b s 0 w = record {
      worker = record {
        belongs = own;
        none = permit_none t.view w.turn.view new;
        one = ap (λ (v : TurnView). v.permits) new;
        remembers = remembers;
      };
      few = le_of_eq (ap (λ (v : TurnView). v.made) new);
    } in
    let permits : u.view.permits ≡ t.view.permits - 1 = ap (λ (v : TurnView). v.permits) left in record {
      are = all_more (IsWithin b s 0) ws vs w is hiring.are one;
      many = omega (arith, one_longer ws vs w is, hiring.many);
      belongs = fits;
      none = keeps_none t.view u.view left hiring.none;
      permits = omega (arith, permits, hiring.permits, near);
      fits = omega (arith, same, hiring.fits);
      made = ap (λ (v : TurnView). v.made) left ∙ hiring.made;
    }

-- what was hired is a pool: the turnstile was opened over the passes, and each worker has a turn
pub is_worker_pool : (b : Base) (k : WorkerPool) (ps : List Showing) (t : Turned) (count : ℕ) → AreSingle b ps → length ps ≡ b.run.nodes
    → 0 < b.run.nodes → base 0 ps ≡ 0 → IsTurnstileOpened ps (count + 1) k.scheduler.stile t
    → IsTurnOf k.scheduler.stile k.turn × HasNone k.turn.view × (k.turn.view.permits ≡ 1) × (k.turn.view.made ≡ 0)
    → All (IsWithin b k.scheduler.stile 0) k.workers.items × (length k.workers.items ≡ count) → 0 < count
    → k.passes.items ≡ [] → b.run.nodes ≤ vec_capacity k.passes → IsWorkerPool b k
is_worker_pool b k ps t count all long some_nodes unfired opened turn hired some_count empty room =
    let fits : HasPassOfEach b k.scheduler.stile =
    opened_fits b ps k.scheduler.stile all (omega (arith, long, some_nodes)) long opened.given_is in record {
      fits = fits;
      belongs = turn.0;
      none = turn.1;
      made = turn.3;
      unfired = ap (base 0) opened.given_is ∙ unfired;
      permits = omega (arith, turn.2, hired.1, opened.all_permits_is);
      are = all_workers b k.scheduler.stile 0 k.workers.items hired.0;
      some_workers = omega (arith, hired.1, some_count);
      empty = empty;
      room = omega (arith, fits.long, room);
    }

-- the first pass has all nodes
pub first_has : (run : Run) (v : View) → v ≡ first_view run → HasFrom v 0
first_has run v is = subst (λ (x : View). HasFrom x 0) (sym is) (λ l near far. get_or-replicate run.nodes l true false far)
