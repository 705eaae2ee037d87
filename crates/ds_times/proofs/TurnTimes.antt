-- Arcs by the ranks of their targets, one after the other, give the times of a turn.
use Rattle.std.proofs.Common.{◌≡◌, ◌⊎◌, ◌∙◌, ◌<◌, ◌≤◌, ◌+◌, ◌-◌, ◌^◌, ℕ, List, length, refl, inl, inr, arith, ap, sym, subst}
use Rattle.std.proofs.lemmas.Bool.{cases_eq, cases_lt}
use Rattle.std.proofs.lemmas.List.{get_or_default}
use Rattle.ds_period.specs.declared.timed.Timed.{Timed}
use Rattle.ds_period.specs.Search.{no_arc, timed_at}
use Rattle.ds_times.specs.Schedule.{IsSchedule}
use Rattle.ds_times.specs.Rings.{AreRings, IsTurnBegun, KeptTimes, kept_time, ring_place, room_of}
use Rattle.ds_times.specs.Course.{AreKeptTimes, IsPlanned, IsRelaxed, KeepsTimes}
use Rattle.ds_times.proofs.SchedulesExist.{some_schedule}
use Rattle.ds_times.proofs.Times.{low_times}
use Rattle.ds_times.proofs.KeptTimes.{events_apart, turns_apart}

-- a schedule is one of fewer turns
pub fewer_turns : (arcs : List Timed) (turns more : ℕ) (time : ℕ → ℕ → ℕ) → turns ≤ more → IsSchedule arcs more time → IsSchedule arcs turns time
fewer_turns arcs turns more time le is = record {
  waits = λ j d inside k lt few. is.waits j d inside k lt (omega arith);
  early = λ v k some few. is.early v k some (omega arith);
}

-- where the arcs have been gone over up to one
pub record IsFired (arcs : List Timed) (starts : List ℕ) (turn : ℕ) (time : ℕ → ℕ → ℕ) (now : KeptTimes) (count : ℕ) : Type 0 where
  pub starts_are : now.starts ≡ starts
  pub old : (v k : ℕ) → v + 1 < length starts → 0 < k → k < turn → turn < k + room_of starts v → kept_time now v k ≡ time v k
  pub most : (v : ℕ) → v + 1 < length starts → kept_time now v turn ≤ time v turn
  pub done : (j : ℕ) → j < count → (timed_at arcs j).tokens < turn
      → time (timed_at arcs j).source (turn - (timed_at arcs j).tokens) + (timed_at arcs j).delay ≤ kept_time now (timed_at arcs j).target turn

module _ (arcs : List Timed) (starts : List ℕ) (plan : IsPlanned arcs starts) (turn : ℕ) (some : 0 < turn) (time : ℕ → ℕ → ℕ) (is : IsSchedule arcs turn time) where
  -- an event is done where all arcs into it are
  settled : (now : KeptTimes) (count : ℕ) → IsFired arcs starts turn time now count → (u : ℕ) → u + 1 < length starts
      → ((j : ℕ) → j < length arcs → (timed_at arcs j).target ≡ u → j < count) → kept_time now u turn ≡ time u turn
  settled now count fired u inside all = elim (is.early u turn some (omega arith)) [
    | inl none ↦ let most = fired.most u inside in omega arith
    | inr (j, x, within, at, (e, low, same)) ↦
        let here : timed_at arcs j ≡ x = get_or_default arcs j no_arc x within ∙ at in
        let target : (timed_at arcs j).target ≡ u = ap (λ (y : Timed). y.target) here ∙ e in
        let tokens : (timed_at arcs j).tokens ≡ x.tokens = ap (λ (y : Timed). y.tokens) here in
        let done : time (timed_at arcs j).source (turn - (timed_at arcs j).tokens) + (timed_at arcs j).delay ≤ kept_time now (timed_at arcs j).target turn =
        fired.done j (all j within target) (omega arith) in
        let asked : time (timed_at arcs j).source (turn - (timed_at arcs j).tokens) + (timed_at arcs j).delay ≡ time x.source (turn - x.tokens) + x.delay =
        ap (λ (y : Timed). time y.source (turn - y.tokens) + y.delay) here in
        let there : kept_time now (timed_at arcs j).target turn ≡ kept_time now u turn = ap (λ (v : ℕ). kept_time now v turn) target in
        let most = fired.most u inside in
        omega arith
  ]

  -- the time that the next arc waits for is there
  pub source_ready : (now : KeptTimes) (i : ℕ) → i < length arcs → IsFired arcs starts turn time now i → (timed_at arcs i).tokens < turn
      → kept_time now (timed_at arcs i).source (turn - (timed_at arcs i).tokens) ≡ time (timed_at arcs i).source (turn - (timed_at arcs i).tokens)
  source_ready now i inside fired low = elim (cases_eq (timed_at arcs i).tokens 0) [
    | inl free ↦
        let up : plan.rank (timed_at arcs i).source < plan.rank (timed_at arcs i).target = plan.rises i no_arc inside free in
        let ready = settled now i fired (timed_at arcs i).source (plan.ends i inside).0 (λ j within e.
        elim (cases_lt j i) [
          | inl lt ↦ lt
          | inr ge ↦
              let sorted = plan.sorted i j ge within in
              let same : plan.rank (timed_at arcs j).target ≡ plan.rank (timed_at arcs i).source = ap plan.rank e in
              absurd (omega arith)
        ]) in
        subst (λ (k : ℕ). kept_time now (timed_at arcs i).source k ≡ time (timed_at arcs i).source k) {x = turn} {y = turn - (timed_at arcs i).tokens} (omega arith) ready
    | inr tokens ↦
        let kept = plan.kept i inside in
        fired.old (timed_at arcs i).source (turn - (timed_at arcs i).tokens) (plan.ends i inside).0 (omega arith) (omega arith) (omega arith)
  ]

  -- and fits
  pub source_fits : turn < 2 ^ 32 → (now : KeptTimes) (i : ℕ) → i < length arcs → IsFired arcs starts turn time now i → (timed_at arcs i).tokens < turn
      → kept_time now (timed_at arcs i).source (turn - (timed_at arcs i).tokens) + (timed_at arcs i).delay < 2 ^ 128
  source_fits few now i inside fired low =
      let ready = source_ready now i inside fired low in
      let bound = (low_times arcs plan.rank plan.rises turn time is plan.small (timed_at arcs i).source (turn - (timed_at arcs i).tokens) (omega arith) (omega arith)).0 in
      let small = (plan.small i no_arc inside).1 in
      omega arith

  module _ (now new : KeptTimes) (i : ℕ) (inside : i < length arcs) (rings : AreRings now) (fired : IsFired arcs starts turn time now i) (relaxed : IsRelaxed now new turn (timed_at arcs i)) where
    here : Timed
    here = timed_at arcs i

    same_size : length now.starts ≡ length starts
    same_size = ap (λ (xs : List ℕ). length xs) fired.starts_are

    -- what is kept of the turns before stays
    stays : (v k : ℕ) → v + 1 < length starts → k < turn → turn < k + room_of starts v → kept_time new v k ≡ kept_time now v k
    stays v k within lt near = relaxed.others v k (omega (arith, same_size)) (elim (cases_eq v (timed_at arcs i).target) [
      | inl e ↦ (λ same. turns_apart now rings v k turn lt
          (subst (λ (xs : List ℕ). turn < k + room_of xs v) (sym fired.starts_are) near)
          (same ∙ ap (λ (w : ℕ). ring_place now.starts w turn) (sym e)))
      | inr ne ↦ events_apart now rings v (timed_at arcs i).target k turn (omega (arith, same_size)) (omega (arith, same_size, (plan.ends i inside).1)) ne
    ])

    -- other events stay
    other_stays : (v : ℕ) → v + 1 < length starts → (v ≡ (timed_at arcs i).target → ⊥) → kept_time new v turn ≡ kept_time now v turn
    other_stays v within ne = relaxed.others v turn (omega (arith, same_size))
        (events_apart now rings v (timed_at arcs i).target turn turn (omega (arith, same_size)) (omega (arith, same_size, (plan.ends i inside).1)) ne)

    -- the target's time is the later one
    target_is : ((timed_at arcs i).tokens < turn) ⊎ (turn ≤ (timed_at arcs i).tokens)
        → (kept_time now (timed_at arcs i).target turn ≤ kept_time new (timed_at arcs i).target turn)
        × (kept_time new (timed_at arcs i).target turn ≤ time (timed_at arcs i).target turn)
        × ((timed_at arcs i).tokens < turn → time (timed_at arcs i).source (turn - (timed_at arcs i).tokens) + (timed_at arcs i).delay ≤ kept_time new (timed_at arcs i).target turn)
    target_is (inl low) =
        let waits = relaxed.waits low in
        let ready = source_ready now i inside fired low in
        let most = fired.most (timed_at arcs i).target (plan.ends i inside).1 in
        let asks : time (timed_at arcs i).source (turn - (timed_at arcs i).tokens) + (timed_at arcs i).delay ≤ time (timed_at arcs i).target turn =
        is.waits i no_arc inside turn low (omega arith) in
        (omega arith, omega arith, λ lt. omega arith)
    target_is (inr high) =
        let free = relaxed.free high in
        let most = fired.most (timed_at arcs i).target (plan.ends i inside).1 in
        (omega arith, omega arith, λ lt. absurd (omega arith))

    target_now : (kept_time now (timed_at arcs i).target turn ≤ kept_time new (timed_at arcs i).target turn)
        × (kept_time new (timed_at arcs i).target turn ≤ time (timed_at arcs i).target turn)
        × ((timed_at arcs i).tokens < turn → time (timed_at arcs i).source (turn - (timed_at arcs i).tokens) + (timed_at arcs i).delay ≤ kept_time new (timed_at arcs i).target turn)
    target_now = target_is (cases_lt (timed_at arcs i).tokens turn)

    -- no time falls
    never_lower : (v : ℕ) → v + 1 < length starts → kept_time now v turn ≤ kept_time new v turn
    never_lower v within = elim (cases_eq v (timed_at arcs i).target) [
      | inl e ↦ subst (λ (w : ℕ). kept_time now w turn ≤ kept_time new w turn) (sym e) target_now.0
      | inr ne ↦ let same = other_stays v within ne in omega arith
    ]

    -- one arc more
    pub fired_more : IsFired arcs starts turn time new (i + 1)
    fired_more = record {
      starts_are = relaxed.starts ∙ fired.starts_are;
      old = λ v k within some_turn lt near. stays v k within lt near ∙ fired.old v k within some_turn lt near;
      most = λ v within. elim (cases_eq v (timed_at arcs i).target) [
        | inl e ↦ subst (λ (w : ℕ). kept_time new w turn ≤ time w turn) (sym e) target_now.1
        | inr ne ↦ (let same = other_stays v within ne in let most = fired.most v within in omega arith)
      ];
      done = λ j lt low. elim (cases_eq j i) [
        | inl e ↦ subst (λ (h : ℕ). time (timed_at arcs h).source (turn - (timed_at arcs h).tokens) + (timed_at arcs h).delay ≤ kept_time new (timed_at arcs h).target turn) (sym e)
            (target_now.2 (subst (λ (h : ℕ). (timed_at arcs h).tokens < turn) e low))
        | inr ne ↦
            (let before = fired.done j (omega arith) low in
            let up = never_lower (timed_at arcs j).target (plan.ends j (omega arith)).1 in
            omega arith)
      ];
    }

  -- all arcs are gone over
  pub fired_all : (now : KeptTimes) (count : ℕ) → IsFired arcs starts turn time now count → length arcs ≤ count → AreKeptTimes now turn time
  fired_all now count fired all v k within some_turn le near =
      let size : length now.starts ≡ length starts = ap (λ (xs : List ℕ). length xs) fired.starts_are in
      elim (cases_eq k turn) [
        | inl e ↦ subst (λ (j : ℕ). kept_time now v j ≡ time v j) (sym e) (settled now count fired v (omega arith) (λ j inside e. omega arith))
        | inr ne ↦ fired.old v k (omega arith) some_turn (omega arith) (subst (λ (xs : List ℕ). turn < k + room_of xs v) fired.starts_are near)
      ]

  -- no arc is
  pub fired_none : (old now : KeptTimes) → old.starts ≡ starts → KeepsTimes arcs old (turn - 1) → IsTurnBegun old now turn → IsFired arcs starts turn time now 0
  fired_none old now same keeps begun =
      let size : length old.starts ≡ length starts = ap (λ (xs : List ℕ). length xs) same in
      record {
        starts_are = begun.starts ∙ same;
        old = λ v k within some_turn lt near.
            let here : turn < k + room_of old.starts v = subst (λ (xs : List ℕ). turn < k + room_of xs v) (sym same) near in
            begun.rest v k (omega arith) lt here
            ∙ keeps time (fewer_turns arcs (turn - 1) turn time (omega arith) is) v k (omega arith) some_turn (omega arith) (omega arith);
        most = λ v within. (let none = begun.none v (omega arith) in omega arith);
        done = λ j lt. absurd (omega arith);
      }

-- the arcs of a turn: where the rings stand, and how far they have come
pub record IsFiringOn (arcs : List Timed) (starts : List ℕ) (turn : ℕ) (now : KeptTimes) (count : ℕ) : Type 0 where
  pub rings : AreRings now
  pub starts_are : now.starts ≡ starts
  pub fired : (time : ℕ → ℕ → ℕ) → IsSchedule arcs turn time → IsFired arcs starts turn time now count

pub firing_none : (arcs : List Timed) (turn : ℕ) (old now : KeptTimes) → IsPlanned arcs old.starts → 0 < turn → KeepsTimes arcs old (turn - 1)
    → IsTurnBegun old now turn → AreRings now → IsFiringOn arcs old.starts turn now 0
firing_none arcs turn old now plan some keeps begun rings = record {
  rings = rings;
  starts_are = begun.starts;
  fired = λ time is. fired_none arcs old.starts plan turn some time is old now refl keeps begun;
}

pub firing_fits : (arcs : List Timed) (starts : List ℕ) (turn : ℕ) (now : KeptTimes) (i : ℕ) → IsPlanned arcs starts → 0 < turn → turn < 2 ^ 32
    → IsFiringOn arcs starts turn now i → i < length arcs → (timed_at arcs i).tokens < turn
    → kept_time now (timed_at arcs i).source (turn - (timed_at arcs i).tokens) + (timed_at arcs i).delay < 2 ^ 128
firing_fits arcs starts turn now i plan some few firing inside low =
    let (time, is) = some_schedule arcs plan.rank plan.rises in
    source_fits arcs starts plan turn some time (is turn) few now i inside (firing.fired time (is turn)) low

pub firing_more : (arcs : List Timed) (starts : List ℕ) (turn : ℕ) (now new : KeptTimes) (i : ℕ) → IsPlanned arcs starts → 0 < turn
    → IsFiringOn arcs starts turn now i → i < length arcs → IsRelaxed now new turn (timed_at arcs i) → AreRings new
    → IsFiringOn arcs starts turn new (i + 1)
firing_more arcs starts turn now new i plan some firing inside relaxed rings = record {
  rings = rings;
  starts_are = relaxed.starts ∙ firing.starts_are;
  fired = λ time is. fired_more arcs starts plan turn some time is now new i inside firing.rings (firing.fired time is) relaxed;
}

pub firing_all : (arcs : List Timed) (starts : List ℕ) (turn : ℕ) (now : KeptTimes) (i : ℕ) → IsPlanned arcs starts → 0 < turn
    → IsFiringOn arcs starts turn now i → length arcs ≤ i → KeepsTimes arcs now turn
firing_all arcs starts turn now i plan some firing all time is = fired_all arcs starts plan turn some time is now i (firing.fired time is) all

-- the same arcs and the turn before
pub keeps_before : (arcs others : List Timed) (kept : KeptTimes) (turn : ℕ) → others ≡ arcs → KeepsTimes arcs kept turn → KeepsTimes others kept (turn + 1 - 1)
keeps_before arcs others kept turn same keeps =
    subst (λ (k : ℕ). KeepsTimes others kept k) {x = turn} {y = turn + 1 - 1} (omega arith) (subst (λ (xs : List Timed). KeepsTimes xs kept turn) (sym same) keeps)

-- the time of an event in the turn
pub time_now : (arcs : List Timed) (kept : KeptTimes) (turn v : ℕ) → IsPlanned arcs kept.starts → KeepsTimes arcs kept turn → v < length kept.starts - 1 → 0 < turn
    → (time : ℕ → ℕ → ℕ) → IsSchedule arcs turn time → kept_time kept v turn ≡ time v turn
time_now arcs kept turn v plan keeps inside some time is =
    let room = plan.rooms v (omega arith) in
    keeps time is v turn (omega arith) some (omega arith) (omega arith)
