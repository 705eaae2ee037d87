-- Runs that stop have texts.
use Rattle.std.proofs.Common.{◌≡◌, ℕ, zero, suc, ◌+◌, ◌*◌, ◌≤◌, Bool, true, false, List, [], ◌++◌, codes, length, refl, arith, sym, subst}
use Rattle.std.specs.Prelude.{min}
use Rattle.std.proofs.Math.Nat.{suc-mul}
use Rattle.ds_marked.specs.Graph.{Graph, IsLegal}
use Rattle.ds_run.specs.Stopped.{IsLogBehind}
use Rattle.ds_table_laws.specs.Texts.{StoppedTextsExist}
use Rattle.ds_table_laws.proofs.LegalListsExist.{legal_lists_exist}
use Rattle.ds_table_laws.proofs.LogsExist.{logs_exist}
use Rattle.ds_table_laws.proofs.StateTextsExist.{state_texts_exist}

-- one worker or more may fire as many as one
some_workers : (jobs stop : ℕ) → 1 ≤ jobs → stop ≤ jobs * stop
some_workers zero stop some = absurd (omega arith)
some_workers (suc jobs) stop some = (let e : suc jobs * stop ≡ jobs * stop + stop = suc-mul jobs stop in omega (arith, e))

-- what stands behind a state, with or without a log
behind_exists : (log : Bool) (g : Graph) (turns : ℕ) (events : List ℕ) → IsLegal g turns events → (behind : List ℕ) × IsLogBehind log g events behind
behind_exists false g turns events legal = ([], refl)
behind_exists true g turns events legal =
    let (lines, is) = logs_exist g turns events legal in
    (codes "firings\n" ++ lines, (lines, is, refl))

-- by a list of as many firings as one worker may fire
pub stopped_texts_exist : StoppedTextsExist
stopped_texts_exist p vectors ready log stop jobs some =
    let all : ℕ = length p.graph.events * length vectors in
    let many : ℕ = min stop all in
    let (events, are) = legal_lists_exist p.graph ready.accepted.live (length vectors) many (omega arith) in
    let (state, is_state) = state_texts_exist p vectors ready events are.legal in
    let (behind, is_behind) = behind_exists log p.graph (length vectors) events are.legal in (
      state ++ behind,
      record {
        events = events;
        legal = are.legal;
        least = subst (λ (n : ℕ). many ≤ n) (sym are.many_are) (omega arith);
        most = subst (λ (n : ℕ). n ≤ min (jobs * stop) all) (sym are.many_are) (omega (arith, some_workers jobs stop some));
        state = state;
        is_state = is_state;
        behind = behind;
        is_behind = is_behind;
        spelt = refl {a = state ++ behind};
      },
    )
