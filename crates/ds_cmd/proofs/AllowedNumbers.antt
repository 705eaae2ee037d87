-- The numbers of a job are within their ranges.
use Rattle.std.proofs.Common.{◌≡◌, ◌&&◌, ◌≤◌, ℕ, zero, suc, Bool, true, false, List}
use Rattle.std.proofs.Common.{Option, Some, None, Result, Ok, Err, refl, arith, subst}
use Rattle.std.proofs.Common.{if◌then◌else◌}
use Rattle.std.specs.Prelude.{nat_le, nat_lt, codes, IfOk}
use Rattle.std.specs.Str.{bytes_eq}
use Rattle.std.specs.Str.Parse.{digits_value}
use Rattle.std.proofs.lemmas.Bool.{leb-true, lt-ltb}
use Rattle.ds_base.specs.Limit.{most_of}
use Rattle.ds_base.specs.declared.number.Limit.TheVariants.{Clusters, Vectors}
use Rattle.clap.specs.Words.{Row, Text, fault_of, first_of, subcommand_of}
use Rattle.ds_cmd.specs.Fault.{Gives, with_mode, with_number, with_value}
use Rattle.ds_cmd.specs.Number.{is_between, is_numeral, jobs_of, number_in_range, number_or_one, number_or_zero, slack_of, stop_in}
use Rattle.ds_cmd.specs.Clusters.{clusters_of}
use Rattle.ds_cmd.specs.Run.{run_job}
use Rattle.ds_cmd.specs.Clock.{clock_job}
use Rattle.ds_cmd.specs.Check.{check_job}
use Rattle.ds_cmd.specs.Graph.{graph_job}
use Rattle.ds_cmd.specs.Argument.{flag_with, is_set}
use Rattle.ds_cmd.specs.Replay.{replay_job}
use Rattle.ds_cmd.specs.Accept.{accept_job}
use Rattle.ds_cmd.specs.Demo.{demo_job}
use Rattle.ds_cmd.specs.Period.{period_job}
use Rattle.ds_cmd.specs.ListClusters.{clusters_job}
use Rattle.ds_cmd.specs.Rate.{rate_job}
use Rattle.ds_cmd.specs.Times.{times_job}
use Rattle.ds_cmd.specs.Commands.{commands, desync}
use Rattle.ds_cmd.specs.Line.{is_none, job_in, job_of, named_job}
use Rattle.ds_cmd.specs.Allowed.{AreAllowed, AreWorkers}
use Rattle.ds_cmd.specs.declared.job.Job.{Job}
use Rattle.ds_cmd.specs.declared.fault.UsageFault.{UsageFault}
use Rattle.ds_cmd.proofs.NumberWords.{both_hold}

-- the job of an answer, where there is one, has its numbers within their ranges
abbrev Yields : Result Job UsageFault → Type 0
Yields answer = (job : Job) → answer ≡ Ok job → AreAllowed job

fault_yields : (fault : UsageFault) → Yields (Err fault)
fault_yields fault job is = absurd (let e : Err fault ≡ Ok job = is in cc)

same_ok : (job other : Job) (answer : Result Job UsageFault) → answer ≡ Ok job → answer ≡ Ok other → job ≡ other
same_ok job other answer is also = cc

ok_yields : (job : Job) → AreAllowed job → Yields (Ok job)
ok_yields job allowed other is = subst AreAllowed (same_ok job other (Ok job) refl is) allowed

valued : {A : Type 0} (o : Option A) (next : A → Result Job UsageFault) → ((a : A) → Yields (next a)) → Yields (with_value o next)
valued None next all = fault_yields _
valued (Some a) next all = all a

moded : {A : Type 0} (o : Option A) (next : A → Result Job UsageFault) → ((a : A) → o ≡ Some a → Yields (next a)) → Yields (with_mode o next)
moded None next all = fault_yields _
moded (Some a) next all = all a refl

numbered : {A : Type 0} (o : Option A) (next : A → Result Job UsageFault) → ((n : A) → o ≡ Some n → Yields (next n)) → Yields (with_number o next)
numbered None next all = fault_yields _
numbered (Some n) next all = all n refl

chosen : (b : Bool) (x y : Result Job UsageFault) → Yields x → Yields y → Yields (if b then x else y)
chosen true x y left right = left
chosen false x y left right = right

picked_between : (b : Bool) (least most value n : ℕ) → (b ≡ true → is_between least most value ≡ true)
    → (if b then Some value else None) ≡ Some n → (least ≤ n) × (n ≤ most)
picked_between false least most value n tests is = absurd (let e : None ≡ Some n = is in cc)
picked_between true least most value n tests is =
    let e : value ≡ n = (let f : Some value ≡ Some n = is in cc) in
    let (low, high) = both_hold (nat_le least value) (nat_le value most) (tests refl) in
    let low' : least ≤ value = leb-true least value low in
    let high' : value ≤ most = leb-true value most high in
    subst (λ (m : ℕ). (least ≤ m) × (m ≤ most)) e (low', high')

-- a number that a word gives is within its range
between : (least most : ℕ) (word : Text) (n : ℕ) → number_in_range least most word ≡ Some n → (least ≤ n) × (n ≤ most)
unfolding number_in_range
between least most word n is =
    picked_between (is_numeral word && is_between least most (digits_value 10 word)) least most (digits_value 10 word) n
    (λ tests. (both_hold (is_numeral word) (is_between least most (digits_value 10 word)) tests).1) is

one_or_more : (o : Option Text) (n : ℕ) → number_or_one o ≡ Some n → AreWorkers n
one_or_more None n is = let e : 1 ≡ n = (let f : Some 1 ≡ Some n = is in cc) in (omega arith, omega arith)
one_or_more (Some word) n is = between 1 64 word n is

few_openings : (o : Option Text) (n : ℕ) → number_or_zero o ≡ Some n → n ≤ 15
few_openings None n is = let e : 0 ≡ n = (let f : Some 0 ≡ Some n = is in cc) in omega arith
few_openings (Some word) n is = (between 0 15 word n is).1

-- what has no slack is wanted without it alone
without_slack : (slack : ℕ) (wanted shown : Bool) → flag_with slack wanted ≡ Some shown → shown ≡ true → slack ≡ 0
unfolding flag_with
without_slack slack false shown is e = absurd (let f : Some false ≡ Some shown = is in cc)
without_slack zero true shown is e = refl
without_slack (suc slack) true shown is e =
    let some : nat_lt 0 (suc slack) ≡ true = lt-ltb 0 (suc slack) (omega arith) in
    absurd (let f : None ≡ Some shown = rw some at is in cc)

run_yields : (rows : List Row) → Yields (run_job rows)
run_yields rows = valued (first_of (codes "net") rows) _ (λ net. valued (first_of (codes "vec") rows) _ (λ vec.
    numbered (jobs_of rows) _ (λ jobs are. numbered (slack_of rows) _ (λ slack is. numbered (stop_in rows) _ (λ stop there. moded (clusters_of rows) _ (λ mode in_mode.
    ok_yields _ (one_or_more (first_of (codes "jobs") rows) jobs are, few_openings (first_of (codes "slack") rows) slack is)))))))

clock_yields : (rows : List Row) → Yields (clock_job rows)
clock_yields rows = valued (first_of (codes "net") rows) _ (λ net. valued (first_of (codes "vec") rows) _ (λ vec. ok_yields _ tt))

check_yields : (rows : List Row) → Yields (check_job rows)
check_yields rows = valued (first_of (codes "net") rows) _ (λ net. ok_yields _ tt)

graph_yields : (rows : List Row) → Yields (graph_job rows)
graph_yields rows = valued (first_of (codes "net") rows) _ (λ net.
    numbered (slack_of rows) _ (λ slack is. moded (clusters_of rows) _ (λ mode in_mode.
    moded (flag_with slack (is_set (codes "shake") rows)) _ (λ shake wanted.
    ok_yields _ (few_openings (first_of (codes "slack") rows) slack is, without_slack slack (is_set (codes "shake") rows) shake wanted)))))

replay_yields : (rows : List Row) → Yields (replay_job rows)
replay_yields rows = valued (first_of (codes "net") rows) _ (λ net. valued (first_of (codes "vec") rows) _ (λ vec.
    valued (first_of (codes "log") rows) _ (λ log.
    numbered (slack_of rows) _ (λ slack is. moded (clusters_of rows) _ (λ mode in_mode.
    moded (flag_with slack (is_set (codes "transparent") rows)) _ (λ transparent shown.
    ok_yields _ (few_openings (first_of (codes "slack") rows) slack is, without_slack slack (is_set (codes "transparent") rows) transparent shown)))))))

accept_yields : (rows : List Row) → Yields (accept_job rows)
accept_yields rows = valued (first_of (codes "net") rows) _ (λ net. valued (first_of (codes "graph") rows) _ (λ graph.
    numbered (slack_of rows) _ (λ slack is. moded (clusters_of rows) _ (λ mode in_mode.
    ok_yields _ (few_openings (first_of (codes "slack") rows) slack is)))))

demo_yields : (rows : List Row) → Yields (demo_job rows)
demo_yields rows = valued (first_of (codes "seed") rows) _ (λ seed. valued (first_of (codes "registers") rows) _ (λ registers.
    valued (first_of (codes "turns") rows) _ (λ turns.
    numbered (number_in_range 0 18446744073709551615 seed) _ (λ n is_seed. numbered (number_in_range 1 (most_of Clusters) registers) _ (λ r is_r.
    numbered (number_in_range 0 (most_of Vectors) turns) _ (λ t is_t. numbered (jobs_of rows) _ (λ jobs is.
    ok_yields _ (
      (between 1 (most_of Clusters) registers r is_r).0,
      (between 1 (most_of Clusters) registers r is_r).1,
      (between 0 (most_of Vectors) turns t is_t).1,
      one_or_more (first_of (codes "jobs") rows) jobs is,
    ))))))))

period_yields : (rows : List Row) → Yields (period_job rows)
period_yields rows = valued (first_of (codes "net") rows) _ (λ net.
    valued (first_of (codes "delays") rows) _ (λ delays.
    numbered (slack_of rows) _ (λ slack is. moded (clusters_of rows) _ (λ mode in_mode.
    ok_yields _ (few_openings (first_of (codes "slack") rows) slack is)))))

clusters_yields : (rows : List Row) → Yields (clusters_job rows)
clusters_yields rows = valued (first_of (codes "net") rows) _ (λ net. moded (clusters_of rows) _ (λ mode is. ok_yields _ tt))

rate_yields : (rows : List Row) → Yields (rate_job rows)
rate_yields rows = valued (first_of (codes "graph") rows) _ (λ graph. valued (first_of (codes "delays") rows) _ (λ delays. ok_yields _ tt))

times_yields : (rows : List Row) → Yields (times_job rows)
times_yields rows = valued (first_of (codes "net") rows) _ (λ net. valued (first_of (codes "delays") rows) _ (λ delays.
    valued (first_of (codes "turns") rows) _ (λ turns.
    numbered (number_in_range 0 (most_of Vectors) turns) _ (λ t is_t. numbered (slack_of rows) _ (λ slack is. moded (clusters_of rows) _ (λ mode in_mode.
    ok_yields _ ((between 0 (most_of Vectors) turns t is_t).1, few_openings (first_of (codes "slack") rows) slack is)))))))

named_yields : (name : Text) (rows : List Row) → Yields (named_job name rows commands)
named_yields name rows =
    chosen (bytes_eq name (codes "run")) _ _ (run_yields rows)
    (chosen (bytes_eq name (codes "clock")) _ _ (clock_yields rows)
    (chosen (bytes_eq name (codes "check")) _ _ (check_yields rows)
    (chosen (bytes_eq name (codes "graph")) _ _ (graph_yields rows)
    (chosen (bytes_eq name (codes "replay")) _ _ (replay_yields rows)
    (chosen (bytes_eq name (codes "accept")) _ _ (accept_yields rows)
    (chosen (bytes_eq name (codes "demo")) _ _ (demo_yields rows)
    (chosen (bytes_eq name (codes "period")) _ _ (period_yields rows)
    (chosen (bytes_eq name (codes "clusters")) _ _ (clusters_yields rows)
    (chosen (bytes_eq name (codes "rate")) _ _ (rate_yields rows)
    (chosen (bytes_eq name (codes "times")) _ _ (times_yields rows) (fault_yields _)))))))))))

in_yields : (named : Option (Text × List Row)) → Yields (job_in named)
in_yields None = fault_yields _
in_yields (Some named) = named_yields named.0 named.1

pub words_yield : (words : List Text) (job : Job) → job_of words ≡ Ok job → AreAllowed job
words_yield words = chosen (is_none (fault_of desync words)) _ _ (in_yields (subcommand_of desync words)) (fault_yields _)

-- an answer that gives the job of the words has its numbers within their ranges
pub allowed_if_given : (words : List Text) (answer : Result Job UsageFault) → Gives (job_of words) answer → IfOk answer AreAllowed
allowed_if_given words (Ok job) gives = words_yield words job gives
allowed_if_given words (Err why) gives = tt
