-- Numbers behind `--slack` of `graph`, `accept` and `period` are taken.
use Rattle.std.proofs.Common.{◌≡◌, ◌≤◌, ◌∙◌, ℕ, true, [], ◌∷◌, Ok, Option, Result, refl, arith, codes}
use Rattle.std.specs.Fmt.{decimal}
use Rattle.clap.specs.Words.{Text}
use Rattle.clap.proofs.OnLiterals.{clap_on_literals}
use Rattle.ds_cmd.specs.Argument.{flag_with}
use Rattle.ds_cmd.specs.Fault.{with_number}
use Rattle.ds_cmd.specs.Line.{job_of}
use Rattle.ds_cmd.specs.Number.{number_in_range}
use Rattle.ds_cmd.specs.Plain.{is_plain}
use Rattle.ds_cmd.specs.declared.fault.UsageFault.{UsageFault}
use Rattle.ds_cmd.specs.declared.job.Job.{Job}
use Rattle.ds_cmd.specs.declared.job.Job.TheVariants.{Accept, Graph, Period}
use Rattle.ds_text_laws.specs.BareJobs.{bare_accept, bare_graph, bare_period}
use Rattle.ds_text_laws.proofs.TakenCommands.{IsNoOption, no_option}
use Rattle.ds_text_laws.proofs.TakenNumbers.{IsWritten, written}

-- the job of `graph` with so much slack
graph_job_with : Text → Option ℕ → Result Job UsageFault
graph_job_with net slack = with_number slack (λ slack. Ok (Graph (record (bare_graph net) { slack = slack })))

graph_at : (program net word : Text) → IsNoOption net → IsNoOption word
    → job_of (program ∷ codes "graph" ∷ net ∷ codes "--slack" ∷ word ∷ [])
    ≡ graph_job_with net (number_in_range 0 15 word)
unfolding clap_on_literals flag_with graph_job_with
graph_at program net word n w = rw (n.dashes, n.long, n.short)
    (rw (w.dashes, w.long, w.short) (refl {a = graph_job_with net (number_in_range 0 15 word)}))

graph_job_slack : (net word : Text) (slack : ℕ) → IsWritten 0 15 word slack
    → graph_job_with net (number_in_range 0 15 word) ≡ Ok (Graph (record (bare_graph net) { slack = slack }))
unfolding graph_job_with
graph_job_slack net word slack w = rw w.number refl

-- the job of `accept` with so much slack
accept_job_with : Text → Text → Option ℕ → Result Job UsageFault
accept_job_with net graph slack =
    with_number slack (λ slack. Ok (Accept (record (bare_accept net graph) { slack = slack })))

accept_at : (program net graph word : Text) → IsNoOption net → IsNoOption graph → IsNoOption word
    → job_of (program ∷ codes "accept" ∷ net ∷ graph ∷ codes "--slack" ∷ word ∷ [])
    ≡ accept_job_with net graph (number_in_range 0 15 word)
unfolding clap_on_literals accept_job_with
accept_at program net graph word n g w = rw (n.dashes, n.long, n.short) (rw (g.dashes, g.long, g.short)
    (rw (w.dashes, w.long, w.short) (refl {a = accept_job_with net graph (number_in_range 0 15 word)})))

accept_job_slack : (net graph word : Text) (slack : ℕ) → IsWritten 0 15 word slack
    → accept_job_with net graph (number_in_range 0 15 word)
    ≡ Ok (Accept (record (bare_accept net graph) { slack = slack }))
unfolding accept_job_with
accept_job_slack net graph word slack w = rw w.number refl

-- the job of `period` with so much slack
period_job_with : Text → Text → Option ℕ → Result Job UsageFault
period_job_with net delays slack =
    with_number slack (λ slack. Ok (Period (record (bare_period net delays) { slack = slack })))

period_at : (program net delays word : Text) → IsNoOption net → IsNoOption delays → IsNoOption word
    → job_of (program ∷ codes "period" ∷ net ∷ delays ∷ codes "--slack" ∷ word ∷ [])
    ≡ period_job_with net delays (number_in_range 0 15 word)
unfolding clap_on_literals period_job_with
period_at program net delays word n d w = rw (n.dashes, n.long, n.short) (rw (d.dashes, d.long, d.short)
    (rw (w.dashes, w.long, w.short) (refl {a = period_job_with net delays (number_in_range 0 15 word)})))

period_job_slack : (net delays word : Text) (slack : ℕ) → IsWritten 0 15 word slack
    → period_job_with net delays (number_in_range 0 15 word)
    ≡ Ok (Period (record (bare_period net delays) { slack = slack }))
unfolding period_job_with
period_job_slack net delays word slack w = rw w.number refl

pub graph_with_slack : (program net : Text) (slack : ℕ) → is_plain net ≡ true → slack ≤ 15
    → job_of (program ∷ codes "graph" ∷ net ∷ codes "--slack" ∷ decimal slack ∷ [])
    ≡ Ok (Graph (record (bare_graph net) { slack = slack }))
graph_with_slack program net slack n to =
    let w : IsWritten 0 15 (decimal slack) slack = written 0 15 slack (omega arith) to (omega arith) in
    graph_at program net (decimal slack) (no_option net n) w.plain
    ∙ graph_job_slack net (decimal slack) slack w

pub accept_with_slack : (program net graph : Text) (slack : ℕ) → is_plain net ≡ true
    → is_plain graph ≡ true → slack ≤ 15
    → job_of (program ∷ codes "accept" ∷ net ∷ graph ∷ codes "--slack" ∷ decimal slack ∷ [])
    ≡ Ok (Accept (record (bare_accept net graph) { slack = slack }))
accept_with_slack program net graph slack n g to =
    let w : IsWritten 0 15 (decimal slack) slack = written 0 15 slack (omega arith) to (omega arith) in
    accept_at program net graph (decimal slack) (no_option net n) (no_option graph g) w.plain
    ∙ accept_job_slack net graph (decimal slack) slack w

pub period_with_slack : (program net delays : Text) (slack : ℕ) → is_plain net ≡ true
    → is_plain delays ≡ true → slack ≤ 15
    → job_of (program ∷ codes "period" ∷ net ∷ delays ∷ codes "--slack" ∷ decimal slack ∷ [])
    ≡ Ok (Period (record (bare_period net delays) { slack = slack }))
period_with_slack program net delays slack n d to =
    let w : IsWritten 0 15 (decimal slack) slack = written 0 15 slack (omega arith) to (omega arith) in
    period_at program net delays (decimal slack) (no_option net n) (no_option delays d) w.plain
    ∙ period_job_slack net delays (decimal slack) slack w
