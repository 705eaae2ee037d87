-- A controller graph that is named, behind `--graph` and by `accept`, is taken.
use Rattle.std.proofs.Common.{◌≡◌, true, [], ◌∷◌, Ok, Some, refl, codes}
use Rattle.clap.specs.Words.{Text}
use Rattle.clap.proofs.OnLiterals.{clap_on_literals}
use Rattle.ds_cmd.specs.Line.{job_of}
use Rattle.ds_cmd.specs.Plain.{is_plain}
use Rattle.ds_cmd.specs.declared.job.Job.TheVariants.{Run, Accept}
use Rattle.ds_text_laws.specs.BareJobs.{bare_accept, bare_run}
use Rattle.ds_text_laws.proofs.TakenCommands.{IsNoOption, no_option}

run_at : (program net vec graph : Text) → IsNoOption net → IsNoOption vec → IsNoOption graph → job_of (program ∷ codes "run" ∷ net ∷ vec ∷ codes "--graph" ∷ graph ∷ []) ≡ Ok (Run (record (bare_run net vec) { graph = Some graph }))
unfolding clap_on_literals
run_at program net vec graph n v g = rw (n.dashes, n.long, n.short) (rw (v.dashes, v.long, v.short) (rw (g.dashes, g.long, g.short) (refl {a = Ok (Run (record (bare_run net vec) { graph = Some graph }))})))

accept_at : (program net graph : Text) → IsNoOption net → IsNoOption graph → job_of (program ∷ codes "accept" ∷ net ∷ graph ∷ []) ≡ Ok (Accept (bare_accept net graph))
unfolding clap_on_literals
accept_at program net graph n g = rw (n.dashes, n.long, n.short) (rw (g.dashes, g.long, g.short) refl)

pub run_with_graph : (program net vec graph : Text) → is_plain net ≡ true → is_plain vec ≡ true → is_plain graph ≡ true → job_of (program ∷ codes "run" ∷ net ∷ vec ∷ codes "--graph" ∷ graph ∷ []) ≡ Ok (Run (record (bare_run net vec) { graph = Some graph }))
run_with_graph program net vec graph n v g = run_at program net vec graph (no_option net n) (no_option vec v) (no_option graph g)

pub accept_taken : (program net graph : Text) → is_plain net ≡ true → is_plain graph ≡ true → job_of (program ∷ codes "accept" ∷ net ∷ graph ∷ []) ≡ Ok (Accept (bare_accept net graph))
accept_taken program net graph n g = accept_at program net graph (no_option net n) (no_option graph g)
