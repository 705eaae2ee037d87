-- `clusters` and its files, in words that can only be files, are taken.
use Rattle.std.proofs.Common.{◌≡◌, true, [], ◌∷◌, Ok, Some, refl, codes}
use Rattle.clap.specs.Words.{Text}
use Rattle.clap.proofs.OnLiterals.{clap_on_literals}
use Rattle.ds_cmd.specs.Line.{job_of}
use Rattle.ds_cmd.specs.Plain.{is_plain}
use Rattle.ds_cmd.specs.declared.job.Job.TheVariants.{Clusters}
use Rattle.ds_text_laws.specs.BareJobs.{bare_clusters}
use Rattle.ds_text_laws.proofs.TakenCommands.{IsNoOption, no_option}

clusters_at : (program net : Text) → IsNoOption net → job_of (program ∷ codes "clusters" ∷ net ∷ []) ≡ Ok (Clusters (bare_clusters net))
unfolding clap_on_literals
clusters_at program net n = rw (n.dashes, n.long, n.short) refl

groups_at : (program net groups : Text) → IsNoOption net → IsNoOption groups
    → job_of (program ∷ codes "clusters" ∷ net ∷ codes "--groups" ∷ groups ∷ []) ≡ Ok (Clusters (record (bare_clusters net) { groups = Some groups }))
unfolding clap_on_literals
groups_at program net groups n g = rw (n.dashes, n.long, n.short) (rw (g.dashes, g.long, g.short) (refl {a = Ok (Clusters (record (bare_clusters net) { groups = Some groups }))}))

pub clusters_taken : (program net : Text) → is_plain net ≡ true → job_of (program ∷ codes "clusters" ∷ net ∷ []) ≡ Ok (Clusters (bare_clusters net))
clusters_taken program net n = clusters_at program net (no_option net n)

pub clusters_with_groups : (program net groups : Text) → is_plain net ≡ true → is_plain groups ≡ true
    → job_of (program ∷ codes "clusters" ∷ net ∷ codes "--groups" ∷ groups ∷ []) ≡ Ok (Clusters (record (bare_clusters net) { groups = Some groups }))
clusters_with_groups program net groups n g = groups_at program net groups (no_option net n) (no_option groups g)
