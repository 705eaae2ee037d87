use Rattle.ds_text_laws.proofs.TakenClusters.{clusters_taken, clusters_with_groups}
use Rattle.ds_text_laws.proofs.command_line.clusters_is_taken.Goals as goal

pub returns-clause-each : goal.returns-clause-each
returns-clause-each c = clusters_taken

pub returns-clause-groups : goal.returns-clause-groups
returns-clause-groups c = clusters_with_groups
