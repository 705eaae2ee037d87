use Rattle.ds_outside.proofs.Pens.{puts_on}
use Rattle.ds_app.proofs.list_clusters.put_cluster.Goals as goal

pub returns : goal.returns
returns g c = puts_on (puts_on c.put_names.ensures c.put_latches.ensures) c.put.ensures
