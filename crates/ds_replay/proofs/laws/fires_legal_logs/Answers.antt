use Rattle.ds_replay.specs.Replay.{log_of}
use Rattle.ds_replay.proofs.LogLines.{fires, legal}
use Rattle.ds_replay.proofs.laws.fires_legal_logs.Goals as goal

pub returns : goal.returns
returns c = λ g own limit lines events. (legal g limit (λ _. 0) (log_of lines) events, fires g own limit (λ _. 0) (log_of lines) events)
