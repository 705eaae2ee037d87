-- Runs have texts.
use Rattle.std.proofs.Common.{true, false, ◌++◌, codes, length, refl}
use Rattle.ds_table_laws.specs.Texts.{RunTextsExist}
use Rattle.ds_table_laws.proofs.LegalListsExist.{whole_list}
use Rattle.ds_table_laws.proofs.LogsExist.{logs_exist}
use Rattle.ds_table_laws.proofs.SomeTrace.{traces_exist}

-- by the log of a list that has each event once a vector
pub run_texts_exist : RunTextsExist
run_texts_exist p vectors ready false = traces_exist p.split.circuit ready.in_range ready.accepted.split.accepted vectors ready.wide
run_texts_exist p vectors ready true =
    let (trace, traced) = traces_exist p.split.circuit ready.in_range ready.accepted.split.accepted vectors ready.wide in
    let (events, legal, all) = whole_list p.graph ready.accepted.live (length vectors) in
    let (log, logged) = logs_exist p.graph (length vectors) events legal in (
      trace ++ codes "firings\n" ++ log,
      record { trace = trace; traced = traced; events = events; legal = legal; all = all; log = log; logged = logged; spelt = refl },
    )
