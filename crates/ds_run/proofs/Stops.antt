-- What a stopped run left is written as its text.
use Rattle.std.proofs.Common.{◌≡◌, ◌∙◌, ℕ, ◌*◌, ◌<◌, ◌≤◌, Bool, true, false, List, ◌++◌, get_or, length, Option, None, Some, refl, ap, sym, subst, arith, Result, Ok, Err}
use Rattle.std.specs.Prelude.{min, slice_index_or, OnOk}
use Rattle.std.specs.List.{flat_map, range_with_len}
use Rattle.std.proofs.lemmas.List.{get_or_default, length-map}
use Rattle.ds_base.specs.Word.{count_of_words}
use Rattle.ds_base.specs.Values.{Row}
use Rattle.ds_design.specs.Circuit.{Circuit, register_nets}
use Rattle.ds_latch.specs.Firing.{State}
use Rattle.ds_latch.specs.Headline.{values_stored}
use Rattle.ds_latch.specs.Node.{Split, members, number_of}
use Rattle.ds_latch.specs.declared.node.Node.TheVariants.{Slave}
use Rattle.ds_latch.specs.Plan.{Planned}
use Rattle.ds_latch.proofs.Spelt.{range_agree}
use Rattle.ds_rows.specs.Homes.{AreHomes, IsHome, no_home}
use Rattle.ds_rows.specs.Log.{at_place, fired_line, stored_text}
use Rattle.ds_rows.specs.Nets.{register_of}
use Rattle.ds_rows.specs.StateText.{IsStateText}
use Rattle.ds_rows.specs.declared.homes.Home.{Home}
use Rattle.ds_rule.specs.Rule.{tickets}
use Rattle.ds_rule.proofs.PlaceLaws.{width-is}
use Rattle.ds_fabric.specs.Showing.{IsFiredInOrder, Recorder}
use Rattle.ds_run.specs.Halted.{IsHalted, most_firings}
use Rattle.ds_run.specs.Finished.{IsRecordOf}
use Rattle.ds_run.specs.Stored.{IsRecorded, rows_told}
use Rattle.ds_run.proofs.StoredAsFired.{records_store_as_fired_lem}
use Rattle.ds_run.proofs.RecordFirings.{records_are_legal_lem}
use Rattle.ds_run.proofs.Records.{record_near, record_fired}
use Rattle.ds_run.specs.WindowedText.{IsKnownLog, IsLogPart}
use Rattle.ds_run.specs.Left.{HasWords, IsLogLeft, IsLeftOf, home_line, AppendsLeft, AppendsLeftPart, homes_text}
use Rattle.ds_run.specs.Logged.{Listed}
use Rattle.ds_run.specs.Stopped.{AppendsStopped, AppendsStoppedPart, IsLogBehind, IsStoppedText}
use Rattle.ds_run.specs.declared.left.Left.{Left}
use Rattle.ds_run.proofs.Logged.{legal_events}

-- a record has the words of each slave
pub has_words : (p : Planned) (vectors : List Row) (r : Recorder) → IsRecordOf p vectors r
    → HasWords p.split r
has_words p vectors r is = record {
  near = λ i inside. record_near p vectors r is (Slave i) inside;
  wide = λ i inside.
      width-is r.shown.view.run (number_of (Slave i))
      ∙ ap count_of_words (is.planned.lengths_are.of_node (Slave i) inside
      ∙ length-map (members p.split i) (λ q. slice_index_or (register_nets p.split.circuit) q 0));
}

-- the line of a register that has a home is what firing stores of it
line-stored : (p : Planned) (vectors : List Row) (r : Recorder) (homes : List Home) (events : List ℕ)
    (now : State) → IsRecorded p.split vectors r events now → AreHomes p.split homes
    → (register : ℕ) → register < length p.split.circuit.registers
    → home_line p.split r homes register
    ≡ stored_text (register_of p.split.circuit register)
    (values_stored now (slice_index_or homes register no_home).cluster
    (slice_index_or homes register no_home).place)
line-stored p vectors r homes events now is are register low =
    let home : Home = slice_index_or homes register no_home in
    ap (λ (rows : List Row). stored_text (register_of p.split.circuit register)
    (at_place home.place rows))
    (sym (is.stores (Slave home.cluster) (are.each register low).is_cluster))

-- the lines of all registers are the text of the state that firing reaches
state_left : (p : Planned) (vectors : List Row) (r : Recorder) (homes : List Home)
    (events : List ℕ) (now : State) → IsRecorded p.split vectors r events now
    → length events ≡ r.many → AreHomes p.split homes
    → IsStateText p vectors events (homes_text p vectors r homes)
state_left p vectors r homes events now is many are =
    let home : ℕ → Home = λ q. slice_index_or homes q no_home in
    let line : ℕ → List ℕ = λ q. stored_text (register_of p.split.circuit q)
    (values_stored now (home q).cluster (home q).place) in
    let count : ℕ = length p.split.circuit.registers in
    let most : ℕ = most_firings p vectors in
    record {
      now = now;
      fires = is.fires;
      values = λ q. values_stored now (home q).cluster (home q).place;
      stored = λ q low. ((home q).cluster, (home q).place, are.each q low, refl);
      spelt = ap (λ (n : ℕ). flat_map (home_line p.split r homes) (range_with_len 0 n)
          ++ fired_line r.many most) are.one_each
          ∙ (ap (λ (lines : List ℕ). lines ++ fired_line r.many most)
          (range_agree (home_line p.split r homes) line 0 count
          (λ q low. line-stored p vectors r homes events now is are q (omega arith)))
          ∙ ap (λ (n : ℕ). flat_map line (range_with_len 0 count) ++ fired_line n most) (sym many));
    }

-- with a log of its firings it is the text of a stopped run
text_left : (wanted : Bool) (stop jobs : ℕ) (p : Planned) (vectors : List Row) (r : Recorder)
    (homes : List Home) (events rest : List ℕ) → IsHalted stop jobs p vectors r
    → AreHomes p.split homes → IsFiredInOrder r.shown.view.run (tickets r.shown.view) events
    → IsLogBehind wanted p.graph events rest
    → IsStoppedText wanted stop jobs p vectors (homes_text p vectors r homes ++ rest)
text_left wanted stop jobs p vectors r homes events rest is are fired behind =
    let (legal, many) = records_are_legal_lem p vectors r is.record_is events fired in
    let (now, recorded) = records_store_as_fired_lem p vectors r is.record_is events fired in
    record {
      events = events;
      legal = legal;
      least = subst (λ (n : ℕ). min stop (most_firings p vectors) ≤ n) (sym many) is.least;
      most = subst (λ (n : ℕ). n ≤ min (jobs * stop) (most_firings p vectors)) (sym many) is.most;
      state = homes_text p vectors r homes;
      is_state = state_left p vectors r homes events now recorded many are;
      behind = rest;
      is_behind = behind;
      spelt = refl;
    }

-- by the log where one is wanted, and else by whatever list the record has
text_with : (wanted : Bool) (stop jobs : ℕ) (p : Planned) (vectors : List Row) (r : Recorder)
    (homes : List Home) (log : Option Listed) (rest : List ℕ) → IsHalted stop jobs p vectors r
    → AreHomes p.split homes → IsLogLeft wanted p.graph r log → IsLogPart p.graph log rest
    → IsStoppedText wanted stop jobs p vectors (homes_text p vectors r homes ++ rest)
text_with false stop jobs p vectors r homes None rest is are left part =
    let (events, fired) = record_fired p vectors r is.record_is in
    text_left false stop jobs p vectors r homes events rest is are fired part
text_with false stop jobs p vectors r homes (Some log) rest is are left part = absurd left
text_with true stop jobs p vectors r homes None rest is are left part = absurd left
text_with true stop jobs p vectors r homes (Some log) rest is are left part =
    text_left true stop jobs p vectors r homes log.events rest is are left.listed part

pub left_text : (wanted : Bool) (stop jobs : ℕ) (p : Planned) (vectors : List Row) (left : Left)
    (rest : List ℕ) → IsLeftOf wanted stop jobs p vectors left → IsLogPart p.graph left.log rest
    → IsStoppedText wanted stop jobs p vectors
    (homes_text p vectors left.fired left.homes.items ++ rest)
left_text wanted stop jobs p vectors left rest ready part =
    text_with wanted stop jobs p vectors left.fired left.homes.items left.log rest ready.halted
    ready.homes ready.log part

-- where what was left was appended, that text was
pub left_appended : {T E : Type 0} (result : Result T E) (old new : Option (List ℕ))
    {wanted : Bool} {stop jobs : ℕ} {p : Planned} {vectors : List Row} {left : Left}
    → IsLeftOf wanted stop jobs p vectors left → OnOk result (AppendsLeft p vectors left old new)
    → OnOk result (AppendsStopped wanted stop jobs p vectors old new)
left_appended (Ok x) old new {wanted = wanted} {stop = stop} {jobs = jobs} {p = p} {vectors = vectors}
    {left = left} ready (rest, part, is) = (
      homes_text p vectors left.fired left.homes.items ++ rest,
      left_text wanted stop jobs p vectors left rest ready part,
      is,
    )
left_appended (Err e) old new ready ok = tt

-- and where a first part of it was, a first part of that text was
pub left_appended_part : (old new : Option (List ℕ)) {wanted : Bool} {stop jobs : ℕ}
    {p : Planned} {vectors : List Row} {left : Left} → IsLeftOf wanted stop jobs p vectors left
    → AppendsLeftPart p vectors left old new
    → AppendsStoppedPart wanted stop jobs p vectors old new
left_appended_part old new {wanted = wanted} {stop = stop} {jobs = jobs} {p = p} {vectors = vectors}
    {left = left} ready (rest, part, some) = (
      homes_text p vectors left.fired left.homes.items ++ rest,
      left_text wanted stop jobs p vectors left rest ready part,
      some,
    )

-- a log of a record's firings can be written
known_with : (wanted : Bool) (p : Planned) (vectors : List Row) (r : Recorder)
    (log : Option Listed) → IsRecordOf p vectors r → IsLogLeft wanted p.graph r log
    → IsKnownLog p.graph log
known_with wanted p vectors r None is left = tt
known_with false p vectors r (Some log) is left = absurd left
known_with true p vectors r (Some log) is left = (
  legal_events p.graph (length vectors) (λ _. 0) log.events
      (records_are_legal_lem p vectors r is log.events left.listed).0,
  left.kinds,
)

pub known_left : (wanted : Bool) (stop jobs : ℕ) (p : Planned) (vectors : List Row) (left : Left)
    → IsLeftOf wanted stop jobs p vectors left → IsKnownLog p.graph left.log
known_left wanted stop jobs p vectors left ready =
    known_with wanted p vectors left.fired left.log ready.halted.record_is ready.log

-- the lines of all registers and the line of the firings, by numbers that are the same
pub text_is : (p : Planned) (vectors : List Row) (r : Recorder) (homes : List Home) (s : Split)
    (fired most : ℕ) → s ≡ p.split → fired ≡ r.many → most ≡ most_firings p vectors
    → flat_map (home_line s r homes) (range_with_len 0 (length homes)) ++ fired_line fired most
    ≡ homes_text p vectors r homes
text_is p vectors r homes s fired most split many all =
    ap (λ (t : Split). flat_map (home_line t r homes) (range_with_len 0 (length homes))
    ++ fired_line fired most) split
    ∙ (ap (λ (n : ℕ). flat_map (home_line p.split r homes) (range_with_len 0 (length homes))
    ++ fired_line n most) many
    ∙ ap (λ (n : ℕ). flat_map (home_line p.split r homes) (range_with_len 0 (length homes))
    ++ fired_line r.many n) all)

-- the home that is read of a register is where it stands
pub home_at : (s : Split) (homes : List Home) → AreHomes s homes → (r : ℕ) → r < length homes
    → (home : Home) → home ≡ get_or homes r home
    → IsHome s r home × (home ≡ slice_index_or homes r no_home)
home_at s homes are r inside home is =
    let same : home ≡ slice_index_or homes r no_home =
    is ∙ get_or_default homes r home no_home inside in (
      subst (λ (h : Home). IsHome s r h) (sym same)
          (are.each r (omega (arith, inside, are.one_each))),
      same,
    )

-- the line of a register, by the home that is read
pub line_is : (s : Split) (r : Recorder) (homes : List Home) (register : ℕ) (c : Circuit)
    (home : Home) → c ≡ s.circuit → home ≡ slice_index_or homes register no_home
    → stored_text (register_of c register) (at_place home.place (rows_told r (Slave home.cluster)))
    ≡ home_line s r homes register
line_is s r homes register c home circuit same =
    ap (λ (d : Circuit). stored_text (register_of d register)
    (at_place home.place (rows_told r (Slave home.cluster)))) circuit
    ∙ ap (λ (h : Home). stored_text (register_of s.circuit register)
    (at_place h.place (rows_told r (Slave h.cluster)))) same
