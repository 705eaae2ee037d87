-- A loop over windows: what it has done so far, and how it ends.
use Rattle.std.proofs.Common.{◌≡◌, ◌≢◌, ◌∙◌, ◌⊎◌, ◌==◌, ◌++◌, ◌+◌, ◌≤◌, ℕ, Bool, true, false, List, [], Option, Ok, Err, length, take, length-append, ap, arith, inl, inr, refl, subst, sym}
use Rattle.std.proofs.Math.Seq.{take-append-add}
use Rattle.std.proofs.lemmas.List.{length-map}
use Rattle.std.specs.Prelude.{All}
use Rattle.ds_base.specs.Values.{Row}
use Rattle.ds_outside.specs.Fault.{Rose}
use Rattle.ds_outside.specs.Held.{Held, untold, absent, bytes}
use Rattle.ds_outside.specs.declared.files.Which.{Which}
use Rattle.ds_outside.specs.declared.files.Which.TheVariants.{Vectors}
use Rattle.ds_outside.specs.Written.{appended, AppendsPart}
use Rattle.ds_outside.proofs.Appended.{appended-append}
use Rattle.ds_design.specs.Accepted.{IsAccepted}
use Rattle.ds_design.specs.Circuit.{Circuit, columns, initial_row, initial_value}
use Rattle.ds_design.specs.InRange.{IsInRange}
use Rattle.ds_design.specs.declared.design.Register.{Register}
use Rattle.ds_design.specs.Rows.{Rows}
use Rattle.ds_design.specs.Trace.{AreLines}
use Rattle.ds_clocked.specs.Appends.{AppendsLines, AppendsLinesPart}
use Rattle.ds_clocked.specs.declared.run.SimFault.{SimFault}
use Rattle.ds_clocked.specs.declared.run.SimFault.TheVariants as why
use Rattle.ds_stream.specs.Next.{FitsHeld, GivesHeld, IsBehind}
use Rattle.ds_stream.specs.Stream.{Shown}
use Rattle.ds_stage.specs.declared.stop.Stop.{Stop}
use Rattle.ds_stage.specs.declared.stop.Stop.TheVariants.{Refused, Unread, Unwritten, Memory}
use Rattle.ds_stage.specs.Ends.{Ends, Output, RoseIn, UnwrittenOr}
use Rattle.ds_stage.specs.Stage.{OfFile, Stage, then_stage}
use Rattle.ds_stage.specs.StreamStage.{streamed_stage}
use Rattle.ds_stage.specs.StreamStops.{StopsWindow}
use Rattle.ds_stage.proofs.StageEnds.{rose_since}
use Rattle.ds_stage.proofs.Streamed.{AreWritten, GivenOf, IsReaderOf, Spells, given_whole, last_long, memory_stops, none_written, of_many, of_more, of_none, reads_stop, unwritten_window, written_more}

-- lines whole, and a first part of what stands behind them
part_after : (old mid new : Option (List ℕ)) (p q : List ℕ) → mid ≡ appended old p → AppendsPart mid new q → AppendsPart old new (p ++ q)
part_after old mid new p q whole (n, within, is) = (
  length p + n,
  let long : length (p ++ q) ≡ length p + length q = length-append p q in omega arith,
  is ∙ (ap (λ (w : Option (List ℕ)). appended w (take n q)) whole ∙ (appended-append old p (take n q) ∙ ap (appended old) (sym (take-append-add p q n)))),
)

-- a read that failed since later failed since earlier
stops_since : (h : Held) (shown : Shown) (file : List ℕ) (before mid now : Which → List ℕ → ℕ) → ((w : Which) (n : List ℕ) → before w n ≤ mid w n)
    → (stop : Stop) → StopsWindow h shown file (RoseIn mid now) stop → StopsWindow h shown file (RoseIn before now) stop
stops_since h shown file before mid now less (Refused line) is = is
stops_since h shown file before mid now less (Unread line) (rose, spelt) =
    (rose_since (before Vectors file) (mid Vectors file) (now Vectors file) (less Vectors file) rose, spelt)
stops_since h shown file before mid now less Unwritten is = is
stops_since h shown file before mid now less Memory is = is

-- the reader is behind so many vectors of what is held, which is the same by now, and the lines of
-- their trace, up to these registers, are written
pub record IsSoFar (held later : List ℕ → Held) (vec : List ℕ) (c : Circuit) (most : ℕ) (shown : Shown) (first : ℕ) (more : Bool) (state : Row) (old now : Option (List ℕ)) : Type 0 where
  pub same : later ≡ held
  pub fits : FitsHeld (held vec) shown
  pub of : IsReaderOf c most shown
  pub first_is : first ≡ shown.given
  pub rows : List Row
  pub given : GivenOf (held vec) c most first more rows
  pub written : AreWritten c rows state old now

-- before the first window
pub none_so_far : (held : List ℕ → Held) (vec : List ℕ) (c : Circuit) (most : ℕ) (shown : Shown) (state : Row) (old : Option (List ℕ))
    → IsReaderOf c most shown → shown.given ≡ 0 → FitsHeld (held vec) shown → state ≡ initial_row c → IsSoFar held held vec c most shown 0 true state old old
none_so_far held vec c most shown state old of none fits start = record {
  same = refl;
  fits = fits;
  of = of;
  first_is = sym none;
  rows = [];
  given = of_none (held vec) c most;
  written = subst (λ (row : Row). AreWritten c [] row old old) (sym start) (none_written c old);
}

module _ {held later : List ℕ → Held} {vec : List ℕ} {c : Circuit} {most : ℕ} {shown : Shown} {first : ℕ} {more : Bool} {state : Row} {old mid : Option (List ℕ)}
    (so : IsSoFar held later vec c most shown first more state old mid) where
  -- the registers are as many as at first
  pub registers_long : length state ≡ length c.registers
  registers_long = last_long c 0 (initial_row c) so.rows so.written.lines state so.written.are (length-map c.registers (λ (r : Register). initial_value r.initial))

  module _ (goes : more ≡ true) where
    -- so many vectors are given, and there are more
    given_here : GivenOf (held vec) c most first true so.rows
    given_here = subst (λ (b : Bool). GivenOf (held vec) c most first b so.rows) goes so.given

    given_shown : GivenOf (held vec) c most shown.given true so.rows
    given_shown = subst (λ (n : ℕ). GivenOf (held vec) c most n true so.rows) so.first_is given_here

    -- no window comes next
    pub no_more : (next : Rows → Stage (List ℕ)) (before since now : Which → List ℕ → ℕ) → ((w : Which) (n : List ℕ) → before w n ≤ since w n)
        → (was risen : ℕ) (stop : Stop) → StopsWindow (later vec) shown vec (RoseIn since now) stop
        → Ends {A = Unit {0}} (then_stage (streamed_stage held vec most c) next) (RoseIn before now) (record { old = old; new = mid; before = was; now = risen }) (Err stop)
    no_more next before since now less was risen stop stops =
        reads_stop (Unit {0}) held vec c most next (RoseIn before now) (record { old = old; new = mid; before = was; now = risen }) shown so.rows state stop so.of so.fits given_shown so.written
        (stops_since (held vec) shown vec before since now less stop (subst (λ (h : List ℕ → Held). StopsWindow (h vec) shown vec (RoseIn since now) stop) so.same stops))

    module _ (after : Shown) (rows : Rows) (gives : GivesHeld (later vec) shown 4096 after rows.rows) (width : rows.width ≡ shown.width)
        (one_width : All (λ row. length row ≡ rows.width) rows.rows) where
      gives_here : GivesHeld (held vec) shown 4096 after rows.rows
      gives_here = subst (λ (h : List ℕ → Held). GivesHeld (h vec) shown 4096 after rows.rows) so.same gives

      -- the vectors of a window more are given
      given_more : GivenOf (held vec) c most (first + length rows.rows) (length rows.rows == 4096) (so.rows ++ rows.rows)
      given_more =
          subst (λ (n : ℕ). GivenOf (held vec) c most (n + length rows.rows) (length rows.rows == 4096) (so.rows ++ rows.rows)) (sym so.first_is)
          (of_more (held vec) c most shown after so.rows rows.rows so.of so.fits given_shown gives_here
          (subst (λ (w : ℕ). All (λ (row : Row). length row ≡ w) rows.rows) (width ∙ so.of.width) one_width))

      many_here : length so.rows ≡ first
      many_here = of_many (held vec) c most first more so.rows so.given

      -- and its lines are written
      pub one_more : (newer : List ℕ → Held) → newer ≡ later → FitsHeld (newer vec) after → IsBehind shown 4096 after rows.rows → (behind turns : ℕ) → behind ≡ after.given
          → turns ≡ length rows.rows → (last : Row) (new : Option (List ℕ)) → AppendsLines c first state rows.rows mid new last
          → IsSoFar held newer vec c most after behind (turns == 4096) last old new
      one_more newer same fits is behind turns behind_is turns_are last new lines =
          let many : behind ≡ first + length rows.rows = behind_is ∙ (is.given ∙ ap (λ (n : ℕ). n + length rows.rows) (sym so.first_is)) in
          record {
            same = same ∙ so.same;
            fits = subst (λ (h : List ℕ → Held). FitsHeld (h vec) after) (same ∙ so.same) fits;
            of = record { width = is.width ∙ so.of.width; most_is = is.most ∙ so.of.most_is };
            first_is = behind_is;
            rows = so.rows ++ rows.rows;
            given = subst (λ (n : ℕ). GivenOf (held vec) c most n (turns == 4096) (so.rows ++ rows.rows)) (sym many)
                (subst (λ (n : ℕ). GivenOf (held vec) c most (first + length rows.rows) (n == 4096) (so.rows ++ rows.rows)) (sym turns_are) given_more);
            written = written_more c so.rows rows.rows state last first old mid new many_here so.written lines;
          }

      -- where something was given, a file is there
      is_there : held vec ≢ absent
      is_there none = none_given_of (held vec) gives_here none
        where
          none_given_of : (h : Held) → GivesHeld h shown 4096 after rows.rows → h ≢ absent
          none_given_of untold any e = cc
          none_given_of absent given e = omega (arith, given)
          none_given_of (bytes text) any e = cc

      -- or they are not all written
      pub window_ends : IsInRange c → IsAccepted c → (next : Rows → Stage (List ℕ)) → Spells next c → (failed : OfFile) (new : Option (List ℕ)) (was between risen : ℕ) → was ≤ between
          → (fault : SimFault) (stop : Stop) → ((fault ≡ why.Write) × (stop ≡ Unwritten)) ⊎ ((fault ≡ why.Memory) × (stop ≡ Memory))
          → (fault ≡ why.Write → AppendsLinesPart c first state rows.rows mid new) → (fault ≡ why.Write → Rose between risen) → (fault ≡ why.Memory → new ≡ mid)
          → Ends {A = Unit {0}} (then_stage (streamed_stage held vec most c) next) failed (record { old = old; new = new; before = was; now = risen }) (Err stop)
      window_ends range accepted next spells failed new was between risen less fault stop stops part cause same =
          let out : Output = record { old = old; new = new; before = was; now = risen } in
          let Ending : Stop → Type 0 = λ (s : Stop). Ends {A = Unit {0}} (then_stage (streamed_stage held vec most c) next) failed out (Err s) in
          elim stops [
            | inl (is_fault, is_stop) ↦ subst Ending (sym is_stop)
                (unwritten_window c range accepted most next spells held vec failed (Unit {0}) out mid first (length rows.rows == 4096) so.rows state rows.rows is_there many_here given_more
                so.written (part is_fault) (rose_since was between risen less (cause is_fault)))
            | inr (is_fault, is_stop) ↦ subst Ending (sym is_stop)
                (memory_stops (Unit {0}) held vec c most next failed out first so.rows state given_here
                (subst (λ (w : Option (List ℕ)). AreWritten c so.rows state old w) (sym (same is_fault)) so.written))
          ]

  module _ (over : more ≡ false) (next : Rows → Stage (List ℕ)) (failed : OfFile) (rest : List ℕ)
      (is : (rows : Rows) (lines : List ℕ) → length rows.rows ≡ first → AreLines c 0 (initial_row c) rows.rows lines state → (next rows).means (lines ++ rest)) where
    -- behind the lines of all vectors stands the rest of a text
    text_is : (then_stage (streamed_stage held vec most c) next).means (so.written.lines ++ rest)
    text_is = (
      record { width = length (columns c); rows = so.rows },
      given_whole c most (held vec) first so.rows (subst (λ (b : Bool). GivenOf (held vec) c most first b so.rows) over so.given),
      is (record { width = length (columns c); rows = so.rows }) so.written.lines (of_many (held vec) c most first more so.rows so.given) so.written.are,
    )

    -- it is written whole
    pub rest_ends : (new : Option (List ℕ)) (was risen : ℕ) → new ≡ appended mid rest
        → Ends {A = Unit {0}} (then_stage (streamed_stage held vec most c) next) failed (record { old = old; new = new; before = was; now = risen }) (Ok tt)
    rest_ends new was risen whole = (
      so.written.lines ++ rest,
      text_is,
      whole ∙ (ap (λ (w : Option (List ℕ)). appended w rest) so.written.written ∙ appended-append old so.written.lines rest),
    )

    -- or in part
    pub rest_fails : (new : Option (List ℕ)) (was between risen : ℕ) → was ≤ between → AppendsPart mid new rest → Rose between risen
        → Ends {A = Unit {0}} (then_stage (streamed_stage held vec most c) next) failed (record { old = old; new = new; before = was; now = risen }) (Err Unwritten)
    rest_fails new was between risen less part rose = (
      so.written.lines ++ rest,
      inl text_is,
      part_after old mid new so.written.lines rest so.written.written part,
      rose_since was between risen less rose,
    )

-- no write failed, unless that is why a window is not written whole
pub same_written : {P : Type 0} (fault : SimFault) (stop : Stop) → ((fault ≡ why.Write) × (stop ≡ Unwritten)) ⊎ ((fault ≡ why.Memory) × (stop ≡ Memory))
    → (fault ≡ why.Memory → P) → UnwrittenOr stop P
same_written {P} fault stop stops same = elim stops [
  | inl (is_fault, is_stop) ↦ subst (λ (s : Stop). UnwrittenOr s P) (sym is_stop) tt
  | inr (is_fault, is_stop) ↦ subst (λ (s : Stop). UnwrittenOr s P) (sym is_stop) (same is_fault)
]
