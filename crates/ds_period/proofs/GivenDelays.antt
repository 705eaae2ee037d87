-- The delays that lines give, line by line.
use Rattle.std.proofs.Common.{◌≡◌, ◌≢◌, ◌∙◌, ◌<◌, ℕ, Bool, true, false, List, [], ◌∷◌, get_or, length, not, Result, Ok, Err, refl, arith, ap, ap₂, sym, subst, suc, if◌then◌else◌}
use Rattle.std.specs.Prelude.{nat_lt, slice_index, AllPairs}
use Rattle.std.specs.List.{All}
use Rattle.std.proofs.lemmas.Bool.{false≢true, ltb-true}
use Rattle.std.proofs.lemmas.List.{get_or-replicate, get_or-set_other, get_or-set_same, get_or_default, length-replicate}
use Rattle.std.proofs.lemmas.List.Elements.{All-cons}
use Rattle.std.proofs.lemmas.List.Kept.{AllPairs-cons}
use Rattle.ds_lines.specs.First.{behind_line}
use Rattle.ds_lines.specs.Line.{Line}
use Rattle.ds_marked.specs.Graph.{Graph}
use Rattle.ds_marked.specs.declared.marked.Arc.{Arc}
use Rattle.ds_period.specs.Word.{has_delay, written_delay}
use Rattle.ds_period.specs.Read.{Given, HasOneEach, after_line, arc_between, arc_named, delays_from, is_from_to, is_given, none_given, repeated_order, source_named, target_named, unknown_order, given_with}
use Rattle.ds_period.specs.Written.{DelaysAreWritten, GivesDelay, NamesArc, NameSameEnds}
use Rattle.ds_lines.specs.declared.at.At.{At}
use Rattle.ds_period.specs.declared.fault.DelayKind.{DelayKind}
use Rattle.ds_period.specs.declared.fault.DelayKind.TheVariants.{BadWord}
use Rattle.ds_period.proofs.ArcSearch.{joins_by, joins_is, not_true}
use Rattle.ds_period.proofs.ParallelArcs.{at_named, at_other}
use Rattle.ds_period.proofs.DelayLines.{one_each}

-- stands for an arc past the end
no_arc : Arc
no_arc = record { source = 0; target = 0; tokens = 0 }

-- what is known where no test refuses
passes : (a b c : Bool) (one two three : DelayKind) (given new : Given)
    → (let r : Result Given DelayKind = if not a then Err one else if not b then Err two else if c then Err three else Ok given in r ≡ Ok new)
    → (a ≡ true) × (b ≡ true) × (c ≡ false) × (given ≡ new)
passes false b c one two three given new e = absurd cc
passes true false c one two three given new e = absurd cc
passes true true true one two three given new e = absurd cc
passes true true false one two three given new e = (refl, refl, refl, cc)

-- a line that is taken
pub record IsLineTaken (g : Graph) (old : Given) (words : List (List ℕ)) (new : Given) : Type 0 where
  pub has : has_delay words ≡ true
  pub inside : arc_named g words < length g.arcs
  pub fresh : is_given old (arc_named g words) ≡ false
  pub is : given_with g old words ≡ new

pub line_taken : (g : Graph) (old new : Given) (words : List (List ℕ)) → after_line g old words ≡ Ok new → IsLineTaken g old words new
line_taken g old new words e =
    let (has, inside, fresh, is) = passes (has_delay words) (nat_lt (arc_named g words) (length g.arcs)) (is_given old (arc_named g words))
    BadWord (unknown_order words) (repeated_order words) (given_with g old words) new e in
    record {
      has = has;
      inside = ltb-true (arc_named g words) (length g.arcs) inside;
      fresh = fresh;
      is = is;
    }

-- where the lines from one on give delays, it is taken
pub first_taken : (number : ℕ) (r : Result Given DelayKind) (rest : Given → Result (List ℕ) (At DelayKind)) (delays : List ℕ)
    → behind_line number r rest ≡ Ok delays → (next : Given) × (r ≡ Ok next) × (rest next ≡ Ok delays)
first_taken number (Ok next) rest delays e = (next, refl, e)
first_taken number (Err kind) rest delays e = absurd cc

-- an arc that stands there has the same ends whatever stands for one past the end
same_arc : (g : Graph) (k : ℕ) (line : Line) → k < length g.arcs → (d : Arc)
    → ((get_or g.arcs k no_arc).source ≡ source_named g line.words) × ((get_or g.arcs k no_arc).target ≡ target_named g line.words)
    → ((get_or g.arcs k d).source ≡ source_named g line.words) × ((get_or g.arcs k d).target ≡ target_named g line.words)
same_arc g k line inside d (source, target) =
    let same : get_or g.arcs k d ≡ get_or g.arcs k no_arc = get_or_default g.arcs k d no_arc inside in
    (ap (λ (x : Arc). x.source) same ∙ source, ap (λ (x : Arc). x.target) same ∙ target)

-- two lines that name the ends of one arc name the same ends
same_named : (g : Graph) (k : ℕ) (a b : Line) → NamesArc g k a → NamesArc g k b → NameSameEnds g a b
same_named g k a b one other =
    (sym (one no_arc).0 ∙ (other no_arc).0, sym (one no_arc).1 ∙ (other no_arc).1)

-- they have the same first arc
same_first : (g : Graph) (a b : Line) → NameSameEnds g a b → arc_named g a.words ≡ arc_named g b.words
same_first g a b (source, target) = ap₂ (λ (u v : ℕ). arc_between g u v) source target

module _ (g : Graph) (delays : List ℕ) where
  -- an arc with a delay is named by no later line
  not_again : (k : ℕ) (lines : List Line) (so_far : Given) → is_given so_far k ≡ true → delays_from g so_far lines ≡ Ok delays
      → All (λ line. arc_named g line.words ≢ k) lines
  not_again k [] so_far given e = λ i d lt. absurd (omega arith)
  not_again k (line ∷ lines) so_far given e =
      let (next, taken, rest) = first_taken line.number (after_line g so_far line.words) (λ so_far. delays_from g so_far lines) delays e in
      let t = line_taken g so_far next line.words taken in
      let differs : arc_named g line.words ≢ k = λ same. false≢true (sym t.fresh ∙ ap (λ (j : ℕ). is_given so_far j) same ∙ given) in
      let still : is_given next k ≡ true = subst (λ (r : Given). is_given r k ≡ true) t.is
      (get_or-set_other so_far.given (arc_named g line.words) k true false (λ same. differs (sym same)) ∙ given) in
      All-cons (λ (l : Line). arc_named g l.words ≢ k) line lines differs (not_again k lines next still rest)

  -- an arc whose ends no line names keeps its delay
  keeps : (k : ℕ) (lines : List Line) (so_far : Given) → k < length g.arcs → HasOneEach g so_far → All (λ line. ¬ NamesArc g k line) lines
      → delays_from g so_far lines ≡ Ok delays → slice_index delays k ≡ slice_index so_far.delays k
  keeps k [] so_far inside sizes others e = let same : so_far.delays ≡ delays = cc in ap (λ (xs : List ℕ). slice_index xs k) (sym same)
  keeps k (line ∷ lines) so_far inside sizes others e =
      let (next, taken, rest) = first_taken line.number (after_line g so_far line.words) (λ so_far. delays_from g so_far lines) delays e in
      let t = line_taken g so_far next line.words taken in
      keeps k lines next inside (one_each g so_far next line.words sizes taken) (λ i d lt. others (suc i) d (omega arith)) rest
      ∙ ap (λ (r : Given). slice_index r.delays k) (sym t.is)
      ∙ at_other (source_named g line.words) (target_named g line.words) (written_delay line.words) g.arcs so_far.delays k no_arc inside sizes.0
      (apart k line inside (others 0 line (omega arith)))
    where
      apart : (k : ℕ) (line : Line) → k < length g.arcs → ¬ NamesArc g k line
          → is_from_to (source_named g line.words) (target_named g line.words) (get_or g.arcs k no_arc) ≡ false
      apart k line inside other = not_true _ (λ leads. other (λ d. same_arc g k line inside d (joins_is (source_named g line.words) (target_named g line.words) (get_or g.arcs k no_arc) leads)))

  -- each arc between the events of a line has its delay
  each_given : (line : Line) (lines : List Line) (so_far : Given) → HasOneEach g so_far → delays_from g so_far (line ∷ lines) ≡ Ok delays
      → GivesDelay g delays line
  each_given line lines so_far sizes e =
      let (next, taken, rest) = first_taken line.number (after_line g so_far line.words) (λ so_far. delays_from g so_far lines) delays e in
      let t = line_taken g so_far next line.words taken in
      let again : is_given next (arc_named g line.words) ≡ true = subst (λ (r : Given). is_given r (arc_named g line.words) ≡ true) t.is
      (get_or-set_same so_far.given (arc_named g line.words) true false (omega (arith, t.inside, sizes.1))) in
      let later = not_again (arc_named g line.words) lines next again rest in
      record {
        form = t.has;
        some = t.inside;
        each = λ k inside named.
            keeps k lines next inside (one_each g so_far next line.words sizes taken)
            (λ i l lt other. later i l lt (same_first g (get_or lines i l) line (same_named g k (get_or lines i l) line other named))) rest
            ∙ ap (λ (r : Given). slice_index r.delays k) (sym t.is)
            ∙ at_named (source_named g line.words) (target_named g line.words) (written_delay line.words) g.arcs so_far.delays k no_arc inside sizes.0
            (joins_by (source_named g line.words) (target_named g line.words) (get_or g.arcs k no_arc) (named no_arc).0 (named no_arc).1);
      }

  -- so each line gives its delay
  all_given : (lines : List Line) (so_far : Given) → HasOneEach g so_far → delays_from g so_far lines ≡ Ok delays
      → All (GivesDelay g delays) lines
  all_given [] so_far sizes e = λ i d lt. absurd (omega arith)
  all_given (line ∷ lines) so_far sizes e =
      let (next, taken, rest) = first_taken line.number (after_line g so_far line.words) (λ so_far. delays_from g so_far lines) delays e in
      All-cons (GivesDelay g delays) line lines (each_given line lines so_far sizes e)
      (all_given lines next (one_each g so_far next line.words sizes taken) rest)

  -- no two lines name the same ends
  all_once : (lines : List Line) (so_far : Given) → HasOneEach g so_far → delays_from g so_far lines ≡ Ok delays
      → AllPairs (λ a b. ¬ NameSameEnds g a b) lines
  all_once [] so_far sizes e = λ i j d before lt. absurd (omega arith)
  all_once (line ∷ lines) so_far sizes e =
      let (next, taken, rest) = first_taken line.number (after_line g so_far line.words) (λ so_far. delays_from g so_far lines) delays e in
      let t = line_taken g so_far next line.words taken in
      let again : is_given next (arc_named g line.words) ≡ true = subst (λ (r : Given). is_given r (arc_named g line.words) ≡ true) t.is
      (get_or-set_same so_far.given (arc_named g line.words) true false (omega (arith, t.inside, sizes.1))) in
      let later = not_again (arc_named g line.words) lines next again rest in
      AllPairs-cons (λ (a b : Line). ¬ NameSameEnds g a b) line lines
      (λ i d lt same. later i d lt (sym (same_first g line (get_or lines i d) same)))
      (all_once lines next (one_each g so_far next line.words sizes taken) rest)

  -- one delay an arc
  all_sizes : (lines : List Line) (so_far : Given) → HasOneEach g so_far → delays_from g so_far lines ≡ Ok delays
      → length delays ≡ length g.arcs
  all_sizes [] so_far sizes e = let same : so_far.delays ≡ delays = cc in ap (λ (xs : List ℕ). length xs) (sym same) ∙ sizes.0
  all_sizes (line ∷ lines) so_far sizes e =
      let (next, taken, rest) = first_taken line.number (after_line g so_far line.words) (λ so_far. delays_from g so_far lines) delays e in
      all_sizes lines next (one_each g so_far next line.words sizes taken) rest

none_sizes : (g : Graph) → HasOneEach g (none_given g)
none_sizes g = (length-replicate (length g.arcs) 0, length-replicate (length g.arcs) false)

pub delays_written : DelaysAreWritten
delays_written g lines delays e = record {
  one_each = all_sizes g delays lines (none_given g) (none_sizes g) e;
  given = all_given g delays lines (none_given g) (none_sizes g) e;
  once = all_once g delays lines (none_given g) (none_sizes g) e;
  others = λ k lt others. keeps g delays k lines (none_given g) lt (none_sizes g) others e ∙ get_or-replicate (length g.arcs) k 0 0 lt;
}
