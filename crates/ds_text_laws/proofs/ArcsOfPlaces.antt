-- A graph that is read has an arc for each place, and no other.
use Rattle.std.proofs.Common.{◌≡◌, ℕ, false, not, ◌&&◌, List, [], ◌∷◌, length, map, Option, None, Some, is_some, Ok, refl, arith, inl, inr, sym, ap, subst, IsPermutation}
use Rattle.std.specs.Prelude.{All}
use Rattle.std.proofs.lemmas.Bool.{cases_Bool}
use Rattle.std.proofs.lemmas.List.Elements.{All-cons}
use Rattle.std.proofs.lemmas.List.Sorted.{IsPermutation-cons, IsPermutation-refl, IsPermutation-swap, IsPermutation-trans}
use Rattle.ds_lines.specs.Line.{Line}
use Rattle.ds_lines.specs.Words.{word_at}
use Rattle.ds_marked.specs.Graph.{Graph}
use Rattle.ds_marked.specs.declared.marked.Arc.{Arc}
use Rattle.ds_astg.specs.Line.{State, graph_head_of, start, step}
use Rattle.ds_astg.specs.Place.{Key}
use Rattle.ds_astg.specs.Read.{arc_of, end_of, ends, graph_from, graph_of_parts, in_order, lacking, lacks, stands_before, with_arc}
use Rattle.ds_astg.specs.Sound.{IsStateSound}
use Rattle.ds_astg.specs.declared.place.Place.{Place}
use Rattle.ds_astg.proofs.Soundness.{step_sound}
use Rattle.ds_text_laws.proofs.ReadKept.{behind_was, given_of, if_was, start_sound}
use Rattle.ds_text_laws.specs.AstgPlaces.{ArcsAreOfPlaces, LinesLeadTo, JoinsEvents, at_end, behind, behind_all}

-- arcs are put in order, none is lost
swapped : (a b : Arc) (arcs : List Arc) → IsPermutation (a ∷ b ∷ arcs) (b ∷ a ∷ arcs)
swapped a b arcs = IsPermutation-swap (a ∷ b ∷ arcs) (b ∷ a ∷ arcs) 0 1 (omega arith) (omega arith) refl

permuted_with : (a : Arc) (arcs : List Arc) → IsPermutation (a ∷ arcs) (with_arc a arcs)
permuted_with a [] = IsPermutation-refl (a ∷ [])
permuted_with a (other ∷ arcs) = elim (cases_Bool (stands_before a other)) [
  | inl e ↦ rw e (IsPermutation-refl (a ∷ other ∷ arcs))
  | inr e ↦ rw e (IsPermutation-trans (a ∷ other ∷ arcs) (other ∷ a ∷ arcs) (other ∷ with_arc a arcs) (swapped a other arcs)
      (IsPermutation-cons other (a ∷ arcs) (with_arc a arcs) (permuted_with a arcs)))
]

permuted_in_order : (arcs : List Arc) → IsPermutation arcs (in_order arcs)
permuted_in_order [] = IsPermutation-refl []
permuted_in_order (a ∷ arcs) =
    IsPermutation-trans (a ∷ arcs) (a ∷ in_order arcs) (with_arc a (in_order arcs))
    (IsPermutation-cons a arcs (in_order arcs) (permuted_in_order arcs)) (permuted_with a (in_order arcs))

-- a place that lacks nothing joins events
joins_by : (source target : Option ℕ) → not (is_some source && is_some target) ≡ false → (u v : ℕ) × (source ≡ Some u) × (target ≡ Some v)
joins_by None target none = absurd (cc)
joins_by (Some u) None none = absurd (cc)
joins_by (Some u) (Some v) none = (u, v, refl, refl)

all_join : (keys : List Key) (places : List Place) → length keys ≡ length places → lacking keys places ≡ None → All JoinsEvents places
all_join keys [] each none = λ k d inside. absurd (omega arith)
all_join [] (place ∷ places) each none = absurd (omega (arith, each))
all_join (key ∷ keys) (place ∷ places) each none = elim (cases_Bool (lacks place)) [
  | inl some ↦ absurd (let e = rw some at none in cc)
  | inr whole ↦ All-cons JoinsEvents place places (joins_by place.source place.target whole) (all_join keys places (omega (arith, each)) (rw whole at none))
]

-- what was read behind all lines
record HasRead (lines : List Line) (state : State) (g : Graph) : Type 0 where
  last : State
  read : LinesLeadTo lines state last
  sound : IsStateSound last
  done : end_of last ≡ Ok g

read_from : (lines : List Line) (state : State) (g : Graph) → IsStateSound state → graph_from lines state ≡ Ok g → HasRead lines state g
read_from [] state g sound is = record { last = state; read = behind_all; sound = sound; done = is }
read_from (line ∷ lines) state g sound is = elim (if_was (ends (graph_head_of (word_at line.words 0))) _ _ g is) [
  | inl (last, done) ↦ record { last = state; read = at_end last; sound = sound; done = done }
  | inr (more, next) ↦
      (let (state', one, rest) = behind_was line.number (step line state) (graph_from lines) g next in
      let has : HasRead lines state' g = read_from lines state' g (step_sound (graph_head_of (word_at line.words 0)) line.number line.words state state' sound one) rest in
      record { last = has.last; read = behind more one has.read; sound = has.sound; done = has.done })
]

pub arcs_are_of_places_lem : ArcsAreOfPlaces
arcs_are_of_places_lem lines g is =
    let has : HasRead lines start g = read_from lines start g start_sound is in
    let state : State = has.last in
    let (whole, same) = given_of (lacking state.places.keys state.places.places) (graph_of_parts state.signals state.places) g has.done in
    record {
      last = state;
      read = has.read;
      events = ap (λ (g : Graph). g.events) (sym same);
      whole = all_join state.places.keys state.places.places has.sound.places.each whole;
      arcs = subst (λ (arcs : List Arc). IsPermutation (map arc_of state.places.places) arcs) (ap (λ (g : Graph). g.arcs) same) (permuted_in_order (map arc_of state.places.places));
    }
