-- Arcs with the same ends: they have one delay, and a slowest cycle goes by the fewest tokens.
use Rattle.std.proofs.Common.{◌≡◌, ◌∙◌, ◌<◌, ◌≤◌, ◌*◌, ◌&&◌, ℕ, false, List, [], ◌∷◌, length, get_or, Ok, inl, inr, zero, suc, arith, ap, ap₂, refl, sym, subst}
use Rattle.std.specs.List.{Contains}
use Rattle.std.specs.Prelude.{◌==◌}
use Rattle.std.proofs.Math.Nat.{mul-le-mul_left}
use Rattle.std.proofs.lemmas.Bool.{cases_Bool}
use Rattle.std.proofs.lemmas.List.{get_or-replicate, length-replicate}
use Rattle.ds_lines.specs.Line.{Line}
use Rattle.ds_marked.specs.Graph.{Graph}
use Rattle.ds_marked.specs.declared.marked.Arc.{Arc}
use Rattle.ds_period.specs.declared.timed.Timed.{Timed}
use Rattle.ds_period.specs.Found.{sources_of}
use Rattle.ds_period.specs.Read.{Given, HasOneEach, after_line, delays_from, delays_with, is_from_to, none_given, source_named, target_named}
use Rattle.ds_period.specs.Timing.{timed_arcs}
use Rattle.ds_period.specs.Walk.{IsChain, walk_delay, walk_tokens}
use Rattle.ds_period.specs.Word.{written_delay}
use Rattle.ds_period.proofs.ParallelArcs.{at_named, at_other}
use Rattle.ds_period.proofs.DelayLines.{one_each}
use Rattle.ds_period.proofs.GivenDelays.{first_taken, line_taken}
use Rattle.ds_graph_laws.specs.Fewest.{HaveAlikeDelays, CyclesGoByFewestTokens, DelaysAreAlike, HasFewestTokens}
use Rattle.ds_graph_laws.proofs.OnePeriod.{periods_are_greatest}

-- stands for an arc past the end
no_arc : Arc
no_arc = record { source = 0; target = 0; tokens = 0 }

-- where arcs with delays stand
record StandsAt (arcs : List Arc) (delays : List ℕ) (x : Timed) : Type 0 where
  place : ℕ
  inside : place < length arcs
  source : x.source ≡ (get_or arcs place no_arc).source
  target : x.target ≡ (get_or arcs place no_arc).target
  delay : x.delay ≡ get_or delays place 0

stands_at : (arcs : List Arc) (delays : List ℕ) (x : Timed) → Contains (timed_arcs arcs delays) x → StandsAt arcs delays x
stands_at [] delays x (k, inside, is) = absurd (omega arith)
stands_at (arc ∷ arcs) [] x (k, inside, is) = absurd (omega arith)
stands_at (arc ∷ arcs) (d ∷ delays) x (zero, inside, is) = record {
  place = 0;
  inside = omega arith;
  source = ap (λ (y : Timed). y.source) (sym is);
  target = ap (λ (y : Timed). y.target) (sym is);
  delay = ap (λ (y : Timed). y.delay) (sym is);
}
stands_at (arc ∷ arcs) (d ∷ delays) x (suc k, inside, is) =
    let s = stands_at arcs delays x (k, omega arith, is) in
    record { place = suc s.place; inside = omega (arith, s.inside); source = s.source; target = s.target; delay = s.delay }

module _ (g : Graph) where
  -- arcs with the same ends have the same delay
  AreAlikeAt : List ℕ → Type 0
  AreAlikeAt delays = (j k : ℕ) → j < length g.arcs → k < length g.arcs
      → (get_or g.arcs j no_arc).source ≡ (get_or g.arcs k no_arc).source
      → (get_or g.arcs j no_arc).target ≡ (get_or g.arcs k no_arc).target → get_or delays j 0 ≡ get_or delays k 0

  -- a line more
  alike_with : (u v d : ℕ) (delays : List ℕ) → length delays ≡ length g.arcs → AreAlikeAt delays → AreAlikeAt (delays_with u v d g.arcs delays)
  unfolding AreAlikeAt
  alike_with u v d delays same alike j k low high source target =
      let joins : is_from_to u v (get_or g.arcs j no_arc) ≡ is_from_to u v (get_or g.arcs k no_arc) =
      ap₂ (λ (s t : ℕ). (s == u) && (t == v)) source target in
      elim (cases_Bool (is_from_to u v (get_or g.arcs k no_arc))) [
        | inl yes_so ↦ at_named u v d g.arcs delays j no_arc low same (joins ∙ yes_so)
            ∙ sym (at_named u v d g.arcs delays k no_arc high same yes_so)
        | inr not_so ↦ at_other u v d g.arcs delays j no_arc low same (joins ∙ not_so)
            ∙ alike j k low high source target
            ∙ sym (at_other u v d g.arcs delays k no_arc high same not_so)
      ]

  -- all lines
  alike_from : (delays : List ℕ) (lines : List Line) (so_far : Given) → HasOneEach g so_far → AreAlikeAt so_far.delays
      → delays_from g so_far lines ≡ Ok delays → AreAlikeAt delays
  alike_from delays [] so_far sizes alike e = let same : so_far.delays ≡ delays = cc in subst AreAlikeAt same alike
  alike_from delays (line ∷ lines) so_far sizes alike e =
      let (next, taken, rest) = first_taken line.number (after_line g so_far line.words) (λ so_far. delays_from g so_far lines) delays e in
      let t = line_taken g so_far next line.words taken in
      alike_from delays lines next (one_each g so_far next line.words sizes taken)
      (subst (λ (r : Given). AreAlikeAt r.delays) t.is
      (alike_with (source_named g line.words) (target_named g line.words) (written_delay line.words) so_far.delays sizes.0 alike)) rest

  -- none
  alike_none : AreAlikeAt (none_given g).delays
  unfolding AreAlikeAt
  alike_none j k low high source target = get_or-replicate (length g.arcs) j 0 0 low ∙ sym (get_or-replicate (length g.arcs) k 0 0 high)

  alike_timed : (delays : List ℕ) → AreAlikeAt delays → HaveAlikeDelays (timed_arcs g.arcs delays)
  unfolding AreAlikeAt
  alike_timed delays alike x y has also (source, target) =
      let s = stands_at g.arcs delays x has in
      let t = stands_at g.arcs delays y also in
      s.delay ∙ alike s.place t.place s.inside t.inside (sym s.source ∙ source ∙ t.source) (sym s.target ∙ target ∙ t.target) ∙ sym t.delay

pub delays_are_alike : DelaysAreAlike
delays_are_alike g lines delays e =
    alike_timed g delays (alike_from g delays lines (none_given g) (length-replicate (length g.arcs) 0, length-replicate (length g.arcs) false) (alike_none g) e)

module _ (arcs : List Timed) where
  -- walks with the same sources that end at the same event begin at the same, unless they are empty
  same_start : (a b z : ℕ) (xs ys : List Timed) → IsChain arcs a xs z → IsChain arcs b ys z → sources_of xs ≡ sources_of ys → a ≡ b
  same_start a b z [] [] one other e = one ∙ sym other
  same_start a b z [] (y ∷ ys) one other e = absurd cc
  same_start a b z (x ∷ xs) [] one other e = absurd cc
  same_start a b z (x ∷ xs) (y ∷ ys) (in_arcs, source, rest) (also, from, more) e =
      let heads : x.source ≡ y.source = cc in sym source ∙ heads ∙ from

  -- of two walks along the same events that of fewest tokens has the same delay, and no more tokens
  compared : HaveAlikeDelays arcs → (a b z : ℕ) (xs ys : List Timed) → IsChain arcs a xs z → IsChain arcs b ys z → sources_of xs ≡ sources_of ys
      → HasFewestTokens arcs ys → (walk_delay ys ≡ walk_delay xs) × (walk_tokens ys ≤ walk_tokens xs)
  compared alike a b z [] [] one other e fewest = (refl, omega arith)
  compared alike a b z [] (y ∷ ys) one other e fewest = absurd cc
  compared alike a b z (x ∷ xs) [] one other e fewest = absurd cc
  compared alike a b z (x ∷ xs) (y ∷ ys) (in_arcs, source, rest) (also, from, more) e fewest =
      let heads : y.source ≡ x.source = cc in
      let tails : sources_of xs ≡ sources_of ys = cc in
      let targets : y.target ≡ x.target = sym (same_start x.target y.target z xs ys rest more tails) in
      let (delays, tokens) = compared alike x.target y.target z xs ys rest more tails
      (λ u v (k, inside, is) has ends. fewest u v (suc k, omega arith, is) has ends) in
      let here : y.delay ≡ x.delay = alike y x also in_arcs (heads, targets) in
      let few : y.tokens ≤ x.tokens = fewest y x (0, omega arith, refl) in_arcs (heads, targets) in
      (omega arith, omega arith)

-- closed walks along the same events begin at the same
closed_start : (arcs : List Timed) (a b : ℕ) (xs ys : List Timed) → 0 < walk_tokens xs → IsChain arcs a xs a → IsChain arcs b ys b
    → sources_of xs ≡ sources_of ys → a ≡ b
closed_start arcs a b [] ys some one other e = absurd (omega arith)
closed_start arcs a b (x ∷ xs) [] some one other e = absurd cc
closed_start arcs a b (x ∷ xs) (y ∷ ys) some (in_arcs, source, rest) (also, from, more) e =
    let heads : x.source ≡ y.source = cc in sym source ∙ heads ∙ from

pub fewest_reach : CyclesGoByFewestTokens
fewest_reach arcs count p q cycle potentials alike period start walk closed along fewest =
    let r = period.reached in
    let sources : sources_of r.walk ≡ sources_of walk = r.along ∙ sym along in
    let begins : r.start ≡ start = closed_start arcs r.start start r.walk walk r.some r.closed closed sources in
    let there : IsChain arcs r.start r.walk start = subst (λ (z : ℕ). IsChain arcs r.start r.walk z) begins r.closed in
    let (delays, tokens) = compared arcs alike r.start start start r.walk walk there closed sources fewest in
    let most : q * walk_delay walk ≤ p * walk_tokens walk = periods_are_greatest arcs count p q cycle potentials period start walk closed in
    let less : p * walk_tokens walk ≤ p * walk_tokens r.walk = mul-le-mul_left p tokens in
    let same : q * walk_delay walk ≡ q * walk_delay r.walk = ap (λ (n : ℕ). q * n) delays in
    omega (arith, r.ratio)
