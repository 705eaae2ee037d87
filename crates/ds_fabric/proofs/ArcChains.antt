-- Chains of the arcs into each event.
use Rattle.std.proofs.Common.{◌≡◌, ℕ, ◌+◌, ◌-◌, ◌<◌, List, [], ◌∷◌, ◌++◌, length, get_or, set}
use Rattle.std.proofs.Common.{replicate, slice_index_or}
use Rattle.std.proofs.Common.{sym, refl, ap, ◌∙◌, subst, arith, length-set, get_or-set_same}
use Rattle.std.proofs.Common.{get_or-set_other, length-append}
use Rattle.std.proofs.lemmas.List.{length-replicate, get_or_default}
use mathlib.Core.Logic.{dite}
use native.Mathlib.Decide.{ℕ_discrete}
use Rattle.atomic_table.proofs.Lists.{at_index}
use Rattle.ds_rule.specs.Run.{Run, events}
use Rattle.ds_rule.specs.Sound.{IsSound}
use Rattle.ds_marked.specs.declared.marked.Arc.{Arc}
use Rattle.ds_rule.proofs.EventLaws.{event_below}
use Rattle.ds_rule.proofs.GetElemLemmas.{at_get, get-first, get-second, replicate-default}
use Rattle.ds_fabric.specs.Chained.{absent_arc, arc_numbered, IsLastArc, IsChained}

-- a place that was read off a list
pub read-off : (xs : List ℕ) (i r : ℕ) → i < length xs → r ≡ slice_index_or xs i r → get_or xs i 0 ≡ r
read-off xs i r h is = at_get xs i r 0 (at_index xs i r h is)

-- an arc of the run, out of a list that is its arcs
pub same-arc : (run : Run) (arcs : List Arc) (i : ℕ) (d : Arc) → arcs ≡ run.arcs
    → i < length run.arcs → get_or arcs i d ≡ arc_numbered run i
same-arc run arcs i d is near =
    ap (λ (xs : List Arc). get_or xs i d) is ∙ get_or_default run.arcs i d absent_arc near

pub target_near : (run : Run) (n : ℕ) → IsSound run → n < length run.arcs
    → (arc_numbered run n).target < events run
target_near run n sound h =
    event_below run (arc_numbered run n).target sound.among (sound.named n absent_arc h).1

pub chained_none : (run : Run) (heads : List ℕ) (n : ℕ) → heads ≡ replicate n 0 → n ≡ events run
    → IsChained run 0 heads []
chained_none run heads n is many = subst (λ hs. IsChained run 0 hs []) (sym is) (record {
  heads_long = length-replicate n 0 ∙ many;
  links_long = refl;
  head = λ e h. let z : get_or (replicate n 0) e 0 ≡ 0 = replicate-default {A = ℕ} n e 0 in
      record {
        below = omega arith;
        hit = λ t. absurd (omega arith);
        none = λ k a b. absurd (omega arith);
      };
  link = λ k h. absurd (omega arith);
})

pub chained_next : (run : Run) (n t : ℕ) (heads links links' : List ℕ) → t ≡ (arc_numbered run n).target
    → t < events run → IsChained run n heads links → links' ≡ links ++ get_or heads t 0 ∷ []
    → IsChained run (n + 1) (set heads t (n + 1)) links'
chained_next run n t heads links links' is near c links-is =
    let here : get_or (set heads t (n + 1)) t 0 ≡ n + 1 =
    get_or-set_same heads t (n + 1) 0 (omega (arith, c.heads_long)) in
    let last : IsLastArc run t (n + 1) (n + 1) =
    record {
      below = omega arith;
      hit = λ _. (let k : n + 1 - 1 ≡ n = omega arith in
          ap (λ (x : ℕ). (arc_numbered run x).target) k ∙ sym is);
      none = λ k a b. absurd (omega arith);
    } in
    record {
      heads_long = length-set heads t (n + 1) ∙ c.heads_long;
      links_long = ap (λ (xs : List ℕ). length xs) links-is
          ∙ omega (arith, length-append links (get_or heads t 0 ∷ []), c.links_long);
      head = λ e h. dite (ℕ_discrete e t)
          (λ same. subst (λ (x : ℕ). IsLastArc run e (n + 1) x)
          (sym (ap (λ (x : ℕ). get_or (set heads t (n + 1)) x 0) same ∙ here))
          (subst (λ (x : ℕ). IsLastArc run x (n + 1) (n + 1)) (sym same) last))
          (λ far. let o = c.head e h in subst (λ (x : ℕ). IsLastArc run e (n + 1) x)
          (sym (get_or-set_other heads t e (n + 1) 0 far)) (record {
            below = omega (arith, o.below);
            hit = o.hit;
            none = λ k a b. dite (ℕ_discrete k n) (λ z y. far (sym y
                ∙ (ap (λ (x : ℕ). (arc_numbered run x).target) z ∙ sym is)))
                (λ z. o.none k a (omega arith));
          }));
      link = λ k h. dite (ℕ_discrete k n)
          (λ same. let at : k ≡ length links + 0 = omega (arith, c.links_long) in
          let value : get_or links' k 0 ≡ get_or heads t 0 =
          ap (λ (xs : List ℕ). get_or xs k 0) links-is
          ∙ (ap (λ (x : ℕ). get_or (links ++ get_or heads t 0 ∷ []) x 0) at
          ∙ get-second links (get_or heads t 0 ∷ []) (length links) 0 refl) in
          subst (λ (x : ℕ). IsLastArc run (arc_numbered run k).target k x) (sym value)
          (subst (λ (x : ℕ). IsLastArc run (arc_numbered run x).target x (get_or heads t 0)) (sym same)
          (subst (λ (x : ℕ). IsLastArc run x n (get_or heads t 0)) is (c.head t near))))
          (λ far. subst (λ (x : ℕ). IsLastArc run (arc_numbered run k).target k x)
          (sym (ap (λ (xs : List ℕ). get_or xs k 0) links-is
          ∙ get-first links (get_or heads t 0 ∷ []) k (omega (arith, c.links_long))))
          (c.link k (omega arith)));
    }
