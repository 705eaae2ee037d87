use Rattle.std.proofs.Common.{◌≡◌, ◌∙◌, ◌<◌, ℕ, List, length, get_or, ap, sym, subst, arith}
use Rattle.std.specs.Prelude.{All}
use Rattle.std.specs.List.{range_with_len}
use Rattle.ds_design.specs.Circuit.{Circuit}
use Rattle.ds_design.specs.Levels.{IsSortedByLevel}
use Rattle.ds_design.specs.declared.design.Gate.{Gate}
use Rattle.ds_design.specs.declared.design.Net.{Net}
use Rattle.ds_netlist.specs.Edges.{FeedsIn}
use Rattle.ds_feedback.specs.Links.{links}
use Rattle.ds_feedback.proofs.LinkLemmas.{IsLinkWithin, links_within}
use Rattle.ds_feedback.proofs.SequenceLemmas.{is_sequence}
use Rattle.ds_feedback.proofs.unclocked.sequence.Goals as goal

pub ranks_of-requires-clause-within : goal.ranks_of-requires-clause-within
ranks_of-requires-clause-within c =
    let circuit : Circuit = c.args.netlist.now in
    let are : c.as_slice-links.result.now ≡ links circuit =
    c.as_slice-links.ensures.value ∙ (c.in_ok-links.ensures.ok ∙ ap links c.design-design.ensures.design) in
    let nets : length c.nets.result.now ≡ length circuit.nets =
    ap (λ (ns : List Net). length ns) (c.nets.ensures ∙ ap (λ (d : Circuit). d.nets) c.design-design.ensures.design) in
    subst (λ (n : ℕ). All (IsLinkWithin n) c.as_slice-links.result.now) (sym nets)
    (subst (λ (gs : List Gate). All (IsLinkWithin (length circuit.nets)) gs) (sym are) (links_within circuit c.design-design.ensures.in_range))

pub order_of-requires-clause-inside : goal.order_of-requires-clause-inside
order_of-requires-clause-inside c =
    let circuit : Circuit = c.args.netlist.now in
    let are : c.as_slice-links.result.now ≡ links circuit =
    c.as_slice-links.ensures.value ∙ (c.in_ok-links.ensures.ok ∙ ap links c.design-design.ensures.design) in
    let nets : length c.nets.result.now ≡ length circuit.nets =
    ap (λ (ns : List Net). length ns) (c.nets.ensures ∙ ap (λ (d : Circuit). d.nets) c.design-design.ensures.design) in
    let ranks : length c.as_slice.result.now ≡ length circuit.nets =
    ap (λ (ns : List ℕ). length ns) c.as_slice.ensures.value ∙ (c.in-Ok.ensures.ok.size ∙ nets) in
    λ k d inside.
    let low : (get_or c.as_slice-links.result.now k d).output < length circuit.nets =
    (subst (λ (gs : List Gate). All (IsLinkWithin (length circuit.nets)) gs) (sym are) (links_within circuit c.design-design.ensures.in_range) k d inside).1 in
    omega arith

pub returns-in-Ok : goal.returns-in-Ok
returns-in-Ok c =
    let circuit : Circuit = c.args.netlist.now in
    let are : c.as_slice-links.result.now ≡ links circuit =
    c.as_slice-links.ensures.value ∙ (c.in_ok-links.ensures.ok ∙ ap links c.design-design.ensures.design) in
    let ranks : c.as_slice.result.now ≡ c.in-Ok.ranks.items = c.as_slice.ensures.value in
    let order : List ℕ = c.in_ok-order_of-in-Ok.field-0.items in
    let sorted : IsSortedByLevel (links circuit) c.in-Ok.ranks.items (range_with_len 0 (length (links circuit))) order =
    subst (λ (rs : List ℕ). IsSortedByLevel (links circuit) rs (range_with_len 0 (length (links circuit))) order) ranks
    (subst (λ (gs : List Gate). IsSortedByLevel gs c.as_slice.result.now (range_with_len 0 (length gs)) order) are c.in_ok-order_of-in-Ok.ensures.ok) in
    record {
      ok = is_sequence circuit c.in-Ok.ranks.items order
          (λ u v feeds. c.in-Ok.ensures.ok.above u v (subst (λ (gs : List Gate). FeedsIn gs u v) (sym are) feeds)) sorted;
    }
