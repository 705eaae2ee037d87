use Rattle.std.proofs.Common.{◌≡◌, ◌∙◌, ◌+◌, List, [], ◌∷◌, ◌++◌, take, ap, sym, ap₂, Vec, Global}
use Rattle.std.proofs.lemmas.List.{take_more, append-nil}
use Rattle.ds_marked.specs.declared.marked.Arc.{Arc}
use Rattle.ds_rank.specs.declared.edge.Edge.{Edge}
use Rattle.ds_rank.specs.Free.{free_part}
use Rattle.ds_rank.proofs.Freed.{free_join, free_yes, free_no}
use Rattle.ds_rank.proofs.find.free_edges.Goals as goal
use Rattle.ds_rank.proofs.find.free_edges.Goals.{then-arc-eq0+in_ok-push, else-arc-eq0}

pub loop-arc-preserved : goal.loop-arc-preserved
loop-arc-preserved c =
    let arcs = c.args.arcs.now in
    let i = c.loop-arc.arc-index in
    let arc = c.arc-item.result in
    let cut : take (c.loop-arc.arc-index + 1) c.args.arcs.now ≡ take c.loop-arc.arc-index c.args.arcs.now ++ c.arc-item.result ∷ [] =
    take_more arcs i arc c.loop-arc-test.true ∙ ap (λ (x : Arc). take i arcs ++ x ∷ []) (sym c.arc-item.is) in
    let joined = ap free_part cut ∙ free_join (take i arcs) (arc ∷ []) in
    elim c.if-arc-eq0.branch [
      | then-arc-eq0+in_ok-push w ↦ ap (λ (v : Vec Edge Global). v.items) w.edges-is ∙ w.in_ok-push.ensures.items
          ∙ ap₂ (λ (es fs : List Edge). es ++ fs) c.loop-arc.invariant
          (ap (λ (e : Edge). e ∷ []) w.edge_along.ensures ∙ sym (free_yes arc [] w.if-arc-eq0.true))
          ∙ sym joined
      | else-arc-eq0 w ↦ ap (λ (v : Vec Edge Global). v.items) w.edges-is ∙ c.loop-arc.invariant
          ∙ sym (joined ∙ ap (λ (es : List Edge). free_part (take i arcs) ++ es) (free_no arc [] w.if-arc-eq0.false) ∙ append-nil (free_part (take i arcs)))
    ]
