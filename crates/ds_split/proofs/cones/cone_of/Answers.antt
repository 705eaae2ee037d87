use Rattle.std.proofs.Common.{◌≡◌, ◌∙◌, ◌<◌, ℕ, List, length, sym, subst, arith, Result, Ok, Err}
use Rattle.std.specs.Prelude.{All, IfOk}
use Rattle.ds_design.specs.Circuit.{Circuit}
use Rattle.ds_latch.specs.Node.{nets_of, nodes, number_of}
use Rattle.ds_latch.proofs.OrderTokens.{number_below}
use Rattle.ds_settle.specs.Cone.{IsCone}
use Rattle.ds_split.specs.Cones.{IsConeAt}
use Rattle.ds_split.proofs.NodeCones.{lent, nets_within}
use Rattle.ds_split.proofs.cones.cone_of.Goals as goal

pub latch-requires : goal.latch-requires
latch-requires c =
    let (n, at) = c.requires.node in
    let low : number_of n < nodes c.args.latches.now = number_below c.args.latches.now n at.node in
    omega (low, at.is, c.nodes-nodes.ensures.few, arith)

pub cone-requires : goal.cone-requires
cone-requires c =
    let (n, at) = c.requires.node in let (range, split) = c.requires.design in
    let low : number_of n < nodes c.args.latches.now = number_below c.args.latches.now n at.node in
    let inside : number_of n < length c.bits.result.now = omega (low, c.bits.ensures.one_each, arith) in
    let these : c.as_slice.result.now ≡ nets_of c.args.latches.now n = lent c.bits.result.now (number_of n) c.index-place.result c.index-bits-place.result c.as_slice.result.now c.as_slice.ensures c.index-bits-place.is (c.index-place.ensures ∙ (c.latch.ensures ∙ sym at.is)) inside
    ∙ c.bits.ensures.nets n at.node in
    subst (λ (d : Circuit). All (λ net. net < length d.nets) c.as_slice.result.now) (sym c.requires.finder)
    (subst (λ (xs : List ℕ). All (λ net. net < length c.args.latches.now.circuit.nets) xs) (sym these) (nets_within c.args.latches.now split range n at.node))

-- what follows where there is an answer
if_ok : {T E : Type 0} (r : Result T E) (P Q : T → Type 0) → ((x : T) → P x → Q x) → IfOk r P → IfOk r Q
if_ok (Ok x) P Q so is = so x is
if_ok (Err e) P Q so is = tt

pub returns-clause-ok : goal.returns-clause-ok
returns-clause-ok c =
    if_ok c.cone.result (IsCone c.args.finder.now c.as_slice.result.now) (IsConeAt c.args.latches.now (number_of c.args.node)) (λ cone is n at.
    let low : number_of n < nodes c.args.latches.now = number_below c.args.latches.now n at.node in
    let inside : number_of n < length c.bits.result.now = omega (low, c.bits.ensures.one_each, arith) in
    let these : c.as_slice.result.now ≡ nets_of c.args.latches.now n = lent c.bits.result.now (number_of n) c.index-place.result c.index-bits-place.result c.as_slice.result.now c.as_slice.ensures c.index-bits-place.is (c.index-place.ensures ∙ (c.latch.ensures ∙ sym at.is)) inside
    ∙ c.bits.ensures.nets n at.node in
    subst (λ (d : Circuit). IsCone d (nets_of c.args.latches.now n) cone) c.requires.finder (subst (λ (xs : List ℕ). IsCone c.args.finder.now xs cone) these is)) c.cone.ensures.ok
