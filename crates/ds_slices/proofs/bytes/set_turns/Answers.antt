use Rattle.std.proofs.Common.{◌≡◌, ◌∙◌, ◌<◌, List, ℕ, ap, sym, arith, length, subst}
use Rattle.std.specs.Prelude.{All}
use Rattle.std.proofs.lemmas.List.Elements.{All-map}
use Rattle.ds_design.specs.Circuit.{register_nets}
use Rattle.ds_design.specs.declared.design.Register.{Register}
use Rattle.ds_slices.proofs.bytes.set_turns.Goals as goal

pub set_bytes-requires-2-clause-within : goal.set_bytes-requires-2-clause-within
set_bytes-requires-2-clause-within c =
    let own : All (λ net. net < length c.args.netlist.now.nets) (register_nets c.args.netlist.now) =
    All-map (λ net. net < length c.args.netlist.now.nets) (λ (r : Register). r.output) c.args.netlist.now.registers
    (λ k d inside. (c.design-design.ensures.in_range.registers k d inside).1) in
    let all : All (λ net. net < length c.args.netlist.now.nets) c.as_slice-registers.result.now =
    subst (λ (ns : List ℕ). All (λ net. net < length c.args.netlist.now.nets) ns) (sym (c.as_slice-registers.ensures.value ∙ c.requires.ready.registers)) own in
    let size : length c.as_slice-words.result.now ≡ length c.args.netlist.now.nets =
    ap (λ (ws : List ℕ). length ws) c.as_slice-words.ensures.value ∙ c.requires.ready.words in
    λ k d low. (let net = all k d low in omega arith)
