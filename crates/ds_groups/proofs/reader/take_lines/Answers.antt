use Rattle.std.proofs.Common.{◌≡◌, ◌∙◌, ◌<◌, ◌≤◌, ℕ, length, map, sym, arith, subst}
use Rattle.std.specs.Prelude.{All}
use Rattle.std.proofs.lemmas.List.{length-map}
use Rattle.ds_base.specs.Refusal.{RefusesAs}
use Rattle.ds_base.specs.declared.refusal.Refusal.{Refusal}
use Rattle.ds_lines.specs.declared.at.At.{At}
use Rattle.ds_rows.specs.Nets.{net_text}
use Rattle.ds_groups.specs.Read.{after_lines}
use Rattle.ds_groups.specs.declared.fault.GroupKind.{GroupKind}
use Rattle.ds_groups.proofs.GroupsSoFar.{held_more, lines_all, lines_have_words, lines_more, lines_none, lines_refused}
use Rattle.ds_groups.proofs.reader.take_lines.Goals as goal

pub loop-i-init : goal.loop-i-init
loop-i-init c = lines_none (map net_text c.args.named.now) c.args.holders.now c.args.lines.now (length c.args.named.now) (length-map c.args.named.now net_text) c.requires.one_each

pub take_words-requires-clause-one_each : goal.take_words-requires-clause-one_each
take_words-requires-clause-one_each c = c.loop-i.invariant.held.size ∙ length-map c.args.named.now net_text

pub take_words-requires-clause-within : goal.take_words-requires-clause-within
take_words-requires-clause-within c = (held_more (map net_text c.args.named.now) c.loop-i.i c.loop-i.holders c.loop-i.invariant.held).within

pub loop-i-preserved : goal.loop-i-preserved
loop-i-preserved c = lines_more (map net_text c.args.named.now) c.args.holders.now c.args.lines.now c.loop-i.i c.loop-i.holders c.take_words.new.holders (map (λ w. w.now) c.line.result.now)
    (omega arith) c.line.ensures.value (let n : length (map (λ w. w.now) c.line.result.now) ≡ length c.line.result.now = length-map c.line.result.now (λ w. w.now) in let some : 0 < length c.line.result.now = c.line.ensures.some in omega arith) c.in-Ok.ensures.value
    (record { size = c.in-Ok.ensures.one_each ∙ sym (length-map c.args.named.now net_text); within = c.in-Ok.ensures.within }) c.loop-i.invariant

pub returns-in-Err-clause-fault : goal.returns-in-Err-clause-fault
returns-in-Err-clause-fault c =
    subst (λ (why : Refusal (At GroupKind)). RefusesAs why (after_lines (map net_text c.args.named.now) 1 c.args.holders.now c.args.lines.now)) (sym c.on_line.ensures)
    (lines_refused (map net_text c.args.named.now) c.args.holders.now c.args.lines.now c.loop-i.i c.loop-i.holders c.take_words.new.holders (map (λ w. w.now) c.line.result.now) c.in-Err.why c.number.result
    (omega arith) c.line.ensures.value c.number.ensures c.in-Err.ensures.value c.loop-i.invariant)

pub returns-clause-value : goal.returns-clause-value
returns-clause-value c = lines_all (map net_text c.args.named.now) c.args.holders.now c.args.lines.now c.loop-i.i c.loop-i.holders (omega arith) c.loop-i.invariant

pub returns-clause-size : goal.returns-clause-size
returns-clause-size c = c.loop-i.invariant.held.size ∙ length-map c.args.named.now net_text

pub returns-clause-within : goal.returns-clause-within
returns-clause-within c = subst (λ (n : ℕ). All (λ k. k ≤ n) c.loop-i.holders) (let e : c.loop-i.i ≡ length c.args.lines.now = omega arith in e) c.loop-i.invariant.held.within

pub returns-clause-words : goal.returns-clause-words
returns-clause-words c = lines_have_words (map net_text c.args.named.now) c.args.holders.now c.args.lines.now c.loop-i.i c.loop-i.holders (omega arith) c.loop-i.invariant
