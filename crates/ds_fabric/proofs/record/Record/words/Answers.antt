use Rattle.std.proofs.Common.{◌≡◌, ◌<◌, ◌+◌, ◌-◌, ◌*◌, ◌∙◌, ◌≤◌, ℕ, List, get_or, length, take}
use Rattle.std.proofs.Common.{drop, ap, sym, arith}
use Rattle.ds_rule.specs.Run.{closing}
use Rattle.ds_rule.specs.Words.{width}
use Rattle.ds_rule.specs.declared.view.View.{View}
use Rattle.ds_rule.proofs.EventLaws.{node-closing}
use Rattle.ds_rule.proofs.PlaceLaws.{width-is}
use Rattle.ds_rule.specs.Rule.{tickets}
use Rattle.ds_fabric.specs.HistoryList.{stride_of}
use Rattle.ds_fabric.specs.declared.history.History.{History}
use Rattle.ds_fabric.specs.Showing.{IsTold}
use Rattle.ds_fabric.proofs.HistoryLayout.{stride-low}
use Rattle.ds_fabric.proofs.RowReads.{value-word}
use Rattle.ds_fabric.proofs.Unpacks.{in_part}
use Rattle.ds_fabric.proofs.HistoryTickets.{row_told, word_told}
use Rattle.ds_fabric.proofs.record.Record.words.Goals as goal

pub history-requires : goal.history-requires
history-requires c sound = omega (arith, c.index.ensures, sound.among, c.requires.near)

-- the row ends inside, and a turn has two words more than it
ends : {v : View} {l node k : ℕ} {h : History} {words : List ℕ} → IsTold v l h words → l ≡ node
    → node < v.run.design_nodes → k < length (tickets v (closing node))
    → (k * h.step + h.first + width v.run node < length words)
    × (h.stride ≡ width v.run node + 2)
ends {v} {l} {node} {k} {h} {words} told is low below = (
  row_told v l node k h words told is low below,
  told.tells.stride ∙ (ap (stride_of v.run) (told.node_is ∙ is) ∙ stride-low v.run node low),
)

pub overflow_mul-from : goal.overflow_mul-from
overflow_mul-from c =
    let e = ends c.history.ensures c.index.ensures c.requires.near c.requires.stored in
    omega (arith, e.0)

pub overflow_add-from : goal.overflow_add-from
overflow_add-from c =
    let e = ends c.history.ensures c.index.ensures c.requires.near c.requires.stored in
    omega (arith, e.0)

pub overflow_add-result : goal.overflow_add-result
overflow_add-result c =
    let e = ends c.history.ensures c.index.ensures c.requires.near c.requires.stored in
    omega (arith, e.0, e.1)

pub offset_bounds-words-from : goal.offset_bounds-words-from
offset_bounds-words-from c =
    let e = ends c.history.ensures c.index.ensures c.requires.near c.requires.stored in
    omega (arith, e.0, e.1)

pub slice_bounds-result-end : goal.slice_bounds-result-end
slice_bounds-result-end c =
    let e = ends c.history.ensures c.index.ensures c.requires.near c.requires.stored in
    omega (arith, e.0, e.1)

pub returns-clause-long : goal.returns-clause-long
returns-clause-long c =
    let e = ends c.history.ensures c.index.ensures c.requires.near c.requires.stored in
    omega (arith, e.0, e.1, width-is c.args.self.now.shown.view.run c.args.node)

pub returns-clause-value : goal.returns-clause-value
returns-clause-value c = λ j below. let v : View = c.args.self.now.shown.view in
    let h : History = c.history.result.0.now in let l : ℕ = c.args.node in
    let words : List ℕ = c.history.result.1.now in let w : ℕ = width v.run l in
    let from : ℕ = c.args.k * h.step + h.first in
    let e = ends c.history.ensures c.index.ensures c.requires.near c.requires.stored in
    let same : from + (h.stride - 2) - from ≡ w = omega (arith, e.1) in
    let low : j < w = omega (arith, below, e.1) in
    ap (λ (m : ℕ). get_or (take m (drop from words)) j 0) same
    ∙ (in_part w from words j 0 low
    ∙ (word_told v c.index.result l c.args.k j h words c.history.ensures c.index.ensures
    c.requires.near c.requires.stored low
    ∙ value-word v.run l (c.args.k + 1) j))

pub returns-clause-same : goal.returns-clause-same
returns-clause-same c = let v : View = c.args.self.now.shown.view in let l : ℕ = c.args.node in
    let i = c.history.ensures in
    let most : length (tickets v (closing l)) ≤ v.run.limit =
    i.most (closing l) (node-closing v.run l c.requires.near ∙ sym c.index.ensures) in
    i.sound.same_length l (c.args.k + 1) (omega (arith, c.requires.near, i.sound.among))
    (omega (arith, c.requires.stored, most))
