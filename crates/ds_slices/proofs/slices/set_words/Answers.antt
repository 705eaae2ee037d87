use Rattle.std.proofs.Common.{◌≡◌, ◌≢◌, ◌∙◌, ◌<◌, ◌++◌, ℕ, List, length, get_or, drop, ap, sym, arith, subst, take_at}
use Rattle.std.specs.Prelude.{All, AllPairs, Contains}
use Rattle.std.proofs.lemmas.List.Elements.{Contains-append_left, Contains-get_or}
use Rattle.ds_base.specs.Values.{Row}
use Rattle.ds_design.specs.Circuit.{Circuit, columns, drivers, register_nets}
use Rattle.ds_design.specs.Levels.{table_nets}
use Rattle.ds_settle.proofs.OneTableMore.{column_once, columns_in_range}
use Rattle.ds_slices.specs.Turns.{AreTurns, IsColumnWord}
use Rattle.ds_slices.proofs.LinkedTurns.{are_turns, undriven_apart}
use Rattle.ds_slices.proofs.LinkedWords.{column_apart}
use Rattle.ds_slices.proofs.slices.set_words.Goals as goal

pub set_columns-requires-clause-within : goal.set_columns-requires-clause-within
set_columns-requires-clause-within c =
    let circuit : Circuit = c.args.netlist.now in
    let all : All (λ net. net < length circuit.nets) c.columns.result.now =
    subst (λ (these : List ℕ). All (λ net. net < length circuit.nets) these) (sym c.columns.ensures)
    (columns_in_range circuit c.design-design.ensures.accepted c.design-design.ensures.in_range) in
    let size : length c.clear.new.words ≡ length c.args.netlist.now.nets =
    c.clear.ensures.same ∙ (ap (λ (ws : List ℕ). length ws) c.as_mut_slice-words.ensures.value ∙ c.requires.ready.words) in
    λ k d low. (let net = all k d low in omega arith)

pub set_columns-requires-clause-once : goal.set_columns-requires-clause-once
set_columns-requires-clause-once c =
    subst (λ (these : List ℕ). AllPairs (λ a b. a ≢ b) these) (sym c.columns.ensures) (column_once c.args.netlist.now c.design-design.ensures.accepted)

pub returns-clause-turns : goal.returns-clause-turns
returns-clause-turns c =
    let circuit : Circuit = c.args.netlist.now in
    let rows : List Row = c.args.vectors.now.rows in
    let words : List ℕ = c.set_links.new.words in
    let same : length c.set_links.new.words ≡ length c.as_mut_slice-words.result.now =
    c.set_links.ensures.same_words ∙ (c.set_columns.ensures.same ∙ c.clear.ensures.same) in
    let own : length c.set_links.new.words ≡ c.args.slices.now.words.len = same ∙ c.as_mut_slice-words.ensures.len in
    let size : length c.set_links.new.words ≡ length circuit.nets =
    same ∙ (ap (λ (ws : List ℕ). length ws) c.as_mut_slice-words.ensures.value ∙ c.requires.ready.words) in
    let told : (i : ℕ) → i < length (columns circuit) → IsColumnWord rows c.args.from i (get_or c.set_columns.new.words (get_or (columns circuit) i 0) 0) =
    subst (λ (cs : List ℕ). (i : ℕ) → i < length cs → IsColumnWord rows c.args.from i (get_or c.set_columns.new.words (get_or cs i 0) 0)) c.columns.ensures c.set_columns.ensures.set in
    let others : (net : ℕ) → ((i : ℕ) → i < length (columns circuit) → get_or (columns circuit) i 0 ≢ net) → get_or c.set_columns.new.words net 0 ≡ get_or c.clear.new.words net 0 =
    subst (λ (cs : List ℕ). (net : ℕ) → ((i : ℕ) → i < length cs → get_or cs i 0 ≢ net) → get_or c.set_columns.new.words net 0 ≡ get_or c.clear.new.words net 0) c.columns.ensures c.set_columns.ensures.others in
    let columned : (i : ℕ) → i < length (columns circuit) → IsColumnWord rows c.args.from i (get_or words (get_or (columns circuit) i 0) 0) =
    (λ i low. subst (IsColumnWord rows c.args.from i)
    (sym (c.set_links.ensures.others (get_or (columns circuit) i 0) (column_apart circuit c.design-design.ensures.accepted i low))) (told i low)) in
    let undriven : (net : ℕ) → ¬ Contains (drivers circuit) net → get_or words net 0 ≡ 0 =
    (λ net free.
    c.set_links.ensures.others net (undriven_apart circuit net free)
    ∙ (others net (λ i low e. free (Contains-append_left (columns circuit ++ table_nets circuit) (register_nets circuit) net
    (Contains-append_left (columns circuit) (table_nets circuit) net (subst (λ (x : ℕ). Contains (columns circuit) x) e (Contains-get_or (columns circuit) i 0 low)))))
    ∙ c.clear.ensures.zero net)) in
    subst (λ (ws : List ℕ). AreTurns circuit c.args.start.now rows c.args.from ws) (sym (take_at words (drop (length words) c.args.slices.now.words.items) c.args.slices.now.words.len own))
    (are_turns circuit c.args.start.now rows c.args.from words c.set_links.ensures.linked columned undriven c.requires.start
    (λ k d inside. c.count-count.ensures.kept.one_width k d inside ∙ c.requires.width) c.requires.known.1 size)
