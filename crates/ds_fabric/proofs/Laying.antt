-- The words of the table and the histories, node by node, before anything has fired.
use Rattle.std.proofs.Common.{◌≡◌, ℕ, ◌+◌, ◌*◌, ◌<◌, List, [], ◌∷◌, ◌++◌, length, get_or}
use Rattle.std.proofs.Common.{replicate}
use Rattle.std.proofs.Common.{sym, refl, ap, ◌∙◌, subst, arith, length-append}
use Rattle.std.proofs.lemmas.List.{append_assoc, length-replicate}
use mathlib.Core.Logic.{dite}
use native.Mathlib.Decide.{ℕ_discrete}
use Rattle.std.proofs.Common.{set, get_or-set_same, get_or-set_other}
use Rattle.ds_rule.specs.Run.{Run}
use Rattle.ds_rule.specs.Words.{width, place, value}
use Rattle.ds_rule.specs.Sound.{IsSound, edge_at, read_words}
use Rattle.ds_rule.specs.Rows.{row}
use Rattle.ds_rule.proofs.GetElemLemmas.{get-first, get-second, replicate-default}
use Rattle.ds_rule.proofs.RowLaws.{length-row, get-row, reads-into, reads-past}
use Rattle.ds_rule.proofs.PlaceLaws.{start-first, start-words, first_below, place-word}
use Rattle.ds_rule.proofs.PlaceLaws.{place_behind}
use Rattle.ds_fabric.specs.Laid.{LaidBelow}

pub laid_none : (run : Run) (words : List ℕ) → words ≡ replicate (run.nodes + 1) 0
    → LaidBelow run 0 words []
laid_none run words is = subst (λ ws. LaidBelow run 0 ws []) (sym is) (record {
  words_long = length-replicate (run.nodes + 1) 0 ∙ omega (arith, start-first run);
  zeros = λ x h. replicate-default {A = ℕ} (run.nodes + 1) x 0;
  firsts = λ l i h. absurd (omega arith);
  starts_long = refl;
  started = λ l h. absurd (omega arith);
})

pub laid_next : (run : Run) (n : ℕ) (words starts words' starts' first more : List ℕ) → IsSound run
    → n < run.nodes → LaidBelow run n words starts
    → first ≡ words ++ row run n 0 → words' ≡ first ++ more → length more ≡ run.slack * width run n
    → starts' ≡ starts ++ length words ∷ [] → LaidBelow run (n + 1) words' starts'
laid_next run n words starts words' starts' first more sound near b first-is words-is many starts-is =
    let r : List ℕ = row run n 0 in let all : List ℕ = words ++ (r ++ more) in
    let is : words' ≡ all = words-is ∙ (ap (λ (xs : List ℕ). xs ++ more) first-is
    ∙ append_assoc words r more) in
    let wide : length words' ≡ length words + (width run n + run.slack * width run n) =
    ap (λ (xs : List ℕ). length xs) is ∙ omega (
      arith,
      length-append words (r ++ more),
      length-append r more,
      length-row run n 0,
    ) in
    let old : (x : ℕ) → x < length words → get_or words' x 0 ≡ get_or words x 0 =
    λ x h. ap (λ (xs : List ℕ). get_or xs x 0) is ∙ get-first words (r ++ more) x h in
    let inside : n < length run.lengths = omega (arith, sound.rows_of_all) in
    let behind : run.nodes < length words = omega (arith, b.words_long, place_behind run n 0 0) in
    record {
      words_long = omega (arith, wide, b.words_long, start-words run n inside);
      zeros = λ x h. old x (omega arith) ∙ b.zeros x h;
      firsts = λ l i h h'. dite (ℕ_discrete l n)
          (λ e. let i-near : i < width run n = omega (arith, ap (width run) e) in
          let at : place run l 0 i ≡ length words + i = ap (λ (x : ℕ). place run x 0 i) e
          ∙ omega (arith, place-word run n 0 i, b.words_long) in
          (ap (λ (x : ℕ). get_or words' x 0) at ∙ (ap
          (λ (xs : List ℕ). get_or xs (length words + i) 0) is
          ∙ (get-second words (r ++ more) (length words) i refl
          ∙ (get-first r more i (omega (arith, length-row run n 0))
          ∙ (get-row run n 0 i i-near ∙ ap (λ (x : ℕ). value run x 0 i) (sym e)))))))
          (λ ne. old (place run l 0 i) (omega (
            arith,
            b.words_long,
            first_below run l n i (omega arith) (omega (arith, sound.rows_of_all)) h',
          ))
          ∙ b.firsts l i (omega arith) h');
      starts_long = ap (λ (xs : List ℕ). length xs) starts-is
          ∙ omega (arith, length-append starts (length words ∷ []), b.starts_long);
      started = λ l h. ap (λ (xs : List ℕ). get_or xs l 0) starts-is ∙ dite (ℕ_discrete l n)
          (λ e. let k : l ≡ length starts + 0 = omega (arith, b.starts_long) in
          ap (λ (x : ℕ). get_or (starts ++ length words ∷ []) x 0) k
          ∙ (get-second starts (length words ∷ []) (length starts) 0 refl
          ∙ (b.words_long ∙ ap (λ (x : ℕ). place run x 0 0) (sym e))))
          (λ ne. get-first starts (length words ∷ []) l (omega (arith, b.starts_long))
          ∙ b.started l (omega arith));
    }

-- how many words each node reads, with one more edge
pub reads_next : (run : Run) (ts : List ℕ) (n c w : ℕ) → c ≡ (edge_at run n).consumer
    → w ≡ 1 + width run (edge_at run n).producer → length ts ≡ run.nodes → c < run.nodes
    → ((x : ℕ) → x < run.nodes → get_or ts x 0 ≡ read_words run x n)
    → (x : ℕ) → x < run.nodes → get_or (set ts c (get_or ts c 0 + w)) x 0 ≡ read_words run x (n + 1)
reads_next run ts n c w is wide long near old x h = dite (ℕ_discrete x c)
    (λ e. ap (λ (y : ℕ). get_or (set ts c (get_or ts c 0 + w)) y 0) e
    ∙ (get_or-set_same ts c (get_or ts c 0 + w) 0 (omega arith)
    ∙ (omega (arith, old c near, wide) ∙ (sym (reads-into run c n (sym is))
    ∙ ap (λ (y : ℕ). read_words run y (n + 1)) (sym e)))))
    (λ ne. get_or-set_other ts c x (get_or ts c 0 + w) 0 ne
    ∙ (old x h ∙ sym (reads-past run x n (λ t. ne (sym t ∙ sym is)))))
