-- One stage after another: how both end.
use Rattle.std.proofs.Common.{◌≡◌, ℕ, ◌+◌, ◌≤◌, ◌<◌, List, length, take, Result, Ok, Err, inl, inr, ap, ◌∙◌, subst, arith, min}
use Rattle.std.proofs.lemmas.List.{length-take, take_all}
use Rattle.ds_outside.specs.Held.{Held, untold, absent, bytes, FrontIsHeld}
use Rattle.ds_lines.specs.Line.{Line}
use Rattle.ds_stage.specs.declared.stop.Stop.{Stop}
use Rattle.ds_stage.specs.declared.stop.Stop.TheVariants.{Refused, Unread, Unwritten, Memory}
use Rattle.ds_stage.specs.Stage.{OfFile, Stage, then_stage}
use Rattle.ds_outside.specs.declared.files.Which.TheVariants.{Net, Vectors}
use Rattle.ds_design.specs.Circuit.{Circuit, columns}
use Rattle.ds_stage.specs.Stages.{OfBytes, design_stage, file_stage, lines_stage, rows_stage, text_stage, vectors_stage}
use Rattle.ds_stage.specs.Ends.{Answers, Never, Stops}

-- a first stage that stops stops both
pub stopped : {A B : Type 0} (first : Stage A) (next : A → Stage B) (failed : OfFile) (stop : Stop)
    → Stops first failed stop → Stops (then_stage first next) failed stop
stopped first next failed (Refused line) is = inl is
stopped first next failed (Unread line) is = inl is
stopped first next failed Unwritten is = is
stopped first next failed Memory is = tt

-- behind a first stage that gives something, the second one answers
pub passed : {A B : Type 0} (first : Stage A) (next : A → Stage B) (failed : OfFile) (a : A) → first.means a
    → (result : Result B Stop) → Answers (next a) failed result → Answers (then_stage first next) failed result
passed first next failed a means (Ok b) is = (a, means, is)
passed first next failed a means (Err (Refused line)) is = inr (a, means, is)
passed first next failed a means (Err (Unread line)) is = inr (a, means, is)
passed first next failed a means (Err Unwritten) is = is
passed first next failed a means (Err Memory) is = tt

-- a stage that says more
pub record IsWider {A : Type 0} (narrow wide : Stage A) (failed more : OfFile) : Type 0 where
  pub means : (a : A) → narrow.means a → wide.means a
  pub refused : (line : List ℕ) → narrow.refused line → wide.refused line
  pub unread : (line : List ℕ) → narrow.unread failed line → wide.unread more line

-- what a stage answers, one that says more answers too
pub widened : {A : Type 0} (narrow wide : Stage A) (failed more : OfFile) → IsWider narrow wide failed more
    → (result : Result A Stop) → Answers narrow failed result → Answers wide more result
widened narrow wide failed more wider (Ok a) is = wider.means a is
widened narrow wide failed more wider (Err (Refused line)) is = wider.refused line is
widened narrow wide failed more wider (Err (Unread line)) is = wider.unread line is
widened narrow wide failed more wider (Err Unwritten) is = is
widened narrow wide failed more wider (Err Memory) is = tt

-- with a first stage that says more, both say more
pub wider_first : {A B : Type 0} (narrow wide : Stage A) (next : A → Stage B) (failed more : OfFile)
    → IsWider narrow wide failed more → ((a : A) → IsWider (next a) (next a) failed more)
    → IsWider (then_stage narrow next) (then_stage wide next) failed more
wider_first narrow wide next failed more first rest = record {
  means = λ b (a, is, then). (a, first.means a is, then);
  refused = λ line either. elim either [ inl here ↦ inl (first.refused line here) | inr (a, is, then) ↦ inr (a, first.means a is, then) ];
  unread = λ line either. elim either [ inl here ↦ inl (first.unread line here) | inr (a, is, then) ↦ inr (a, first.means a is, (rest a).unread line then) ];
}

-- with a second one that says more too
pub wider_both : {A B : Type 0} (narrow wide : Stage A) (next other : A → Stage B) (failed more : OfFile)
    → IsWider narrow wide failed more → ((a : A) → IsWider (next a) (other a) failed more)
    → IsWider (then_stage narrow next) (then_stage wide other) failed more
wider_both narrow wide next other failed more first rest = record {
  means = λ b (a, is, then). (a, first.means a is, (rest a).means b then);
  refused = λ line either. elim either [ inl here ↦ inl (first.refused line here) | inr (a, is, then) ↦ inr (a, first.means a is, (rest a).refused line then) ];
  unread = λ line either. elim either [ inl here ↦ inl (first.unread line here) | inr (a, is, then) ↦ inr (a, first.means a is, (rest a).unread line then) ];
}

-- a first part of what is held, which is short enough, is all of it
front_is_all : (limit : ℕ) (front held : List ℕ) → front ≡ take (limit + 1) held → length front ≤ limit → front ≡ held
front_is_all limit front held is short =
    let long : length front ≡ min (limit + 1) (length held) = ap length is ∙ length-take (limit + 1) held in
    is ∙ take_all (limit + 1) held (omega arith)

-- where it is too long, so is what is held
front_is_long : (limit : ℕ) (front held : List ℕ) → front ≡ take (limit + 1) held → limit < length front → limit < length held
front_is_long limit front held is long =
    let e : length front ≡ min (limit + 1) (length held) = ap length is ∙ length-take (limit + 1) held in
    omega arith

-- what a text says that was read, the bytes that are held say
pub read_means : (held : Held) (name front : List ℕ) → FrontIsHeld held 16777217 front → (lines : List Line)
    → (text_stage name front).means lines → OfBytes held (λ text. (text_stage name text).means lines)
read_means untold name front is lines means = tt
read_means absent name front is lines means = absurd is
read_means (bytes held) name front is lines (short, are) =
    subst (λ (text : List ℕ). (text_stage name text).means lines) (front_is_all 16777216 front held is short) (short, are)

-- a text that is too long is held
pub read_refused : (held : Held) (name front : List ℕ) → FrontIsHeld held 16777217 front → (line : List ℕ)
    → (text_stage name front).refused line → OfBytes held (λ text. (text_stage name text).refused line)
read_refused untold name front is line refused = tt
read_refused absent name front is line refused = absurd is
read_refused (bytes held) name front is line (long, spelt) = (front_is_long 16777216 front held is long, spelt)

-- the design of a text that was read is that of the file
pub file_wider : (held : List ℕ → Held) (net text : List ℕ) (more : OfFile) → FrontIsHeld (held net) 16777217 text
    → IsWider (then_stage (text_stage net text) (design_stage net)) (file_stage held net) Never more
file_wider held net text more front =
    wider_first (text_stage net text) (lines_stage held Net net) (design_stage net) Never more
    (record { means = read_means (held net) net text front; refused = read_refused (held net) net text front; unread = λ line none. absurd none })
    (λ lines. record {
      means = λ a is. is;
      refused = λ line is. is;
      unread = λ line either. elim either [ inl none ↦ absurd none | inr (a, is, none) ↦ absurd none ];
    })

-- the vectors of a text that was read are those of the file
pub rows_wider : (held : List ℕ → Held) (vec text : List ℕ) (c : Circuit) (more : OfFile) → FrontIsHeld (held vec) 16777217 text
    → IsWider (then_stage (text_stage vec text) (rows_stage vec (length (columns c)))) (vectors_stage held vec c) Never more
rows_wider held vec text c more front =
    wider_first (text_stage vec text) (lines_stage held Vectors vec) (rows_stage vec (length (columns c))) Never more
    (record { means = read_means (held vec) vec text front; refused = read_refused (held vec) vec text front; unread = λ line none. absurd none })
    (λ lines. record { means = λ a is. is; refused = λ line is. is; unread = λ line none. absurd none })
