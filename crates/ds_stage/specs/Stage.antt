-- The stages of a job: what each one gives, which line refuses it, what it cannot read, and what it
-- leaves on the output where it stops.
use Rattle.std.specs.Prelude.{◌≡◌, ◌⊎◌, ℕ, List, []}
use Rattle.ds_outside.specs.declared.files.Which.{Which}
use Rattle.ds_stage.specs.declared.stop.Stop.{Stop}
use Rattle.ds_stage.specs.declared.stop.Stop.TheVariants.{Refused, Unread, Unwritten, Memory}

-- a kind and a name of a file, of which something is said
abbrev pub OfFile : Type 1
OfFile = Which → List ℕ → Type 0

-- what the stage may give; the lines that refuse it; the lines that say which file, of those that
-- failed, was not read; and the texts that it leaves where it stops: where a write failed, those
-- of which a first part stands although the stage gives nothing
pub record Stage (A : Type 0) : Type 1 where
  pub means : A → Type 0
  pub refused : List ℕ → Type 0
  pub unread : OfFile → List ℕ → Type 0
  pub leaves : OfFile → Stop → List ℕ → Type 0

-- no text is left, and no write failed
abbrev pub leaves_nothing : Stop → List ℕ → Type 0
leaves_nothing (Refused line) text = text ≡ []
leaves_nothing (Unread line) text = text ≡ []
leaves_nothing Unwritten text = ⊥
leaves_nothing Memory text = text ≡ []

-- a stage that gives or refuses: it reads no file, and leaves nothing
abbrev pub judging : {A : Type 0} → (A → Type 0) → (List ℕ → Type 0) → Stage A
judging means refused = record {
  means = means;
  refused = refused;
  unread = λ _ _. ⊥;
  leaves = λ _. leaves_nothing;
}

-- a stage that only gives
abbrev pub giving : {A : Type 0} → (A → Type 0) → Stage A
giving means = judging means (λ _. ⊥)

-- a stage may stop so; a failed write and want of memory are free
abbrev pub MayStop : {A : Type 0} → Stage A → OfFile → Stop → Type 0
MayStop stage failed (Refused line) = stage.refused line
MayStop stage failed (Unread line) = stage.unread failed line
MayStop stage failed Unwritten = Unit {0}
MayStop stage failed Memory = Unit {0}

-- one stage after another: the second is met only where the first gives something
abbrev pub then_stage : {A B : Type 0} → Stage A → (A → Stage B) → Stage B
then_stage {A} first next = record {
  means = λ b. (a : A) × first.means a × (next a).means b;
  refused = λ line. first.refused line ⊎ ((a : A) × first.means a × (next a).refused line);
  unread = λ failed line. first.unread failed line
      ⊎ ((a : A) × first.means a × (next a).unread failed line);
  leaves = λ failed stop text. (MayStop first failed stop × first.leaves failed stop text)
      ⊎ ((a : A) × first.means a × (next a).leaves failed stop text);
}

-- it gives one thing at most, and where it gives one it is not refused
pub record IsExclusive {A : Type 0} (stage : Stage A) : Type 0 where
  pub one : (a b : A) → stage.means a → stage.means b → a ≡ b
  pub not_refused : (a : A) (line : List ℕ) → stage.means a → ¬ stage.refused line
