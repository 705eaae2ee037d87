use Rattle.std.proofs.Common.{◌≡◌, ◌∙◌, ℕ, Bool, List, ap, false, replicate, subst, sym, rules}
use Rattle.std.proofs.lemmas.List.{length-replicate}
use Rattle.ds_base.specs.Values.{Row}
use Rattle.ds_base.specs.declared.value.Value.TheVariants.{Zero}
use Rattle.ds_base.specs.Scratch.{Kept, Remembers}
use Rattle.ds_base.specs.Turns.{noted_turns}
use Rattle.ds_base.proofs.TurnBytes.{kept, no_memory, no_turns}
use Rattle.ds_base.proofs.scratch.Scratch.of.Goals as goal

-- nothing is noted yet
abbrev fresh : ℕ → ℕ → Kept
fresh n slots = record {
  nets = replicate n Zero;
  turns = replicate slots 0;
  stayed = replicate slots false;
}

-- a row of zeros beside bytes of zeros
blank : (nets : Row) (bytes : List ℕ) (flags : List Bool) (n slots : ℕ) → nets ≡ replicate n Zero
    → bytes ≡ replicate slots 0 → flags ≡ replicate slots false
    → kept nets 0 bytes flags ≡ fresh n slots
blank nets bytes flags n slots nets_are bytes_are flags_are =
    ap (λ (r : Row). kept r 0 bytes flags) nets_are
    ∙ (ap (kept (replicate n Zero) 0 bytes) flags_are
    ∙ ap (with_turns (replicate n Zero)) (ap (noted_turns 0) bytes_are ∙ no_turns 0 slots))
  where
    with_turns : Row → List ℕ → Kept
    with_turns r turns = record { nets = r; turns = turns; stayed = replicate slots false }

bytes_are : (c : goal.In_ok-vec-2) → c.in_ok-vec.field-0.items ≡ replicate c.args.slots 0
bytes_are c = search rules

flags_are : (c : goal.In_ok-vec-2) → c.in_ok-vec-2.field-0.items ≡ replicate c.args.slots false
flags_are c = search rules

nets_are : (c : goal.In_ok-vec-2) → c.in_ok-with_len.field-0 ≡ replicate c.args.nets Zero
nets_are c = search rules

pub returns-clause-ok : goal.returns-clause-ok
returns-clause-ok c =
    blank c.in_ok-with_len.field-0 c.in_ok-vec.field-0.items c.in_ok-vec-2.field-0.items c.args.nets c.args.slots
    (nets_are c) (bytes_are c) (flags_are c)

pub returns-clause-remembers : goal.returns-clause-remembers
returns-clause-remembers c m nets slots =
    subst (Remembers m) (sym (blank c.in_ok-with_len.field-0 c.in_ok-vec.field-0.items c.in_ok-vec-2.field-0.items c.args.nets c.args.slots
    (nets_are c) (bytes_are c) (flags_are c)))
    (no_memory (replicate c.args.nets Zero) c.args.slots m (length-replicate c.args.nets Zero ∙ sym nets) slots)
