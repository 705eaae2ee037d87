-- Signals that are declared.
use Rattle.std.proofs.Common.{◌≡◌, ◌≢◌, ℕ, ◌<◌, ◌≤◌, true, false, List, [], ◌∷◌, ◌++◌, length, get_or, refl, sym, ◌∙◌, ap, arith, inl, inr, Ok, AllPairs}
use Rattle.std.specs.Str.{bytes_eq}
use Rattle.std.proofs.lemmas.Bool.{cases_Bool, lt-ltb, false≢true, cases_lt}
use Rattle.std.proofs.lemmas.Slice.Eq.{bytes_eq-Decides}
use Rattle.std.proofs.lemmas.List.{get_or_append_left, length-append}
use Rattle.std.proofs.Math.Seq.{get_or-append_seam}
use Rattle.std.proofs.lemmas.List.Folds.{list_any_at}
use Rattle.ds_lines.specs.Names.{has_name, with_name}
use Rattle.ds_astg.specs.Signals.{Declared, with_declared}
use Rattle.ds_astg.specs.Place.{Places}
use Rattle.ds_astg.specs.Line.{declare, may_declare}
use Rattle.ds_astg.specs.declared.role.Role.{Role}

module _ (role : Role) (ps : Places) (word : List ℕ) (signals : Declared) where
  pub declare-new : may_declare role ps word signals ≡ true → has_name signals.names word ≡ false → length signals.names < 65536
      → declare role ps word signals ≡ Ok (with_declared role word signals)
  declare-new is has room = rw is (rw has (rw (lt-ltb (length signals.names) 65536 room) refl))

module _ (word : List ℕ) (signals : List (List ℕ)) where
  -- signals stay distinct
  pub distinct : AllPairs (λ a b. a ≢ b) signals → AllPairs (λ a b. a ≢ b) (with_name signals word)
  distinct all = elim (cases_Bool (has_name signals word)) [
    | inl has ↦ rw has all
    | inr new ↦ rw new (apart new)
  ]
    where
      there : (i j : ℕ) (d : List ℕ) → i < j → length signals ≤ j → j ≤ length signals → get_or (signals ++ word ∷ []) i d ≡ get_or (signals ++ word ∷ []) j d → has_name signals word ≡ true
      there i j d order high low e =
          let last : j ≡ length signals = omega arith in
          let at_j : get_or (signals ++ word ∷ []) j d ≡ word = ap (λ (k : ℕ). get_or (signals ++ word ∷ []) k d) last ∙ get_or-append_seam signals word [] d in
          let at_i : get_or signals i d ≡ word = sym (get_or_append_left signals (word ∷ []) d i (omega arith)) ∙ (e ∙ at_j) in
          list_any_at (bytes_eq word) signals i d (omega arith) ((bytes_eq-Decides word (get_or signals i d)).1 (sym at_i))

      apart : has_name signals word ≡ false → AllPairs (λ a b. a ≢ b) (signals ++ word ∷ [])
      apart new i j d order inside = elim (cases_lt j (length signals)) [
        | inl low ↦ rw (get_or_append_left signals (word ∷ []) d i (omega (arith, low, order)), get_or_append_left signals (word ∷ []) d j low) (all i j d order low)
        | inr high ↦ λ e. false≢true (sym new ∙ there i j d order high (omega (arith, length-append signals (word ∷ []), inside)) e)
      ]

-- one signal more at most
pub length-new : (word : List ℕ) (signals : List (List ℕ)) → length signals < 65536 → length (with_name signals word) ≤ 65536
length-new word signals room = elim (cases_Bool (has_name signals word)) [
  | inl has ↦ rw has (omega arith)
  | inr new ↦ rw (new, length-append signals (word ∷ [])) (omega arith)
]
