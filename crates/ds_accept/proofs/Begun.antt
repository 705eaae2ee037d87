-- The masks before the first sweep, one source more.
use Rattle.std.proofs.Common.{◌≡◌, ◌≢◌, ◌∙◌, ◌<◌, ◌+◌, ◌*◌, ◌^◌, ◌%◌, ℕ, List, length, get_or, inl, inr, arith, subst, sym, ap, get_or-set_same, get_or-set_other, bit_or, w64}
use Rattle.std.proofs.Math.ListN.{set}
use Rattle.std.specs.Int.{bit_at}
use Rattle.std.proofs.lemmas.Bool.{cases_eq}
use Rattle.std.proofs.lemmas.Nat.Bits.{bit_at_set_same, bit_at_set_other}
use Rattle.ds_accept.specs.Masks.{AreBegun}

module _ (sources : List ℕ) (k : ℕ) (masks : List ℕ) (source : ℕ) (near : k < 64) (inside : source < length masks) (is : get_or sources k 0 ≡ source) (begun : AreBegun sources k masks) where
  abbrev word : ℕ
  word = bit_or (get_or masks source 0) (1 * 2 ^ k % 2 ^ 64)

  here_same : bit_at word k ≡ 1
  here_same = bit_at_set_same w64 (get_or masks source 0) k near

  here_other : (b : ℕ) → b ≢ k → bit_at word b ≡ bit_at (get_or masks source 0) b
  here_other b ne = bit_at_set_other w64 (get_or masks source 0) k near b ne

  forth : (v b : ℕ) → bit_at (get_or (set masks source word) v 0) b ≡ 1 → (b < k + 1) × (get_or sources b 0 ≡ v)
  forth v b h = elim (cases_eq v source) [
    | inl e ↦ (let there : bit_at word b ≡ 1 = ap (λ (x : ℕ). bit_at x b) (sym (get_or-set_same masks source word 0 inside)) ∙ (ap (λ (i : ℕ). bit_at (get_or (set masks source word) i 0) b) (sym e) ∙ h) in
        elim (cases_eq b k) [
          | inl same ↦ (omega arith, ap (λ (i : ℕ). get_or sources i 0) same ∙ (is ∙ sym e))
          | inr other ↦ (let old = (begun source b).0 (sym (here_other b other) ∙ there) in (omega (arith, old.0), old.1 ∙ sym e))
        ])
    | inr ne ↦ (let old = (begun v b).0 (ap (λ (x : ℕ). bit_at x b) (sym (get_or-set_other masks source v word 0 ne)) ∙ h) in (omega (arith, old.0), old.1))
  ]

  back : (v b : ℕ) → (b < k + 1) × (get_or sources b 0 ≡ v) → bit_at (get_or (set masks source word) v 0) b ≡ 1
  back v b (low, at) = elim (cases_eq v source) [
    | inl e ↦ ap (λ (i : ℕ). bit_at (get_or (set masks source word) i 0) b) e ∙ (ap (λ (x : ℕ). bit_at x b) (get_or-set_same masks source word 0 inside) ∙
        elim (cases_eq b k) [
          | inl same ↦ ap (λ (i : ℕ). bit_at word i) same ∙ here_same
          | inr other ↦ here_other b other ∙ (begun source b).1 (omega arith, at ∙ e)
        ])
    | inr ne ↦ ap (λ (x : ℕ). bit_at x b) (get_or-set_other masks source v word 0 ne) ∙ (begun v b).1 (
        elim (cases_eq b k) [
          | inl same ↦ absurd (ne (sym at ∙ (ap (λ (i : ℕ). get_or sources i 0) same ∙ is)))
          | inr other ↦ (omega arith, at)
        ])
  ]

  pub begun_more : AreBegun sources (k + 1) (set masks source word)
  begun_more v b = (forth v b, back v b)

-- the same, where the word that was there is given by an equation
pub begun_more_at : (sources : List ℕ) (k : ℕ) (masks : List ℕ) (source w : ℕ) → k < 64 → source < length masks → get_or sources k 0 ≡ source → AreBegun sources k masks
    → w ≡ get_or masks source 0 → AreBegun sources (k + 1) (set masks source (bit_or w (1 * 2 ^ k % 2 ^ 64)))
begun_more_at sources k masks source w near inside is begun e =
    subst (λ (w : ℕ). AreBegun sources (k + 1) (set masks source (bit_or w (1 * 2 ^ k % 2 ^ 64)))) (sym e) (begun_more sources k masks source near inside is begun)
