-- Keys of nets, and the nets that they stand for.
use Rattle.std.proofs.Common.{◌≡◌, ℕ, ◌+◌, Bool, true, false, not, cond, List, [], ◌∷◌, ◌++◌, map, refl, sym, ap}
use Rattle.std.proofs.Common.{◌∙◌, ◌||◌, if◌then◌else◌}
use Rattle.std.specs.List.{list_any, position_or_len}
use Rattle.std.proofs.lemmas.List.{map-append}
use Rattle.ds_design.specs.declared.design.Net.{Net}
use Rattle.ds_flat.specs.declared.nets.NetKey.{NetKey}
use Rattle.ds_flat.specs.contracts.nets.NetKeyPartialEq.TheImpl as key_eq
use Rattle.ds_flat.specs.Net.{has_net, number_of_net, with_net}
use Rattle.ds_flat.specs.Keys.{net_key}

-- whether keys are equal
abbrev pub same_key : NetKey → NetKey → Bool
same_key = (key_eq.eq-value).it

-- the nets of keys
abbrev pub nets_of : List NetKey → List Net
nets_of keys = map net_key keys

pub any_key : (key : NetKey) (keys : List NetKey) → list_any (same_key key) keys
    ≡ has_net (nets_of keys) (net_key key)
any_key key [] = refl
any_key key (other ∷ keys) = ap (λ b. same_key key other || b) (any_key key keys)

pub place_key : (key : NetKey) (keys : List NetKey) → position_or_len (same_key key) keys
    ≡ number_of_net (nets_of keys) (net_key key)
place_key key [] = refl
place_key key (other ∷ keys) = ap (λ n. cond (not (same_key key other)) (1 + n) 0)
    (place_key key keys)

module _ (key : NetKey) (keys : List NetKey) (nets : List Net) (view : nets_of keys ≡ nets) where
  pub key_has : (b : Bool) → b ≡ list_any (same_key key) keys → has_net nets (net_key key) ≡ b
  key_has b is = ap (λ (ns : List Net). has_net ns (net_key key)) (sym view)
      ∙ (sym (any_key key keys) ∙ sym is)

  pub key_number : (place : ℕ) → place ≡ position_or_len (same_key key) keys
      → place ≡ number_of_net nets (net_key key)
  key_number place is = is ∙ (place_key key keys
      ∙ ap (λ (ns : List Net). number_of_net ns (net_key key)) view)

  pub key_there : true ≡ list_any (same_key key) keys → nets ≡ with_net nets (net_key key)
  key_there is = rw (key_has true is) refl

  pub key_added : has_net nets (net_key key) ≡ false → (all : List NetKey)
      → all ≡ (if list_any (same_key key) keys then keys else keys ++ key ∷ [])
      → nets_of all ≡ with_net nets (net_key key)
  key_added new all is =
      let fresh : list_any (same_key key) keys ≡ false = any_key key keys ∙ (ap (λ (ns : List
      Net). has_net ns (net_key key)) view ∙ new) in
      let longer : all ≡ keys ++ key ∷ [] = is ∙ rw fresh refl in
      ap nets_of longer ∙ (map-append net_key keys (key ∷ []) ∙ (ap (λ (ns : List Net). ns
      ++ net_key key ∷ []) view ∙ rw new refl))
