-- Keys as the code keeps them, and what they stand for.
use Rattle.std.proofs.Common.{◌≡◌, ◌+◌, Bool, false, not, cond, List, [], ◌∷◌, ◌++◌, map, refl, sym, ap, ◌∙◌, ◌||◌, if◌then◌else◌, ◌<◌, length, Ok, subst}
use Rattle.std.specs.List.{list_any, position_or_len}
use Rattle.std.proofs.lemmas.List.{map-append, length-map}
use Rattle.std.proofs.lemmas.Bool.{lt-ltb}
use Rattle.ds_astg.specs.Place.{key_eq, Places, has_place, with_place}
use Rattle.ds_astg.specs.declared.place.Place.{Place}
use Rattle.ds_astg.specs.Keys.{key_of}
use Rattle.ds_astg.specs.declared.key.Key.{Key as Kept}
use Rattle.ds_astg.specs.declared.key.Key.TheVariants.{Named as KeptNamed, Between as KeptBetween}
use Rattle.ds_astg.specs.contracts.key.KeyPartialEq.TheImpl as kept_eq

-- whether two kept keys are equal
abbrev pub same_key : Kept → Kept → Bool
same_key = (kept_eq.eq-value).it

pub same_key-is : (key other : Kept) → same_key key other ≡ key_eq (key_of key) (key_of other)
same_key-is (KeptNamed name) (KeptNamed other) = refl
same_key-is (KeptNamed name) (KeptBetween source target) = refl
same_key-is (KeptBetween source target) (KeptNamed name) = refl
same_key-is (KeptBetween source target) (KeptBetween from to) = refl

pub any_key : (key : Kept) (keys : List Kept) → list_any (same_key key) keys ≡ list_any (key_eq (key_of key)) (map key_of keys)
any_key key [] = refl
any_key key (other ∷ keys) = rw (same_key-is key other) (ap (λ b. key_eq (key_of key) (key_of other) || b) (any_key key keys))

pub place_key : (key : Kept) (keys : List Kept) → position_or_len (same_key key) keys ≡ position_or_len (key_eq (key_of key)) (map key_of keys)
place_key key [] = refl
place_key key (other ∷ keys) = rw (same_key-is key other) (ap (λ n. cond (not (key_eq (key_of key) (key_of other))) (1 + n) 0) (place_key key keys))

-- a key that is not there is kept at the end
pub new_key : (key : Kept) (keys : List Kept) → list_any (key_eq (key_of key)) (map key_of keys) ≡ false
    → map key_of (if list_any (same_key key) keys then keys else keys ++ key ∷ []) ≡ map key_of keys ++ key_of key ∷ []
new_key key keys is = rw (any_key key keys) (rw is (map-append key_of keys (key ∷ [])))

-- a place that is added
pub added : (key : Kept) (place : Place) (keys all_keys : List Kept) (places all_places : List Place) (ps : Places)
    → record { keys = map key_of keys; places = places } ≡ ps → false ≡ has_place ps (key_of key) → length keys < 1048576
    → all_keys ≡ (if list_any (same_key key) keys then keys else keys ++ key ∷ []) → all_places ≡ places ++ place ∷ []
    → with_place (key_of key) place ps ≡ Ok (record { keys = map key_of all_keys; places = all_places })
added key place keys all_keys places all_places ps view new room keys_are places_are =
    subst (λ (p : Places). with_place (key_of key) place p ≡ Ok (record { keys = map key_of all_keys; places = all_places })) view
    (let fresh : has_place (record { keys = map key_of keys; places = places }) (key_of key) ≡ false = sym (new ∙ ap (λ (p : Places). has_place p (key_of key)) (sym view)) in
    rw (keys_are, places_are, new_key key keys fresh) (rw fresh (rw (length-map keys key_of, lt-ltb (length keys) 1048576 room) refl)))
