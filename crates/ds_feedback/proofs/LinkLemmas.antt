-- The links of a circuit stay within its nets.
use Rattle.std.proofs.Common.{◌≡◌, ◌∙◌, ℕ, ◌+◌, ◌<◌, List, [], ◌∷◌, ◌++◌, length, get_or, map, take}
use Rattle.std.proofs.Common.{ap, sym}
use Rattle.std.specs.Prelude.{All}
use Rattle.std.proofs.lemmas.List.{append_assoc, map-append, take_more}
use Rattle.std.proofs.lemmas.List.Elements.{All-append, All-cons, All-map, All-nil}
use Rattle.ds_design.specs.Circuit.{Circuit}
use Rattle.ds_design.specs.InRange.{IsInRange}
use Rattle.ds_design.specs.declared.design.Gate.{Gate}
use Rattle.ds_feedback.specs.Links.{link_of_register, link_of_table, links}

-- what a link reads and drives is below a number
abbrev pub IsLinkWithin : ℕ → Gate → Type 0
IsLinkWithin n t = All (λ net. net < n) t.table.inputs × (t.output < n)

pub links_within : (c : Circuit) → IsInRange c → All (IsLinkWithin (length c.nets)) (links c)
links_within c range =
    let n : ℕ = length c.nets in
    let tables : All (IsLinkWithin n) (map link_of_table c.tables) =
    All-map (IsLinkWithin n) link_of_table c.tables range.tables in
    let registers : All (IsLinkWithin n) (map link_of_register c.registers) =
    All-map (IsLinkWithin n) link_of_register c.registers
    (λ k d inside. let r = range.registers k d inside in
    (All-cons (λ net. net < n) (get_or c.registers k d).data_net [] r.0 (All-nil (λ net. net < n)), r.1)) in
    All-append (IsLinkWithin n) (map link_of_table c.tables) (map link_of_register c.registers) tables registers

-- one item more, behind those before
pub mapped_more : {X Y : Type 0} (f : X → Y) (front : List Y) (xs : List X) (i : ℕ) (x : X) (old more : List Y)
    → i < length xs → x ≡ get_or xs i x → old ≡ front ++ map f (take i xs) → more ≡ old ++ f x ∷ []
    → more ≡ front ++ map f (take (i + 1) xs)
mapped_more f front xs i x old more less is so_far more_is =
    let next : take (i + 1) xs ≡ take i xs ++ x ∷ [] = take_more xs i x less ∙ ap (λ y. take i xs ++ y ∷ []) (sym is) in
    more_is ∙ (ap (λ ns. ns ++ f x ∷ []) so_far
    ∙ (append_assoc front (map f (take i xs)) (f x ∷ [])
    ∙ ap (λ ns. front ++ ns) (sym (ap (map f) next ∙ map-append f (take i xs) (x ∷ [])))))
