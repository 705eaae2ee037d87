-- The text that shows clusters, line by line and name by name.
use Rattle.std.proofs.Common.{◌≡◌, ◌∙◌, ℕ, zero, suc, ◌+◌, ◌<◌, List, [], ◌∷◌, ◌++◌, length, map, take, get_or, refl, ap, sym, arith, subst}
use Rattle.std.proofs.lemmas.List.{append_assoc, append-nil, get_or-map, get_or_default, length-map, map-append, take_more, length-take-le}
use Rattle.std.specs.Prelude.{◌≤◌, codes, slice_index_or}
use Rattle.ds_design.specs.Circuit.{Circuit, register_nets}
use Rattle.ds_design.specs.declared.design.Register.{Register}
use Rattle.ds_lines.specs.Print.{line_text}
use Rattle.ds_rows.specs.Nets.{net_text, register_of}
use Rattle.ds_groups.specs.Names.{driven_nets, net_at, register_names}
use Rattle.ds_groups.specs.Read.{register_name}
use Rattle.ds_groups.specs.Written.{cluster_line, cluster_lines}
use Rattle.ds_app.specs.Listed.{blank_before}

-- what stands before the first name, and before each other one
pub blank_first : (k : ℕ) → k ≤ 0 → [] ≡ blank_before k
blank_first zero low = refl
blank_first (suc k) low = absurd (omega (low, arith))

pub blank_further : (k : ℕ) → 0 < k → codes " " ≡ blank_before k
blank_further zero some = absurd (omega (some, arith))
blank_further (suc k) some = refl

-- the registers of a cluster, as they are lent
pub lent_cluster : (members clusters : List (List ℕ)) (i : ℕ) (item list : List ℕ) → list ≡ item → item ≡ get_or members i item → members ≡ clusters
    → i < length clusters → list ≡ get_or clusters i []
lent_cluster members clusters i item list list_is item_is same low =
    list_is ∙ (item_is ∙ (ap (λ (cs : List (List ℕ)). get_or cs i item) same ∙ get_or_default clusters i item [] low))

-- one more word
word_more : (words : List (List ℕ)) (word : List ℕ) → line_text (words ++ word ∷ []) ≡ (line_text words ++ blank_before (length words)) ++ word
word_more [] word = refl
word_more (a ∷ []) word = sym (append_assoc a (32 ∷ []) word)
word_more (a ∷ b ∷ words) word =
    ap (λ (t : List ℕ). a ++ 32 ∷ t) (word_more (b ∷ words) word)
    ∙ (sym (append_assoc a (32 ∷ (line_text (b ∷ words) ++ blank_before (length (b ∷ words)))) word)
    ∙ ap (λ (t : List ℕ). t ++ word) (sym (append_assoc a (32 ∷ line_text (b ∷ words)) (32 ∷ []))))

-- one more name
pub name_more : (name : ℕ → List ℕ) (registers : List ℕ) (k : ℕ) → k < length registers
    → line_text (map name (take (k + 1) registers)) ≡ (line_text (map name (take k registers)) ++ blank_before k) ++ name (get_or registers k 0)
name_more name registers k low =
    ap (λ (rs : List ℕ). line_text (map name rs)) (take_more registers k 0 low)
    ∙ (ap line_text (map-append name (take k registers) (get_or registers k 0 ∷ []))
    ∙ (word_more (map name (take k registers)) (name (get_or registers k 0))
    ∙ ap (λ (n : ℕ). (line_text (map name (take k registers)) ++ blank_before n) ++ name (get_or registers k 0))
    (length-map (take k registers) name ∙ length-take-le k registers (omega (low, arith)))))

-- one more line, behind lines from a number on
line_behind : (names : List (List ℕ)) (n : ℕ) (clusters : List (List ℕ)) (registers : List ℕ)
    → cluster_lines names n (clusters ++ registers ∷ []) ≡ cluster_lines names n clusters ++ cluster_line names (n + length clusters) registers
line_behind names n [] registers =
    append-nil (cluster_line names n registers) ∙ ap (λ (k : ℕ). cluster_line names k registers) (let e : n ≡ n + 0 = omega arith in e)
line_behind names n (one ∷ clusters) registers =
    ap (λ (t : List ℕ). cluster_line names n one ++ t) (line_behind names (n + 1) clusters registers)
    ∙ (sym (append_assoc (cluster_line names n one) (cluster_lines names (n + 1) clusters) (cluster_line names (n + 1 + length clusters) registers))
    ∙ ap (λ (k : ℕ). (cluster_line names n one ++ cluster_lines names (n + 1) clusters) ++ cluster_line names k registers)
    (let e : n + 1 + length clusters ≡ n + suc (length clusters) = omega arith in e))

pub line_more : (names : List (List ℕ)) (clusters : List (List ℕ)) (i : ℕ) → i < length clusters
    → cluster_lines names 0 (take (i + 1) clusters) ≡ cluster_lines names 0 (take i clusters) ++ cluster_line names i (get_or clusters i [])
line_more names clusters i low =
    ap (cluster_lines names 0) (take_more clusters i [] low)
    ∙ (line_behind names 0 (take i clusters) (get_or clusters i [])
    ∙ ap (λ (k : ℕ). cluster_lines names 0 (take i clusters) ++ cluster_line names k (get_or clusters i []))
    (let at : 0 + length (take i clusters) ≡ i = omega (arith, length-take-le i clusters (omega (low, arith))) in at))

-- the name of a register is that of the net which it drives
pub name_is : (c : Circuit) (r : ℕ) → r < length c.registers → register_of c r ≡ register_name (register_names c) r
name_is c r low =
    let nets : length (register_nets c) ≡ length c.registers = length-map c.registers (λ (g : Register). g.output) in
    let driven : length (driven_nets c) ≡ length (register_nets c) = length-map (register_nets c) (net_at c) in
    sym (get_or-map net_text (driven_nets c) r (net_at c 0) [] (omega (low, nets, driven, arith))
    ∙ ap net_text (get_or-map (net_at c) (register_nets c) r 0 (net_at c 0) (omega (low, nets, arith))))
