-- What `clusters` prints gives the same clusters again, and without a file of groups there are those of the mode.
use Rattle.std.proofs.Common.{◌≡◌, ◌∙◌, ◌⊎◌, ℕ, ◌<◌, ◌≤◌, List, [], get_or, length, map, None, Some, Ok, inl, inr, refl, sym, ap, subst, arith}
use Rattle.std.proofs.lemmas.Bool.{cases_lt}
use Rattle.std.proofs.lemmas.List.{get_or_past}
use Rattle.std.specs.Prelude.{Contains, AllPairs}
use Rattle.std.specs.List.{AllByRecursion}
use Rattle.std.proofs.lemmas.List.Elements.{All-contains, Contains-get_or, recursion_from_All}
use Rattle.ds_base.specs.declared.number.Mode.{Mode}
use Rattle.ds_outside.specs.Held.{Held, bytes}
use Rattle.ds_design.specs.Circuit.{Circuit}
use Rattle.ds_design.specs.Groups.{AreDisjoint, group_at}
use Rattle.ds_lines.specs.Line.{lines_of}
use Rattle.ds_lines.specs.Print.{IsPlain, IsWord}
use Rattle.ds_latch.specs.Node.{Split}
use Rattle.ds_groups.specs.Laws.{AreAll}
use Rattle.ds_groups.specs.Names.{register_names}
use Rattle.ds_groups.specs.Read.{groups_of, register_name}
use Rattle.ds_groups.proofs.Disjoint.{names_size}
use Rattle.ds_groups.proofs.ReadAgain.{clusters_are_read}
use Rattle.ds_split.specs.Grouped.{IsGroupedClustering}
use Rattle.ds_split.specs.Split.{HasTooManyOrders, split_into}
use Rattle.ds_split.proofs.Keyed.{bare}
use Rattle.ds_split.proofs.Loops.{in_group}
use Rattle.ds_split.proofs.Sources.{flat_apart}
use Rattle.ds_base.specs.Limit.{most_of}
use Rattle.ds_base.specs.declared.number.Limit.TheVariants.{Bytes}
use Rattle.ds_stage.specs.Stages.{OfBytes, text_stage}
use Rattle.ds_stage.specs.SplitStage.{IsInClusters, split_stage}
use Rattle.ds_cmd.specs.declared.list_clusters.ClustersJob.{ClustersJob}
use Rattle.ds_stage.specs.ClustersStage.{clustered_stage}
use Rattle.ds_app.proofs.Listing.{name_is}
use Rattle.ds_laws.proofs.PlainNames.{names_are_words}
use Rattle.ds_laws.proofs.Uncut.{line_is_plain}
use Rattle.ds_laws.specs.Grouping.{HasListed, IsModeLine, PrintedClustersAreGroups, WithoutFileOfGroups}

-- without groups the clusters of a split are those of the mode
no_groups_split : (mode : Mode) (c : Circuit) (s : Split) (gs : List (List ℕ)) → gs ≡ [] → (is : IsInClusters mode gs c s) → IsGroupedClustering c mode [] is.clusters
no_groups_split mode c s gs none is = subst (λ (g : List (List ℕ)). IsGroupedClustering c mode g is.clusters) none is.are

pub without_groups_split : WithoutFileOfGroups
without_groups_split held net mode c = record {
  means = λ s. (
    λ (gs, none, (is, fits)). record {
      clusters = is.clusters;
      are = (bare c mode is.clusters).0 (no_groups_split mode c s gs none is);
      few = is.few;
      is = is.is;
      fits = fits;
    },
    λ by. ([], refl, (record { clusters = by.clusters; are = (bare c mode by.clusters).1 by.are; few = by.few; is = by.is }, by.fits)),
  );
  refused = λ line. (to line, from line);
} where
  to : (line : List ℕ) → (split_stage held net None mode c).refused line → IsModeLine net mode c line
  to line (inl none) = absurd none
  to line (inr (gs, none, inl ((clusters, are, many), spelt))) =
      inl ((clusters, (bare c mode clusters).0 (subst (λ (g : List (List ℕ)). IsGroupedClustering c mode g clusters) none are), many), spelt)
  to line (inr (gs, none, inr (s, is, many, spelt))) =
      inr (
        record {
          clusters = is.clusters;
          are = (bare c mode is.clusters).0 (no_groups_split mode c s gs none is);
          few = is.few;
          many = subst HasTooManyOrders is.is many;
        },
        spelt,
      )

  from : (line : List ℕ) → IsModeLine net mode c line → (split_stage held net None mode c).refused line
  from line (inl ((clusters, are, many), spelt)) = inr ([], refl, inl ((clusters, (bare c mode clusters).1 are, many), spelt))
  from line (inr (asks, spelt)) =
      inr (
        [],
        refl,
        inr (
          split_into c asks.clusters,
          record { clusters = asks.clusters; are = (bare c mode asks.clusters).1 asks.are; few = asks.few; is = refl },
          asks.many,
          spelt,
        ),
      )

module _ (c : Circuit) (mode : Mode) (gs clusters : List (List ℕ)) (are : IsGroupedClustering c mode gs clusters) where
  low : (i r : ℕ) → Contains (group_at clusters i) r → i < length clusters
  low i r is = in_group clusters i r is

  clusters_disjoint : AreDisjoint (length c.registers) clusters
  clusters_disjoint = record {
    within = λ i r is. All-contains (λ q. q < length c.registers) (group_at clusters i) r (are.each_once.within i [] (low i r is)) is;
    some = λ i inside. are.some i [] inside;
    rising = λ i. rises i (cases_lt i (length clusters));
    once = λ i j r is also. flat_apart clusters are.each_once.once i j r is also;
  } where
    rises : (i : ℕ) → (i < length clusters) ⊎ (length clusters ≤ i) → AllPairs (λ a b. a < b) (group_at clusters i)
    rises i (inl inside) = are.rising i [] inside
    rises i (inr past) =
        subst (λ (g : List ℕ). AllPairs (λ a b. a < b) g) (sym (get_or_past clusters i [] past))
        (λ a b d below inside. absurd (let none : b < 0 = inside in omega arith))

  -- the clusters are their own groups, by each mode
  own_groups : (other : Mode) → IsGroupedClustering c other clusters clusters
  own_groups other = record {
    each_once = are.each_once;
    together = λ a b within also. (
      λ belong. elim belong [ inl both ↦ both | inr (apart, also_apart, agree) ↦ absurd (apart (are.each_once.covered a within)) ],
      λ both. inl both,
    );
    some = are.some;
    rising = are.rising;
    by_first = are.by_first;
  }

-- the lines of a text that is held
told_lines : (h : Held) (file text : List ℕ) → h ≡ bytes text → length text ≤ most_of Bytes → OfBytes h (λ t. (text_stage file t).means (lines_of text))
told_lines h file text is short = subst (λ (g : Held). OfBytes g (λ t. (text_stage file t).means (lines_of text))) (sym is) (short, refl)

-- the names of each cluster are a line
lines_plain : (held : List ℕ → Held) (job : ClustersJob) (printed : List ℕ) (listed : HasListed held job printed)
    → AllByRecursion (λ registers. IsPlain (map (register_name (register_names listed.circuit)) registers)) listed.clusters
lines_plain held job printed listed =
    let (gs, are_groups, (are, few)) = listed.are in
    let c : Circuit = listed.circuit in
    let name : ℕ → List ℕ = register_name (register_names listed.circuit) in
    let word : (r : ℕ) → r < length c.registers → IsWord (register_name (register_names c) r) =
    (λ r low. subst IsWord (name_is c r low) (names_are_words held job.net c listed.told listed.netlist r low)) in
    recursion_from_All (λ registers. IsPlain (map name registers)) listed.clusters
    (λ k d inside. line_is_plain name (length c.registers) word (get_or listed.clusters k d) (are.some k d inside) (are.each_once.within k d inside)
    (λ front last is. listed.ends front last (subst (λ (registers : List ℕ). Contains listed.clusters registers) is (Contains-get_or listed.clusters k d inside))))

-- what was printed is read as groups that are the clusters
pub printed_are_groups : PrintedClustersAreGroups
printed_are_groups held job printed file listed is_file short mode =
    let (gs, are_groups, (are, few)) = listed.are in
    let c : Circuit = listed.circuit in
    let names : length (register_names c) ≡ length c.registers = names_size c in
    let all : AreAll (length (register_names c)) listed.clusters = subst (λ (n : ℕ). AreAll n listed.clusters) (sym names)
    (record { disjoint = clusters_disjoint c job.clusters gs listed.clusters are; covered = are.each_once.covered }) in
    let read : groups_of (register_names c) (lines_of printed) ≡ Ok listed.clusters =
    ap (λ (t : List ℕ). groups_of (register_names c) (lines_of t)) listed.text
    ∙ clusters_are_read (register_names c) listed.clusters listed.apart all few (lines_plain held job printed listed) in
    let again : (clustered_stage held job.net (Some file) mode listed.circuit).means listed.clusters =
    (listed.clusters, (lines_of printed, told_lines (held file) file printed is_file short, rw read refl), (own_groups c job.clusters gs listed.clusters are mode, few)) in
    (again, (c, listed.netlist, (listed.clusters, again, listed.text)))
