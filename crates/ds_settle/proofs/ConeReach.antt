-- What a cone has in common with a valuation, and where it begins.
use Rattle.std.proofs.Common.{◌≡◌, ◌∙◌, ℕ, zero, suc, ◌<◌, ◌++◌, List, [], ◌∷◌, length, get_or, sym, ap, arith, inl, inr, subst}
use Rattle.std.specs.Prelude.{All, Contains}
use Rattle.std.specs.List.{flat_map}
use Rattle.std.proofs.lemmas.List.{get_or_default}
use Rattle.std.proofs.lemmas.List.Concat.{flat_map-cons}
use Rattle.std.proofs.lemmas.List.Elements.{All-contains, Contains-append_cases, Contains-append_left, Contains-append_right, Contains-get_or}
use Rattle.ds_base.proofs.ListLemmas.{cases_Contains, Any-from_map, map_agree}
use Rattle.ds_base.specs.Values.{Row}
use Rattle.ds_cover.proofs.TableValues.{value_agrees}
use Rattle.ds_cover.specs.Cover.{value_at, values_at, value_of}
use Rattle.ds_design.specs.Accepted.{IsAccepted}
use Rattle.ds_design.specs.Circuit.{Circuit, columns, data_nets, drivers, register_nets, used}
use Rattle.ds_design.specs.Levels.{table_nets}
use Rattle.ds_design.specs.Reach.{Feeds, Reaches, here, through}
use Rattle.ds_design.specs.Valuation.{IsValuation}
use Rattle.ds_design.specs.declared.design.Gate.{Gate}
use Rattle.ds_settle.specs.Cone.{IsCone, IsPartSettled, Parts, ReachesSome, net_of, nets_of_tables}
use Rattle.ds_settle.proofs.CircuitTables.{net_driven, net_is}

-- what feeds a net that reaches another reaches it too
pub reaches_before : (c : Circuit) (a b d : ℕ) → Feeds c a b → Reaches c b d → Reaches c a d
reaches_before c a b d feeds here = through here feeds
reaches_before c a b d feeds (through reaches last) = through (reaches_before c a b _ feeds reaches) last

pub reaches_some_before : (c : Circuit) (these : List ℕ) (a b : ℕ) → Feeds c a b → ReachesSome c these b → ReachesSome c these a
reaches_some_before c these a b feeds (k, net, inside, is, reaches) = (k, net, inside, is, reaches_before c a b net feeds reaches)

-- each of these reaches one
pub reaches_itself : (c : Circuit) (these : List ℕ) → All (ReachesSome c these) these
reaches_itself c these k d inside = (k, get_or these k d, inside, get_or_default these k _ d inside, here)

-- what stands in one of the lists stands in all of them together
contains_flat : {X : Type 0} (f : X → List ℕ) (xs : List X) (x : X) (y : ℕ) (k : ℕ) → k < length xs → get_or xs k x ≡ x → Contains (f x) y → Contains (flat_map f xs) y
contains_flat f [] x y k inside is has = absurd (omega arith)
contains_flat f (z ∷ xs) x y zero inside is has =
    subst (λ (ys : List ℕ). Contains ys y) (sym (flat_map-cons f z xs)) (Contains-append_left (f z) (flat_map f xs) y (subst (λ (u : _). Contains (f u) y) (sym is) has))
contains_flat f (z ∷ xs) x y (suc k) inside is has =
    subst (λ (ys : List ℕ). Contains ys y) (sym (flat_map-cons f z xs)) (Contains-append_right (f z) (flat_map f xs) y (contains_flat f xs x y k (omega arith) is has))

-- the nets of tables of a cone are driven
nets_driven : (c : Circuit) (tables : List ℕ) → All (λ k. k < length c.tables) tables → (net : ℕ) → Contains (nets_of_tables c tables) net → Contains (table_nets c) net
nets_driven c tables within net some =
    let (j, k, inside, is, e) = Any-from_map (net_of c) tables net some in
    let low : k < length c.tables = subst (λ (x : ℕ). x < length c.tables) is (within j k inside) in
    subst (λ (x : ℕ). Contains (table_nets c) x) e (net_driven c k low)

module _ (c : Circuit) (accepted : IsAccepted c) (these : List ℕ) (cone : Parts) (is_cone : IsCone c these cone) where
  module _ (state vector valuation : Row) (is_valuation : IsValuation c state vector valuation) (old new : Row) (agree : All (λ net. value_at old net ≡ value_at valuation net) cone.sources) (part : IsPartSettled c cone old new) where
    source_agrees : (net : ℕ) → ReachesSome c these net → ¬ Contains (table_nets c) net → value_at new net ≡ value_at valuation net
    source_agrees net reaches free =
        part.others net (λ some. free (nets_driven c cone.tables is_cone.order.within net some))
        ∙ All-contains (λ net. value_at old net ≡ value_at valuation net) cone.sources net agree ((is_cone.sources net).1 (reaches, free))

    agrees_below : (fuel : ℕ) (net : ℕ) → accepted.rank net < fuel → ReachesSome c these net → value_at new net ≡ value_at valuation net
    agrees_below zero net low reaches = absurd (omega arith)
    agrees_below (suc fuel) net low reaches = elim (cases_Contains (table_nets c) net) [
      | inl driven ↦
          (let (k, t, inside, is, drives) = Any-from_map (λ (t : Gate). t.output) c.tables net driven in
          let at : Contains c.tables t = (k, inside, is) in
          let net_k : net_of c k ≡ net = net_is c k t inside ∙ (ap (λ (u : Gate). u.output) is ∙ drives) in
          let in_cone : Contains cone.tables k = (is_cone.tables k inside).1 (subst (ReachesSome c these) (sym net_k) reaches) in
          let here_new : value_at new t.output ≡ value_of t.table new = subst (λ (u : Gate). value_at new u.output ≡ value_of u.table new) is (part.settled k t in_cone) in
          let here_valuation : value_at valuation t.output ≡ value_of t.table valuation = All-contains (λ t. value_at valuation t.output ≡ value_of t.table valuation) c.tables t is_valuation.table at in
          let rises : All (λ i. accepted.rank i < accepted.rank t.output) t.table.inputs = All-contains (λ t. All (λ i. accepted.rank i < accepted.rank t.output) t.table.inputs) c.tables t accepted.rises at in
          let same_rank : accepted.rank t.output ≡ accepted.rank net = ap accepted.rank drives in
          let inputs : All (λ i. value_at new i ≡ value_at valuation i) t.table.inputs =
          λ j d below. agrees_below fuel (get_or t.table.inputs j d)
          (let lower : accepted.rank (get_or t.table.inputs j d) < accepted.rank t.output = rises j d below in omega arith)
          (reaches_some_before c these (get_or t.table.inputs j d) net (k, t, inside, is, (Contains-get_or t.table.inputs j d below, drives)) reaches) in
          ap (value_at new) (sym drives) ∙ (here_new ∙ (value_agrees t.table new valuation inputs ∙ (sym here_valuation ∙ ap (value_at valuation) drives))))
      | inr free ↦ source_agrees net reaches free
    ]

    cone_agrees : (net : ℕ) → ReachesSome c these net → value_at new net ≡ value_at valuation net
    cone_agrees net reaches = agrees_below (suc (accepted.rank net)) net (omega arith) reaches

    pub cone_settles : ((net : ℕ) → ReachesSome c these net → value_at new net ≡ value_at valuation net) × (values_at new these ≡ values_at valuation these)
    cone_settles = (
      cone_agrees,
      map_agree (value_at new) (value_at valuation) these (λ k d inside. cone_agrees (get_or these k d) (reaches_itself c these k d inside)),
    )

  -- what tables read is used
  input_used : (a b : ℕ) → Feeds c a b → Contains (used c) a
  input_used a b (k, t, inside, is, (has, drives)) =
      Contains-append_left (flat_map (λ (t : Gate). t.table.inputs) c.tables ++ data_nets c) c.outputs a
      (Contains-append_left (flat_map (λ (t : Gate). t.table.inputs) c.tables) (data_nets c) a (contains_flat (λ (t : Gate). t.table.inputs) c.tables t a k inside is has))

  -- what reaches a net that is used is used
  used_before : (a b : ℕ) → Reaches c a b → Contains (used c) b → Contains (used c) a
  used_before a b here is = is
  used_before a b (through {b = between} reaches feeds) is = used_before a between reaches (input_used between b feeds)

  pub sources_known : All (Contains (used c)) these → All (Contains (columns c ++ register_nets c)) cone.sources
  sources_known all k d inside =
      let net : ℕ = get_or cone.sources k d in
      let (reaches, free) = (is_cone.sources net).0 (Contains-get_or cone.sources k d inside) in
      let (j, x, low, is, leads) = reaches in
      let driven : Contains (drivers c) net = All-contains (Contains (drivers c)) (used c) net accepted.all_driven (used_before net x leads (All-contains (Contains (used c)) these x all (j, low, is))) in
      elim (Contains-append_cases (columns c ++ table_nets c) (register_nets c) net driven) [
        | inl front ↦ elim (Contains-append_cases (columns c) (table_nets c) net front) [
          | inl column ↦ Contains-append_left (columns c) (register_nets c) net column
          | inr table ↦ absurd (free table)
        ]
        | inr register ↦ Contains-append_right (columns c) (register_nets c) net register
      ]
