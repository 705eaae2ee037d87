-- A key for each bus.
use Rattle.std.proofs.Common.{◌≡◌, ◌≢◌, inl, inr, ℕ, ◌+◌, ◌<◌, ◌≤◌, List, [], ◌∷◌, ◌++◌, length, get_or, refl, sym, ◌∙◌, ap, subst, replicate, arith, length-append}
use Rattle.std.specs.Prelude.{⊤}
use Rattle.std.proofs.lemmas.Bool.{cases_lt}
use Rattle.std.proofs.lemmas.List.{length-replicate}
use Rattle.std.proofs.lemmas.List.Elements.{All-from_get_or}
use Rattle.ds_base.proofs.AppendedPairs.{get_or-left, get_or-right}
use Rattle.ds_base.specs.declared.number.Mode.TheVariants.{Bus as ByBus}
use Rattle.ds_design.specs.Circuit.{Circuit}
use Rattle.ds_design.specs.declared.design.Net.{Net}
use Rattle.ds_split.specs.Cluster.{Agree, bus_of, no_net}
use Rattle.ds_split.specs.Keyed.{AreKeys}
use Rattle.ds_split.specs.Keys.{IsPlaced}
use Rattle.ds_split.proofs.Marks.{zeros-at}

-- the keys of the first registers are the places of their buses, and no bus stands twice
pub record HaveBuses (c : Circuit) (count : ℕ) (keys : List ℕ) (buses : List Net) : Type 0 where
  pub one_each : length keys ≡ count
  pub few : length buses ≤ count
  pub low : (r : ℕ) → r < count → get_or keys r 0 < length buses
  pub at : (r : ℕ) → r < count → get_or buses (get_or keys r 0) no_net ≡ bus_of c r
  pub once : (j k : ℕ) → j < length buses → k < length buses → get_or buses j no_net ≡ get_or buses k no_net → j ≡ k

pub no_buses : (c : Circuit) → HaveBuses c 0 [] []
no_buses c = record {
  one_each = refl;
  few = omega arith;
  low = λ r below. absurd (omega arith);
  at = λ r below. absurd (omega arith);
  once = λ j k below also e. absurd (omega arith);
}

-- the bus of one register more
module _ (c : Circuit) (r : ℕ) (keys : List ℕ) (buses : List Net) (place : ℕ) (have : HaveBuses c r keys buses) where
  size : length (keys ++ place ∷ []) ≡ r + 1
  size = let n : length (keys ++ place ∷ []) ≡ length keys + 1 = length-append keys (place ∷ []) in
      let m : length keys ≡ r = have.one_each in omega arith

  old_key : (x : ℕ) → x < r → get_or (keys ++ place ∷ []) x 0 ≡ get_or keys x 0
  old_key x below = get_or-left keys (place ∷ []) x 0 (let m : length keys ≡ r = have.one_each in omega arith)

  new_key : get_or (keys ++ place ∷ []) r 0 ≡ place
  new_key = get_or-right keys (place ∷ []) 0 r 0 (let m : length keys ≡ r = have.one_each in omega arith)

  found : place < length buses → get_or buses place no_net ≡ bus_of c r → HaveBuses c (r + 1) (keys ++ place ∷ []) buses
  found inside is = record {
    one_each = size;
    few = (let f : length buses ≤ r = have.few in omega arith);
    low = λ x below. elim (cases_lt x r) [
      | inl old ↦ (let l = have.low x old in let e = old_key x old in omega (arith, l, e))
      | inr new ↦ (let e : x ≡ r = omega arith in let f = ap (λ y. get_or (keys ++ place ∷ []) y 0) e in let g = new_key in omega (arith, f, g))
    ];
    at = λ x below. elim (cases_lt x r) [
      | inl old ↦ ap (λ k. get_or buses k no_net) (old_key x old) ∙ have.at x old
      | inr new ↦ (let e : x ≡ r = omega arith in
          ap (λ y. get_or buses (get_or (keys ++ place ∷ []) y 0) no_net) e ∙ ap (λ k. get_or buses k no_net) new_key ∙ is ∙ ap (bus_of c) (sym e))
    ];
    once = have.once;
  }

  more_size : length (buses ++ bus_of c r ∷ []) ≡ length buses + 1
  more_size = length-append buses (bus_of c r ∷ [])

  old_bus : (k : ℕ) → k < length buses → get_or (buses ++ bus_of c r ∷ []) k no_net ≡ get_or buses k no_net
  old_bus k below = get_or-left buses (bus_of c r ∷ []) k no_net below

  new_bus : (k : ℕ) → k ≡ length buses → get_or (buses ++ bus_of c r ∷ []) k no_net ≡ bus_of c r
  new_bus k e = get_or-right buses (bus_of c r ∷ []) 0 k no_net (omega arith)

  added : place ≡ length buses → ((k : ℕ) → k < length buses → get_or buses k no_net ≢ bus_of c r) → HaveBuses c (r + 1) (keys ++ place ∷ []) (buses ++ bus_of c r ∷ [])
  added last unlike = record {
    one_each = size;
    few = (let f : length buses ≤ r = have.few in let n = more_size in omega (arith, n));
    low = λ x below. (let n = more_size in elim (cases_lt x r) [
      | inl old ↦ (let l = have.low x old in let e = old_key x old in omega (arith, l, e, n))
      | inr new ↦ (let e : x ≡ r = omega arith in let f = ap (λ y. get_or (keys ++ place ∷ []) y 0) e in let g = new_key in omega (arith, f, g, n))
    ]);
    at = λ x below. elim (cases_lt x r) [
      | inl old ↦ ap (λ k. get_or (buses ++ bus_of c r ∷ []) k no_net) (old_key x old) ∙ old_bus (get_or keys x 0) (have.low x old) ∙ have.at x old
      | inr new ↦ (let e : x ≡ r = omega arith in
          ap (λ y. get_or (buses ++ bus_of c r ∷ []) (get_or (keys ++ place ∷ []) y 0) no_net) e ∙ ap (λ k. get_or (buses ++ bus_of c r ∷ []) k no_net) new_key
          ∙ new_bus place last ∙ ap (bus_of c) (sym e))
    ];
    once = λ j k below also e. (let n = more_size in elim (cases_lt j (length buses)) [
      | inl one ↦ elim (cases_lt k (length buses)) [
        | inl other ↦ have.once j k one other (sym (old_bus j one) ∙ (e ∙ old_bus k other))
        | inr past ↦ absurd (unlike j one (sym (old_bus j one) ∙ (e ∙ new_bus k (omega (arith, n)))))
      ]
      | inr past ↦ elim (cases_lt k (length buses)) [
        | inl other ↦ absurd (unlike k other (sym (old_bus k other) ∙ (sym e ∙ new_bus j (omega (arith, n)))))
        | inr also_past ↦ omega (arith, n)
      ]
    ]);
  }

  pub next_bus : (new : List Net) → IsPlaced buses (bus_of c r) new place → HaveBuses c (r + 1) (keys ++ place ∷ []) new
  next_bus new (inl (inside, same, is)) = subst (λ (nets : List Net). HaveBuses c (r + 1) (keys ++ place ∷ []) nets) (sym same) (found inside is)
  next_bus new (inr (last, more, unlike)) = subst (λ (nets : List Net). HaveBuses c (r + 1) (keys ++ place ∷ []) nets) (sym more) (added last unlike)

-- the places of buses are keys
pub bus_keys : (c : Circuit) (count : ℕ) (keys : List ℕ) (buses : List Net) → HaveBuses c count keys buses → AreKeys (Agree c ByBus) count count keys
bus_keys c count keys buses have = record {
  one_each = have.one_each;
  few = All-from_get_or (λ key. key < count) keys 0 (λ r below.
      let m : length keys ≡ count = have.one_each in
      let f : length buses ≤ count = have.few in
      let l = have.low r (omega arith) in omega (arith, l));
  same = λ a b low also. (
    (λ e. have.once (get_or keys a 0) (get_or keys b 0) (have.low a low) (have.low b also) (have.at a low ∙ (e ∙ sym (have.at b also)))),
    (λ e. sym (have.at a low) ∙ (ap (λ k. get_or buses k no_net) e ∙ have.at b also)),
  );
}

-- all registers have one key
pub zero_keys : (count : ℕ) (keys : List ℕ) → keys ≡ replicate count 0 → AreKeys (λ a b. ⊤) count count keys
zero_keys count keys is =
    let zero : (r : ℕ) → get_or keys r 0 ≡ 0 = λ r. ap (λ (ks : List ℕ). get_or ks r 0) is ∙ zeros-at count r in
    let size : length keys ≡ count = ap length is ∙ length-replicate count 0 in record {
      one_each = size;
      few = All-from_get_or (λ key. key < count) keys 0 (λ r below. let z = zero r in omega (arith, z, size));
      same = λ a b low also. ((λ _. zero a ∙ sym (zero b)), (λ e. tt));
    }
