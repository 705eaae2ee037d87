use Rattle.std.proofs.Common.{◌≡◌, ◌<◌, ◌≤◌, ◌+◌, ◌++◌, ◌∷◌, [], ◌∙◌, ℕ, List, Bool, length}
use Rattle.std.proofs.Common.{get_or, refl, arith, sym, ap, subst, cond, vec_len, vec_capacity}
use mathlib.Core.Option.{some}
use lib.ListN.{get_elem?}
use Rattle.ds_rule.specs.Run.{Run}
use Rattle.ds_rule.proofs.GetElemLemmas.{at_get}
use Rattle.ds_fabric.specs.HistoryList.{IsWritten, start_of_words, end_of_turn, offset_of, next_turn_of}
use Rattle.ds_fabric.specs.Noted.{HasRoomToNote, IsNextRole, HasSpan}
use Rattle.ds_fabric.specs.declared.history.History.{History}
use Rattle.ds_fabric.proofs.WordsInLists.{ends_turn}
use Rattle.ds_fabric.proofs.histories.Histories.note.Goals as goal
use Rattle.ds_fabric.proofs.histories.Histories.note.Goals.{After-span-start}

-- the history that is lent is the one that has room
lent : (nodes : List History) (at : ℕ) (g h : History) → h ≡ get_or nodes at h
    → get_elem? nodes at ≡ some g → g ≡ h
lent nodes at g h is there = sym (at_get nodes at g h there) ∙ sym is

-- what is known of the span that was worked out
record Spanned (run : Run) (start end told room : ℕ) (h : History) : Type 0 where
  start_is : start ≡ start_of_words run h
  end_is : end ≡ end_of_turn run h
  inside : start + told < end
  fits : end ≤ room

spanned : (c : After-span-start) (run : Run)
    → (r : HasRoomToNote run c.args.self.now c.args.at c.args.role)
    → Spanned run c.span-start.result.0 c.span-start.result.1
    (length c.as_slice-told.result.now)
    (cond c.args.self.now.apart (vec_capacity c.index_mut-history.result.now.own)
    (vec_capacity c.args.self.now.together)) c.index_mut-history.result.now
spanned c run r = let h : History = c.index_mut-history.result.now in
    let same = lent c.args.self.now.nodes.items c.args.at r.history h
    c.index_mut-history.ensures.value r.there in
    let P : History → Type 0 = λ x. IsNextRole run x.node x.fired c.args.role in
    let s = c.span-start.ensures run (subst P same r.role_is) in
    let told : length c.as_slice-told.result.now ≡ length c.args.self.now.buffers.told.items =
    ap (λ (xs : List ℕ). length xs) c.as_slice-told.ensures.value in
    record {
      start_is = s.0;
      end_is = s.1;
      inside = omega (
        arith,
        s.0,
        s.1,
        told,
        ap (λ (x : History). offset_of run x + (vec_len c.args.self.now.buffers.told + 1)) same,
        ap (λ (x : History). x.stride) same,
        r.fits,
        ap (λ (x : History). x.first + x.stride) same,
        ap (λ (x : History). x.step) same,
        r.span.inside,
        ends_turn (next_turn_of run h) h.step,
      );
      fits = subst (λ (x : History). c.span-start.result.1 ≤ cond c.args.self.now.apart
          (vec_capacity x.own) (vec_capacity c.args.self.now.together)) same
          (omega (arith, s.1, ap (end_of_turn run) same, r.room));
    }

pub span-start-requires : goal.span-start-requires
span-start-requires c = let (run, r) = c.requires.room in
    let same = lent c.args.self.now.nodes.items c.args.at r.history c.index_mut-history.result.now
    c.index_mut-history.ensures.value r.there in (
      run,
      subst (λ (x : History). IsNextRole run x.node x.fired c.args.role) same r.role_is,
      subst (HasSpan run) same r.span,
    )

pub overflow_add-history : goal.overflow_add-history
overflow_add-history c = let (run, r) = c.requires.room in
    let same = lent c.args.self.now.nodes.items c.args.at r.history c.index_mut-history.result.now
    c.index_mut-history.ensures.value r.there in
    omega (arith, r.few, ap (λ (x : History). x.fired) same)

pub write_at-requires-clause-inside : goal.write_at-requires-clause-inside
write_at-requires-clause-inside c = let (run, r) = c.requires.room in
    (spanned (goal.at.write_at-requires-clause-inside c).After-span-start run r).inside

pub write_at-requires-clause-room : goal.write_at-requires-clause-room
write_at-requires-clause-room c = let (run, r) = c.requires.room in
    subst (λ (b : Bool). c.span-start.result.1 ≤ cond b
    (vec_capacity c.index_mut-history.result.now.own) (vec_capacity c.args.self.now.together))
    c.if-self.true (spanned (goal.at.write_at-requires-clause-room c).After-span-start run r).fits

pub write_at-requires-else-self-clause-inside : goal.write_at-requires-else-self-clause-inside
write_at-requires-else-self-clause-inside c = let (run, r) = c.requires.room in
    (spanned (goal.at.write_at-requires-else-self-clause-inside c).After-span-start run r).inside

pub write_at-requires-else-self-clause-room : goal.write_at-requires-else-self-clause-room
write_at-requires-else-self-clause-room c = let (run, r) = c.requires.room in
    subst (λ (b : Bool). c.span-start.result.1 ≤ cond b
    (vec_capacity c.index_mut-history.result.now.own) (vec_capacity c.args.self.now.together))
    c.if-self.false
    (spanned (goal.at.write_at-requires-else-self-clause-room c).After-span-start run r).fits

-- the words that were told, at the places of the span
written_span : (run : Run) (old new told words : List ℕ) (start end : ℕ) (h : History)
    → start ≡ start_of_words run h → end ≡ end_of_turn run h → told ≡ words
    → IsWritten old new start end told → IsWritten old new (start_of_words run h) (end_of_turn run h) words
written_span run old new told words start end h s e t w =
    subst (IsWritten old new (start_of_words run h) (end_of_turn run h)) t
    (subst (λ (x : ℕ). IsWritten old new x (end_of_turn run h) told) s
    (subst (λ (x : ℕ). IsWritten old new start x told) e w))

pub returns-then-self : goal.returns-then-self
returns-then-self c run r = let h : History = c.index_mut-history.result.now in
    let same = lent c.args.self.now.nodes.items c.args.at r.history h
    c.index_mut-history.ensures.value r.there in
    let s = spanned (goal.at.returns-then-self c).After-span-start run r in
    let told = ap (λ (xs : List ℕ). xs ++ c.args.ticket ∷ []) c.as_slice-told.ensures.value in
    let own = c.write_at.new.words in let all = c.args.self.now.together in record {
      old = h;
      new = record {
        node = h.node;
        fired = h.fired + 1;
        stride = h.stride;
        first = h.first;
        step = h.step;
        own = own;
      };
      there = subst (λ (x : History). get_elem? c.args.self.now.nodes.items c.args.at ≡ some x)
          same r.there;
      nodes = refl;
      nodes_room = refl;
      places = refl;
      apart = refl;
      from_room = refl;
      told_room = refl;
      noted = record {
        node = refl;
        fired = refl;
        stride = refl;
        first = refl;
        step = refl;
        room = subst (λ (b : Bool). cond b (vec_capacity own) (vec_capacity all)
            ≡ cond b (vec_capacity h.own) (vec_capacity all)) (sym c.if-self.true)
            c.write_at.ensures.room;
        written = subst (λ (b : Bool). IsWritten (cond b h.own.items all.items)
            (cond b own.items all.items) (start_of_words run h) (end_of_turn run h)
            (c.args.self.now.buffers.told.items ++ c.args.ticket ∷ [])) (sym c.if-self.true)
            (written_span run h.own.items own.items (c.as_slice-told.result.now ++ c.args.ticket ∷ [])
            (c.args.self.now.buffers.told.items ++ c.args.ticket ∷ []) c.span-start.result.0
            c.span-start.result.1 h s.start_is s.end_is told c.write_at.ensures.written);
      };
    }

pub returns-else-self : goal.returns-else-self
returns-else-self c run r = let h : History = c.index_mut-history.result.now in
    let same = lent c.args.self.now.nodes.items c.args.at r.history h
    c.index_mut-history.ensures.value r.there in
    let s = spanned (goal.at.returns-else-self c).After-span-start run r in
    let told = ap (λ (xs : List ℕ). xs ++ c.args.ticket ∷ []) c.as_slice-told.ensures.value in
    let all = c.write_at-else-self.new.words in let old = c.args.self.now.together in record {
      old = h;
      new = record {
        node = h.node;
        fired = h.fired + 1;
        stride = h.stride;
        first = h.first;
        step = h.step;
        own = h.own;
      };
      there = subst (λ (x : History). get_elem? c.args.self.now.nodes.items c.args.at ≡ some x)
          same r.there;
      nodes = refl;
      nodes_room = refl;
      places = refl;
      apart = refl;
      from_room = refl;
      told_room = refl;
      noted = record {
        node = refl;
        fired = refl;
        stride = refl;
        first = refl;
        step = refl;
        room = subst (λ (b : Bool). cond b (vec_capacity h.own) (vec_capacity all)
            ≡ cond b (vec_capacity h.own) (vec_capacity old)) (sym c.if-self.false)
            c.write_at-else-self.ensures.room;
        written = subst (λ (b : Bool). IsWritten (cond b h.own.items old.items)
            (cond b h.own.items all.items) (start_of_words run h) (end_of_turn run h)
            (c.args.self.now.buffers.told.items ++ c.args.ticket ∷ [])) (sym c.if-self.false)
            (written_span run old.items all.items (c.as_slice-told.result.now ++ c.args.ticket ∷ [])
            (c.args.self.now.buffers.told.items ++ c.args.ticket ∷ []) c.span-start.result.0
            c.span-start.result.1 h s.start_is s.end_is told c.write_at-else-self.ensures.written);
      };
    }
