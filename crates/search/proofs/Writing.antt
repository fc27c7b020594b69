-- What the search has settled is what 01 asks, and the buffer holds it. Assumes nothing.
use mathlib.Core.Path.{◌≡◌, sym, ap, subst, fun_ext, ◌∙◌}
use mathlib.Core.Bool.{Bool, false, not}
use mathlib.Core.List.{List, ◌++◌}
use Prim.Native.Nat.{ℕ, ◌+◌, ◌-◌, ◌*◌, ◌≤◌, ◌<◌}
use native.Mathlib.Omega.{arith}
use lib.ListN.{length, get_or, take, drop, length-append, length-drop}
use lib.Seq.{length-take-le, drop_at, get_or-take}
use borrow.Rule.Slice.PartMut.{mid_of, put_mid}
use lib.Dec.{T}
use Rattle.mask.proofs.Tests.{same_test}
use Rattle.wire.proofs.Part.{lent, back}
use Rattle.std.specs.Prelude.{Option, Some, None}
use Rattle.table.specs.declared.Table.{Table}
use Rattle.table.specs.Sound.{Sound}
use Rattle.rules.specs.Placement.{placed}
use Rattle.rules.specs.Sets.{standing, Names}
use Rattle.judge.specs.Judge.{PlacementOf}
use Rattle.judge.specs.Good.{Good}
use Rattle.wire.specs.Wire.{laid}
use Rattle.answer.specs.Answer.{found_head, end_bytes, places, count_of, Listing}
use Rattle.answer.proofs.Laws.{listing_length, whole_last}
use Rattle.goal.specs.Order.{EarlierThan, Earlier}
use Rattle.goal.specs.Goal.{head_of, mark_of, Listed}
use Rattle.goal.proofs.First.{Before, earlier_before, before_earlier, found_head_lem, none_before, none_head_lem}
use Rattle.nogoods.specs.Nogoods.{masks_in}
use Rattle.nogoods.proofs.Masks.{masks_long, listing_grown}
use Rattle.partial.specs.Partial.{Whole}
use Rattle.region.specs.Region.{Witness, Settled}
use Rattle.rules.proofs.Placed.{placed_at, placed_is}
use Rattle.region.proofs.Filling.{whole_placement}
use Rattle.std.specs.Prelude.{Ok}
use Rattle.search.specs.Search.{Lists}
use Rattle.first.specs.First.{InTime}
use Rattle.solve.specs.declared.Solved.{Solved}
use Rattle.solve.specs.Solve.{SolvesAs, SolvedAs}
use Rattle.search.specs.Steps.{HeadBy}
use Rattle.search.proofs.Answering.{AsList, witness_good, earlier_sets, sets_earlier, settled_listed, settled_mark, settled_full}

-- the first good placement is found, and q is the list of its processors
module _ {t : Table} (h : Sound t) {count : ℕ} {old new sets : List ℕ} {cut : Bool} (w : Witness t (InTime t) (λ k p. false) sets)
    (s : Settled t (EarlierThan (standing sets)) old 0 false new count cut) where
  earliest : {q : List ℕ} → AsList t sets q → (e : List ℕ) → PlacementOf t e → Earlier e q → Good t e → ⊥
  earliest a e v x g = let l = s.refuted e v (earlier_sets a x) g.keeps in g.in_time l.0 l.1

  found_headed : (q : List ℕ) → PlacementOf t q → placed q ≡ standing sets → head_of t ≡ found_head q
  found_headed q v e = let a : AsList t sets q = record { placement = v; same = e } in found_head_lem h (witness_good w a) (earliest a)

-- what the answer's list is known to be
pub record Final (t : Table) (old new : List ℕ) (count : ℕ) (cut : Bool) : Type 0 where
  pub listed : Listed t (masks_in new count)
  pub mark : mark_of t (masks_in new count) ≡ not cut
  pub full : mark_of t (masks_in new count) ≡ false → length old < 6 * length (masks_in new count) + 9
  pub listing : Listing old (masks_in new count) new

module _ {t : Table} (h : Sound t) (old new : List ℕ) (r : Solved) where
  finals : (d : Option (List ℕ)) → SolvesAs d t old new r.listed → Final t old new r.listed.count r.listed.cut
  finals (Some sets) (w, s) = record {
    listed = settled_listed h forth ahead s;
    mark = settled_mark h forth ahead s;
    full = settled_full h forth ahead s;
    listing = listing_grown s.list;
  }
    where
      l : (q : List ℕ) × PlacementOf t q × (placed q ≡ standing sets)
      l = whole_placement h w.whole

      a : AsList t sets l.0
      a = record { placement = l.1; same = l.2 }

      forth : (e : List ℕ) → PlacementOf t e → EarlierThan (standing sets) e → Before t e
      forth e v x = earlier_before h (witness_good w a) (earliest h w s a) v (sets_earlier a x)

      ahead : (e : List ℕ) → PlacementOf t e → Before t e → EarlierThan (standing sets) e
      ahead e v b = earlier_sets a (before_earlier h (witness_good w a) (earliest h w s a) v b)
  finals None s = record {
    listed = settled_listed h forth (λ e v b. tt) s;
    mark = settled_mark h forth (λ e v b. tt) s;
    full = settled_full h forth (λ e v b. tt) s;
    listing = listing_grown s.list;
  }
    where
      forth : (e : List ℕ) → PlacementOf t e → Unit {0} → Before t e
      forth e v x = none_before h (λ q i g. let l = s.refuted q i tt g.keeps in g.in_time l.0 l.1) v

  heads : (d : Option (List ℕ)) → SolvesAs d t old new r.listed → HeadBy t d
  heads (Some sets) (w, s) = (w.whole, found_headed h w s)
  heads None s = none_head_lem h (λ q i g. let l = s.refuted q i tt g.keeps in g.in_time l.0 l.1)

  pub solved_final : SolvedAs t old new r → Final t old new r.listed.count r.listed.cut
  solved_final = finals r.placement

  pub solved_head : SolvedAs t old new r → HeadBy t r.placement
  solved_head = heads r.placement

-- the processors that are named for the tasks, as a placement
pub names_list : {t : Table} → Sound t → {sets q : List ℕ} → Whole t sets → Names t sets q → AsList t sets (take t.tasks.count q)
names_list {t} h {sets} {q} w m = record {
  placement = record { long = long; known = λ k l. rw (get_or-take t.tasks.count q k 0 (rw long at l)) (m.known k (rw long at l)) };
  same = fun_ext (λ k. fun_ext (λ p. same_test (placed (take t.tasks.count q) k p) (standing sets k p) (forth k p) (ahead k p)));
}
  where
    long : length (take t.tasks.count q) ≡ t.tasks.count
    long = length-take-le t.tasks.count q (omega (arith, m.long, h.tasks.most))

    at : (k : ℕ) → k < t.tasks.count → get_or (take t.tasks.count q) k 0 ≡ get_or q k 0
    at k l = get_or-take t.tasks.count q k 0 l

    forth : (k p : ℕ) → T (placed (take t.tasks.count q) k p) → T (standing sets k p)
    forth k p u =
        let x = placed_is (take t.tasks.count q) k p u in
        let l : k < t.tasks.count = omega (arith, x.0, long) in
        subst (λ (r : ℕ). T (standing sets k r)) (sym (at k l) ∙ x.1) (m.there k l)

    ahead : (k p : ℕ) → T (standing sets k p) → T (placed (take t.tasks.count q) k p)
    ahead k p u =
        let l = w.partial.task k p u in
        subst (λ (r : ℕ). T (placed (take t.tasks.count q) k r)) (at k l ∙ w.partial.once k (get_or q k 0) p (m.there k l) u) (placed_at (take t.tasks.count q) k (omega (arith, l, long)))

-- 01's places of a buffer: in its part after the head there is room for so many conflicts, and where one more has none, they are as many
places_room : (n len part count : ℕ) → part + (n + 2) ≡ len → 6 * count + 3 ≤ part → (count ≤ places n len) × (part < 6 * count + 9 → count ≡ places n len)
places_room n len part count e l = (omega arith, λ f. omega arith)

-- the buffer: the list and then the end go into its part after the head, and then the head
module _ (t : Table) (old list end : List ℕ) (count : ℕ) (cut : Bool) (long : t.tasks.count + 5 ≤ length old)
    (f : Final t (mid_of (t.tasks.count + 2) (length old - (t.tasks.count + 2)) old) list count cut) where
  -- with the list in it
  abbrev pub filled : List ℕ
  filled = put_mid (t.tasks.count + 2) (length old - (t.tasks.count + 2)) old list

  -- and the end
  abbrev pub closed : List ℕ
  closed = put_mid (t.tasks.count + 2) (length filled - (t.tasks.count + 2)) filled end

  fills : filled ≡ take (t.tasks.count + 2) old ++ list
  fills = back (t.tasks.count + 2) old list

  front : length (take (t.tasks.count + 2) old) ≡ t.tasks.count + 2
  front = length-take-le (t.tasks.count + 2) old (omega arith)

  part : mid_of (t.tasks.count + 2) (length filled - (t.tasks.count + 2)) filled ≡ list
  part = lent (t.tasks.count + 2) filled ∙ ap (drop (t.tasks.count + 2)) fills ∙ drop_at (take (t.tasks.count + 2) old) list (t.tasks.count + 2) front

  room : t.tasks.count + 2 ≤ length filled
  room = omega (arith, ap length fills, length-append (take (t.tasks.count + 2) old) list, front)

  -- the part after the head
  part_long : length (mid_of (t.tasks.count + 2) (length old - (t.tasks.count + 2)) old) + (t.tasks.count + 2) ≡ length old
  part_long = omega (arith, ap length (lent (t.tasks.count + 2) old), length-drop (t.tasks.count + 2) old, long)

  in_places : (length (masks_in list count) ≤ places t.tasks.count (length old))
      × (length (mid_of (t.tasks.count + 2) (length old - (t.tasks.count + 2)) old) < 6 * length (masks_in list count) + 9 → length (masks_in list count) ≡ places t.tasks.count (length old))
  in_places = places_room t.tasks.count (length old) _ (length (masks_in list count)) part_long f.listing.room

  pub written : (final : List ℕ) → end ≡ laid (6 * count) (end_bytes (not cut)) (mid_of (t.tasks.count + 2) (length filled - (t.tasks.count + 2)) filled)
      → final ≡ head_of t ++ drop (t.tasks.count + 2) closed → Lists t old final (Ok (t.tasks.count + 5 + 6 * count))
  written final a b = record {
    conflicts = masks_in list count;
    listed = f.listed;
    room = in_places.0;
    full = λ e. in_places.1 (f.full e);
    buffer = rw f.mark (b ∙ ap (λ (x : List ℕ). head_of t ++ drop (t.tasks.count + 2) x) (back (t.tasks.count + 2) filled end)
        ∙ whole_last t.tasks.count (head_of t) old (not cut) (sym (masks_long list count)) (a ∙ ap (laid (6 * count) (end_bytes (not cut))) part) filled room
        (subst (λ (x : List ℕ). Listing x (masks_in list count) list) (lent (t.tasks.count + 2) old) f.listing));
    count = ap (λ (x : ℕ). Ok (count_of t.tasks.count x)) (sym (masks_long list count));
  }

  -- there is room for the end and for the head, and the count is no larger than the buffer
  listed_room : 6 * count + 3 ≤ length (mid_of (t.tasks.count + 2) (length old - (t.tasks.count + 2)) old)
  listed_room = omega (arith, f.listing.room, masks_long list count)

  pub end_room : 6 * count + 3 ≤ length (mid_of (t.tasks.count + 2) (length filled - (t.tasks.count + 2)) filled)
  end_room = rw part (omega (arith, listed_room, listing_length f.listing))

  pub head_room : t.tasks.count + 2 ≤ length closed
  head_room = omega (arith, ap length (back (t.tasks.count + 2) filled end), length-append (take (t.tasks.count + 2) filled) end, length-take-le (t.tasks.count + 2) filled room)

  pub count_room : t.tasks.count + 5 + 6 * count ≤ length old
  count_room = omega (arith, listed_room, part_long)
