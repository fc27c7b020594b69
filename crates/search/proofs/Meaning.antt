-- The search's answer has its meaning in the tick run: demand 3. Assumes nothing.
use mathlib.Core.Path.{◌≡◌, refl, sym, ap, subst, ◌∙◌}
use mathlib.Core.Logic.{◌↔◌}
use mathlib.Core.Bool.{Bool, true, false}
use mathlib.Core.List.{List, [], ◌∷◌, ◌++◌}
use Prim.Native.Nat.{ℕ, ◌+◌, ◌≤◌, ◌<◌}
use native.Mathlib.Omega.{arith}
use native.Mathlib.Decide.{dec_lt}
use borrow.Author.Tests.{lt-ltb, le-ltb}
use lib.Dec.{ltb}
use lib.ListN.{length, get_or, take, drop}
use Rattle.wire.specs.Wire.{Bytes}
use Rattle.verdict.specs.declared.Cause.TheVariants.{ShortAnswer}
use Rattle.std.specs.Prelude.{Result, Ok, Err}
use Rattle.table.specs.declared.Refusal.{Refusal}
use Rattle.table.specs.Refusal.{refusal}
use Rattle.table.specs.declared.Table.{Table}
use Rattle.table.specs.Sound.{Sound}
use Rattle.table.specs.Table.{read_of}
use Rattle.table.proofs.Sound.{read_sound}
use Rattle.judge.specs.Judge.{PlacementOf}
use Rattle.judge.specs.Good.{Good}
use Rattle.answer.specs.Answer.{records, end_bytes, places, count_of, answer_bytes}
use Rattle.goal.specs.Order.{Earlier}
use Rattle.goal.specs.Goal.{placements, nth, first_good, head_of, mark_of}
use Rattle.goal.proofs.First.{Before, first_good_lem, earlier_bad, none_good, earlier_before, before_earlier, found_head_lem, none_before, none_head_lem}
use Rattle.goal.proofs.Mark.{complete_listed, cut_listed, met_elim}
use Rattle.goal.proofs.Few.{listed_below}
use Rattle.search.specs.Search.{Lists, AnsweredBy, SearchedBy, Searched}
use Rattle.search.specs.Meaning.{SearchRefuses, unreadable, too_short, Head, AL, NO, head_bytes, RightHead, CountsAsEarlier, RightMark, RightSearch, SearchMeans}

-- ---- the head

-- what is known of the head, and that what counts as earlier are the placements with smaller numbers
record Headed (t : Table) (head : Head) : Type 0 where
  first : RightHead t head
  bytes : head_of t ≡ head_bytes t.tasks.count head
  earlier : {e : List ℕ} → PlacementOf t e → Before t e → CountsAsEarlier head e
  before : {e : List ℕ} → PlacementOf t e → CountsAsEarlier head e → Before t e

module _ {t : Table} (s : Sound t) where
  headed : (head : Head) × Headed t head
  headed = go (dec_lt (first_good t) (placements t))
    where
      q : List ℕ
      q = nth t (first_good t)

      go : Dec (first_good t < placements t) → (head : Head) × Headed t head
      go (yes l) = let g = first_good_lem s l in let f : (e : List ℕ) → PlacementOf t e → Earlier e q → Good t e → ⊥ = λ e v. earlier_bad s l e in (
        AL q,
        record { first = (g, earlier_bad s l); bytes = found_head_lem s g f; earlier = before_earlier s g f; before = earlier_before s g f },
      )
      go (no l) = let f : (e : List ℕ) → PlacementOf t e → Good t e → ⊥ = λ e v. none_good s (omega arith) e in (
        NO,
        record { first = none_good s (omega arith); bytes = none_head_lem s f; earlier = λ v b. tt; before = λ v u. none_before s f v },
      )

  -- ---- the mark

  marked : {head : Head} → Headed t head → (room : ℕ) (cs : List ℕ) → (mark_of t cs ≡ false → length cs ≡ room) → (b : Bool) → mark_of t cs ≡ b → RightMark t head room cs b
  marked h room cs full true m = λ e v w k. complete_listed s cs m v (h.before v w) k
  marked h room cs full false m = let r = cut_listed s cs m in (full m, record { placement = r.0; whole = r.1; earlier = h.earlier r.1 r.2; has = (r.3, r.4) })

-- ---- the answer

module _ (file old new : List ℕ) (b : Bytes file) where
  right : (t : Table) (count : ℕ) → read_of file ≡ Ok t → t.tasks.count + 5 ≤ length old → Lists t old new (Ok count) → RightSearch file old new count
  unfolding answer_bytes
  right t count read long w = record {
    table = t;
    read = read;
    sound = s;
    long = long;
    head = h.0;
    first = h.1.first;
    conflicts = w.conflicts;
    room = w.room;
    known = listed_below s w.listed;
    different = w.listed.different;
    minimal = w.listed.minimal;
    held = λ j l. let m = met_elim s (get_or w.conflicts j 0) (w.listed.met j l) in record { placement = m.0; whole = m.1; earlier = h.1.earlier m.1 m.2; has = (m.3, m.4) };
    complete = mark_of t w.conflicts;
    mark = marked s h.1 (places t.tasks.count (length old)) w.conflicts w.full (mark_of t w.conflicts) refl;
    bytes = rw (← h.1.bytes) w.buffer;
    counted = let e = w.count in cc;
  }
    where
      s : Sound t
      s = read_sound file b read

      h : (head : Head) × Headed t head
      h = headed s

pub search_meaning : (file old new : List ℕ) → Bytes file → (r : Result ℕ Refusal) → Searched file old new r → SearchMeans file old new r
search_meaning file old new b r = go (read_of file) refl r
  where
    same : {x : Refusal} (r : Refusal) → ◌≡◌ {A = Result ℕ Refusal} (Err r) (Err x) → SearchRefuses file old x.cause x.place → SearchRefuses file old r.cause r.place
    same {x} r e s = let z : x ≡ r = cc in subst (λ (y : Refusal). SearchRefuses file old y.cause y.place) z s

    by : (t : Table) → read_of file ≡ Ok t → Dec (length old < t.tasks.count + 5) → (r : Result ℕ Refusal) → AnsweredBy (ltb (length old) (t.tasks.count + 5)) t old new r → SearchMeans file old new r
    by t h (yes l) (Err r) a = let x = rw (lt-ltb (length old) (t.tasks.count + 5) l) at a in (same {x = refusal ShortAnswer 0} r x.0 (too_short (t, h, l)), x.1)
    by t h (yes l) (Ok count) a = let x = rw (lt-ltb (length old) (t.tasks.count + 5) l) at a in absurd (let e = x.0 in let z : ◌≡◌ {A = ℕ} 0 1 = cc in omega arith)
    by t h (no l) (Err r) a = let x = rw (le-ltb (length old) (t.tasks.count + 5) (omega arith)) at a in absurd (let e = x.count in let z : ◌≡◌ {A = ℕ} 0 1 = cc in omega arith)
    by t h (no l) (Ok count) a = right file old new b t count h (omega arith) (rw (le-ltb (length old) (t.tasks.count + 5) (omega arith)) at a)

    go : (o : Result Table Refusal) → read_of file ≡ o → (r : Result ℕ Refusal) → SearchedBy o old new r → SearchMeans file old new r
    go (Err x) h (Err r) a = (same r a.0 (unreadable h), a.1)
    go (Err x) h (Ok count) a = absurd (let e = a.0 in let z : ◌≡◌ {A = ℕ} 0 1 = cc in omega arith)
    go (Ok t) h r a = by t h (dec_lt (length old) (t.tasks.count + 5)) r a

-- demand 3: `NO` exactly where no placement keeps the placement rules without a late job
pub none_exactly : {file old new : List ℕ} {count : ℕ} (a : RightSearch file old new count)
    → (take 2 new ≡ 78 ∷ 79 ∷ []) ↔ ((q : List ℕ) → Good a.table q → ⊥)
none_exactly {file} {old} {new} a = go a.head a.first a.bytes
  where
    n : ℕ
    n = a.table.tasks.count

    go : (h : Head) → RightHead a.table h → new ≡ head_bytes n h ++ records a.conflicts ++ end_bytes a.complete ++ drop (count_of n (length a.conflicts)) old
        → (take 2 new ≡ 78 ∷ 79 ∷ []) ↔ ((q : List ℕ) → Good a.table q → ⊥)
    go (AL q) f e = (λ x. absurd (let y : 65 ∷ 76 ∷ [] ≡ 78 ∷ 79 ∷ [] = sym (ap (take 2) e) ∙ x in let z : ◌≡◌ {A = ℕ} 65 78 = cc in omega arith), λ x. absurd (x q f.0))
    go NO f e = (λ x. f, λ x. ap (take 2) e)
