-- A table that was read is within the schedule's limits, and so are the sets of a placement. Assumes nothing.
use mathlib.Core.Path.{◌≡◌, refl, ap, fun_ext, ◌∙◌}
use mathlib.Core.Bool.{Bool}
use mathlib.Core.List.{List}
use Prim.Native.Nat.{ℕ, ◌^◌, ◌<◌}
use native.Mathlib.Omega.{arith}
use native.Mathlib.Decide.{dec_lt}
use borrow.Author.Tests.{lt-ltb}
use lib.Dec.{T, leb, eqb, lt→ltb}
use lib.ListN.{length, get_or}
use lib.Pow.{pow_pos}
use Rattle.std.specs.Prelude.{Option, Some, None}
use Rattle.std.specs.List.{position_or_len}
use Rattle.std.proofs.lemmas.Bool.{leb-false}
use Rattle.std.proofs.lemmas.List.Sums.{fails_before_first}
use Rattle.mask.specs.Mask.{has, below, mask_of}
use Rattle.mask.proofs.Laws.{mask_lt}
use Rattle.table.specs.declared.Table.{Table}
use Rattle.table.specs.Sound.{Sound}
use Rattle.table.proofs.Columns.{column_in, column_beyond}
use Rattle.schedule.specs.Response.{response, worst_response, up_to}
use Rattle.schedule.specs.Margin.{margin_by, margin_of}
use Rattle.schedule.specs.Arrays.{tasks_of}
use Rattle.timing.specs.Timing.{timing_of}
use Rattle.timing.proofs.Limits.{limits_of}
use Rattle.rules.specs.Sets.{Placeable, sets_of}
use Rattle.rules.proofs.Sets.{sets_placed}
use Rattle.judge.specs.Judge.{PlacementOf, first_unknown, alongside, response_of}
use Rattle.judge.specs.Arrays.{Placed}
use Rattle.schedule.specs.declared.Timing.{Timing}

-- no byte is unknown, so all name processors
pub all_known : (m : ℕ) (q : List ℕ) → first_unknown m q ≡ None → (k : ℕ) → k < length q → get_or q k 0 < m
unfolding first_unknown
all_known m q e k l = go (dec_lt (position_or_len (leb m) q) (length q))
  where
    go : Dec (position_or_len (leb m) q < length q) → get_or q k 0 < m
    go (yes i) = absurd (let z : ◌≡◌ {A = Option ℕ} (Some (position_or_len (leb m) q)) None = rw (lt-ltb _ _ i) at e in cc)
    go (no i) = leb-false m (get_or q k 0) (fails_before_first (leb m) q k 0 (omega arith))

pub placement_of : {t : Table} {q : List ℕ} → length q ≡ t.tasks.count → first_unknown t.processors.count q ≡ None → PlacementOf t q
placement_of {t} {q} long e = record { long = long; known = all_known t.processors.count q e }

-- a placement's sets hold only its tasks
sets_below : (q : List ℕ) (p : ℕ) → T (below (length q) (get_or (sets_of q) p 0))
unfolding sets_of
sets_below q p = go (dec_lt p 8)
  where
    tasks : ℕ → ℕ
    tasks r = mask_of (length q) (λ k. eqb (get_or q k 0) r)

    go : Dec (p < 8) → T (below (length q) (get_or (sets_of q) p 0))
    go (yes l) = rw (column_in 8 8 tasks p (omega arith) l) (lt→ltb (tasks p) (2 ^ length q) (mask_lt (length q) (λ k. eqb (get_or q k 0) p)))
    go (no l) = rw (column_beyond 8 8 tasks p (omega arith)) (lt→ltb 0 (2 ^ length q) (pow_pos (length q)))

-- response and margin by the worst response in the set of a task's processor
pub times_placed : {n : ℕ} {timing : Timing} {q sets : List ℕ} → Placed n timing q sets → (k : ℕ) {worst : ℕ}
    → worst ≡ worst_response (tasks_of n timing) (has (get_or sets (get_or q k 0) 0)) k
    → (up_to ((tasks_of n timing).D k) worst ≡ response_of (tasks_of n timing) q k) × (margin_by ((tasks_of n timing).D k) worst ≡ margin_of (tasks_of n timing) (alongside q k) k)
unfolding response
times_placed {n} {timing} {q} {sets} w k {worst} e = rw (e ∙ ap (λ (on : ℕ → Bool). worst_response (tasks_of n timing) on k) same) (refl, refl)
  where
    same : has (get_or sets (get_or q k 0) 0) ≡ alongside q k
    same = ap (λ (l : List ℕ). has (get_or l (get_or q k 0) 0)) w.on ∙ fun_ext (λ j. ap (λ (on : ℕ → ℕ → Bool). on j (get_or q k 0)) (sets_placed q w.placeable))

module _ {t : Table} (s : Sound t) {q : List ℕ} (w : PlacementOf t q) where
  pub placeable_of : Placeable q
  placeable_of = record { few = omega (arith, w.long, s.tasks.most); known = λ k l. omega (arith, w.known k l, s.processors.most) }

  pub placed_of : {timing : Timing} {sets : List ℕ} → timing ≡ timing_of t → sets ≡ sets_of q → Placed t.tasks.count timing q sets
  placed_of same e = record {
    limits = λ p. rw same (limits_of s _ (rw (e, ← w.long) (sets_below q p)));
    placeable = placeable_of;
    long = w.long;
    on = e;
  }
