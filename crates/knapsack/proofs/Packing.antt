-- The candidate k taken or not, and the loop over the candidates. Assumes nothing.
use mathlib.Core.Path.{◌≡◌, refl, subst}
use mathlib.Core.Logic.{◌⊎◌, inl, inr, ⊎_elim}
use mathlib.Core.Bool.{Bool, true, false, ◌||◌}
use mathlib.Core.List.{List}
use Prim.Native.Nat.{ℕ, ◌+◌, ◌-◌, ◌≤◌, ◌<◌}
use native.Mathlib.Omega.{arith}
use native.Mathlib.Decide.{ℕ_discrete}
use borrow.Author.Tests.{ne_eqb}
use lib.Dec.{T, eqb, eqb→eq}
use lib.ListN.{get_or}
use Rattle.finite.proofs.Some.{or_left, or_right, or_either, Answer, passes, fails, answer}
use Rattle.mask.specs.Mask.{has, Subset, insert_of, remove_of}
use Rattle.mask.proofs.Laws.{has_insert, has_remove, remove_subset, remove_mono, below_has, subset_below, insert_below, sum_remove, sum_subset}
use Rattle.schedule.specs.Periodic.{Tasks}
use Rattle.schedule.specs.Arrays.{tasks_of}
use Rattle.schedule.proofs.TasksOfArrays.{valid_of, constrained_of, with_set}
use Rattle.nogoods.specs.declared.Mode.{Mode}
use Rattle.nogoods.specs.declared.Tested.{Tested}
use Rattle.nogoods.specs.Nogoods.{Extended, Bad, Verdict, Noted}
use Rattle.nogoods.proofs.Growth.{extended_refl, extended_trans, extended_map}
use Rattle.nogoods.proofs.Verdicts.{bad_grows, bad_more}
use Rattle.knapsack.specs.declared.Pack.{Pack}
use Rattle.knapsack.specs.declared.Packed.{Packed}
use Rattle.knapsack.specs.Knapsack.{weight_of, has_room, joined, Among, Takes, Packs, Begun, PackedAs, TakenAs}
use Rattle.knapsack.proofs.Taking.{takes_map, takes_room, takes_next, with_inside}
use Rattle.schedule.specs.declared.Timing.{Timing}

-- ---- the candidate k

-- the processor with k
abbrev pub with_task : List ℕ → List ℕ → List ℕ → Pack → ℕ → Pack
with_task memory loads weights pack k = record {
  on = insert_of pack.on k;
  candidates = pack.candidates;
  at = pack.at;
  space = pack.space - get_or memory k 0;
  spare = pack.spare - get_or loads k 0;
  weight = pack.weight + get_or weights k 0;
  reach = pack.reach;
  stop = pack.stop;
  best = pack.best;
  best_set = pack.best_set;
  fuel = pack.fuel;
}

module _ {n : ℕ} {timing : Timing} {k : ℕ} {pack : Pack} {old : List ℕ} {before : ℕ} (p : Packs n timing pack old before) (l : k < n) where
  -- there is no room for it
  pub taken_refused : {mode : Mode} {set fuel : ℕ} {memory exclusions loads weights : List ℕ} → has_room memory exclusions loads pack.on pack.space pack.spare k ≡ false
      → TakenAs n (tasks_of n timing) mode memory exclusions loads weights pack k old before old (record { most = pack.best; set = set; count = before; fuel = fuel })
  taken_refused e = record {
    list = extended_refl p.nogoods;
    no_less = omega arith;
    bounds = λ x w u f h. absurd (subst T e (takes_room w l u p.limits.inside));
  }

  module _ {mode : Mode} {new : List ℕ} (r : Tested) (noted : Noted (tasks_of n timing) mode (insert_of pack.on k) old before new r) where
    grown : Extended (λ c. (j : ℕ) → T (has c j) → T (eqb j k || joined pack.on pack.candidates j)) (tasks_of n timing) old before new r.count
    grown = extended_map (λ c f j u. go j (or_either (eqb j k) (has pack.on j) (rw (has_insert pack.on k j) at (f j u)))) noted.list
      where
        go : (j : ℕ) → T (eqb j k) ⊎ T (has pack.on j) → T (eqb j k || joined pack.on pack.candidates j)
        go j (inl e) = or_left (eqb j k) (joined pack.on pack.candidates j) e
        go j (inr e) = or_right (eqb j k) (joined pack.on pack.candidates j) (or_left (has pack.on j) (has pack.candidates j) e)

    module _ (memory exclusions loads weights : List ℕ) where
      -- it may not stand there
      pub taken_bad : {set fuel : ℕ} → r.bad ≡ true
          → TakenAs n (tasks_of n timing) mode memory exclusions loads weights pack k old before new (record { most = pack.best; set = set; count = r.count; fuel = fuel })
      taken_bad e = record {
        list = grown;
        no_less = omega arith;
        bounds = λ x w u f h. absurd (w.clear (bad_more (valid_of p.limits) (constrained_of p.limits) mode.listing new r.count (has (insert_of pack.on k)) (joined pack.on x)
            (with_inside pack.on x k u) (subst (λ (b : Bool). Verdict b (tasks_of n timing) mode.listing new r.count (has (insert_of pack.on k))) e noted.verdict)));
      }

      -- it may: what the calculation goes on with
      pub taken_packs : Packs n timing (with_task memory loads weights pack k) new r.count
      taken_packs = record { limits = with_set p.limits _ (insert_below n pack.on k p.limits.inside l); tasks = p.tasks; nogoods = noted.list.nogoods }

      -- and what it leaves
      pub taken_on : {last : List ℕ} (q : Packed) → PackedAs n (tasks_of n timing) mode memory exclusions loads weights (with_task memory loads weights pack k) new r.count last q
          → TakenAs n (tasks_of n timing) mode memory exclusions loads weights pack k old before last q
      taken_on q a = record {
        list = extended_trans grown (extended_map (λ c f j u. within j (or_either (has (insert_of pack.on k) j) (has pack.candidates j) (f j u))) a.list);
        no_less = a.no_less;
        bounds = λ x w u f h.
            let e = sum_remove n x (λ j. get_or weights j 0) k l u in
            let b = a.bounds (remove_of x k) (takes_next w l u) f (omega arith) in
            omega arith;
      }
        where
          within : (j : ℕ) → T (has (insert_of pack.on k) j) ⊎ T (has pack.candidates j) → T (eqb j k || joined pack.on pack.candidates j)
          within j (inl v) = ⊎_elim (or_left (eqb j k) (joined pack.on pack.candidates j))
              (λ o. or_right (eqb j k) (joined pack.on pack.candidates j) (or_left (has pack.on j) (has pack.candidates j) o))
              (or_either (eqb j k) (has pack.on j) (rw (has_insert pack.on k j) at v))
          within j (inr v) = or_right (eqb j k) (joined pack.on pack.candidates j) (or_right (has pack.on j) (has pack.candidates j) v)

-- ---- the loop

-- the loop changes the candidates, how far they are tried, their weight and the best, and nothing else
abbrev pub Same : Pack → Pack → Type 0
Same pack left = (left.on ≡ pack.on) × (left.space ≡ pack.space) × (left.spare ≡ pack.spare) × (left.weight ≡ pack.weight) × (left.stop ≡ pack.stop)

-- what a call begins with
module _ {pack left : Pack} (b : Begun pack left) where
  pub begun_packs : {n : ℕ} {timing : Timing} {list : List ℕ} {count : ℕ} → Packs n timing pack list count → Packs n timing left list count
  begun_packs p = record { limits = rw b.on p.limits; tasks = rw b.candidates p.tasks; nogoods = p.nogoods }

  pub begun_packed : {n : ℕ} {s : Tasks} {mode : Mode} {memory exclusions loads weights old : List ℕ} {before : ℕ} {new : List ℕ} (r : Packed)
      → PackedAs n s mode memory exclusions loads weights left old before new r → PackedAs n s mode memory exclusions loads weights pack old before new r
  begun_packed r a = record {
    list = extended_map (λ c f k u. rw (b.on, b.candidates) at (f k u)) a.list;
    no_less = omega (arith, b.no_less, a.no_less);
    bounds = rw (b.on, b.candidates, b.space, b.spare, b.weight, b.stop) at a.bounds;
  }

-- what can be taken is all still left, or it is within the best so far
pub record Packing (n : ℕ) (s : Tasks) (mode : Mode) (memory exclusions loads weights : List ℕ) (pack : Pack) (old : List ℕ) (before left all top : ℕ) (new : List ℕ) (listed : ℕ)
    : Type 0 where
  pub list : Extended (Among pack) s old before new listed
  pub no_less : pack.best ≤ top
  pub reaches : all ≡ pack.weight + weight_of n weights left
  pub inside : Subset left pack.candidates
  pub bounds : (x : ℕ) → Takes n memory exclusions loads (Bad s mode.listing new listed) pack.on pack.space pack.spare x → Subset x pack.candidates
      → pack.weight + weight_of n weights x ≤ pack.stop → Subset x left ⊎ (pack.weight + weight_of n weights x ≤ top)

pub packing_start : {n : ℕ} {timing : Timing} {mode : Mode} {memory exclusions loads weights : List ℕ} {pack left : Pack} {old : List ℕ} {before : ℕ}
    → Begun pack left → Packs n timing pack old before → pack.reach ≡ pack.weight + weight_of n weights pack.candidates
    → Packing n (tasks_of n timing) mode memory exclusions loads weights left old before left.candidates left.reach left.best old before
packing_start b p e = record {
  list = extended_refl p.nogoods;
  no_less = omega arith;
  reaches = rw (b.reach, b.weight, b.candidates) e;
  inside = λ k u. u;
  bounds = λ x w f h. inl f;
}

module _ {n : ℕ} {timing : Timing} {mode : Mode} {memory exclusions loads weights : List ℕ} {pack : Pack} {old : List ℕ} {before : ℕ}
    (p : Packs n timing pack old before) where
  module _ {left all top : ℕ} {list : List ℕ} {listed : ℕ}
      (w : Packing n (tasks_of n timing) mode memory exclusions loads weights pack old before left all top list listed) where
    module _ (k : ℕ) (u : T (has left k)) where
      pub packing_task : k < n
      packing_task = below_has n pack.candidates p.tasks k (w.inside k u)

      pub packing_reach : all ≡ pack.weight + get_or weights k 0 + weight_of n weights (remove_of left k)
      packing_reach = omega (arith, w.reaches, sum_remove n left (λ j. get_or weights j 0) k packing_task u)

      module _ {next : Pack} (same : Same pack next) (e : next.candidates ≡ remove_of left k) where
        pub packing_packs : Packs n timing next list listed
        packing_packs = record {
          limits = with_set p.limits _ (rw same.0 p.limits.inside);
          tasks = rw e (subset_below n (remove_of left k) pack.candidates (λ j v. w.inside j (remove_subset left k j v)) p.tasks);
          nogoods = w.list.nogoods;
        }

        pub packing_next : next.best ≡ top → {new : List ℕ} (r : Packed) → TakenAs n (tasks_of n timing) mode memory exclusions loads weights next k list listed new r
            → Packing n (tasks_of n timing) mode memory exclusions loads weights pack old before (remove_of left k) (all - get_or weights k 0) r.most new r.count
        packing_next b {new} r a = record {
          list = extended_trans w.list (extended_map (λ c f j v. among j (or_either (eqb j k) (joined pack.on (remove_of left k) j) (rw (same.0, e) at (f j v)))) a.list);
          no_less = omega (arith, w.no_less, a.no_less);
          reaches = omega (arith, packing_reach);
          inside = λ j v. w.inside j (remove_subset left k j v);
          bounds = λ x c f h. go x c h (w.bounds x (takes_map (λ y. bad_grows (tasks_of n timing) mode.listing y a.list.grows) c) f h);
        }
          where
            among : (j : ℕ) → T (eqb j k) ⊎ T (joined pack.on (remove_of left k) j) → T (joined pack.on pack.candidates j)
            among j (inl i) = or_right (has pack.on j) (has pack.candidates j) (rw (eqb→eq j k i) (w.inside k u))
            among j (inr v) = ⊎_elim (or_left (has pack.on j) (has pack.candidates j))
                (λ y. or_right (has pack.on j) (has pack.candidates j) (w.inside j (remove_subset left k j y)))
                (or_either (has pack.on j) (has (remove_of left k) j) v)

            go : (x : ℕ) → Takes n memory exclusions loads (Bad (tasks_of n timing) mode.listing new r.count) pack.on pack.space pack.spare x
                → pack.weight + weight_of n weights x ≤ pack.stop → Subset x left ⊎ (pack.weight + weight_of n weights x ≤ top)
                → Subset x (remove_of left k) ⊎ (pack.weight + weight_of n weights x ≤ r.most)
            go x c h (inr d) = inr (omega (arith, a.no_less))
            go x c h (inl f) = pick (answer (has x k))
              where
                pick : Answer (has x k) → Subset x (remove_of left k) ⊎ (pack.weight + weight_of n weights x ≤ r.most)
                pick (passes v) = inr (omega (arith, a.bounds x (rw (same.0, same.1, same.2) c) v (rw e (remove_mono x left k f)) (omega (arith, same.3, same.4)), same.3))
                pick (fails g) = inl (λ j v. other j v (ℕ_discrete j k))
                  where
                    other : (j : ℕ) → T (has x j) → Dec (j ≡ k) → T (has (remove_of left k) j)
                    other j v (yes i) = absurd (g (rw i at v))
                    other j v (no i) = rw (has_remove left k j, ne_eqb j k i) (f j v)

    -- the end: what is still left counts in full, unless the best is no less anyway
    pub packing_end : (most : ℕ) {set fuel : ℕ} → top ≤ most → pack.stop ≤ most ⊎ all ≤ most
        → PackedAs n (tasks_of n timing) mode memory exclusions loads weights pack old before list (record { most = most; set = set; count = listed; fuel = fuel })
    packing_end most a b = record {
      list = w.list;
      no_less = omega (arith, w.no_less);
      bounds = λ x c f h. go x h b (w.bounds x c f h);
    }
      where
        go : (x : ℕ) → pack.weight + weight_of n weights x ≤ pack.stop → pack.stop ≤ most ⊎ all ≤ most → Subset x left ⊎ (pack.weight + weight_of n weights x ≤ top)
            → pack.weight + weight_of n weights x ≤ most
        go x h (inl c) (inl f) = omega arith
        go x h (inl c) (inr d) = omega arith
        go x h (inr c) (inr d) = omega arith
        go x h (inr c) (inl f) = omega (arith, sum_subset n x left (λ j. get_or weights j 0) f, w.reaches)
