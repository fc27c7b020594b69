-- The swap law: what refutes a task on one of two interchangeable processors refutes it on the other. Assumes nothing.
use mathlib.Core.Path.{◌≡◌, refl, sym, subst, ◌∙◌}
use mathlib.Core.Logic.{inl, inr}
use mathlib.Core.Bool.{Bool}
use mathlib.Core.List.{List}
use Prim.Native.Nat.{ℕ, ◌*◌, ◌/◌, ◌≤◌, ◌<◌}
use native.Mathlib.Omega.{arith}
use lib.Dec.{T}
use lib.ListN.{get_or}
use Rattle.finite.proofs.Sum.{sum_zero}
use Rattle.finite.proofs.Some.{Answer, passes, fails, answer}
use Rattle.finite.proofs.Only.{only_out, sum_more}
use Rattle.mask.specs.Mask.{has, sum_over}
use Rattle.mask.proofs.Laws.{has_zero}
use Rattle.table.specs.declared.Table.{Table}
use Rattle.rules.specs.Placement.{placed, and_task}
use Rattle.rules.specs.Rules.{Keeps, memory_on, load_on, memory_broken, utilisation_broken}
use Rattle.rules.specs.Sets.{standing, memory_of, load_of}
use Rattle.partial.specs.declared.State.{State}
use Rattle.partial.specs.Partial.{Fits}
use Rattle.partial.proofs.OneMore.{kept_le, work}
use Rattle.region.specs.Region.{Within, Refuted}
use Rattle.rules.proofs.Placed.{placed_is}
use Rattle.region.proofs.Refuting.{and_there, and_part, and_within}
use Rattle.symmetry.specs.Symmetry.{Alike, Interchangeable}
use Rattle.symmetry.proofs.Exchange.{exchange, Exchanged, first, second, other, exchanged, exchange_back, exchange_low, renamed, renamed_placed, renamed_placement, keeps_renamed}

alike_sym : {all a b : ℕ} → Alike all a b → Alike all b a
alike_sym (inl e) = inl (sym e)
alike_sym (inr (x, y)) = inr (y, x)

-- what is part of all and fits the one fits the other
alike_fits : {all a b x : ℕ} → Alike all a b → x ≤ all → x ≤ a → x ≤ b
alike_fits (inl e) l m = omega arith
alike_fits (inr (u, v)) l m = omega arith

-- the same of loads, as 01 multiplies and as the state divides
alike_thousandths : {all a b x most-a most-b : ℕ} → Alike all a b → x ≤ all → a ≡ most-a / 1000 → b ≡ most-b / 1000 → 1000 * x ≤ most-a → 1000 * x ≤ most-b
alike_thousandths {a = a} {x = x} i l ea eb m = let u : x ≤ a = omega arith in let v = alike_fits i l u in omega arith

interchangeable_sym : {t : Table} {s : State} {p q : ℕ} → Interchangeable t s p q → Interchangeable t s q p
interchangeable_sym i = record {
  known_p = i.known_q;
  known_q = i.known_p;
  empty_p = i.empty_q;
  empty_q = i.empty_p;
  residence = λ k u. sym (i.residence k u);
  memory = alike_sym i.memory;
  load = alike_sym i.load;
}

-- ---- the rules of memory and load, as orders

module _ (t : Table) (on : ℕ → ℕ → Bool) (keeps : Keeps t on) (r : ℕ) (l : r < t.processors.count) where
  kept_memory : memory_on t on r ≤ get_or t.processors.memory r 0
  unfolding memory_broken
  kept_memory = kept_le _ _ (keeps.memory r l)

  kept_load : 1000 * load_on t on r ≤ get_or t.processors.limit r 0 * t.hyperperiod
  unfolding utilisation_broken
  kept_load = kept_le _ _ (keeps.utilisation r l)

module _ {t : Table} {s : State} (fits : Fits t s) where
  -- ---- an empty processor

  module _ (r : ℕ) (empty : get_or s.on r 0 ≡ 0) where
    nobody : (k : ℕ) → T (standing s.on k r) → ⊥
    nobody k u = rw (empty, has_zero k) at u

    -- it has all its memory and load left
    all_memory : r < t.processors.count → get_or s.memory r 0 ≡ get_or t.processors.memory r 0
    unfolding memory_on
    all_memory l = omega (arith, fits.memory r l, sum_zero t.tasks.count _ (λ k l. only_out (standing s.on k r) (get_or t.tasks.memory k 0) (nobody k)))

    all_load : r < t.processors.count → get_or s.load r 0 ≡ get_or t.processors.limit r 0 * t.hyperperiod / 1000
    unfolding load_on
    all_load l = omega (arith, fits.load r l, sum_zero t.tasks.count _ (λ k l. only_out (standing s.on k r) (work t k) (nobody k)))

  -- ---- a placement below the state

  module _ (x : List ℕ) (inside : Within (standing s.on) x) where
    -- the tasks on a processor that was empty are open ones
    was_open : (r : ℕ) → get_or s.on r 0 ≡ 0 → (k : ℕ) → k < t.tasks.count → T (placed x k r) → T (has s.left k)
    was_open r empty k l u = go (answer (has s.left k))
      where
        go : Answer (has s.left k) → T (has s.left k)
        go (passes v) = v
        go (fails f) =
            let w = fits.placed_task k l f in
            let e : w.0 ≡ r = sym (placed_is x k w.0 (inside k w.0 w.1)).1 ∙ (placed_is x k r u).1 in
            absurd (nobody r empty k (rw e at w.1))

    module _ (keeps : Keeps t (placed x)) {a b : ℕ} (i : Interchangeable t s a b) where
      -- b has room for what stands on a
      memory_room : memory_on t (placed x) a ≤ get_or t.processors.memory b 0
      unfolding memory_on memory_of sum_over
      memory_room =
          rw (← all_memory b i.empty_q i.known_q)
          (alike_fits i.memory (sum_more t.tasks.count (λ k. placed x k a) (has s.left) _ (was_open a i.empty_p)) (rw (all_memory a i.empty_p i.known_p) (kept_memory t (placed x) keeps a i.known_p)))

      load_room : 1000 * load_on t (placed x) a ≤ get_or t.processors.limit b 0 * t.hyperperiod
      unfolding load_on load_of sum_over
      load_room =
          alike_thousandths i.load (sum_more t.tasks.count (λ k. placed x k a) (has s.left) _ (was_open a i.empty_p))
          (all_load a i.empty_p i.known_p) (all_load b i.empty_q i.known_q) (kept_load t (placed x) keeps a i.known_p)

    -- with the two exchanged it keeps the rules
    module _ {p q : ℕ} (i : Interchangeable t s p q) (keeps : Keeps t (placed x)) where
      exchanged_keeps : Keeps t (λ k r. placed x k (exchange p q r))
      exchanged_keeps =
          keeps_renamed t (placed x) (exchange p q) (exchange_back p q) (exchange_low p q i.known_p i.known_q) keeps
          (λ k r l m u. residence k r l u (exchanged p q r))
          (λ r m. memory r m (exchanged p q r))
          (λ r m. load r m (exchanged p q r))
        where
          back : Interchangeable t s q p
          back = interchangeable_sym i

          residence : (k r : ℕ) → k < t.tasks.count → {y : ℕ} → T (placed x k y) → Exchanged p q r y → has (get_or t.tasks.residence k 0) r ≡ has (get_or t.tasks.residence k 0) y
          residence k r l u (first e f) = rw (e, f) (i.residence k (was_open q i.empty_q k l (rw f at u)))
          residence k r l u (second e f) = rw (e, f) (back.residence k (was_open p i.empty_p k l (rw f at u)))
          residence k r l u (other _ _ f) = rw f refl

          memory : (r : ℕ) → r < t.processors.count → {y : ℕ} → Exchanged p q r y → memory_on t (placed x) y ≤ get_or t.processors.memory r 0
          memory r m (first e f) = rw (e, f) (memory_room keeps back)
          memory r m (second e f) = rw (e, f) (memory_room keeps i)
          memory r m (other _ _ f) = rw f (kept_memory t (placed x) keeps r m)

          load : (r : ℕ) → r < t.processors.count → {y : ℕ} → Exchanged p q r y → 1000 * load_on t (placed x) y ≤ get_or t.processors.limit r 0 * t.hyperperiod
          load r m (first e f) = rw (e, f) (load_room keeps back)
          load r m (second e f) = rw (e, f) (load_room keeps i)
          load r m (other _ _ f) = rw f (kept_load t (placed x) keeps r m)

-- the placements with task k on p are, with p and q exchanged, those with it on q; and a set of tasks does not say on which processor it stands
pub swap_refuted : {t : Table} {s : State} {p q : ℕ} → Fits t s → Interchangeable t s q p → (B : (ℕ → Bool) → Type 0) (k : ℕ)
    → Refuted t B (Within (and_task (standing s.on) k q)) → Refuted t B (Within (and_task (standing s.on) k p))
swap_refuted {t} {s} {p} {q} fits i B k refuted x whole inside keeps =
    let found = refuted y (renamed_placement σ x (exchange_low q p i.known_p i.known_q) whole) there (subst (Keeps t) (sym same) (exchanged_keeps fits x part i keeps)) in
    (σ found.0, subst (λ (on : ℕ → ℕ → Bool). B (λ j. on j found.0)) same found.1)
  where
    σ : ℕ → ℕ
    σ = exchange q p

    y : List ℕ
    y = renamed σ x

    same : placed y ≡ (λ j r. placed x j (σ r))
    same = renamed_placed σ x (exchange_back q p)

    part : Within (standing s.on) x
    part j r u = inside j r (and_part (standing s.on) k p j r u)

    -- what stood elsewhere stays, and k stands on q
    stays : (j r : ℕ) → T (standing s.on j r) → {z : ℕ} → Exchanged q p r z → T (placed x j z)
    stays j r u (first e f) = absurd (nobody fits q i.empty_p j (rw e at u))
    stays j r u (second e f) = absurd (nobody fits p i.empty_q j (rw e at u))
    stays j r u (other _ _ f) = rw f (part j r u)

    moves : {z : ℕ} → Exchanged q p q z → T (placed x k z)
    moves (first e f) = rw f (inside k p (and_there (standing s.on) k p))
    moves (second e f) = rw (f, e) (inside k p (and_there (standing s.on) k p))
    moves (other d _ _) = absurd (d refl)

    there : Within (and_task (standing s.on) k q) y
    there = and_within (standing s.on) k q (placed y) (λ j r u. subst (λ (on : ℕ → ℕ → Bool). T (on j r)) (sym same) (stays j r u (exchanged q p r))) (subst (λ (on : ℕ → ℕ → Bool). T (on k q)) (sym same) (moves (exchanged q p q)))
