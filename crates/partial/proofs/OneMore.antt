-- One task more on a processor: the placement rules are kept exactly if the tests pass. Assumes nothing.
use mathlib.Core.Path.{◌≡◌, refl, sym, ap, ◌∙◌}
use mathlib.Core.Logic.{◌≢◌, ◌⊎◌, inl, inr}
use mathlib.Core.Bool.{Bool, not, ◌&&◌}
use Prim.Native.Nat.{ℕ, ◌+◌, ◌*◌, ◌/◌, ◌≤◌, ◌<◌}
use native.Mathlib.Omega.{arith}
use native.Mathlib.Decide.{ℕ_discrete, dec_le}
use lib.Dec.{T, eqb, ltb, T_not, not_T, ltb→lt, lt→ltb, eqb→eq, eqb_refl}
use lib.ListN.{get_or}
use Rattle.finite.specs.Finite.{only}
use Rattle.finite.proofs.Sum.{sum_ext}
use Rattle.finite.proofs.Some.{Answer, passes, fails, answer, or_left, or_right, or_either, some_intro, some_elim}
use Rattle.mask.specs.Mask.{has}
use Rattle.mask.proofs.Tests.{and_both, and_left, and_right}
use Rattle.table.specs.declared.Table.{Table}
use Rattle.table.specs.Sound.{Sound}
use Rattle.table.proofs.Columns.{column_in}
use Rattle.rules.specs.Placement.{and_task, Part, elsewhere, apart, together}
use Rattle.rules.specs.Rules.{residence_broken, co_residence_broken, exclusion_broken, memory_on, memory_broken, load_on, utilisation_broken, crosses_by, amount_of, traffic, Keeps}
use Rattle.rules.specs.Sets.{meets}
use Rattle.rules.proofs.Where.{differ, different, elsewhere_elim, elsewhere_intro, apart_elim, apart_intro, together_elim, together_intro, pair_elim, pair_intro}
use Rattle.rules.proofs.Step.{step_memory, step_memory_other, step_load, step_load_other, step_traffic}
use Rattle.rows.specs.Rows.{amounts_of, beside_of, messages_of}
use Rattle.rows.proofs.Laws.{beside_in, beside_out, beside_below}
use Rattle.partial.specs.Tests.{joins, between}
use Rattle.partial.proofs.MaskSets.{meets_elim, meets_intro}

-- task k stands on p too: an old place, or the new one
module _ (on : ℕ → ℕ → Bool) (k p : ℕ) where
  pub stood : (i r : ℕ) → T (and_task on k p i r) → ((i ≡ k) × (r ≡ p)) ⊎ T (on i r)
  stood i r t = go (or_either (eqb i k && eqb r p) (on i r) t)
    where
      go : T (eqb i k && eqb r p) ⊎ T (on i r) → ((i ≡ k) × (r ≡ p)) ⊎ T (on i r)
      go (inl u) = inl (eqb→eq i k (and_left (eqb i k) (eqb r p) u), eqb→eq r p (and_right (eqb i k) (eqb r p) u))
      go (inr u) = inr u

  pub stays : Part on (and_task on k p)
  stays i r t = or_right (eqb i k && eqb r p) (on i r) t

  pub stands : T (and_task on k p k p)
  stands = or_left (eqb k k && eqb p p) (on k p) (and_both (eqb k k) (eqb p p) (eqb_refl k) (eqb_refl p))

-- a sum is not above its limit, and the other way round
pub kept_le : (a x : ℕ) → (T (ltb a x) → ⊥) → x ≤ a
kept_le a x f = go (dec_le x a)
  where
    go : Dec (x ≤ a) → x ≤ a
    go (yes l) = l
    go (no l) = absurd (f (lt→ltb a x (omega arith)))

pub le_kept : (a x : ℕ) → x ≤ a → T (ltb a x) → ⊥
le_kept a x l t = omega (arith, ltb→lt a x t)

-- a load within thousandths of a full one, as 01 multiplies and as the code divides
in_thousandths : (x y : ℕ) → x ≤ y / 1000 → 1000 * x ≤ y
in_thousandths x y l = omega arith

of_thousandths : (x y : ℕ) → 1000 * x ≤ y → x ≤ y / 1000
of_thousandths x y l = omega arith

-- the load of task k
abbrev pub work : Table → ℕ → ℕ
work t k = get_or t.tasks.c k 0 * t.hyperperiod / get_or t.tasks.t k 0

-- the test is passed, where its failure is absurd
by_contradiction : (b : Bool) → ((T b → ⊥) → ⊥) → T b
by_contradiction b g = go (answer b)
  where
    go : Answer b → T b
    go (passes u) = u
    go (fails h) = absurd (g h)

module _ (t : Table) (sound : Sound t) (on : ℕ → ℕ → Bool) (old : Keeps t on) (k p : ℕ) (task : k < t.tasks.count) (low : p < t.processors.count) where
  -- ---- residence

  pub residence_kept : T (has (get_or t.tasks.residence k 0) p) → (i : ℕ) → i < t.tasks.count → T (residence_broken t (and_task on k p) i) → ⊥
  unfolding residence_broken
  residence_kept may i l b =
      let r = some_elim t.processors.count (λ q. and_task on k p i q && not (has (get_or t.tasks.residence i 0) q)) b in
      let out = not (has (get_or t.tasks.residence i 0) r.0) in
      go r.0 r.1 (and_right (and_task on k p i r.0) out r.2) (stood on k p i r.0 (and_left (and_task on k p i r.0) out r.2))
    where
      go : (q : ℕ) → q < t.processors.count → T (not (has (get_or t.tasks.residence i 0) q)) → ((i ≡ k) × (q ≡ p)) ⊎ T (on i q) → ⊥
      go q h u (inl e) = T_not (has (get_or t.tasks.residence i 0) q) u (rw (e.0, e.1) may)
      go q h u (inr v) = old.residence i l (some_intro t.processors.count (λ x. on i x && not (has (get_or t.tasks.residence i 0) x)) q h (and_both (on i q) _ v u))

  pub residence_needed : Keeps t (and_task on k p) → T (has (get_or t.tasks.residence k 0) p)
  unfolding residence_broken
  residence_needed keeps = by_contradiction (has (get_or t.tasks.residence k 0) p) (λ g.
      keeps.residence k task
      (some_intro t.processors.count (λ q. and_task on k p k q && not (has (get_or t.tasks.residence k 0) q)) p low
      (and_both (and_task on k p k p) _ (stands on k p) (not_T (has (get_or t.tasks.residence k 0) p) g))))

  -- ---- co_residence

  module _ (new : (r : ℕ) → T (on k r) → ⊥) (others : ℕ) (o : (j : ℕ) → has others j ≡ elsewhere t.processors.count p (on j)) where
    pub co_residence_kept : (T (meets (beside_of t.co t.tasks.count k) others) → ⊥) → (g : ℕ) → g < t.co.count → T (co_residence_broken t (and_task on k p) g) → ⊥
    unfolding co_residence_broken
    co_residence_kept whole g l b =
        let m = t.processors.count in
        let s = pair_elim t.tasks.count group (λ i j. apart m (and_task on k p i) (and_task on k p j)) b in
        let a = apart_elim m (and_task on k p s.0) (and_task on k p s.1) s.6 in
        go s.0 s.1 s.2 s.3 s.4 s.5 a.0 a.1 a.2 a.3 a.4 (stood on k p s.0 a.0 a.5) (stood on k p s.1 a.1 a.6)
      where
        group : ℕ
        group = get_or t.co.mask g 0

        -- a task of k's group elsewhere
        split : (j r : ℕ) → j < t.tasks.count → r < t.processors.count → r ≢ p → T (on j r) → T (has group k) → T (has group j) → ⊥
        split j r lj h d u in-k in-j =
            whole (meets_intro (beside_of t.co t.tasks.count k) others j
            (beside_in t.co t.tasks.count k j g lj (λ e. new r (rw e at u)) l in-k in-j)
            (rw (o j) (elsewhere_intro t.processors.count (on j) h d u)))

        go : (i j : ℕ) → i < t.tasks.count → j < t.tasks.count → T (has group i) → T (has group j) → (q r : ℕ) → q < t.processors.count → r < t.processors.count → r ≢ q
            → ((i ≡ k) × (q ≡ p)) ⊎ T (on i q) → ((j ≡ k) × (r ≡ p)) ⊎ T (on j r) → ⊥
        go i j li lj in-i in-j q r lq lr d (inl x) (inl y) = d (y.1 ∙ sym x.1)
        go i j li lj in-i in-j q r lq lr d (inl x) (inr v) = split j r lj lr (λ e. d (e ∙ sym x.1)) v (rw x.0 at in-i) in-j
        go i j li lj in-i in-j q r lq lr d (inr u) (inl y) = split i q li lq (λ e. d (y.1 ∙ sym e)) u (rw y.0 at in-j) in-i
        go i j li lj in-i in-j q r lq lr d (inr u) (inr v) =
            old.co_residence g l (pair_intro t.tasks.count group (λ i j. apart t.processors.count (on i) (on j)) i j li lj in-i in-j (apart_intro t.processors.count (on i) (on j) lq lr d u v))

    pub co_residence_needed : Keeps t (and_task on k p) → T (meets (beside_of t.co t.tasks.count k) others) → ⊥
    unfolding co_residence_broken
    co_residence_needed keeps b =
        let n = t.tasks.count in
        let m = t.processors.count in
        let r = meets_elim n (beside_of t.co n k) others (beside_below t.co n k) b in
        let j = r.0 in
        let g = beside_out t.co n k j r.1 in
        let e = elsewhere_elim m (on j) (rw (o j) at r.2) in
        keeps.co_residence g.2 g.3
        (pair_intro n (get_or t.co.mask g.2 0) (λ i j. apart m (and_task on k p i) (and_task on k p j)) k j task g.0 g.4 g.5
        (apart_intro m (and_task on k p k) (and_task on k p j) low e.1 e.2 (stands on k p) (stays on k p j e.0 e.3)))

  -- ---- exclusion

  module _ (here : ℕ) (h : (j : ℕ) → has here j ≡ on j p) where
    pub exclusion_kept : (T (meets (beside_of t.ex t.tasks.count k) here) → ⊥) → (g : ℕ) → g < t.ex.count → T (exclusion_broken t (and_task on k p) g) → ⊥
    unfolding exclusion_broken
    exclusion_kept alone g l b =
        let m = t.processors.count in
        let s = pair_elim t.tasks.count group (λ i j. not (eqb i j) && together m (and_task on k p i) (and_task on k p j)) b in
        let i = s.0 in
        let j = s.1 in
        let both = together m (and_task on k p i) (and_task on k p j) in
        let a = together_elim m (and_task on k p i) (and_task on k p j) (and_right (not (eqb i j)) both s.6) in
        go i j s.2 s.3 s.4 s.5 (different i j (and_left (not (eqb i j)) both s.6)) a.0 a.1 (stood on k p i a.0 a.2) (stood on k p j a.0 a.3)
      where
        group : ℕ
        group = get_or t.ex.mask g 0

        -- a task of k's group on p
        beside : (j : ℕ) → j < t.tasks.count → j ≢ k → T (on j p) → T (has group k) → T (has group j) → ⊥
        beside j lj d u in-k in-j = alone (meets_intro (beside_of t.ex t.tasks.count k) here j (beside_in t.ex t.tasks.count k j g lj d l in-k in-j) (rw (h j) u))

        go : (i j : ℕ) → i < t.tasks.count → j < t.tasks.count → T (has group i) → T (has group j) → i ≢ j → (q : ℕ) → q < t.processors.count
            → ((i ≡ k) × (q ≡ p)) ⊎ T (on i q) → ((j ≡ k) × (q ≡ p)) ⊎ T (on j q) → ⊥
        go i j li lj in-i in-j d q lq (inl x) (inl y) = d (x.0 ∙ sym y.0)
        go i j li lj in-i in-j d q lq (inl x) (inr v) = beside j lj (λ e. d (x.0 ∙ sym e)) (rw x.1 at v) (rw x.0 at in-i) in-j
        go i j li lj in-i in-j d q lq (inr u) (inl y) = beside i li (λ e. d (e ∙ sym y.0)) (rw y.1 at u) (rw y.0 at in-j) in-i
        go i j li lj in-i in-j d q lq (inr u) (inr v) =
            old.exclusion g l (pair_intro t.tasks.count group (λ i j. not (eqb i j) && together t.processors.count (on i) (on j)) i j li lj in-i in-j
            (and_both (not (eqb i j)) (together t.processors.count (on i) (on j)) (differ i j d) (together_intro t.processors.count (on i) (on j) lq u v)))

    pub exclusion_needed : Keeps t (and_task on k p) → T (meets (beside_of t.ex t.tasks.count k) here) → ⊥
    unfolding exclusion_broken
    exclusion_needed keeps b =
        let n = t.tasks.count in
        let m = t.processors.count in
        let r = meets_elim n (beside_of t.ex n k) here (beside_below t.ex n k) b in
        let j = r.0 in
        let g = beside_out t.ex n k j r.1 in
        keeps.exclusion g.2 g.3
        (pair_intro n (get_or t.ex.mask g.2 0) (λ i j. not (eqb i j) && together m (and_task on k p i) (and_task on k p j)) j k g.0 task g.5 g.4
        (and_both (not (eqb j k)) (together m (and_task on k p j) (and_task on k p k)) (differ j k g.1)
        (together_intro m (and_task on k p j) (and_task on k p k) low (stays on k p j p (rw (h j) at r.2)) (stands on k p))))

  -- ---- memory, utilisation and network, from what is left of each

  module _ (new : (r : ℕ) → T (on k r) → ⊥) where
    pub memory_kept : (left : ℕ) → left + memory_on t on p ≡ get_or t.processors.memory p 0 → get_or t.tasks.memory k 0 ≤ left
        → (r : ℕ) → r < t.processors.count → T (memory_broken t (and_task on k p) r) → ⊥
    unfolding memory_broken
    memory_kept left e fit r l b = go (ℕ_discrete r p)
      where
        go : Dec (r ≡ p) → ⊥
        go (yes q) = le_kept (get_or t.processors.memory p 0) (memory_on t (and_task on k p) p) (omega (arith, step_memory t on k p task (new p))) (rw q at b)
        go (no q) = old.memory r l (rw (step_memory_other t on k p q) at b)

    pub memory_needed : (left : ℕ) → left + memory_on t on p ≡ get_or t.processors.memory p 0 → Keeps t (and_task on k p) → get_or t.tasks.memory k 0 ≤ left
    unfolding memory_broken
    memory_needed left e keeps = omega (arith, step_memory t on k p task (new p), kept_le (get_or t.processors.memory p 0) (memory_on t (and_task on k p) p) (keeps.memory p low))

    pub utilisation_kept : (left : ℕ) → left + load_on t on p ≡ get_or t.processors.limit p 0 * t.hyperperiod / 1000 → work t k ≤ left
        → (r : ℕ) → r < t.processors.count → T (utilisation_broken t (and_task on k p) r) → ⊥
    unfolding utilisation_broken
    utilisation_kept left e fit r l b = go (ℕ_discrete r p)
      where
        go : Dec (r ≡ p) → ⊥
        go (yes q) =
            let most = get_or t.processors.limit p 0 * t.hyperperiod in
            let now = load_on t (and_task on k p) p in
            le_kept most (1000 * now) (in_thousandths now most (omega (arith, step_load t on k p task (new p)))) (rw q at b)
        go (no q) = old.utilisation r l (rw (step_load_other t on k p q) at b)

    pub utilisation_needed : (left : ℕ) → left + load_on t on p ≡ get_or t.processors.limit p 0 * t.hyperperiod / 1000 → Keeps t (and_task on k p) → work t k ≤ left
    unfolding utilisation_broken
    utilisation_needed left e keeps =
        let most = get_or t.processors.limit p 0 * t.hyperperiod in
        let now = load_on t (and_task on k p) p in
        omega (arith, step_load t on k p task (new p), of_thousandths now most (kept_le most (1000 * now) (keeps.utilisation p low)))

    module _ (others : ℕ) (o : (j : ℕ) → has others j ≡ elsewhere t.processors.count p (on j)) where
      pub traffic_more : traffic t (and_task on k p) ≡ traffic t on + between (messages_of t) t.messages.count k others
      unfolding between amounts_of
      traffic_more =
          step_traffic t sound on k p low new
          ∙ ap (λ (x : ℕ). traffic t on + x)
          (sum_ext t.messages.count (λ j. only (crosses_by t on k p j) (amount_of t j)) (λ j. only (joins k others (from j) (to j)) (get_or (amounts_of t) j 0))
          (λ j l. rw (← o (from j), ← o (to j), column_in 64 t.messages.count (amount_of t) j sound.messages.most l) refl))
        where
          from : ℕ → ℕ
          from j = get_or t.messages.sender j 0

          to : ℕ → ℕ
          to j = get_or t.messages.receiver j 0
