-- The tests on the lent rows decide whether the open task k on processor p keeps the rules. Assumes nothing.
use mathlib.Core.Path.{◌≡◌, refl, ◌∙◌, ap}
use mathlib.Core.Logic.{◌≢◌, ◌⊎◌, inl, inr}
use mathlib.Core.Bool.{Bool, true, false, not, ◌&&◌, ◌||◌, cond}
use Rattle.std.proofs.Common.{Some, None}
use Prim.Native.Nat.{ℕ, ◌+◌, ◌*◌, ◌/◌, ◌≤◌, ◌<◌}
use native.Mathlib.Omega.{arith}
use borrow.Author.Tests.{leb-true, leb-false}
use lib.Dec.{T, leb, ltb, T_not, not_T, leb→le, le→leb, ltb→lt, lt→ltb}
use lib.ListN.{get_or}
use Rattle.finite.proofs.Some.{or_left, or_right, or_either}
use Rattle.mask.specs.Mask.{has}
use Rattle.mask.proofs.Tests.{same_test, and_both, and_left, and_right}
use Rattle.mask.proofs.Laws.{has_mask}
use Rattle.table.specs.declared.Table.{Table}
use Rattle.rules.specs.Placement.{and_task, elsewhere}
use Rattle.rules.specs.Rules.{traffic, network_broken, Keeps}
use Rattle.rules.specs.Sets.{standing, meets}
use Rattle.rules.proofs.Where.{elsewhere_elim, elsewhere_intro}
use Rattle.rows.specs.Rows.{beside_of, messages_of}
use Rattle.rows.proofs.Laws.{loads_get, neighbours_get}
use Rattle.partial.specs.declared.State.{State}
use Rattle.partial.specs.declared.Sizes.{Sizes}
use Rattle.partial.specs.Partial.{Lent, Fits, site_of}
use Rattle.partial.specs.declared.Site.{Site}
use Rattle.partial.specs.Tests.{neither, suits, between, trial_of, TrialOf}
use Rattle.partial.proofs.OneMore as one
use Rattle.rows.specs.declared.Rows.{Rows}
use Rattle.rows.specs.declared.Messages.{Messages}

-- the tasks on other processors than p, as the code finds them
abbrev pub others_than : Sizes → State → ℕ → ℕ
others_than sizes s p = neither sizes.tasks s.left (get_or s.on p 0)

-- the open tasks where a processor is looked at are those of the state
pub left_at : (s : State) (p : ℕ) {site : Site} → site ≡ site_of s p → site.left ≡ s.left
left_at s p = ap (λ (x : Site). x.left)

pub free_at : (s : State) (k p : ℕ) {site : Site} → site ≡ site_of s p → T (has site.left k) → T (has s.left k)
free_at s k p e = rw (left_at s p e) (λ u. u)

-- the rules are kept with task k on p
abbrev pub KeepsWith : Table → State → ℕ → ℕ → Type 0
KeepsWith t s k p = Keeps t (and_task (standing s.on) k p)

-- the tasks that are neither open nor on p stand on another processor
pub others_stand : {t : Table} {s : State} → Fits t s → (p j : ℕ)
    → has (neither t.tasks.count s.left (get_or s.on p 0)) j ≡ elsewhere t.processors.count p (standing s.on j)
unfolding neither
others_stand {t} {s} f p j = has_mask n (λ i. not (has here i || has s.left i)) j ∙ same_test (ltb j n && out) (elsewhere m p (standing s.on j)) forth back
  where
    n : ℕ
    n = t.tasks.count

    m : ℕ
    m = t.processors.count

    here : ℕ
    here = get_or s.on p 0

    out : Bool
    out = not (has here j || has s.left j)

    forth : T (ltb j n && out) → T (elsewhere m p (standing s.on j))
    forth u =
        let nowhere = T_not (has here j || has s.left j) (and_right (ltb j n) out u) in
        let at = f.placed_task j (ltb→lt j n (and_left (ltb j n) out u)) (λ x. nowhere (or_right (has here j) (has s.left j) x)) in
        elsewhere_intro m (standing s.on j) (f.partial.processor j at.0 at.1) (λ e. nowhere (or_left (has here j) (has s.left j) (rw e at at.1))) at.1

    back : T (elsewhere m p (standing s.on j)) → T (ltb j n && out)
    back u =
        let e = elsewhere_elim m (standing s.on j) u in
        and_both (ltb j n) out (lt→ltb j n (f.partial.task j e.0 e.3))
        (not_T (has here j || has s.left j) (λ x. go e.0 e.3 e.2 (or_either (has here j) (has s.left j) x)))
      where
        go : (r : ℕ) → T (standing s.on j r) → r ≢ p → T (has here j) ⊎ T (has s.left j) → ⊥
        go r v d (inl x) = d (f.partial.once j r p v x)
        go r v d (inr x) = (f.open_task j x).1 r v

module _ {t : Table} {sizes : Sizes} {rows : Rows} {links : Messages} {s : State}
    (e : Lent t sizes rows links) (f : Fits t s)
    (k p : ℕ) (free : T (has s.left k)) (low : p < sizes.processors) where
  task : k < t.tasks.count
  task = (f.open_task k free).0

  on_table : p < t.processors.count
  on_table = omega (arith, e.processors)

  excluded_at : get_or rows.exclusions k 0 ≡ beside_of t.ex t.tasks.count k
  excluded_at = rw e.same_exclusions (neighbours_get t e.sound t.ex k task)

  partners_at : get_or rows.partners k 0 ≡ beside_of t.co t.tasks.count k
  partners_at = rw e.same_partners (neighbours_get t e.sound t.co k task)

  pub load_at : get_or rows.load k 0 ≡ get_or t.tasks.c k 0 * t.hyperperiod / get_or t.tasks.t k 0
  load_at = rw e.same_loads (loads_get t e.sound k task)

  others_at : (j : ℕ) → has (others_than sizes s p) j ≡ elsewhere t.processors.count p (standing s.on j)
  others_at j = rw e.tasks (others_stand f p j)

  between_as : between (messages_of t) t.messages.count k (others_than sizes s p) ≡ between links sizes.messages k (others_than sizes s p)
  unfolding between
  between_as = rw (e.same_sender, e.same_receiver, e.same_amounts, e.messages) refl

  -- what task k on p adds to the network
  pub traffic_with : traffic t (and_task (standing s.on) k p)
      ≡ traffic t (standing s.on) + between links sizes.messages k (others_than sizes s p)
  traffic_with =
      one.traffic_more t e.sound (standing s.on) f.keeps k p task on_table (f.open_task k free).1 (others_than sizes s p) others_at
      ∙ ap (λ (x : ℕ). traffic t (standing s.on) + x) between_as

  -- ---- rules that are kept

  pub keeps_memory : KeepsWith t s k p → get_or rows.memory k 0 ≤ get_or s.memory p 0
  keeps_memory keeps = rw e.same_memory
      (one.memory_needed t e.sound (standing s.on) f.keeps k p task on_table (f.open_task k free).1 (get_or s.memory p 0) (f.memory p on_table) keeps)

  pub keeps_load : KeepsWith t s k p → get_or rows.load k 0 ≤ get_or s.load p 0
  keeps_load keeps = rw load_at
      (one.utilisation_needed t e.sound (standing s.on) f.keeps k p task on_table (f.open_task k free).1 (get_or s.load p 0) (f.load p on_table) keeps)

  pub keeps_whole : KeepsWith t s k p → T (meets (get_or rows.partners k 0) (others_than sizes s p)) → ⊥
  keeps_whole keeps = rw partners_at
      (one.co_residence_needed t e.sound (standing s.on) f.keeps k p task on_table (f.open_task k free).1 (others_than sizes s p) others_at keeps)

  pub keeps_carries : KeepsWith t s k p → between links sizes.messages k (others_than sizes s p) ≤ s.traffic
  unfolding network_broken
  keeps_carries keeps =
      omega (arith, traffic_with, f.traffic, one.kept_le (t.capacity * t.hyperperiod) (traffic t (and_task (standing s.on) k p)) keeps.network)

  -- what the task itself asks of p
  pub keeps_suits : KeepsWith t s k p → T (suits rows (site_of s p) k p)
  unfolding suits
  keeps_suits keeps =
      let old = f.keeps in
      and_both (has (get_or rows.residence k 0) p && leb (get_or rows.memory k 0) (get_or s.memory p 0)) _
      (and_both (has (get_or rows.residence k 0) p) _
      (rw e.same_residence (one.residence_needed t e.sound (standing s.on) old k p task on_table keeps))
      (le→leb _ _ (keeps_memory keeps)))
      (and_both (leb (get_or rows.load k 0) (get_or s.load p 0)) _
      (le→leb _ _ (keeps_load keeps))
      (not_T (meets (get_or rows.exclusions k 0) (get_or s.on p 0)) (rw excluded_at (one.exclusion_needed t e.sound (standing s.on) old k p task on_table (get_or s.on p 0) (λ j. refl) keeps))))

  -- tests that pass
  pub tests_keep : T (suits rows (site_of s p) k p)
      → (T (meets (get_or rows.partners k 0) (others_than sizes s p)) → ⊥)
      → between links sizes.messages k (others_than sizes s p) ≤ s.traffic
      → KeepsWith t s k p
  unfolding suits network_broken
  tests_keep u whole carries =
      let old = f.keeps in
      let sound = e.sound in
      let on = standing s.on in
      let new = (f.open_task k free).1 in
      let first = and_left (has (get_or rows.residence k 0) p && leb (get_or rows.memory k 0) (get_or s.memory p 0)) _ u in
      let second = and_right (has (get_or rows.residence k 0) p && leb (get_or rows.memory k 0) (get_or s.memory p 0)) _ u in
      record {
        residence = one.residence_kept t sound on old k p task on_table (rw e.same_residence at (and_left (has (get_or rows.residence k 0) p) _ first));
        co_residence = one.co_residence_kept t sound on old k p task on_table new (others_than sizes s p) others_at (rw partners_at at whole);
        exclusion = one.exclusion_kept t sound on old k p task on_table (get_or s.on p 0) (λ j. refl)
            (rw excluded_at at (T_not (meets (get_or rows.exclusions k 0) (get_or s.on p 0)) (and_right (leb (get_or rows.load k 0) (get_or s.load p 0)) _ second)));
        memory = one.memory_kept t sound on old k p task on_table new (get_or s.memory p 0) (f.memory p on_table)
            (rw e.same_memory at (leb→le (get_or rows.memory k 0) (get_or s.memory p 0) (and_right (has (get_or rows.residence k 0) p) _ first)));
        utilisation = one.utilisation_kept t sound on old k p task on_table new (get_or s.load p 0) (f.load p on_table)
            (rw load_at at (leb→le (get_or rows.load k 0) (get_or s.load p 0) (and_left (leb (get_or rows.load k 0) (get_or s.load p 0)) _ second)));
        network = one.le_kept (t.capacity * t.hyperperiod) (traffic t (and_task on k p)) (omega (arith, traffic_with, f.traffic));
      }

  -- ---- so the trial is right

  pub trial_right : TrialOf t s k p (trial_of rows links sizes (site_of s p) k p)
  unfolding trial_of
  trial_right = go (suits rows (site_of s p) k p) (meets (get_or rows.partners k 0) (others_than sizes s p)) refl refl
    where
      added : ℕ
      added = between links sizes.messages k (others_than sizes s p)

      network : T (suits rows (site_of s p) k p) → (T (meets (get_or rows.partners k 0) (others_than sizes s p)) → ⊥) → (x : Bool) → leb added s.traffic ≡ x → TrialOf t s k p (cond x (Some added) None)
      network own whole true q = record { keeps = tests_keep own whole (leb-true added s.traffic q); traffic = traffic_with }
      network own whole false q = λ keeps. omega (arith, leb-false added s.traffic q, keeps_carries keeps)

      go : (own parted : Bool) → suits rows (site_of s p) k p ≡ own → meets (get_or rows.partners k 0) (others_than sizes s p) ≡ parted
          → TrialOf t s k p (cond (own && not parted) (cond (leb added s.traffic) (Some added) None) None)
      go false parted e f = λ keeps. rw e at (keeps_suits keeps)
      go true true e f = λ keeps. keeps_whole keeps (rw f tt)
      go true false e f = network (rw e tt) (λ u. rw f at u) (leb added s.traffic) refl

  -- ---- what the rows and sizes are below

  pub bounds : (k < 24) × (p < 8) × (sizes.tasks ≤ 24)
  bounds =
      let sound = e.sound in
      (omega (arith, task, sound.tasks.most), omega (arith, sound.processors.most, on_table), omega (arith, e.tasks, sound.tasks.most))
