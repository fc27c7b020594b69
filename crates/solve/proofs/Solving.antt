-- The search from the empty placement: what it begins with, and what it has settled in the end. Assumes nothing.
use mathlib.Core.Path.{◌≡◌, refl, ◌∙◌}
use mathlib.Core.Logic.{inl}
use mathlib.Core.Bool.{Bool, true, false}
use mathlib.Core.List.{List}
use Prim.Native.Nat.{ℕ, ◌≤◌, ◌<◌}
use native.Mathlib.Omega.{arith}
use lib.Dec.{T}
use lib.ListN.{length, get_or}
use Rattle.mask.specs.Mask.{has}
use Rattle.std.specs.Prelude.{Some, None}
use Rattle.table.specs.declared.Table.{Table}
use Rattle.table.specs.Sound.{Sound}
use Rattle.schedule.proofs.LateSets.{empty_not_late}
use Rattle.schedule.specs.Arrays.{InLimits}
use Rattle.rules.specs.Sets.{standing}
use Rattle.timing.specs.Timing.{timing_of}
use Rattle.timing.proofs.Limits.{limits_of, none_below}
use Rattle.nogoods.specs.Nogoods.{lists}
use Rattle.nogoods.proofs.Append.{nogoods_start}
use Rattle.rows.specs.Rows.{rows_of, messages_of}
use Rattle.partial.specs.declared.Sizes.{Sizes}
use Rattle.partial.specs.declared.State.{State}
use Rattle.partial.specs.Start.{Started}
use Rattle.region.specs.Region.{Within, Settled}
use Rattle.region.specs.Lends.{Lends}
use Rattle.region.proofs.Settling.{settled_region, settled_covered, settled_cut}
use Rattle.region.specs.Begins.{Begins, Ready}
use Rattle.region.proofs.Narrowing.{stands_lists}
use Rattle.restarts.specs.declared.Listed.{Listed}
use Rattle.restarts.specs.Restarts.{DecidedAs, CutAs, CoveringAs}
use Rattle.first.specs.declared.Reached.{Reached}
use Rattle.first.specs.First.{InTime, Placing, nothing, FirstOf}
use Rattle.static_order.specs.Kept.{Kept}
use Rattle.solve.specs.Solve.{SizesOf, SolvedAs}
use Rattle.schedule.specs.declared.Timing.{Timing}
use Rattle.rows.specs.declared.Rows.{Rows}
use Rattle.rows.specs.declared.Messages.{Messages}

module _ {t : Table} (h : Sound t) {s : State} (w : Started t s) where
  -- a processor without tasks has no late job
  idle : (p : ℕ) → InTime t (has (get_or s.on p 0))
  idle p = empty_not_late (λ k. w.nothing k p)

  -- every placement has all that the empty one has
  everywhere : (e : List ℕ) → Within (standing s.on) e
  everywhere e k p u = absurd (w.nothing k p u)

  pub start_deciding : Ready t s
  start_deciding = record { fits = w.fits; in_time = idle }

  module _ (list : List ℕ) (room : 3 ≤ length list) where
    pub start_listing : Begins t lists s list 0
    start_listing = stands_lists (record { fits = w.fits; nogoods = nogoods_start room; clear = λ p. inl (idle p) })

    -- a good placement is found: the search for the first one begins
    pub start_placing : {witness : List ℕ} → DecidedAs t (standing s.on) (Some witness) → Placing t s 0 witness list 0
    start_placing x = record {
      fits = w.fits;
      nogoods = nogoods_start room;
      good = x;
      upto = omega arith;
      open_from = λ j a b. go j b (has s.left j) (λ u. u) (λ u. u);
      placed_below = λ j a. absurd (omega arith);
    }
      where
        go : (j : ℕ) → j < t.tasks.count → (b : Bool) → (T b → T (has s.left j)) → (T (has s.left j) → T b) → T (has s.left j)
        go j l true f g = f tt
        go j l false f g = let i = w.fits.placed_task j l g in absurd (w.nothing j i.0 i.1)

    -- there is none: the conflicts of all placements are listed
    pub solved_none : DecidedAs t (standing s.on) None → {new : List ℕ} (r : Listed) → CoveringAs t (standing s.on) list 0 new r
        → SolvedAs t list new (record { placement = None; listed = r })
    solved_none x {new} r y = settled_region (λ q i u. tt) (λ q i u. everywhere q) (go r.cut y.mark)
      where
        go : (b : Bool) → CutAs b t (standing s.on) new r.count → Settled t (Within (standing s.on)) list 0 false new r.count b
        go false a = settled_covered x y.list a
        go true a = settled_cut h x y.list a.1

    pub solved_found : {new : List ℕ} (r : Reached) → FirstOf t s list nothing new r → SolvedAs t list new (record { placement = Some r.on; listed = r.listed })
    solved_found r f = (
      record { part = λ k p. absurd; whole = f.good.whole; keeps = f.good.keeps; clear = f.good.clear },
      settled_region (λ q i u. u.1) (λ q i u. (everywhere q, u)) f.settled,
    )

-- the rows of a table, as they are made for the search
pub lends_table : {t : Table} → Sound t → {r : Sizes} → SizesOf t r → {timing : Timing} {unordered rows : Rows} {links : Messages} → timing ≡ timing_of t → unordered ≡ rows_of t → links ≡ messages_of t
    → Kept unordered rows → Lends t r timing rows links
lends_table h s same e l g = record {
  rules = record {
    sound = h;
    tasks = s.tasks;
    processors = s.processors;
    messages = s.messages;
    same_residence = g.residence ∙ rw e refl;
    same_memory = g.memory ∙ rw e refl;
    same_loads = g.load ∙ rw e refl;
    same_exclusions = g.exclusions ∙ rw e refl;
    same_partners = g.partners ∙ rw e refl;
    same_sender = rw l refl;
    same_receiver = rw l refl;
    same_amounts = rw l refl;
  };
  same_timing = same;
}

-- the same rows, for the static order, with no task yet
pub order_limits : {t : Table} → Sound t → {r : Sizes} → SizesOf t r → {timing : Timing} → timing ≡ timing_of t → InLimits r.tasks timing 0
order_limits {t} h s e = rw (s.tasks, e) (limits_of h 0 (none_below t.tasks.count))
