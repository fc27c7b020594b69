-- The loop that drops tasks while the rest stays late: its invariant and its laws. Assumes nothing.
use mathlib.Core.Path.{◌≡◌}
use Prim.Native.Nat.{ℕ, ◌^◌, ◌<◌}
use Rattle.mask.specs.Mask.{has, Subset, remove_of, ComesNext}
use Rattle.mask.proofs.Laws.{remove_not, remove_subset, remove_mono}
use Rattle.mask.proofs.Visit.{Visit, visit_start, visit_next, visit_end, visit_map}
use Rattle.schedule.specs.Periodic.{Tasks, Valid, Constrained, LateSet}
use Rattle.schedule.proofs.LateSets.{late_within}
use Rattle.conflict.specs.Conflict.{Needed, MinimalWithin}

-- what is kept is late, and needs each task that was tried
pub record Dropping (s : Tasks) (set kept left : ℕ) : Type 0 where
  pub inside : Subset kept set
  pub late : LateSet s (has kept)
  pub tried : Visit set left (Needed s kept)

pub dropping_start : {s : Tasks} {set : ℕ} → set < 2 ^ 32 → LateSet s (has set) → Dropping s set set set
dropping_start h l = record { inside = λ k u. u; late = l; tried = visit_start h }

pub dropping_end : {s : Tasks} {set kept left : ℕ} → Dropping s set kept left → left ≡ 0 → MinimalWithin s set kept
dropping_end w e = record {
  inside = w.inside;
  minimal = record { late = w.late; needed = λ k u. visit_end w.tried e k (w.inside k u) u };
}

module _ {s : Tasks} {set kept left k next : ℕ} (w : Dropping s set kept left) (c : ComesNext left k next) where
  pub dropping_keep : Needed s kept k → Dropping s set kept next
  dropping_keep f = record { inside = w.inside; late = w.late; tried = visit_next w.tried c f }

  pub dropping_drop : Valid s → Constrained s → {rest : ℕ} → rest ≡ remove_of kept k → LateSet s (has rest) → Dropping s set rest next
  dropping_drop v h {rest} q l = record {
    inside = λ j u. w.inside j (smaller j u);
    late = l;
    tried = visit_next (visit_map still w.tried) c (λ u. absurd (remove_not kept k (rw q at u)));
  }
    where
      smaller : Subset rest kept
      smaller j u = remove_subset kept k j (rw q at u)

      still : (j : ℕ) → Needed s kept j → Needed s rest j
      still j f u x = f (smaller j u) (late_within s v h (has (remove_of rest j)) (has (remove_of kept j)) (remove_mono rest kept j smaller) x)
