-- What is known of each record of a file, from its acceptance, against all the records taken. Assumes nothing.
use mathlib.Core.Path.{◌≡◌, sym, ap, ◌∙◌}
use mathlib.Core.Logic.{◌≢◌}
use mathlib.Core.List.{List}
use Prim.Native.Nat.{ℕ, ◌^◌, ◌≤◌, ◌<◌}
use native.Mathlib.Omega.{arith}
use Rattle.mask.specs.Mask as mask
use Rattle.layout.specs.declared.Kind.{Kind}
use Rattle.layout.specs.declared.Kind.TheVariants.{Processor, Task, Message}
use Rattle.layout.specs.declared.Progress.{Progress}
use Rattle.layout.specs.Format.{row, field, limit, execution_time, period, deadline, priority, residence, sender, receiver, amount, count, place}
use Rattle.layout.proofs.Places.{place_agree}
use Rattle.verdict.specs.Faults.{not_in_file, bad_group}
use Rattle.verdict.proofs.Passed as passed
use Rattle.table.proofs.Fine.{Stands}

-- a record of an earlier kind, or an earlier one of the kind, stood where it stands now
before_place : {s : List ℕ} {x : Progress} {k : Kind} {j : ℕ} (r : Stands s x k j) (c : Kind) → (row c).order ≤ (row k).order → (i : ℕ) → place r.before c i ≡ place x c i
before_place {x = x} r c l = place_agree r.before x c (λ e m. r.agree e (omega arith))

module _ {s : List ℕ} {x : Progress} where
  pub limit_known : {j : ℕ} → Stands s x Processor j → (1 ≤ limit s (place x Processor j)) × (limit s (place x Processor j) ≤ 1000)
  limit_known {j} r = passed.limit_range s (place x Processor j) r.accepted.in_range

  module _ {j : ℕ} (r : Stands s x Task j) where
    pub task_known : passed.TaskRange (execution_time s (place x Task j)) (deadline s (place x Task j)) (period s (place x Task j))
    task_known = passed.task_range s (place x Task j) r.accepted.in_range

    pub residence_known : (0 < residence s (place x Task j)) × (residence s (place x Task j) < 2 ^ count x Processor)
    unfolding not_in_file
    residence_known = rw (r.agree Processor (omega arith)) at (passed.residence_known (count r.before Processor) (residence s (place x Task j)) r.accepted.in_file)

    pub priority_new : (i : ℕ) → i < j → priority s (place x Task i) ≢ priority s (place x Task j)
    priority_new i l e =
        passed.priority_new s (place x Task j) r.before r.accepted.priority_new i (omega (arith, r.number))
        (ap (priority s) (before_place r Task (omega arith) i) ∙ e)

  -- of either kind of group
  pub group_known : (k : Kind) {j : ℕ} → (row Task).order < (row k).order
      → ((at : ℕ) (y : Progress) → not_in_file s at y k ≡ bad_group (count y Task) (field k 0 s at))
      → Stands s x k j
      → (field k 0 s (place x k j) < 2 ^ count x Task) × (2 ≤ mask.cardinality 32 (field k 0 s (place x k j)))
  group_known k {j} l group r =
      passed.group_known (count x Task) (field k 0 s (place x k j))
      (ap (λ (n : ℕ). bad_group n (field k 0 s (place x k j))) (sym (r.agree Task l)) ∙ sym (group (place x k j) r.before) ∙ r.accepted.in_file)

  module _ {j : ℕ} (r : Stands s x Message j) where
    pub amount_known : (1 ≤ amount s (place x Message j)) × (amount s (place x Message j) ≤ 1000000)
    amount_known = passed.amount_range s (place x Message j) r.accepted.in_range

    pub pair_known : (sender s (place x Message j) < count x Task) × (receiver s (place x Message j) < count x Task) × (sender s (place x Message j) ≢ receiver s (place x Message j))
    unfolding not_in_file
    pair_known = rw (r.agree Task (omega arith)) at (passed.pair_known (count r.before Task) (sender s (place x Message j)) (receiver s (place x Message j)) r.accepted.in_file)

    pub periods_equal : period s (place x Task (sender s (place x Message j))) ≡ period s (place x Task (receiver s (place x Message j)))
    periods_equal =
        let stood = before_place r Task (omega arith) in
        sym (ap (period s) (stood (sender s (place x Message j))))
        ∙ passed.periods_equal s (place x Message j) r.before r.accepted.periods_equal
        ∙ ap (period s) (stood (receiver s (place x Message j)))

    pub message_new : (i : ℕ) → i < j → sender s (place x Message i) ≡ sender s (place x Message j) → receiver s (place x Message i) ≢ receiver s (place x Message j)
    message_new i l d e =
        let stood = before_place r Message (omega arith) i in
        passed.message_new s (place x Message j) r.before r.accepted.message_new i (omega (arith, r.number))
        (ap (sender s) stood ∙ d)
        (ap (receiver s) stood ∙ e)
