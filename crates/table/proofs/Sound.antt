-- A table that was read is sound. Assumes nothing.
use mathlib.Core.Path.{◌≡◌, refl, sym, ◌∙◌}
use mathlib.Core.Bool.{false}
use mathlib.Core.List.{List}
use Prim.Native.Nat.{ℕ, ◌^◌, ◌≤◌, ◌<◌}
use native.Mathlib.Omega.{arith}
use native.Mathlib.Decide.{ℕ_discrete, dec_lt}
use lib.ListN.{length, get_or}
use Rattle.std.specs.Prelude.{Ok}
use Rattle.lcm.proofs.Laws.{lcm_to_ext}
use Rattle.wire.specs.Wire.{Bytes}
use Rattle.wire.proofs.Laws.{number_lt}
use Rattle.layout.specs.declared.Kind.{Kind}
use Rattle.layout.specs.declared.Kind.TheVariants.{Processor, Task, CoResident, Exclusive, Message}
use Rattle.layout.specs.declared.Progress.{Progress}
use Rattle.layout.specs.Format.{row, field, count, place, period, priority, sender, receiver}
use Rattle.verdict.specs.Faults.{not_in_file, bad_group}
use Rattle.table.specs.declared.Table.{Table}
use Rattle.table.specs.Scan.{missing}
use Rattle.table.specs.Table.{column_of, group_columns, table_of, read_of}
use Rattle.table.specs.Sound.{SoundProcessors, SoundTasks, SoundGroups, SoundMessages, Sound}
use Rattle.table.proofs.Columns.{column_in, column_sound, value}
use Rattle.table.proofs.Fine.{Fine}
use Rattle.table.proofs.Known as known
use Rattle.table.proofs.Ended.{present, read_whole}

-- what no two numbers i < j below n share, no two different ones share
one_only : {n : ℕ} {R : ℕ → ℕ → Type 0} → ((i j : ℕ) → R i j → R j i) → ((i j : ℕ) → i < j → j < n → R i j → ⊥) → (i j : ℕ) → i < n → j < n → R i j → i ≡ j
one_only {n} {R} turn apart i j l m r = go (ℕ_discrete i j) (dec_lt i j)
  where
    go : Dec (i ≡ j) → Dec (i < j) → i ≡ j
    go (yes e) d = e
    go (no e) (yes k) = absurd (apart i j k m r)
    go (no e) (no k) = absurd (apart j i (omega arith) l (turn i j r))

module _ {s : List ℕ} {x : Progress} (b : Bytes s) (f : Fine s (length s) x) where
  value_at : (k : Kind) (i j : ℕ) → j < count x k → get_or (column_of (row k).most s x k i) j 0 ≡ field k i s (place x k j)
  value_at = value f.reached.counted s

  equal : (k : Kind) (i : ℕ) {u v : ℕ} → u < count x k → v < count x k → get_or (column_of (row k).most s x k i) u 0 ≡ get_or (column_of (row k).most s x k i) v 0
      → field k i s (place x k u) ≡ field k i s (place x k v)
  equal k i {u} {v} l m e = sym (value_at k i u l) ∙ e ∙ value_at k i v m

  sound_processors : 1 ≤ count x Processor → SoundProcessors (table_of s x).processors
  unfolding table_of
  sound_processors some = record {
    some = some;
    most = f.reached.counted.few Processor;
    memory = column_sound 8 (count x Processor) 32 _ (λ j. number_lt s _ 4 b);
    limit = column_sound 8 (count x Processor) 16 _ (λ j. number_lt s _ 2 b);
    least_limit = λ j l. omega (arith, value_at Processor 1 j l, known.limit_known (f.stands Processor j l));
    most_limit = λ j l. omega (arith, value_at Processor 1 j l, known.limit_known (f.stands Processor j l));
  }

  sound_tasks : 1 ≤ count x Task → SoundTasks (count x Processor) (table_of s x).tasks
  unfolding table_of
  sound_tasks some = record {
    some = some;
    most = f.reached.counted.few Task;
    c = column_sound 24 (count x Task) 32 _ (λ j. number_lt s _ 4 b);
    t = column_sound 24 (count x Task) 32 _ (λ j. number_lt s _ 4 b);
    d = column_sound 24 (count x Task) 32 _ (λ j. number_lt s _ 4 b);
    memory = column_sound 24 (count x Task) 32 _ (λ j. number_lt s _ 4 b);
    priority = column_sound 24 (count x Task) 16 _ (λ j. number_lt s _ 2 b);
    residence = column_sound 24 (count x Task) 16 _ (λ j. number_lt s _ 2 b);
    works = λ j l. omega (arith, value_at Task 0 j l, known.task_known (f.stands Task j l));
    c_d = λ j l. omega (arith, value_at Task 0 j l, value_at Task 2 j l, known.task_known (f.stands Task j l));
    d_t = λ j l. omega (arith, value_at Task 2 j l, value_at Task 1 j l, known.task_known (f.stands Task j l));
    ticks = λ j l. omega (arith, value_at Task 1 j l, known.task_known (f.stands Task j l));
    distinct = λ i j l m e.
        one_only {R = λ u v. priority s (place x Task u) ≡ priority s (place x Task v)} (λ u v. sym)
        (λ u v k n. known.priority_new (f.stands Task v n) u k)
        i j l m (equal Task 4 l m e);
    resides = λ j l. omega (arith, value_at Task 5 j l, known.residence_known (f.stands Task j l));
    resides_below = λ j l. omega (arith, value_at Task 5 j l, known.residence_known (f.stands Task j l));
  }

  sound_groups : (k : Kind) → (row k).most ≡ 16 → (row Task).order < (row k).order
      → ((at : ℕ) → field k 0 s at < 2 ^ 32)
      → ((at : ℕ) (y : Progress) → not_in_file s at y k ≡ bad_group (count y Task) (field k 0 s at))
      → SoundGroups (count x Task) (group_columns s x k)
  sound_groups k sixteen later small group = record {
    most = few;
    mask = column_sound 16 (count x k) 32 (λ j. field k 0 s (place x k j)) (λ j. small (place x k j));
    below = λ j l. rw (mask_at_lem j l) (known.group_known k later group (f.stands k j l)).0;
    two = λ j l. rw (mask_at_lem j l) (known.group_known k later group (f.stands k j l)).1;
  }
    where
      few : count x k ≤ 16
      few = omega (arith, f.reached.counted.few k)

      mask_at_lem : (j : ℕ) → j < count x k → get_or (column_of 16 s x k 0) j 0 ≡ field k 0 s (place x k j)
      mask_at_lem j = column_in 16 (count x k) (λ c. field k 0 s (place x k c)) j few

  sound_messages : SoundMessages (table_of s x).tasks (table_of s x).messages
  unfolding table_of
  sound_messages = record {
    most = f.reached.counted.few Message;
    sender = column_sound 64 (count x Message) 8 _ (λ j. number_lt s _ 1 b);
    receiver = column_sound 64 (count x Message) 8 _ (λ j. number_lt s _ 1 b);
    amount = column_sound 64 (count x Message) 32 _ (λ j. number_lt s _ 4 b);
    from_task = λ j l. omega (arith, value_at Message 0 j l, known.pair_known (f.stands Message j l));
    to_task = λ j l. omega (arith, value_at Message 1 j l, known.pair_known (f.stands Message j l));
    apart = λ j l. omega (arith, value_at Message 0 j l, value_at Message 1 j l, known.pair_known (f.stands Message j l));
    periods = λ j l.
        let pair = known.pair_known (f.stands Message j l) in
        rw (value_at Message 0 j l, value_at Message 1 j l)
        (value_at Task 1 (sender s (place x Message j)) pair.0 ∙ known.periods_equal (f.stands Message j l) ∙ sym (value_at Task 1 (receiver s (place x Message j)) pair.1));
    least_amount = λ j l. omega (arith, value_at Message 2 j l, known.amount_known (f.stands Message j l));
    most_amount = λ j l. omega (arith, value_at Message 2 j l, known.amount_known (f.stands Message j l));
    distinct = λ i j l m e d.
        one_only {R = λ u v. (sender s (place x Message u) ≡ sender s (place x Message v)) × (receiver s (place x Message u) ≡ receiver s (place x Message v))}
        (λ u v r. (sym r.0, sym r.1))
        (λ u v k n r. known.message_new (f.stands Message v n) u k r.0 r.1)
        i j l m (equal Message 0 l m e, equal Message 1 l m d);
  }

  sound : missing x ≡ false → Sound (table_of s x)
  unfolding table_of not_in_file
  sound m = record {
    capacity = number_lt s 2 4 b;
    processors = sound_processors (present x m).1;
    tasks = sound_tasks (present x m).2;
    co = sound_groups CoResident refl (omega arith) (λ at. number_lt s _ 4 b) (λ at y. refl);
    ex = sound_groups Exclusive refl (omega arith) (λ at. number_lt s _ 4 b) (λ at y. refl);
    messages = sound_messages;
    hyperperiod = f.hyperperiod ∙ lcm_to_ext (count x Task) (λ j. period s (place x Task j)) (λ j. get_or (column_of 24 s x Task 1) j 0) (λ j l. sym (value_at Task 1 j l));
    hyperperiod_most = f.reached.most;
  }

pub read_sound : (s : List ℕ) {t : Table} → Bytes s → read_of s ≡ Ok t → Sound t
read_sound s b e = let r = read_whole s e in rw r.table (sound b r.fine r.complete)
