-- The sets with the next task, then those without it; a set that is late ends the recursion, and so does one that can stand nowhere.
use Prim.Native.Nat.{◌+◌, ◌-◌, ◌*◌}
use Rattle.late_sets.proofs.+cover_supersets_cover_with_next.Given as goal

abbrev pub decreases-cover_supersets : goal.decreases-cover_supersets
decreases-cover_supersets l = 2 * (l.instance.now.sizes.tasks - l.subset.next) + 1

abbrev pub decreases-cover_with_next : goal.decreases-cover_with_next
decreases-cover_with_next l = 2 * (l.instance.now.sizes.tasks - l.subset.next)
