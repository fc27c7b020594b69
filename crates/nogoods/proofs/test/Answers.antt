-- The list stays as it is, or takes a conflict of a late set that holds no listed one.
use native.Mathlib.Omega.{arith}
use borrow.Author.Rules.{rules}
use borrow.Author.Tests.{not-true, not-false, ltb-false}
use mathlib.Core.Path.{◌≡◌, refl, sym, ◌∙◌}
use mathlib.Core.Bool.{true}
use mathlib.Core.Logic.{inr}
use Prim.Native.Nat.{◌+◌, ◌*◌, ◌≤◌}
use lib.ListN.{length}
use Rattle.wire.specs.Wire.{Bytes}
use Rattle.mask.specs.Mask.{has}
use Rattle.schedule.specs.Periodic.{LateSet}
use Rattle.schedule.specs.Arrays.{tasks_of}
use Rattle.schedule.specs.Response.{late_test}
use Rattle.schedule.proofs.Says.{says_yes, says_no}
use Rattle.conflict.proofs.Counting.{late_is}
use Rattle.late_cache.proofs.Laws.{small_set}
use Rattle.nogoods.specs.Nogoods.{KnownSets, cache_after}
use Rattle.nogoods.proofs.Growth.{covered_yes, covered_no}
use Rattle.nogoods.proofs.Covers.{known_grows, known_verdict, known_looked}
use Rattle.nogoods.proofs.Testing.{test_is, cache_asked, cache_looked, unchanged, in_time}
use Rattle.nogoods.proofs.Append.{noted_with}
use Rattle.nogoods.proofs.test.Lts as lts
use Rattle.nogoods.proofs.test.Reads as reads
use Rattle.nogoods.proofs.test.Tie as tie
use Rattle.nogoods.proofs.test.Goals as goal

-- the answer on lateness is the test by responses
by_test : (c : lts.After-is_late tie.the-claims reads.Pre reads.Post) → let z = c.args in c.is_late.result ≡ late_test (tasks_of z.n z.timing.now) (has z.set)
by_test c = late_is c.requires.0 c.is_late.result c.is_late.ensures.0

late : (c : lts.Else1 tie.the-claims reads.Pre reads.Post) → let z = c.args in LateSet (tasks_of z.n z.timing.now) (has z.set)
late c = let b = c.is_late in says_yes b.result _ b.ensures.0 c.if-not-is_late.false

-- it is late, and conflicts are listed
both : (c : lts.Else2 tie.the-claims reads.Pre reads.Post) → (c.is_late.result ≡ true) × (c.args.mode.listing ≡ true)
both c = (c.if-not-is_late.false, not-false c.args.mode.listing c.if-not-mode.false)

-- the cache of tested sets once a conflict within the set was looked for
after : (c : lts.After-covered tie.the-claims reads.Pre reads.Post) → let z = c.args in
    c.covered.new.lateness ≡ cache_after (tasks_of z.n z.timing.now) z.mode z.set z.list.now z.count z.lateness.now
after c =
    let yes = both c.before.before in
    cache_looked c.requires.1 _ _ (by_test c.before.before.before.before.before) _ (rw (yes.0, yes.1) refl) c.is_late.ensures.2 c.covered.ensures.1

-- what is known of sets once the set was asked for, and once a conflict within it was looked for
asked : (c : lts.After-is_late tie.the-claims reads.Pre reads.Post) → let z = c.args in
    KnownSets (tasks_of z.n z.timing.now) z.list.now z.count c.is_late.new.lateness
asked c = known_verdict c.requires.2 _ _ c.is_late.ensures.1 c.is_late.ensures.2

looked : (c : lts.After-covered tie.the-claims reads.Pre reads.Post) → let z = c.args in
    KnownSets (tasks_of z.n z.timing.now) z.list.now z.count c.covered.new.lateness
looked c = known_looked (asked c.before.before.before.before.before) _ c.covered.ensures.1

-- one more record and the end fit
free_place : (c : lts.Else4 tie.the-claims reads.Pre reads.Post) → let z = c.args in
    6 * z.count + 9 ≤ length z.list.now
free_place c = ltb-false _ _ (sym c.is_full.ensures ∙ c.if-is_full.false)

pub returns-then-not-is_late : goal.returns-then-not-is_late
returns-then-not-is_late c =
    let b = c.is_late in
    let a = c.args in
    let w = c.requires.1 in
    let no = c.if-not-is_late.true in (
      unchanged w _ _ (test_is w _ _ (sym no ∙ by_test c.before.before) refl refl refl) (in_time w a.mode a.set (says_no b.result _ b.ensures.0 no)),
      asked c.before.before,
      cache_asked w _ _ (by_test c.before.before) _ (rw no refl) b.ensures.2,
    )

pub returns-then-not-mode : goal.returns-then-not-mode
returns-then-not-mode c =
    let w = c.requires.1 in
    let b = c.is_late in
    let yes = c.if-not-is_late.false in
    let no = not-true c.args.mode.listing c.if-not-mode.true in (
      unchanged w _ _ (test_is w _ _ (sym yes ∙ by_test c.before.before.before.before) (sym no) refl refl) (rw no (late c.before.before.before)),
      asked c.before.before.before.before,
      cache_asked w _ _ (by_test c.before.before.before.before) _ (rw (yes, no) refl) b.ensures.2,
    )

pub covered-requires : goal.covered-requires
covered-requires c =
    (search rules, omega (arith, small_set c.requires.0), (asked c.before.before.before.before).covers)

pub returns-then-covered : goal.returns-then-covered
returns-then-covered c =
    let w = c.requires.1 in
    let a = c.args in
    let yes = both c.before.before.before in
    let v = c.covered in (
      unchanged w _ _ (test_is w _ _ (sym yes.0 ∙ by_test c.before.before.before.before.before.before) (sym yes.1) (sym c.if-covered.true ∙ v.ensures.0) refl)
          (rw yes.1 (covered_yes a.list.now a.count a.set v.ensures.0 c.if-covered.true)),
      looked c.before,
      after c.before,
    )

pub returns-then-is_full : goal.returns-then-is_full
returns-then-is_full c =
    let w = c.requires.1 in
    let a = c.args in
    let yes = both c.before.before.before.before.before in
    let v = c.covered in
    let fills = sym c.if-is_full.true ∙ c.is_full.ensures in (
      unchanged w _ _ (test_is w _ _ (sym yes.0 ∙ by_test c.before.before.before.before.before.before.before.before) (sym yes.1) (sym c.if-covered.false ∙ v.ensures.0) fills)
          (rw yes.1 (inr (rw (← fills) tt, covered_no a.list.now a.count a.set v.ensures.0 c.if-covered.false))),
      looked c.before.before.before,
      after c.before.before.before,
    )

pub extract-conflict-requires : goal.extract-conflict-requires
extract-conflict-requires c = (search rules, late c.before.before.before.before.before.before.before)

pub append_unlisted-requires : goal.append_unlisted-requires
append_unlisted-requires c = omega (arith, free_place c.before.before)

pub returns : goal.returns
returns c =
    let a = c.args in
    let w = c.requires.1 in
    let yes = both c.before.before.before.before.before.before.before.before.before.before.before in
    let v = c.covered in
    let free : 6 * a.count + 9 ≤ length a.list.now = free_place c.before.before.before.before.before.before in
    let bytes : Bytes a.list.now = λ k. (c.slice_known-1.given k).fits in
    let made = c.append_unlisted.ensures in
    let noted = noted_with w a.mode made.0 made.1 c.extract-conflict.ensures bytes (search rules) free
    (sym yes.0 ∙ by_test c.before.before.before.before.before.before.before.before.before.before.before.before.before.before) (sym yes.1) (sym c.if-covered.false ∙ v.ensures.0) in
    (noted, known_grows noted.list (looked c.before.before.before.before.before.before.before.before.before), after c.before.before.before.before.before.before.before.before.before)
