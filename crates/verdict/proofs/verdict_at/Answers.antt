-- `verdict_at` meets its contract. Assumes nothing.
use mathlib.Core.Path.{◌≡◌, sym, ◌∙◌}
use mathlib.Core.List.{List}
use Prim.Native.Nat.{ℕ, ◌+◌}
use native.Mathlib.Omega.{arith}
use borrow.Author.Tests.{lt-ltb, le-ltb}
use lib.ListN.{length}
use Rattle.std.specs.Prelude.{Option, Some, None, Ok, Err}
use Rattle.std.specs.Option.{ok_or}
use Rattle.std.proofs.lemmas.Result.{err_from_is_err_and}
use Rattle.layout.specs.declared.Kind.{Kind}
use Rattle.layout.specs.declared.Progress.{Progress}
use Rattle.verdict.specs.declared.Cause.{Cause}
use Rattle.verdict.specs.declared.Cause.TheVariants.{UnknownMark}
use Rattle.verdict.specs.Faults.{verdict, mark_verdict, mark_cut}
use Rattle.verdict.proofs.verdict_at.Goals as goal

-- by what the mark names, if anything
marked : {k : Kind} (o : Option Kind) → ok_or o UnknownMark ≡ Ok k → o ≡ Some k
marked (Some j) e = cc
marked None e = cc

unmarked : (s : List ℕ) (at : ℕ) (x : Progress) {d : Cause} (o : Option Kind) → ok_or o UnknownMark ≡ Err d → mark_verdict s at x o ≡ Err d
unmarked s at x (Some j) e = cc
unmarked s at x None e = cc

pub returns-then-file-at-lt2 : goal.returns-then-file-at-lt2
unfolding verdict mark_cut
returns-then-file-at-lt2 c = let a = c.args in simp (lt-ltb (length a.file.now) (a.at + 2) (omega (arith, c.requires.inside)))

pub returns-in_err-kind : goal.returns-in_err-kind
unfolding verdict mark_cut
returns-in_err-kind c =
    let a = c.args in
    let p = err_from_is_err_and c.from_residual.result c.from_residual.ensures.1 in
    rw (p.1, p.2, le-ltb (length a.file.now) (a.at + 2) (omega (arith, c.requires.inside, c.if-file-at-lt2.false)))
    (sym (unmarked a.file.now a.at a.x _ (rw c.kind_at.ensures at (sym c.ok_or.ensures.value ∙ c.in_err-kind.was))))

pub returns : goal.returns
unfolding verdict mark_cut
returns c =
    let a = c.args in
    simp (
      le-ltb (length a.file.now) (a.at + 2) (omega (arith, c.requires.inside, c.if-file-at-lt2.false)),
      sym c.kind_at.ensures ∙ marked c.kind_at.result (sym c.ok_or.ensures.value ∙ c.in_ok-kind.was),
    ) c.record_verdict.ensures
