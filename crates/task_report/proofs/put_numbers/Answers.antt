-- `put_numbers` meets its contract: behind the head stand the first k responses, then the margins.
use mathlib.Core.Path.{◌≡◌, refl, ap, ap₂, ◌∙◌}
use mathlib.Core.List.{List, ◌∷◌, ◌++◌, map}
use Prim.Native.Nat.{ℕ, ◌+◌, ◌*◌}
use native.Mathlib.Omega.{arith}
use borrow.Author.Rules.{rules}
use lib.IntN.{ℤ, pos}
use lib.ListN.{length, take, drop, length-set, length-map}
use lib.Seq.{sets, length-sets, length-take-le}
use mir.Syntax.{w32}
use mir.ValLaws.{to_z_pos}
use Rattle.layout.proofs.Places.{longest_is}
use Rattle.task_report.specs.Report.{margin_number}
use Rattle.task_report.proofs.Writing.{put_next, put_all}
use Rattle.task_report.proofs.put_numbers.Goals as goal

pub overflow_cast-out : goal.overflow_cast-out
overflow_cast-out c = record { sfits = omega arith }

pub overflow_cast-out-2 : goal.overflow_cast-out-2
overflow_cast-out-2 c = record { sfits = omega (arith, c.number_concerned.ensures, longest_is) }

pub bounds-out-1 : goal.bounds-out-1
bounds-out-1 c = simp length-set (omega arith)

pub loop-k-init : goal.loop-k-init
loop-k-init c = (omega arith, simp length-set c.requires.2, refl)

pub overflow_cast-out-in-loop-k : goal.overflow_cast-out-in-loop-k
overflow_cast-out-in-loop-k c = record { sfits = omega (arith, c.requires.0.responses c.loop-k.k) }

pub loop-k-preserved : goal.loop-k-preserved
loop-k-preserved c =
    let all : length c.args.judged.responses ≡ 24 = search rules in (
      omega arith,
      simp length-set c.loop-k.invariant.1,
      put_next pos 0 _ c.args.judged.responses 2 c.loop-k.k (omega arith) (to_z_pos w32 _ (omega (arith, c.requires.0.responses c.loop-k.k))) c.loop-k.invariant.2,
    )

pub put_margins-requires : goal.put_margins-requires
put_margins-requires c = (c.requires.1, c.loop-k.invariant.1)

pub shape_of-out : goal.shape_of-out
shape_of-out c = c.put_margins.auto.out ∙ ap length c.loop-k.invariant.2 ∙ simp (length-sets, length-set)

pub returns : goal.returns
returns c =
    let a = c.args in
    let number = c.check_number in
    let concerned = c.number_concerned in
    let all : length a.judged.responses ≡ 24 = search rules in
    let done : c.loop-k.k ≡ a.n = omega arith in
    put_all a.out.now (map pos (take a.n a.judged.responses)) (map margin_number (take a.n a.judged.margins)) number.result concerned.result
    (omega (arith, number)) (omega (arith, concerned.ensures, c.requires, longest_is))
    (omega (arith, length-map (take a.n a.judged.responses) pos, length-take-le a.n a.judged.responses (omega (arith, c.requires.1))))
    (omega (arith, length-map (take a.n a.judged.margins) margin_number, length-take-le a.n a.judged.margins (omega (arith, c.requires.0.margins, c.requires.1))))
    c.requires.2
    (c.put_margins.ensures ∙ ap (λ (x : List ℤ). sets x (2 + a.n) (map margin_number (take a.n a.judged.margins))) (rw done at c.loop-k.invariant.2))
    ∙ ap₂ (λ (x y : ℕ). (pos x ∷ pos y ∷ map pos (take a.n a.judged.responses) ++ map margin_number (take a.n a.judged.margins)) ++ drop (2 * a.n + 2) a.out.now)
    number.ensures concerned.ensures
