-- The quotient is at most 64 · 2^26, and the noise less than 128.
use mathlib.Core.Path.{refl}
use Prim.Native.Nat.{ℕ, ◌+◌, ◌*◌, ◌/◌, ◌≤◌, ◌<◌}
use native.Mathlib.Nat.{mul-le-mul, div-le_self}
use native.Mathlib.Omega.{arith}
use Rattle.branching.proofs.score.Goals as goal

square : (a : ℕ) → a ≤ 8 → a * a ≤ 64
square a l = mul-le-mul l l

quotient : (a w : ℕ) → a ≤ 8 → a * a * 67108864 / w ≤ 4294967296
quotient a w l = omega (arith, square a l, div-le_self (a * a * 67108864) w)

product : (a w x : ℕ) → a ≤ 8 → x < 128 → a * a * 67108864 / w / 1024 * x ≤ 4194304 * 128
product a w x l m =
    let y : a * a * 67108864 / w / 1024 ≤ 4194304 = omega (arith, quotient a w l) in
    let z : x ≤ 128 = omega arith in
    mul-le-mul y z

pub overflow_mul-plain : goal.overflow_mul-plain
overflow_mul-plain c = record { fits = omega (arith, square _ c.requires.0) }

pub overflow_mul-plain-2 : goal.overflow_mul-plain-2
overflow_mul-plain-2 c = record { fits = omega (arith, square _ c.requires.0) }

pub overflow_mul-result : goal.overflow_mul-result
overflow_mul-result c =
    record { fits = omega (arith, product c.args.choices (c.wide.result + c.wide-2.result + 1) c.noise.result c.requires.0 (omega arith)) }

pub overflow_add-result : goal.overflow_add-result
overflow_add-result c =
    let w = c.wide.result + c.wide-2.result + 1 in
    record { fits = omega (arith, quotient c.args.choices w c.requires.0, product c.args.choices w c.noise.result c.requires.0 (omega arith)) }

pub returns : goal.returns
returns c =
    let w = c.wide-2 in
    (rw (c.wide.ensures.0, w.ensures.0, c.noise.ensures.0) refl, c.noise.ensures.1)
