-- Pieces of text follow one another. Assumes nothing.
use mathlib.Core.Path.{◌≡◌, refl, ap, ◌∙◌}
use mathlib.Core.Bool.{Bool, true, false, cond}
use mathlib.Core.List.{List, [], ◌∷◌, ◌++◌}
use Prim.Native.Nat.{ℕ, zero, suc, ◌+◌, ◌-◌, ◌/◌, ◌%◌, ◌≤◌, ◌<◌}
use native.Mathlib.Numerals.{add-one}
use native.Mathlib.Omega.{arith}
use native.Mathlib.Decide.{dec_lt}
use borrow.Author.Tests.{lt-ltb, le-ltb}
use lib.Dec.{ltb}
use lib.ListN.{length, length-append}
use Rattle.wire.specs.Wire.{Put, pieces}
use Rattle.wire.proofs.Put.{put_nothing, put_then}
use Rattle.text.specs.Text.{digits, decimal}

-- one piece more of a row
pub put_more : (f : ℕ → List ℕ) {old mid new : List ℕ} {at e g n : ℕ} → Put old at (pieces n f) mid e → Put mid e (f n) new g → Put old at (pieces (n + 1) f) new g
unfolding pieces
put_more f {n = n} x y = rw add-one (put_then x y)

pub put_none : (f : ℕ → List ℕ) (old : List ℕ) (at : ℕ) → at ≤ length old → Put old at (pieces 0 f) old at
unfolding pieces
put_none f = put_nothing

-- ---- digits

pub digits_none : (most x : ℕ) → most ≡ 0 → digits most x ≡ []
unfolding digits
digits_none most x e = rw e refl

pub digits_one : (most x : ℕ) → 0 < most → x < 10 → digits most x ≡ (48 + x) ∷ []
unfolding digits
digits_one zero x l h = absurd (omega arith)
digits_one (suc most) x l h = ap (λ (b : Bool). cond b ((48 + x) ∷ []) (digits most (x / 10) ++ ((48 + x % 10) ∷ []))) (lt-ltb x 10 h)

pub digits_more : (most x : ℕ) → 0 < most → 10 ≤ x → digits most x ≡ digits (most - 1) (x / 10) ++ ((48 + x % 10) ∷ [])
unfolding digits
digits_more zero x l h = absurd (omega arith)
digits_more (suc most) x l h =
    let less : suc most - 1 ≡ most = omega arith in
    rw less (ap (λ (b : Bool). cond b ((48 + x) ∷ []) (digits most (x / 10) ++ ((48 + x % 10) ∷ []))) (le-ltb x 10 h))

-- the room for them
pub room_one : (most x : ℕ) → 0 < most → x < 10 → length (digits most x) ≡ 1
room_one most x l h = ap length (digits_one most x l h)

pub room_more : (most x : ℕ) → 0 < most → 10 ≤ x → length (digits most x) ≡ length (digits (most - 1) (x / 10)) + 1
room_more most x l h = ap length (digits_more most x l h) ∙ length-append (digits (most - 1) (x / 10)) ((48 + x % 10) ∷ [])

pub digits_few : (most x : ℕ) → length (digits most x) ≤ most
unfolding digits
digits_few zero x = omega arith
digits_few (suc most) x = go (ltb x 10) (digits_few most (x / 10))
  where
    go : (b : Bool) → length (digits most (x / 10)) ≤ most → length (cond b ((48 + x) ∷ []) (digits most (x / 10) ++ ((48 + x % 10) ∷ []))) ≤ suc most
    go true h = omega arith
    go false h = omega (arith, length-append (digits most (x / 10)) ((48 + x % 10) ∷ []), h)

-- where they end
pub put_few : (most x : ℕ) {old new : List ℕ} {at end : ℕ} → Put old at (digits most x) new end → end ≤ at + most
put_few most x p = omega (arith, p.ends, digits_few most x)

-- two are enough below 100
pub decimal_two : (x : ℕ) → x < 100 → length (decimal x) ≤ 2
decimal_two x h = go (dec_lt x 10)
  where
    go : Dec (x < 10) → length (decimal x) ≤ 2
    go (yes l) = omega (arith, room_one 20 x (omega arith) l)
    go (no l) = omega (arith, room_more 20 x (omega arith) (omega arith), room_one 19 (x / 10) (omega arith) (omega arith))
