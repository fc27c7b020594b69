-- Bytes put at a place: one piece after another. Assumes nothing.
use mathlib.Core.Path.{◌≡◌, sym, ap, ◌∙◌}
use mathlib.Core.List.{List, [], ◌∷◌, ◌++◌, append_assoc}
use Prim.Native.Nat.{ℕ, suc, ◌+◌, ◌-◌, ◌≤◌, ◌<◌}
use native.Mathlib.Nat.{add-zero, le_dest}
use native.Mathlib.Numerals.{add-one}
use native.Mathlib.Omega.{arith}
use lib.ListN.{length, get_or, take, drop, set, take-append-drop, length-append, length-drop}
use lib.Seq.{take_at, drop_at, drop-drop, length-take-le, split_at, set_at}
use borrow.Rule.Slice.PartMut.{mid_of, put_mid}
use Rattle.wire.specs.Wire.{laid, Put}
use Rattle.wire.proofs.Part.{over}

-- what a writer that was lent the part from `at` on leaves
pub laid_part : (at : ℕ) (old new part : List ℕ) (k : ℕ) → length new ≡ k → part ≡ new ++ drop k (mid_of at (length old - at) old)
    → put_mid at (length old - at) old part ≡ laid at new old
unfolding laid
laid_part at old new part k q e = over at old new part k e ∙ ap (λ (w : ℕ). take at old ++ (new ++ drop (at + w) old)) (sym q)

-- no bytes
pub put_nothing : (old : List ℕ) (at : ℕ) → at ≤ length old → Put old at [] old at
unfolding laid
put_nothing old at h = record {
  holds = rw (add-zero at) (sym (take-append-drop at old));
  ends = omega arith;
  room = h;
}

module _ {old new piece : List ℕ} {at end : ℕ} (x : Put old at piece new end) where
  split : new ≡ (take at old ++ piece) ++ drop end old
  unfolding laid
  split = x.holds ∙ sym (append_assoc (take at old) piece (drop (at + length piece) old)) ∙ ap (λ (k : ℕ). (take at old ++ piece) ++ drop k old) (sym x.ends)

  front : length (take at old ++ piece) ≡ end
  front = length-append (take at old) piece ∙ omega (arith, length-take-le at old (omega (arith, x.ends, x.room)), x.ends)

  before : take end new ≡ take at old ++ piece
  before = ap (take end) split ∙ take_at (take at old ++ piece) (drop end old) end front

  after : drop end new ≡ drop end old
  after = ap (drop end) split ∙ drop_at (take at old ++ piece) (drop end old) end front

  pub put_length : length new ≡ length old
  put_length = ap length split ∙ length-append (take at old ++ piece) (drop end old) ∙ omega (arith, front, length-drop end old, x.room)

  far : (f : ℕ) → end ≤ f → drop f new ≡ drop f old
  far f l =
      let k = le_dest l in
      rw (← k.1) (sym (drop-drop k.0 end new) ∙ ap (drop k.0) after ∙ drop-drop k.0 end old)

-- one piece after another
pub put_then : {old mid new a b : List ℕ} {at e f : ℕ} → Put old at a mid e → Put mid e b new f → Put old at (a ++ b) new f
unfolding laid
put_then {old} {mid} {new} {a} {b} {at} {e} {f} x y = record {
  holds =
      split y
      ∙ ap (λ (z : List ℕ). (z ++ b) ++ drop f mid) (before x)
      ∙ ap (λ (z : List ℕ). ((take at old ++ a) ++ b) ++ z) (far x f (omega (arith, y.ends)))
      ∙ ap (λ (z : List ℕ). z ++ drop f old) (append_assoc (take at old) a b)
      ∙ append_assoc (take at old) (a ++ b) (drop f old)
      ∙ ap (λ (k : ℕ). take at old ++ ((a ++ b) ++ drop k old)) ends;
  ends = ends;
  room = omega (arith, y.room, put_length x);
}
  where
    ends : f ≡ at + length (a ++ b)
    ends = omega (arith, x.ends, y.ends, length-append a b)

-- a byte
pub put_byte : (old : List ℕ) (at b : ℕ) → at < length old → Put old at (b ∷ []) (set old at b) (at + 1)
unfolding laid
put_byte old at b h = record {
  holds =
      ap (λ (l : List ℕ). set l at b) (split_at old at 0 h)
      ∙ set_at (take at old) (get_or old at 0) (drop (suc at) old) b at (length-take-le at old (omega arith))
      ∙ ap (λ (k : ℕ). take at old ++ (b ∷ drop k old)) (sym (add-one at));
  ends = omega arith;
  room = omega arith;
}

-- the part from `at` on that a piece was copied into
pub put_copied : {old piece part : List ℕ} {at : ℕ} → at + length piece ≤ length old → part ≡ piece → Put old at piece (put_mid at (at + length piece - at) old part) (at + length piece)
unfolding laid
put_copied {old} {piece} {part} {at} h e = record {
  holds =
      ap (λ (z : List ℕ). take at old ++ (z ++ drop (at + length piece - at) (drop at old))) e
      ∙ ap (λ (z : List ℕ). take at old ++ (piece ++ z)) (drop-drop (at + length piece - at) at old ∙ ap (λ (k : ℕ). drop k old) (omega arith));
  ends = omega arith;
  room = h;
}
