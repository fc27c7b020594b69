-- How the list grows, and the sets that it covers as it does. Assumes nothing.
use mathlib.Core.Path.{◌≡◌, refl, sym, ap, subst, ◌∙◌}
use mathlib.Core.Bool.{Bool, true, false}
use mathlib.Core.List.{List}
use Prim.Native.Nat.{ℕ, ◌+◌, ◌*◌, ◌≤◌, ◌<◌}
use native.Mathlib.Nat.{le_dest}
use native.Mathlib.Decide.{dec_lt}
use native.Mathlib.Omega.{arith}
use lib.Dec.{T, ltb→lt}
use lib.ListN.{length, drop}
use lib.Seq.{drop-drop}
use Rattle.finite.specs.Finite.{some_below}
use Rattle.finite.proofs.Some.{some_intro, some_elim}
use Rattle.mask.specs.Mask.{has, within}
use Rattle.mask.proofs.Laws.{subset_within, within_subset}
use Rattle.schedule.specs.Periodic.{Tasks}
use Rattle.answer.specs.Answer.{mask_at}
use Rattle.nogoods.specs.Nogoods.{Covered, Nogoods, full, Grows, Extended}

-- ---- growing

drop_more : (a b : List ℕ) (i j : ℕ) → i ≤ j → drop i a ≡ drop i b → drop j a ≡ drop j b
drop_more a b i j l e =
    let k = le_dest l in
    rw (← k.1) (sym (drop-drop k.0 i a) ∙ ap (drop k.0) e ∙ drop-drop k.0 i b)

grows_refl : {P : ℕ → Type 0} {list : List ℕ} {count : ℕ} → Grows P list count list count
grows_refl = record { more = omega arith; stay = λ j l. refl; added = λ j a b. absurd (omega arith); behind = refl; long = refl }

grows_trans : {P : ℕ → Type 0} {a b c : List ℕ} {i j k : ℕ} → Grows P a i b j → Grows P b j c k → Grows P a i c k
grows_trans {P} {a} {b} {c} {i} {j} {k} u v = record {
  more = omega arith;
  stay = λ x l. v.stay x (omega arith) ∙ u.stay x l;
  added = λ x f l. added x f l (dec_lt x j);
  behind = v.behind ∙ drop_more b a (6 * j) (6 * k) (omega arith) u.behind;
  long = v.long ∙ u.long;
}
  where
    added : (x : ℕ) → i ≤ x → x < k → Dec (x < j) → P (mask_at c x)
    added x f l (yes e) = rw (v.stay x e) (u.added x f e)
    added x f l (no e) = v.added x (omega arith) l

grows_map : {P Q : ℕ → Type 0} {a b : List ℕ} {i j : ℕ} → ((c : ℕ) → P c → Q c) → Grows P a i b j → Grows Q a i b j
grows_map {b = b} f u = record { more = u.more; stay = u.stay; added = λ x e l. f (mask_at b x) (u.added x e l); behind = u.behind; long = u.long }

-- ---- the list holds, and has grown

pub extended_refl : {P : ℕ → Type 0} {s : Tasks} {list : List ℕ} {count : ℕ} → Nogoods s list count → Extended P s list count list count
extended_refl w = record { nogoods = w; grows = grows_refl }

pub extended_trans : {P : ℕ → Type 0} {s : Tasks} {a b c : List ℕ} {i j k : ℕ} → Extended P s a i b j → Extended P s b j c k → Extended P s a i c k
extended_trans u v = record { nogoods = v.nogoods; grows = grows_trans u.grows v.grows }

pub extended_map : {P Q : ℕ → Type 0} {s : Tasks} {a b : List ℕ} {i j : ℕ} → ((c : ℕ) → P c → Q c) → Extended P s a i b j → Extended Q s a i b j
extended_map f u = record { nogoods = u.nogoods; grows = grows_map f u.grows }

-- a full list cannot grow
pub full_stays : {P : ℕ → Type 0} {s : Tasks} {a b : List ℕ} {i j : ℕ} → Extended P s a i b j → T (full a i) → i ≡ j
full_stays {a = a} {i = i} u f = omega (arith, u.nogoods.room, u.grows.more, u.grows.long, ltb→lt (length a) (6 * i + 9) f)

-- ---- the sets that the list covers

covered_in : {a b : List ℕ} {i j : ℕ} {x : ℕ → Bool} (h : Covered a i x) → h.number < j → mask_at b h.number ≡ mask_at a h.number → Covered b j x
covered_in h l e = record { number = h.number; listed = l; inside = λ k t. h.inside k (subst (λ (m : ℕ). T (has m k)) e t) }

module _ {P : ℕ → Type 0} {a b : List ℕ} {i j : ℕ} {x : ℕ → Bool} where
  pub covered_grows : Grows P a i b j → Covered a i x → Covered b j x
  covered_grows u h = covered_in h (omega arith) (u.stay h.number h.listed)

  -- a list that did not grow
  pub covered_back : i ≡ j → Grows P a i b j → Covered b j x → Covered a i x
  covered_back e u h = covered_in h (omega arith) (sym (u.stay h.number (omega arith)))

pub covered_more : {list : List ℕ} {count : ℕ} {x y : ℕ → Bool} → ((k : ℕ) → T (x k) → T (y k)) → Covered list count x → Covered list count y
covered_more f h = record { number = h.number; listed = h.listed; inside = λ k t. f k (h.inside k t) }

-- by the test that the code makes
module _ (list : List ℕ) (count set : ℕ) {b : Bool} (e : b ≡ some_below count (λ j. within (mask_at list j) set)) where
  pub covered_yes : b ≡ true → Covered list count (has set)
  covered_yes t =
      let r = some_elim count (λ j. within (mask_at list j) set) (rw (← e, t) tt) in
      record { number = r.0; listed = r.1; inside = within_subset (mask_at list r.0) set r.2 }

  pub covered_no : b ≡ false → Covered list count (has set) → ⊥
  covered_no f h =
      rw (← e, f) at (some_intro count (λ j. within (mask_at list j) set) h.number h.listed (subset_within (mask_at list h.number) set h.inside))
