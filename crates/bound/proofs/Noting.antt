-- The heuristics after the bound: it was not due, or it was tried once or twice. Assumes nothing.
use mathlib.Core.Path.{◌≡◌, refl, sym, ap, subst, ◌∙◌}
use mathlib.Core.Bool.{Bool, true, false, not, ◌&&◌, cond}
use mathlib.Core.List.{List, []}
use Prim.Native.Nat.{ℕ}
use lib.Dec.{leb}
use lib.ListN.{get_or}
use lib.Seq.{set-get_or, set-set}
use Rattle.mask.specs.Mask.{cardinality}
use Rattle.heuristics.specs.declared.Heuristics.{Heuristics}
use Rattle.adaptive_bound.specs.AdaptiveBound.{row_for, with_weights, OnlyRow}
use Rattle.bound.specs.Due.{adapts, skips_after, pays, is_due, asked_heuristics, tried_heuristics, bound_heuristics, AdaptedAs}

-- a weighted run stays weighted: when skips are counted, and when a row of weights is written
asked_adapts : (left : ℕ) (heuristics : Heuristics) → adapts (asked_heuristics left heuristics) ≡ adapts heuristics
unfolding asked_heuristics
asked_adapts left heuristics = go (leb 4 (cardinality 32 left) && not (pays heuristics))
  where
    go : (b : Bool) → adapts (cond b (record heuristics { guide = record heuristics.guide { skips = skips_after heuristics.guide.skips } }) heuristics) ≡ adapts heuristics
    go true = refl
    go false = refl

adapted_adapts : (b : Bool) (left : ℕ) (x y : Heuristics) → AdaptedAs b left x y → adapts y ≡ adapts x
unfolding AdaptedAs
adapted_adapts false left x y e = ap (λ (h : Heuristics). adapts h) e
adapted_adapts true left x y e = ap (λ (h : Heuristics). adapts h) e.1

-- nothing is changed
pub adapted_same : (b : Bool) (left : ℕ) (x : Heuristics) → AdaptedAs b left x x
unfolding AdaptedAs
adapted_same false left x = refl
adapted_same true left x = (get_or x.weights (row_for left) [], ap (λ (rows : List (List ℕ)). record x { weights = rows }) (sym (set-get_or x.weights (row_for left) [])))

-- the row of weights is written
pub adapted_row : (left : ℕ) (x y : Heuristics) → adapts x ≡ true → OnlyRow (row_for left) x y → AdaptedAs (adapts x) left x y
unfolding AdaptedAs
adapted_row left x y w m = subst (λ (b : Bool). AdaptedAs b left x y) (sym w) m

-- one try after the other
adapted_trans : (b : Bool) (left : ℕ) (x y z : Heuristics) → AdaptedAs b left x y → AdaptedAs b left y z → AdaptedAs b left x z
unfolding AdaptedAs
adapted_trans false left x y z p q = q ∙ p
adapted_trans true left x y z p q =
    let r = row_for left in
    (q.0, q.1 ∙ ap (λ (h : Heuristics). with_weights h r q.0) p.1 ∙ ap (λ (rows : List (List ℕ)). record x { weights = rows }) (set-set x.weights r p.0 q.0))

pub adapted_then : (left : ℕ) (x y z : Heuristics) → AdaptedAs (adapts x) left x y → AdaptedAs (adapts y) left y z → AdaptedAs (adapts x) left x z
adapted_then left x y z p q = adapted_trans (adapts x) left x y z p (subst (λ (b : Bool). AdaptedAs b left y z) (adapted_adapts (adapts x) left x y p) q)

-- in a weighted run a try is not noted
tried_weighted : (hopeless : Bool) (heuristics : Heuristics) → adapts heuristics ≡ true → tried_heuristics hopeless heuristics ≡ heuristics
unfolding tried_heuristics
tried_weighted hopeless heuristics e = rw e refl

tried_adapted : (b : Bool) (left : ℕ) (hopeless : Bool) (x y : Heuristics) → adapts x ≡ b → AdaptedAs b left x y → AdaptedAs b left (tried_heuristics hopeless x) (tried_heuristics hopeless y)
unfolding AdaptedAs
tried_adapted false left hopeless x y w m = ap (tried_heuristics hopeless) m
tried_adapted true left hopeless x y w m = rw (tried_weighted hopeless x w, tried_weighted hopeless y (adapted_adapts true left x y m ∙ w)) m

module _ (left : ℕ) (heuristics : Heuristics) {due : Bool} (d : due ≡ is_due left heuristics) {asked : Heuristics} (a : asked ≡ asked_heuristics left heuristics) where
  not_due : (hopeless : Bool) → due ≡ false → bound_heuristics left hopeless heuristics ≡ asked
  unfolding bound_heuristics
  not_due hopeless e = rw (← d, e, ← a) refl

  was_due : (hopeless : Bool) → due ≡ true → bound_heuristics left hopeless heuristics ≡ tried_heuristics hopeless asked
  unfolding bound_heuristics
  was_due hopeless e = rw (← d, e, ← a) refl

  pub heuristics_skipped : (hopeless : Bool) → due ≡ false → AdaptedAs (adapts heuristics) left (bound_heuristics left hopeless heuristics) asked
  heuristics_skipped hopeless e = rw (not_due hopeless e) (adapted_same (adapts heuristics) left asked)

  pub heuristics_tried : (hopeless : Bool) (tried : Heuristics) {after : Heuristics} → due ≡ true → AdaptedAs (adapts asked) left asked tried → after ≡ tried_heuristics hopeless tried
      → AdaptedAs (adapts heuristics) left (bound_heuristics left hopeless heuristics) after
  heuristics_tried hopeless tried e m t =
      let same : adapts asked ≡ adapts heuristics = ap (λ (h : Heuristics). adapts h) a ∙ asked_adapts left heuristics in
      rw (was_due hopeless e, t)
      (subst (λ (b : Bool). AdaptedAs b left (tried_heuristics hopeless asked) (tried_heuristics hopeless tried)) same (tried_adapted (adapts asked) left hopeless asked tried refl m))
