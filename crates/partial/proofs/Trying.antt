-- The trial of a task on a processor, as the code comes to it. Assumes nothing.
use mathlib.Core.Path.{◌≡◌, refl}
use mathlib.Core.Bool.{true, false, and-false}
use Rattle.std.proofs.Common.{Some, None}
use Prim.Native.Nat.{ℕ}
use lib.Dec.{leb}
use lib.ListN.{get_or}
use Rattle.rules.specs.Sets.{meets}
use Rattle.partial.specs.declared.Sizes.{Sizes}
use Rattle.partial.specs.declared.Site.{Site}
use Rattle.partial.specs.Tests.{neither, suits, between, trial_of}
use Rattle.rows.specs.declared.Rows.{Rows}
use Rattle.rows.specs.declared.Messages.{Messages}

module _ (rows : Rows) (links : Messages) (sizes : Sizes) (site : Site) (k p : ℕ) where
  pub trial_unsuited : suits rows site k p ≡ false → None ≡ trial_of rows links sizes site k p
  unfolding trial_of
  trial_unsuited e = rw e refl

  module _ {others : ℕ} (o : others ≡ neither sizes.tasks site.left site.on) where
    pub trial_parted : meets (get_or rows.partners k 0) others ≡ true → None ≡ trial_of rows links sizes site k p
    unfolding trial_of
    trial_parted e = rw (← o, e, and-false) refl

    module _ {added : ℕ} (e : suits rows site k p ≡ true) (f : meets (get_or rows.partners k 0) others ≡ false) (d : added ≡ between links sizes.messages k others) where
      pub trial_beyond : leb added site.traffic ≡ false → None ≡ trial_of rows links sizes site k p
      unfolding trial_of
      trial_beyond g = rw (← o, e, f, ← d, g) refl

      pub trial_made : leb added site.traffic ≡ true → Some added ≡ trial_of rows links sizes site k p
      unfolding trial_of
      trial_made g = rw (← o, e, f, ← d, g) refl
