-- The messages of a table are small; the loop that sums those that a test on their tasks lets pass. Assumes nothing.
use mathlib.Core.Path.{◌≡◌, refl, sym, ◌∙◌}
use mathlib.Core.Bool.{Bool, true, false}
use Prim.Native.Nat.{ℕ, ◌+◌, ◌<◌}
use native.Mathlib.Omega.{arith}
use lib.ListN.{get_or}
use Rattle.finite.proofs.SumLoop.{Summing, summing_in, summing_out}
use Rattle.rows.proofs.Laws.{amounts_bound}
use Rattle.table.specs.declared.Table.{Table}
use Rattle.partial.specs.declared.Sizes.{Sizes}
use Rattle.partial.specs.Partial.{Lent}
use Rattle.partial.specs.Tests.{SmallMessages}
use Rattle.rows.specs.declared.Rows.{Rows}
use Rattle.rows.specs.declared.Messages.{Messages}

-- the messages of the table
pub small_messages : {t : Table} {sizes : Sizes} {rows : Rows} {links : Messages} → Lent t sizes rows links → SmallMessages links sizes.messages
small_messages {t} e =
    let sound = e.sound in
    record {
      few = omega (arith, e.messages, sound.messages.most);
      from_task = λ j l. rw e.same_sender (omega (arith, e.messages, sound.messages.from_task j (omega (arith, e.messages)), sound.tasks.most));
      to_task = λ j l. rw e.same_receiver (omega (arith, e.messages, sound.messages.to_task j (omega (arith, e.messages)), sound.tasks.most));
      small = λ j l. rw e.same_amounts (amounts_bound t sound j);
    }

-- of the first k messages, those whose tasks pass amount to this sum
abbrev pub MessageSum : Messages → ℕ → (ℕ → ℕ → Bool) → ℕ → ℕ → Type 0
MessageSum links count passes = Summing count (λ j. passes (get_or links.sender j 0) (get_or links.receiver j 0)) (λ j. get_or links.amount j 0) 1000000000000000

module _ {links : Messages} {count : ℕ} (m : SmallMessages links count) {p : ℕ → Bool} {k sum : ℕ}
    (w : Summing count p (λ j. get_or links.amount j 0) 1000000000000000 k sum) (l : k < count) where
  pub message_fits : sum + get_or links.amount k 0 < 18446744073709551616
  message_fits = omega (arith, w.small, m.few, m.small k l)

  -- one message more, with the answer of the test
  pub message_next : {b : Bool} → b ≡ p k → (b ≡ true → Summing count p (λ j. get_or links.amount j 0) 1000000000000000 (k + 1) (sum + get_or links.amount k 0))
      × (b ≡ false → Summing count p (λ j. get_or links.amount j 0) 1000000000000000 (k + 1) sum)
  message_next e = (λ u. summing_in w l (sym e ∙ u) refl (m.small k l), λ u. summing_out w l (sym e ∙ u))
