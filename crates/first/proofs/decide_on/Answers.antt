-- The task's region is entered with a list without places; where it is closed no good placement has the task there.
use native.Mathlib.Omega.{arith}
use mathlib.Core.List.{[], ◌∷◌}
use Rattle.nogoods.proofs.Covers.{known_forgot}
use Rattle.restarts.proofs.Answering.{ready_stands}
use Rattle.first.proofs.Entering.{decided_closed, entered_ready, decided_open}
use Rattle.first.proofs.decide_on.Goals as goal

pub admit-entered-requires : goal.admit-entered-requires
admit-entered-requires c =
    let a = c.requires in
    ((a.0.0, a.0.1, ready_stands {list = 0 ∷ 0 ∷ 0 ∷ []} (omega arith) a.0.2, known_forgot a.0.3.knows c.forget.ensures _ _), a.1, a.2)

pub returns-in_default : goal.returns-in_default
returns-in_default c =
    λ t l w k. let x = c.admit-entered.ensures t l (ready_stands {list = 0 ∷ 0 ∷ 0 ∷ []} (omega arith) w) (known_forgot k.knows c.forget.ensures _ _) in
    (decided_closed c.admit-entered.result x.0 c.in_default.is, record { knows = x.1.late; keeps = k.keeps })

pub decide-requires : goal.decide-requires
decide-requires c =
    let a = c.requires in
    let x = c.admit-entered.ensures a.0.0 a.0.1 (ready_stands {list = 0 ∷ 0 ∷ 0 ∷ []} (omega arith) a.0.2) (known_forgot a.0.3.knows c.forget.ensures _ _) in
    (a.0.0, a.0.1, entered_ready c.admit-entered.result x.0 c.in-Some.is, record { knows = x.1.late; keeps = a.0.3.keeps })

pub returns : goal.returns
returns c =
    λ t l w k. let x = c.admit-entered.ensures t l (ready_stands {list = 0 ∷ 0 ∷ 0 ∷ []} (omega arith) w) (known_forgot k.knows c.forget.ensures _ _) in
    let f = c.in-Some.is in
    let y = c.decide.ensures t l (entered_ready c.admit-entered.result x.0 f) (record { knows = x.1.late; keeps = k.keeps }) in
    (decided_open c.admit-entered.result x.0 f c.decide.result y.0, y.1)
