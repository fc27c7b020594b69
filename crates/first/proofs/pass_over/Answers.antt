-- The task's region is entered, which lists a conflict where it is closed; otherwise its conflicts are listed.
use Rattle.nogoods.proofs.Covers.{known_forgot}
use Rattle.first.proofs.Entering.{covering_closed, entered_begins, entered_none, covering_open}
use Rattle.first.proofs.pass_over.Goals as goal

pub admit-entered-requires : goal.admit-entered-requires
admit-entered-requires c =
    let a = c.requires in
    ((a.0.0, a.0.1, a.0.2.0, known_forgot a.0.3.knows c.forget.ensures _ _), a.1, a.2)

pub returns-in_default : goal.returns-in_default
returns-in_default c =
    λ t l b k. let x = c.admit-entered.ensures t l b.0 (known_forgot k.knows c.forget.ensures _ _) in
    (covering_closed c.admit-entered.result x.0 c.in_default.is, record { knows = x.1.late; keeps = k.keeps })

pub cover-requires : goal.cover-requires
cover-requires c =
    let a = c.requires in
    let x = c.admit-entered.ensures a.0.0 a.0.1 a.0.2.0 (known_forgot a.0.3.knows c.forget.ensures _ _) in
    let f = c.in-Some.is in
    (a.0.0, a.0.1, (entered_begins c.admit-entered.result x.0 f, entered_none c.admit-entered.result x.0 f a.0.2.1), record { knows = x.1.late; keeps = a.0.3.keeps })

pub returns : goal.returns
returns c =
    λ t l b k. let x = c.admit-entered.ensures t l b.0 (known_forgot k.knows c.forget.ensures _ _) in
    let f = c.in-Some.is in
    let y = c.cover.ensures t l (entered_begins c.admit-entered.result x.0 f, entered_none c.admit-entered.result x.0 f b.1) (record { knows = x.1.late; keeps = k.keeps }) in
    (covering_open c.admit-entered.result x.0 f c.cover.result y.0, y.1)
