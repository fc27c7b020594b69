-- A placement that was found is one that holds no listed conflict.
use native.Mathlib.Omega.{arith}
use mathlib.Core.Bool.{true, false}
use Rattle.nogoods.proofs.Covers.{known_forgot}
use Rattle.bound_cache.proofs.Laws.{learnt_of}
use Rattle.restarts.proofs.Answering.{begins_listing, covering_begin, covering_cut, covering_complete}
use Rattle.restarts.proofs.replay.Goals as goal

pub prepare-begin-requires : goal.prepare-begin-requires
prepare-begin-requires c =
    let a = c.requires in
    ((a.0, a.1, a.2.fits, known_forgot a.3.knows c.forget.ensures _ _), omega (arith, a.2.nogoods.room))

pub backtrack-replayed-requires : goal.backtrack-replayed-requires
backtrack-replayed-requires c =
    let a = c.requires in
    let knows = c.prepare-begin.ensures.1 a.0 a.1 a.2.fits (known_forgot a.3.knows c.forget.ensures _ _) in
    (a.0, a.1, begins_listing _ a.2 c.prepare-begin.ensures.0, record { knows = knows; keeps = a.3.keeps })

pub returns-in-Found : goal.returns-in-Found
returns-in-Found c =
    λ t l b k. let knows = c.prepare-begin.ensures.1 t l b.fits (known_forgot k.knows c.forget.ensures _ _) in
    let y = c.backtrack-replayed.ensures t l (begins_listing _ b c.prepare-begin.ensures.0) (record { knows = knows; keeps = k.keeps }) in
    let r = c.backtrack-replayed.result in
    (covering_begin c.args.s _ c.prepare-begin.ensures.0 (record { cut = true; count = r.count }) (covering_cut r y.0 c.in-Found.is), learnt_of y.1)

pub returns-in_default : goal.returns-in_default
returns-in_default c =
    λ t l b k. let knows = c.prepare-begin.ensures.1 t l b.fits (known_forgot k.knows c.forget.ensures _ _) in
    let y = c.backtrack-replayed.ensures t l (begins_listing _ b c.prepare-begin.ensures.0) (record { knows = knows; keeps = k.keeps }) in
    let r = c.backtrack-replayed.result in
    (covering_begin c.args.s _ c.prepare-begin.ensures.0 (record { cut = false; count = r.count }) (covering_complete r y.0 c.in_default.not-Found), learnt_of y.1)
