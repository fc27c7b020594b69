-- Where nothing is listed, with the candidates of the state. Where conflicts are listed, without listing first; where that gives the region up, once more.
use borrow.Author.Tests.{not-true}
use Rattle.capacity_bound.proofs.Bounding.{bounded_not, bounded_then}
use Rattle.bound.proofs.Bounding.{bounded_first, narrowed_weighable}
use Rattle.bound.proofs.Noting.{adapted_then, heuristics_skipped, heuristics_tried}
use Rattle.bound.proofs.bound.Goals as goal

pub returns-then-not-due : goal.returns-then-not-due
returns-then-not-due c =
    let d = c.due in
    let g = c.args in
    (λ t l b k. (bounded_not b.nogoods, k), heuristics_skipped g.s.left g.heuristics.now d.ensures.0 d.ensures.1 _ c.if-not-due.true)

pub try_all-only-requires : goal.try_all-only-requires
try_all-only-requires c =
    let w = c.requires in
    (w.0, w.1, narrowed_weighable c.args.mode w.2 (not-true c.args.mode.listing c.if-not-mode.true), w.3)

pub returns-then-not-mode : goal.returns-then-not-mode
returns-then-not-mode c =
    let d = c.due in
    let g = c.args in (
      λ t l b k. c.try_all-only.ensures.0 t l (narrowed_weighable g.mode b (not-true g.mode.listing c.if-not-mode.true)) k,
      heuristics_tried g.s.left g.heuristics.now d.ensures.0 d.ensures.1 _ _ (c.if-not-due.false) c.try_all-only.ensures.1 c.note.ensures,
    )

pub try_tested-first-requires : goal.try_tested-first-requires
try_tested-first-requires c = let z = c.requires in (z.0, z.1, record { fits = z.2.fits; nogoods = z.2.nogoods }, z.3)

pub returns-then-not-first : goal.returns-then-not-first
returns-then-not-first c =
    let d = c.due in
    let g = c.args in (
      λ t l b k.
          let a = c.try_tested-first.ensures.0 t l (record { fits = b.fits; nogoods = b.nogoods }) k in
          (bounded_first g.mode c.try_tested-first.result a.0 (not-true c.try_tested-first.result.hopeless c.if-not-first.true), a.1),
      heuristics_tried g.s.left g.heuristics.now d.ensures.0 d.ensures.1 _ _ (c.if-not-due.false) c.try_tested-first.ensures.1 c.note-then-not-first.ensures,
    )

pub try_tested-second-requires : goal.try_tested-second-requires
try_tested-second-requires c =
    let z = c.requires in
    let a = c.try_tested-first.ensures.0 z.0 z.1 (record { fits = z.2.fits; nogoods = z.2.nogoods }) z.3 in
    (z.0, z.1, record { fits = z.2.fits; nogoods = a.0.list.nogoods }, a.1)

pub returns : goal.returns
returns c =
    let d = c.due in
    let g = c.args in
    let m = adapted_then g.s.left d.new.heuristics c.try_tested-first.new.heuristics c.try_tested-second.new.heuristics c.try_tested-first.ensures.1 c.try_tested-second.ensures.1 in (
      λ t l b k.
          let a = c.try_tested-first.ensures.0 t l (record { fits = b.fits; nogoods = b.nogoods }) k in
          let o = c.try_tested-second.ensures.0 t l (record { fits = b.fits; nogoods = a.0.list.nogoods }) a.1 in
          (bounded_then c.try_tested-first.result c.try_tested-second.result a.0 o.0, o.1),
      heuristics_tried g.s.left g.heuristics.now d.ensures.0 d.ensures.1 _ _ (c.if-not-due.false) m c.note-2.ensures,
    )
