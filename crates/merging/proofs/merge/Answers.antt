-- The merge writes one entry a turn; the lemmas on its state say that the state holds again.
use Rattle.std.proofs.Common.{◌≡◌, ◌+◌, ◌-◌, ◌<◌, length, get_or, take, inl, inr, refl, sym, subst, arith, rules}
use Rattle.std.proofs.lemmas.List.{take_all, length-take-le}
use borrow.Author.Tests.{true-ltb, false-ltb}
use Rattle.merging.specs.Merging.{Merged}
use Rattle.merging.proofs.Halfway.{halfway_none, halfway_first, halfway_second, halfway_all, place_within, place_last, last_left, fewer_left}
use Rattle.merging.proofs.merge.Goals as goal
use Rattle.merging.proofs.merge.Goals.{else-left-gt0-via-then-left-gt0+else-stands_after, else-left-gt0-via-else-left-gt0}

pub loop-run-init : goal.loop-run-init
loop-run-init g c =
    (halfway_none c.args.table.now.cells.now c.args.table.now.count c.args.run.now (omega arith), sym (take_all (length c.args.run.now) c.args.run.now (omega arith)), (refl, refl))

pub offset_bounds-table-left : goal.offset_bounds-table-left
offset_bounds-table-left g c = let h : c.loop-run.left - 1 < length c.args.table.now.cells.now = omega arith in search rules

pub offset_bounds-table-left-then-stands_after : goal.offset_bounds-table-left-then-stands_after
offset_bounds-table-left-then-stands_after g c = let h : c.loop-run.left - 1 < length c.args.table.now.cells.now = omega arith in search rules

pub offset_bounds-table-place : goal.offset_bounds-table-place
offset_bounds-table-place g c = let h : c.loop-run.left + length (take (length c.loop-run.run.now - 1) c.loop-run.run.now) < length c.args.table.now.cells.now = place_within c.loop-run.run.now c.loop-run.invariant.0 (omega arith) in search rules

pub loop-run-preserved-then-stands_after : goal.loop-run-preserved-then-stands_after
loop-run-preserved-then-stands_after g c =
    let (h, left, counted) = c.loop-run.invariant in (
      halfway_first _ _ _ _ _ _ h _ _ c.last-item.result _ (place_last c.loop-run.run.now _ (omega arith)) (omega arith) (omega arith)
          (last_left c.args.run.now c.loop-run.run.now _ left (omega arith) c.last-item.is) (true-ltb _ _ c.if-stands_after.ensures),
      left,
      counted,
    )

pub offset_bounds-table-place-else-left-gt0 : goal.offset_bounds-table-place-else-left-gt0
offset_bounds-table-place-else-left-gt0 g c = let h : c.loop-run.left + length (take (length c.loop-run.run.now - 1) c.loop-run.run.now) < length c.args.table.now.cells.now = place_within c.loop-run.run.now c.loop-run.invariant.0 (omega arith) in search rules

pub loop-run-preserved : goal.loop-run-preserved
loop-run-preserved g c =
    let run = c.loop-run.run.now in
    let fewer = length-take-le (length run - 1) run (omega arith) in
    let (h, left, counted) = c.loop-run.invariant in (
      halfway_second _ _ _ _ _ _ h _ _ c.last-item.result (place_last run _ (omega arith)) (omega arith)
          (subst (λ k. c.last-item.result ≡ get_or c.args.run.now k c.last-item.result) (sym fewer) (last_left c.args.run.now run _ left (omega arith) c.last-item.is))
          (elim c.else-left-gt0.branch [
            | else-left-gt0-via-then-left-gt0+else-stands_after w ↦ inr (w.index-table-left.result, false-ltb _ _ w.if-stands_after.ensures)
            | else-left-gt0-via-else-left-gt0 w ↦ inl (omega arith)
          ]),
      fewer_left c.args.run.now run left,
      counted,
    )

pub returns-clause-merged : goal.returns-clause-merged
returns-clause-merged g c fit m =
    let (h, left, (count, same)) = c.loop-run.invariant in
    subst (λ k. Merged (take c.args.table.now.count c.args.table.now.cells.now) c.args.run.now (take k c.loop-run.table.cells.now)) (sym count)
    (halfway_all _ _ _ _ _ _ h (omega arith) m)
