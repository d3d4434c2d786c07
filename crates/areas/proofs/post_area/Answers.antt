use Rattle.std.proofs.Common.{◌+◌, ◌≤◌, length, arith}
use Rattle.std.proofs.lemmas.List.{length-take}
use Rattle.std.proofs.lemmas.Result.{err_from_is_err_and}
use Rattle.ledgers.specs.Book.{book}
use Rattle.areas.specs.Areas.{many_members, no_room}
use Rattle.areas.proofs.Loads.{area_full, area_apart, area_clear}
use Rattle.areas.proofs.post_area.Goals as goal
use Rattle.areas.proofs.post_area.Goals.{then-members-gt-MAX_RECORDS-via-then-members-gt-MAX_RECORDS, then-members-gt-MAX_RECORDS-via-else-members-gt-MAX_RECORDS+then-members-room}

pub returns-then-members-gt-MAX_RECORDS-clause-answer : goal.returns-then-members-gt-MAX_RECORDS-clause-answer
returns-then-members-gt-MAX_RECORDS-clause-answer c = elim c.then-members-gt-MAX_RECORDS.branch [
  | then-members-gt-MAX_RECORDS-via-then-members-gt-MAX_RECORDS w ↦ area_full _ _ (many_members w.if-members-gt-MAX_RECORDS.true)
  | then-members-gt-MAX_RECORDS-via-else-members-gt-MAX_RECORDS+then-members-room w ↦ area_full _ _ (no_room (omega (arith, w.room.ensures, w.if-members-room.true)))
]

-- the members find room, since what stands is no longer than the slice
pub returns-in_err-load-clause-answer : goal.returns-in_err-load-clause-answer
returns-in_err-load-clause-answer c =
    let l = c.args.ledger.now in
    let q = c.in_err-load.ensures.weighed in
    let e = err_from_is_err_and c.from_residual.result c.from_residual.ensures.1 in
    let room : length (book l).items + length c.args.members.now ≤ (book l).capacity = omega (arith, c.room.ensures, length-take l.len l.records.now) in
    rw (e.1, e.2, q.0) (area_apart (book l) c.args.members.now c.if-members-gt-MAX_RECORDS.false room q.1)

pub returns-clause-answer : goal.returns-clause-answer
returns-clause-answer c =
    let l = c.args.ledger.now in
    area_clear (book l) c.args.members.now c.if-members-gt-MAX_RECORDS.false (omega (arith, c.room.ensures, length-take l.len l.records.now)) c.in_ok-load.ensures.weighed
