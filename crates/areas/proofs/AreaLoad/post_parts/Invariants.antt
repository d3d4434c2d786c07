use Rattle.std.proofs.Common.{◌≡◌, ◌+◌, ◌≤◌, ◌++◌, length}
use Rattle.ledgers.specs.Book.{SameSlice, book, holding}
use Rattle.areas.specs.Areas.{loads}
use Rattle.quantities.specs.Views.{megawatts}
use Rattle.areas.proofs.AreaLoad.post_parts.Given as goal

-- there is room for the loads that are left, and with them what stands makes up the whole
abbrev pub invariant-loop-member : goal.invariant-loop-member
invariant-loop-member l =
    let b = book l.ledger in
    let e = book l.initial.ledger in
    let who = l.self.participant in
    let left = l.member-iterator.a.rest.now in
    let parts = l.member-iterator.b.rest.now in
    record {
      room : length b.items + length left ≤ b.capacity;
      slice : SameSlice l.initial.ledger l.ledger;
      all : holding b (b.items ++ loads who left (megawatts parts)) ≡ holding e (e.items ++ loads who l.self.members.now (megawatts l.row));
    }
