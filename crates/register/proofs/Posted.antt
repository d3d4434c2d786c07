-- A posting, a transaction and an area on the books of an hour, as steps of its register. Assumes nothing.
use Rattle.std.proofs.Common.{◌≡◌, ℕ, ◌+◌, ◌<◌, ◌≤◌, [], ◌∷◌, ◌++◌, length, Ok, Err, ap, ◌∙◌, arith}
use Rattle.refusals.proofs.Numbers.{at_most}
use Rattle.refusals.specs.Answers.{Clear, First}
use Rattle.refusals.specs.Causes.{number}
use Rattle.refusals.specs.declared.Cause.{Cause}
use Rattle.refusals.specs.declared.Cause.TheVariants.{LedgerFull, SourceIsSink}
use Rattle.areas.specs.Areas.{MembersPlaced, AreaRefused, many_members, no_room, not_whole}
use Rattle.areas.proofs.Loads.{clear_room, clear_whole}
use Rattle.ledgers.specs.Book.{Book, Appended, holding}
use Rattle.positions.specs.Classes.{side_of}
use Rattle.positions.specs.Kinds.{position, transaction}
use Rattle.positions.specs.declared.bus_positions.BusPosition.{BusPosition}
use Rattle.positions.specs.declared.transactions.Transaction.{Transaction}
use Rattle.positions.specs.declared.classes.Class.{Class}
use Rattle.positions.specs.declared.classes.Side.{Side}
use Rattle.positions.specs.declared.classes.Side.TheVariants.{Withdrawing, Transacting}
use Rattle.register.specs.declared.answers.Accepted.TheVariants.{RecordNumber}
use Rattle.register.specs.declared.totals.Totals.{Totals}
use Rattle.register.specs.Totals.{Amended}
use Rattle.register.specs.Register.{Posting, Transfer, Area, post, transfer, area, area_loads, Names, total, Step}
use Rattle.register.specs.Views.{phase_of, register}
use Rattle.register.proofs.Kept.{kept_length, kept_more}
use Rattle.register.proofs.Lawful.{Lawful, Made, opened, positions_added, transactions_added}
use Rattle.register.proofs.Spread.{area_no_room, area_not_whole, area_taken, area_too_much, count_area}
use Rattle.register.proofs.Steps.{post_too_much, post_no_room, post_taken, transfer_too_much, transfer_nowhere, transfer_no_room, transfer_taken}

module _ {k n : ℕ} {t : Totals} {b : Book BusPosition} {d : Book Transaction} (h : Lawful k n t b d) where
  -- a total that takes m more is the register's, and stays within the limit
  within : (s : Side) (m : ℕ) (u : Totals) → Amended t s 0 m (Ok u) → total (register k n b d) (phase_of k) s + m ≤ 1000000
  within s m u new = let is = h.summed s in omega (arith, new.0)

  beyond : (s : Side) (m : ℕ) (f : Cause) → Amended t s 0 m (Err f) → 1000000 < total (register k n b d) (phase_of k) s + m
  beyond s m f new = let is = h.summed s in omega (arith, new.1)

  -- ---- a posting of a class that its number names

  module _ (a : Posting) (bus : a.bus < n) (who : a.participant ≤ 15) (c : Class) (names : Names (phase_of k) a.class c) where
    pub post_over : (f : Cause) → Amended t (side_of c) 0 a.amount (Err f) → Step (register k n b d) (post a) (Err f) (register k n b d)
    post_over f new = rw new.0 (post_too_much (opened h) a bus who c names (beyond (side_of c) a.amount f new))

    module _ (u : Totals) (new : Amended t (side_of c) 0 a.amount (Ok u)) (x : BusPosition) (is : x ≡ position a.participant c a.bus a.amount) (e : Book BusPosition) where
      pub post_full : (f : Cause) → Appended b x (Err f) e → Step (register k n b d) (post a) (Err f) (register k n e d)
      post_full f put =
          let long = kept_length (phase_of k) b in
          rw (put.2, put.0) (post_no_room (opened h) a bus who c names (within (side_of c) a.amount u new) (omega (arith, put.1)))

      pub post_made : (i : ℕ) → Appended b x (Ok i) e → Made (register k n b d) (post a) (Ok (RecordNumber i)) k n u e d
      post_made i put =
          let r = register k n b d in
          let p = phase_of k in
          let y : BusPosition = position a.participant c a.bus a.amount in
          let grown : e ≡ holding b (b.items ++ (y ∷ [])) = put.2 ∙ ap (λ (z : BusPosition). holding b (b.items ++ (z ∷ []))) is in
          let long = kept_length p b in
          let more = kept_more p b (y ∷ []) h.marked.0.0 in
          let step = post_taken (opened h) a bus who c names (within (side_of c) a.amount u new) (omega (arith, put.0)) in
          let on_books : Step r (post a) (Ok (RecordNumber i)) (register k n e d) = rw (grown, more, put.1, ← long) step in
          positions_added h (side_of c) a.amount u new (y ∷ []) e (λ q s. omega arith) grown on_books

  -- ---- a transaction

  module _ (a : Transfer) (buses : (a.source < n) × (a.sink < n)) (who : a.participant ≤ 15) where
    pub transfer_over : (f : Cause) → Amended t Transacting 0 a.amount (Err f) → Step (register k n b d) (transfer a) (Err f) (register k n b d)
    transfer_over f new = rw new.0 (transfer_too_much (opened h) a buses who (beyond Transacting a.amount f new))

    module _ (u : Totals) (new : Amended t Transacting 0 a.amount (Ok u)) where
      pub transfer_to_itself : a.source ≡ a.sink → Step (register k n b d) (transfer a) (Err SourceIsSink) (register k n b d)
      transfer_to_itself same = transfer_nowhere (opened h) a buses who (within Transacting a.amount u new) same

      module _ (apart : a.source ≡ a.sink → ⊥) (x : Transaction) (is : x ≡ transaction a.participant a.source a.sink a.amount) (e : Book Transaction) where
        pub transfer_full : (f : Cause) → Appended d x (Err f) e → Step (register k n b d) (transfer a) (Err f) (register k n b e)
        transfer_full f put =
            let long = kept_length (phase_of k) d in
            rw (put.2, put.0) (transfer_no_room (opened h) a buses who (within Transacting a.amount u new) apart (omega (arith, put.1)))

        pub transfer_made : (i : ℕ) → Appended d x (Ok i) e → Made (register k n b d) (transfer a) (Ok (RecordNumber i)) k n u b e
        transfer_made i put =
            let r = register k n b d in
            let p = phase_of k in
            let y : Transaction = transaction a.participant a.source a.sink a.amount in
            let grown : e ≡ holding d (d.items ++ (y ∷ [])) = put.2 ∙ ap (λ (z : Transaction). holding d (d.items ++ (z ∷ []))) is in
            let long = kept_length p d in
            let more = kept_more p d (y ∷ []) h.marked.1.0 in
            let step = transfer_taken (opened h) a buses who (within Transacting a.amount u new) apart (omega (arith, put.0)) in
            let on_books : Step r (transfer a) (Ok (RecordNumber i)) (register k n b e) = rw (grown, more, put.1, ← long) step in
            transactions_added h Transacting a.amount u new (y ∷ []) e (λ q s. omega arith) grown on_books

  -- ---- an area

  module _ (a : Area) (buses : MembersPlaced n a.members) (who : a.participant ≤ 15) where
    pub area_over : (f : Cause) → Amended t Withdrawing 0 a.amount (Err f) → Step (register k n b d) (area a) (Err f) (register k n b d)
    area_over f new = rw new.0 (area_too_much (opened h) a buses who (beyond Withdrawing a.amount f new))

    module _ (u : Totals) (new : Amended t Withdrawing 0 a.amount (Ok u)) (e : Book BusPosition) where
      -- refused for want of room or for its shares, whichever comes first
      unposted : (f : Cause) → AreaRefused b a.members f → ((c : Cause) → AreaRefused b a.members c → number f ≤ number c) → Step (register k n b d) (area a) (Err f) (register k n b d)
      unposted f (many_members q) least =
          let long = kept_length (phase_of k) b in
          let small = h.sized.0 in
          area_no_room (opened h) a buses who (within Withdrawing a.amount u new) (omega arith)
      unposted f (no_room q) least =
          let long = kept_length (phase_of k) b in
          area_no_room (opened h) a buses who (within Withdrawing a.amount u new) (omega arith)
      unposted f (not_whole q) least =
          let long = kept_length (phase_of k) b in
          let room : length b.items + length a.members ≤ b.capacity = at_most _ _ (λ l. let first = least LedgerFull (no_room l) in omega arith) in
          area_not_whole (opened h) a buses who (within Withdrawing a.amount u new) (omega arith) q

      pub area_unposted : (f : Cause) → First (AreaRefused b a.members) f → e ≡ b → Step (register k n b d) (area a) (Err f) (register k n e d)
      area_unposted f first same = rw same (unposted f first.holds first.least)

      pub area_made : (i : ℕ) → Clear (AreaRefused b a.members) → i ≡ length b.items → e ≡ holding b (b.items ++ area_loads a) → Made (register k n b d) (area a) (Ok (RecordNumber i)) k n u e d
      area_made i clear at-end grown =
          let r = register k n b d in
          let p = phase_of k in
          let xs = area_loads a in
          let all = clear_whole b a.members clear in
          let room = clear_room b a.members clear in
          let long = kept_length p b in
          let more = kept_more p b xs h.marked.0.0 in
          let step = area_taken (opened h) a buses who (within Withdrawing a.amount u new) (omega arith) all in
          let on_books : Step r (area a) (Ok (RecordNumber i)) (register k n e d) = rw (grown, more, at-end, ← long) step in
          positions_added h Withdrawing a.amount u new xs e (λ q s. count_area (phase_of k) q s a all) grown on_books
