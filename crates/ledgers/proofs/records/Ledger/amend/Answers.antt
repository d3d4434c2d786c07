use Rattle.std.proofs.Common.{◌≡◌, ℕ, ◌<◌, ◌≤◌, List, length, get_or, take, set, Ok, refl, arith}
use Rattle.std.proofs.Math.Seq.{take-set-lt}
use Rattle.std.proofs.lemmas.List.{length-set, length-take-le, get_or-take, get_or_default}
use Rattle.ledgers.specs.Book.{Amended, front_book}
use Rattle.ledgers.proofs.records.Ledger.amend.Goals as goal

-- an amendment of what stands, in the list that the lent slice holds
amends : {P : Type 0} (f : P → ℕ → P) (xs : List P) (n m i mw : ℕ) (x y : P) → n ≤ length xs → m ≤ i → i < length (take n xs) → y ≡ f (get_or xs i x) mw → Amended f (front_book xs n m) i mw (Ok tt) (front_book (set xs i y) n m)
amends f xs n m i mw x y fits low stands is =
    let len = length-take-le n xs fits in
    (low, stands, λ d. grind (arith, take-set-lt n xs i y, get_or-take n xs i d, get_or_default xs i x d, length-set xs i y))

pub returns-clause-amended : goal.returns-clause-amended
returns-clause-amended g c =
    let l = c.args.self.now in
    let stands = c.if-not-is_open.ensures.0 refl in
    amends g.P.Position.amended l.records.now l.len l.mark c.args.number c.args.tenths _ _ l.fits stands.0 stands.1 c.with_tenths.ensures
