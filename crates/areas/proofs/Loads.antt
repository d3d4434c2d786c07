-- The loads of an area: how many parts there are, and which refusal is answered. Assumes nothing.
use Rattle.std.proofs.Common.{◌≡◌, ℕ, ◌+◌, ◌≤◌, ◌≢◌, List, length, pos, ◌∙◌, ⊎_elim, arith, lit≤}
use Rattle.std.proofs.lemmas.List.{length-map}
use Rattle.std.proofs.lemmas.Bool.{cases_eq}
use Rattle.refusals.proofs.Numbers.{at_most}
use Rattle.refusals.specs.Answers.{First, Clear}
use Rattle.refusals.specs.Causes.{number}
use Rattle.refusals.specs.declared.Cause.{Cause}
use Rattle.refusals.specs.declared.Cause.TheVariants.{LedgerFull, AreaNotWhole}
use Rattle.quantities.specs.Sums.{atℕ}
use Rattle.quantities.proofs.SumLaws.{length_row}
use Rattle.apportion.specs.Split.{share, shares, whole}
use Rattle.apportion.specs.declared.items.AreaMember.{AreaMember}
use Rattle.ledgers.specs.Book.{Book}
use Rattle.ledgers.specs.Limits.{most_records}
use Rattle.positions.specs.declared.bus_positions.BusPosition.{BusPosition}
use Rattle.areas.specs.Areas.{shares_by, AreaRefused, many_members, no_room, not_whole}

pub length_shares : (a : ℕ) (ms : List AreaMember) → length (shares (pos a) (shares_by ms)) ≡ length ms
length_shares a ms = length_row (length (shares_by ms)) (share (pos a) (length (shares_by ms)) (atℕ (shares_by ms))) ∙ length-map ms (λ m. m.share)

-- ---- the causes

module _ (b : Book BusPosition) (ms : List AreaMember) where
  full_least : (d : Cause) → AreaRefused b ms d → 6 ≤ number d
  full_least d (many_members h) = lit≤ tt
  full_least d (no_room h) = lit≤ tt
  full_least d (not_whole h) = lit≤ tt

  pub area_full : AreaRefused b ms LedgerFull → First (AreaRefused b ms) LedgerFull
  area_full h = record { holds = h; least = full_least }

  module _ (few : length ms ≤ most_records) (room : length b.items + length ms ≤ b.capacity) where
    apart_least : (d : Cause) → AreaRefused b ms d → 9 ≤ number d
    apart_least d (many_members h) = absurd (omega arith)
    apart_least d (no_room h) = absurd (omega arith)
    apart_least d (not_whole h) = lit≤ tt

    pub area_apart : whole (shares_by ms) ≢ 10000 → First (AreaRefused b ms) AreaNotWhole
    area_apart h = record { holds = not_whole h; least = apart_least }

    pub area_clear : whole (shares_by ms) ≡ 10000 → Clear (AreaRefused b ms)
    area_clear all c (many_members h) = omega arith
    area_clear all c (no_room h) = omega arith
    area_clear all c (not_whole h) = h all

  -- what a taken area has shown, and what a refused one
  pub clear_room : Clear (AreaRefused b ms) → length b.items + length ms ≤ b.capacity
  clear_room none = at_most _ _ (λ q. none LedgerFull (no_room q))

  pub clear_whole : Clear (AreaRefused b ms) → whole (shares_by ms) ≡ 10000
  clear_whole none = ⊎_elim (λ e. e) (λ d. absurd (none AreaNotWhole (not_whole d))) (cases_eq (whole (shares_by ms)) 10000)
