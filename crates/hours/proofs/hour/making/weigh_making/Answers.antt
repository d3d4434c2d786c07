use Rattle.std.proofs.Common.{⊎_elim}
use Rattle.register.specs.Weighed.{no_bus, many_buses, many_positions, many_transactions}
use Rattle.register.proofs.Closings.{making_first}
use Rattle.hours.proofs.hour.making.weigh_making.Goals as goal

pub returns-then-buses-lt1 : goal.returns-then-buses-lt1
returns-then-buses-lt1 c =
    making_first _ _ _
    (⊎_elim no_bus (⊎_elim (λ h. many_buses h.1) (⊎_elim (λ h. many_positions h.2) (λ h. many_transactions h.3))) c.then-buses-lt1.either)
