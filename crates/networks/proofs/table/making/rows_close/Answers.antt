use Rattle.std.proofs.Common.{⊎_elim, rules}
use Rattle.std.proofs.lemmas.Bool.{cases_Bool}
use Rattle.networks.specs.Tables.{Close}
use Rattle.networks.proofs.Rows.{each_row, some_row}
use Rattle.networks.proofs.table.making.rows_close.Goals as goal

pub returns : goal.returns
returns c =
    let run = c.all.ensures.runs in
    let made = c.chunks_exact.ensures in
    let chunks = rw (run.1, made.rest, made.size) at (made.runs run.0 run.0.seen) c.requires.a_bus in
    (λ t. let all = rw t at run.2 in each_row run.0 _ _ Close chunks all.0 (search rules), λ h. ⊎_elim (λ t. t) (λ f. let some = rw f at run.2 in absurd (some_row run.0 _ _ Close c.requires.a_bus chunks (search rules) h)) (cases_Bool c.all.result))
