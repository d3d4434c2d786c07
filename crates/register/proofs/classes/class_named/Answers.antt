use Rattle.std.proofs.Common.{◌≡◌, ◌==◌, rules}
use Rattle.register.proofs.Names.{named_of_taken}
use Rattle.register.proofs.classes.class_named.Goals as goal

pub returns : goal.returns
returns c = rw c.ok.ensures.value (named_of_taken _ _ c.class_where.result (c.class_where.ensures c.args.closings (search rules)))
