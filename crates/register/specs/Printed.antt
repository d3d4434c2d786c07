-- What is printed of a call that is taken. Assumes nothing.
use Rattle.std.specs.Prelude.{ℕ, List, ◌++◌, codes, decimal}
use Rattle.register.specs.declared.answers.Accepted.{Accepted}
use Rattle.register.specs.declared.answers.Accepted.TheVariants.{RecordNumber, Taken}

abbrev pub text_of : Accepted → List ℕ
text_of (RecordNumber i) = codes "record " ++ decimal i
text_of Taken = codes "taken"
