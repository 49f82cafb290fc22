-- What is pending, by number: 0 nothing, 1 letters, 2 digits, 3 `-`; and the place from which the letters come. Assumes nothing.
use Rattle.std.specs.Prelude.{ℕ}
use Rattle.scan.specs.declared.looks.Pending.{Pending}
use Rattle.scan.specs.declared.looks.Pending.TheVariants.{Nothing, Letters, Digits, Dash}

abbrev pub pending_code : Pending → ℕ
pending_code Nothing = 0
pending_code (Letters from) = 1
pending_code Digits = 2
pending_code Dash = 3

abbrev pub from_code : Pending → ℕ
from_code Nothing = 0
from_code (Letters from) = from
from_code Digits = 0
from_code Dash = 0
