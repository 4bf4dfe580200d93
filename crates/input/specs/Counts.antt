-- How many bytes were read, whether or not a read failed.
use Rattle.std.specs.Prelude.{ℕ, Result, Ok, Err}
use Rattle.input.specs.declared.ReadError.{ReadError}

abbrev pub count_of : Result ℕ ReadError → ℕ
count_of (Ok n) = n
count_of (Err e) = e.bytes
