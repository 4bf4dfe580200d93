-- What the exported reader and writer of jobs give back and write: document 02, Wish 1. An answer of another length than named gets 4294967295 back, and
-- nothing is changed. Definitions only.
use Rattle.job_records.specs.declared.Tally.{Tally}
use Rattle.numbers.specs.declared.Refusal.{Refusal}
use Rattle.std.specs.Prelude.{ℕ, List, eqb, length, Result}
use Rattle.numbers.specs.Notation.{if_then}
use Rattle.job.specs.Format.{Job, Space, read_into}
use Rattle.job.specs.Writer.{written_into}
use Rattle.job.specs.declared.SettingBits.{SettingBits}
use Rattle.telling.specs.Telling.{read_number, read_answer, written_number, written_two}
use Rattle.exports.specs.Layers.{unfit_number}

abbrev pub bits : ℕ → ℕ → ℕ → ℕ → SettingBits
bits limit cost gradient damping =
    record { limit = limit; cost_tolerance = cost; gradient_tolerance = gradient; damping = damping }

-- ---- pgo_read_job

abbrev pub read_told : Result (SettingBits × Tally) Refusal × Space → ℕ × Space × List ℕ
read_told (v, l) = (read_number v, l, read_answer v)

unfoldable pub read_out : List ℕ → Space → List ℕ → ℕ × Space × List ℕ
read_out s l a = if_then (eqb (length a) 8) (read_told (read_into s l)) (unfit_number, l, a)

-- ---- pgo_write_job

abbrev pub write_told : Result ℕ Refusal × List ℕ → ℕ × List ℕ × List ℕ
write_told (v, out) = (written_number v, out, written_two v)

unfoldable pub write_out : Job → List ℕ → List ℕ → ℕ × List ℕ × List ℕ
write_out j out a = if_then (eqb (length a) 2) (write_told (written_into j out)) (unfit_number, out, a)
