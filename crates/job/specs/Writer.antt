-- The writer of job files: which jobs it refuses, and what it writes (document 02, Wish 1). Definitions only.
use Rattle.std.specs.Prelude.{ℕ, List, [], ◌∷◌, ltb, length, Result, Ok, Err}
use Rattle.numbers.specs.Refusals.{Row, row, verdict, Verdict}
use Rattle.rows.specs.Tests.{unfit}
use Rattle.numbers.specs.declared.Refusal.{Refusal}
use Rattle.job_records.specs.Bytes.{pasted}
use Rattle.job.specs.Format.{Job, encoded}

-- row 2 of poses, ends and edge numbers (no output of poses is asked for), then an output too short
abbrev pub write_rows : Job → List ℕ → List Row
write_rows j out =
    row 2 (unfit (length j.poses) (length j.ends) (length j.edges) (length j.poses))
    ∷ row 36 (ltb (length out) (length (encoded j)))
    ∷ []

abbrev pub written_as : Job → List ℕ → Verdict → Result ℕ Refusal × List ℕ
written_as j out (Ok _) = (Ok (length (encoded j)), pasted 0 (encoded j) out)
written_as j out (Err r) = (Err r, out)

unfoldable pub written_into : Job → List ℕ → Result ℕ Refusal × List ℕ
written_into j out = written_as j out (verdict (write_rows j out))
