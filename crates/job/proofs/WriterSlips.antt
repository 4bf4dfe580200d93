-- What writing writes of small concrete jobs, computed: each law names a slip of the definition that it would not survive. Assumes nothing.
use mathlib.Core.Path.{◌≡◌, refl}
use mathlib.Core.List.{[], ◌∷◌, ◌++◌}
use lib.ListN.{replicate}
use Rattle.numbers.specs.Notation.{if_then}
use Rattle.numbers.specs.Refusals.{refusal}
use Rattle.numbers.specs.Walks.{strung}
use Rattle.rows.specs.Tests.{unfit}
use Rattle.job_records.specs.Bytes.{bytes_of, pasted}
use Rattle.job.specs.Format.{Job, record_of, encoded}
use Rattle.job.specs.Writer.{written_into}
use Rattle.std.specs.Prelude.{Ok, Err}

-- 2 before 36; an output that the job fills is enough, one byte less is not; what stands behind is as found

abbrev no_pose : Job
no_pose = record { settings = replicate 4 0; poses = []; ends = []; edges = []; fixed = [] }

unfit_before_short :
    written_into (record { settings = replicate 4 0; poses = 0 ∷ []; ends = []; edges = []; fixed = [] }) [] ≡ (Err (refusal 2 0), [])
unfolding written_into unfit encoded strung bytes_of if_then
unfit_before_short = refl

one_byte_too_few : written_into no_pose (replicate 23 7) ≡ (Err (refusal 36 0), replicate 23 7)
unfolding written_into unfit encoded strung bytes_of if_then
one_byte_too_few = refl

just_enough : written_into no_pose (replicate 24 7) ≡ (Ok 24, record_of 1 (replicate 16 0) ++ record_of 5 [])
unfolding written_into unfit encoded strung bytes_of if_then pasted
just_enough = refl

behind_as_found : written_into no_pose (replicate 26 7) ≡ (Ok 24, record_of 1 (replicate 16 0) ++ record_of 5 [] ++ (7 ∷ 7 ∷ []))
unfolding written_into unfit encoded strung bytes_of if_then pasted
behind_as_found = refl
