-- A job's run: document 02, Wish 1, "A job means a DOF 6 run". What was read is run by `optimized`, every setting as it stands in the job, and where that
-- succeeds it is judged as a scan is (Wish 2) and the job is written again with the new poses. The patterns of a job's poses and
-- edges become floats, and floats patterns, here and nowhere else; those of its settings in `Terms` of job_terms. Definitions only.
use Rattle.numbers.specs.declared.Refusal.{Refusal}
use Rattle.std.specs.Prelude.{ℕ, List, [], ◌++◌, map, length, replicate, Float, Err, Ok, Result}
use Rattle.std.specs.Float.{Format, binary32, binary64}
use Rattle.std.specs.Float.Ieee.{of_bits, to_bits}
use Rattle.numbers.specs.Notation.{num}
use Rattle.checks.specs.Input.{lent}
use Rattle.graph.specs.declared.Manifold.TheVariants.{Se3}
use Rattle.sparse_pgo.specs.Optimize.{After, optimized}
use Rattle.sparse_pgo.specs.declared.Joined.{Joined}
use Rattle.job.specs.Format.{Job, Space, space, Reading, taken, refused, reading, settings_from}
use Rattle.job.specs.Writer.{written_into}
use Rattle.job_records.specs.declared.Tally.{Tally}
use Rattle.job.specs.declared.SettingBits.{SettingBits}
use Rattle.printable.specs.declared.Printable.{Printable}
use Rattle.printable.specs.declared.Printable.TheVariants as printable
use Rattle.line.specs.Text.{ascii, decimal, ran_text, refused_text}
use Rattle.line.specs.FloatText.{float_text}
use Rattle.job_terms.specs.Terms.{settings_as, printable_after}
use Rattle.join_job.specs.declared.Report.{Report}

-- ---- bits and floats

abbrev pub floats : Format → List ℕ → List Float
floats f ns = map (of_bits f) ns

abbrev pub patterns : Format → List Float → List ℕ
patterns f xs = map (to_bits f) xs

-- ---- the run

-- the run over what is lent: work for 64 free poses with six degrees of freedom and for 256 poses, all +0 before it
unfoldable pub ran_over : SettingBits → List Float → List ℕ → List Float → List ℕ → List Float → After
ran_over t poses ends edges fixed out =
    let work32 = replicate 148608 (num 0) in
    let work64 = replicate 6144 (num 0) in
    optimized (lent Se3 poses ends edges fixed (settings_as t) (record { work32 = length work32; work64 = length work64; out = length out })) work32 work64 out

-- an output as long as the poses
unfoldable pub run_of : SettingBits → Space → After
run_of t l = ran_over t (floats binary64 l.poses) l.ends (floats binary32 l.edges) l.fixed (replicate (length l.poses) (num 0))

unfoldable pub job_run : Job → After
job_run j = run_of (settings_from j.settings) (space j.poses j.ends j.edges j.fixed)

-- ---- may it be printed

-- at the poses given and at those that came out
unfoldable pub printable_of : ℕ → List Float → List ℕ → List Float → List Float → Joined → Printable
printable_of limit poses ends edges new j = printable_after j.converged j.iterations limit poses ends edges new

abbrev pub judged_as : ℕ → List Float → List ℕ → List Float → List Float → Result Joined Refusal → Result (Joined × Printable) Refusal
judged_as limit poses ends edges new (Err r) = Err r
judged_as limit poses ends edges new (Ok j) = Ok (j, (printable_of limit poses ends edges new j))

unfoldable pub judged_over : SettingBits → List Float → List ℕ → List Float → List ℕ → List Float → Result (Joined × Printable) Refusal
judged_over t poses ends edges fixed out =
    let a = ran_over t poses ends edges fixed out in judged_as t.limit poses ends edges a.out a.answer

unfoldable pub judged_of : SettingBits → Space → Result (Joined × Printable) Refusal
judged_of t l = judged_over t (floats binary64 l.poses) l.ends (floats binary32 l.edges) l.fixed (replicate (length l.poses) (num 0))

unfoldable pub job_judged : Job → Result (Joined × Printable) Refusal
job_judged j = judged_of (settings_from j.settings) (space j.poses j.ends j.edges j.fixed)

-- ---- what is said of a job

abbrev pub report_as : Tally → Result (Joined × Printable) Refusal → Result Report Refusal
report_as had (Err r) = Err r
report_as had (Ok (j, p)) = Ok (record { poses = had.poses; edges = had.edges; iterations = j.iterations; converged = j.converged; printable = p })

abbrev pub report_from : Reading → Result Report Refusal
report_from (refused r) = Err r
report_from (taken had j) = report_as had (job_judged j)

-- by a program that has room for so many
unfoldable pub report_of : Tally → List ℕ → Result Report Refusal
report_of room s = report_from (reading room s)

-- the line that a program prints
abbrev pub report_text : Result Report Refusal → List ℕ
report_text (Ok r) = ran_text r.poses r.edges r.iterations r.converged
report_text (Err r) = refused_text r.number r.place

-- what is said of printing: yes, or no and the first test that fails, with what it compared
unfoldable pub printable_text : Printable → List ℕ
printable_text printable.Yes = ascii "may be printed: yes\n"
printable_text printable.NoResidual = ascii "may be printed: no, the last edge has no residual\n"
printable_text (printable.NotConverged iterations limit) =
    ascii "may be printed: no, not converged (iterations " ++ decimal iterations ++ ascii ", limit " ++ decimal limit ++ ascii ")\n"
printable_text (printable.Tipped cosine) =
    ascii "may be printed: no, gravity tipped (smallest cosine " ++ float_text cosine ++ ascii ", least 0.999999995)\n"
printable_text (printable.CostKept before after) =
    ascii "may be printed: no, the cost did not fall (before " ++ float_text before ++ ascii ", after " ++ float_text after ++ ascii ")\n"
printable_text (printable.LastWorse before after) =
    ascii "may be printed: no, the last edge got worse (before " ++ float_text before ++ ascii ", after " ++ float_text after ++ ascii ")\n"

-- `join`'s second line; none where the job was turned down
abbrev pub second_text : Result Report Refusal → List ℕ
second_text (Ok r) = printable_text r.printable
second_text (Err r) = []

-- ---- the joined job: the same settings, edges and fixed entries, the new poses

abbrev pub with_poses : Job → List ℕ → Job
with_poses j poses = record { settings = j.settings; poses = poses; ends = j.ends; edges = j.edges; fixed = j.fixed }

-- the report, the bytes written, the output
abbrev pub written_with : Result Report Refusal → Result ℕ Refusal × List ℕ → Result Report Refusal × ℕ × List ℕ
written_with said (Ok n, out) = (said, n, out)
written_with said (Err r, out) = (Err r, 0, out)

abbrev pub joined_as : Tally → Job → List ℕ → After → Result (Joined × Printable) Refusal → Result Report Refusal × ℕ × List ℕ
joined_as had j out a (Err r) = (Err r, 0, out)
joined_as had j out a (Ok (x, p)) =
    written_with (report_as had (Ok (x, p))) (written_into (with_poses j (patterns binary64 a.out)) out)

-- the job that was read is run, and written again
unfoldable pub joined_with : Tally → Job → List ℕ → Result Report Refusal × ℕ × List ℕ
joined_with had j out = joined_as had j out (job_run j) (job_judged j)

abbrev pub joined_from : List ℕ → Reading → Result Report Refusal × ℕ × List ℕ
joined_from out (refused r) = (Err r, 0, out)
joined_from out (taken had j) = joined_with had j out

-- nothing is written where anything is refused
unfoldable pub joined_into : Tally → List ℕ → List ℕ → Result Report Refusal × ℕ × List ℕ
joined_into room s out = joined_from out (reading room s)

-- ---- the two programs' room

abbrev pub small_room : Tally
small_room = record { poses = 16; edges = 64; fixed = 16 }

abbrev pub full_room : Tally
full_room = record { poses = 256; edges = 1024; fixed = 256 }
