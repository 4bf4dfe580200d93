-- The numbers that a host program reads of what a layer, a run, a scan or a job comes to. Definitions only.
use Rattle.std.specs.Prelude.{ℕ, Bool, true, false, ◌&&◌, ◌||◌, List, [], ◌∷◌, ◌++◌, eqb, ltb, Float, Err, Ok, Result}
use Rattle.numbers.specs.Notation.{if_then}
use Rattle.numbers.specs.declared.Refusal.{Refusal}
use Rattle.rotations.specs.Formats.{QuatF32, Transform}
use Rattle.decisions.specs.declared.Why.{Why}
use Rattle.decisions.specs.declared.Why.TheVariants as why
use Rattle.sparse_pgo.specs.declared.Joined.{Joined}
use Rattle.printable.specs.declared.Measures.{Measures}
use Rattle.job.specs.declared.SettingBits.{SettingBits}
use Rattle.job_records.specs.declared.Tally.{Tally}

-- ---- the layers

abbrev pub quat_numbers : QuatF32 → List Float
quat_numbers q = q.x ∷ q.y ∷ q.z ∷ q.w ∷ []

-- seven numbers: quaternion x, y, z, w, then translation
abbrev pub transform_numbers : Transform → List Float
transform_numbers a = (a.q).x ∷ (a.q).y ∷ (a.q).z ∷ (a.q).w ∷ (a.t).x ∷ (a.t).y ∷ (a.t).z ∷ []

-- ---- a run's answer as eight numbers: number, place, iterations, converged, A, R, F, stop

abbrev pub stop_number : Why → ℕ
stop_number why.Budget = 1
stop_number why.Gradient = 2
stop_number why.Step = 3
stop_number why.Cost = 4
stop_number why.Damping = 5

abbrev pub flag : Bool → ℕ
flag true = 1
flag false = 0

-- a place, or a count, as a u32
unfoldable pub place32 : ℕ → ℕ
place32 n = if_then (ltb n 4294967296) n 4294967295

abbrev pub joined_eight : Joined → List ℕ
joined_eight j = 0 ∷ 0 ∷ j.iterations ∷ flag j.converged ∷ j.accepted ∷ j.rejected ∷ j.failed ∷ stop_number j.why ∷ []

-- first, last
abbrev pub joined_costs : Joined → List Float
joined_costs j = j.first_cost ∷ j.last_cost ∷ []

abbrev pub refused_eight : Refusal → List ℕ
refused_eight r = r.number ∷ place32 r.place ∷ 0 ∷ 0 ∷ 0 ∷ 0 ∷ 0 ∷ 0 ∷ []

abbrev pub answer_eight : Result Joined Refusal → List ℕ
answer_eight (Ok j) = joined_eight j
answer_eight (Err r) = refused_eight r

-- ---- a scan whose loops were closed: the run's eight numbers, then whether it is usable

-- of a scan: a run's eight and whether it is usable; a refusal's eight and 0
abbrev pub judged_nine : Joined → Bool → List ℕ
judged_nine j usable = joined_eight j ++ (flag usable ∷ [])

abbrev pub refused_nine : Refusal → List ℕ
refused_nine r = refused_eight r ++ (0 ∷ [])

-- first cost, last cost, the last edge's residual before and after
abbrev pub measures_four : Measures → List Float
measures_four m = m.initial_cost ∷ m.final_cost ∷ m.new_loop_residual_before ∷ m.new_loop_residual_after ∷ []

-- the lengths of what is lent for it; gravity is no number or three
abbrev pub fits_closing : ℕ → ℕ → ℕ → ℕ → Bool
fits_closing gravity a costs measures = (eqb gravity 0 || eqb gravity 3) && (eqb a 9 && (eqb costs 2 && eqb measures 4))

-- ---- a job that was read: limit, cost tolerance, gradient tolerance, damping, poses, edges, fixed, 0

abbrev pub read_eight : SettingBits → Tally → List ℕ
read_eight t had =
    t.limit ∷ t.cost_tolerance ∷ t.gradient_tolerance ∷ t.damping
    ∷ place32 had.poses ∷ place32 had.edges ∷ place32 had.fixed ∷ 0 ∷ []

abbrev pub read_number : Result (SettingBits × Tally) Refusal → ℕ
read_number (Ok (t, had)) = 0
read_number (Err r) = r.number

abbrev pub read_answer : Result (SettingBits × Tally) Refusal → List ℕ
read_answer (Ok (t, had)) = read_eight t had
read_answer (Err r) = refused_eight r

-- ---- a job that was written: the bytes and 0, or the refusal's number and place

abbrev pub written_number : Result ℕ Refusal → ℕ
written_number (Ok n) = 0
written_number (Err r) = r.number

abbrev pub written_two : Result ℕ Refusal → List ℕ
written_two (Ok n) = place32 n ∷ 0 ∷ []
written_two (Err r) = r.number ∷ place32 r.place ∷ []
