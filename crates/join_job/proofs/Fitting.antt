-- A joined job is as long as the job that was read, so it fits an output for as much as there is room for, and every program says the same of a job.
-- Assumes nothing.
use Prim.Native.Nat.{ℕ, zero, suc, ◌*◌, ◌%◌, ◌≤◌}
use native.Mathlib.Omega.{arith}
use Rattle.checks.specs.declared.Counts.{Counts}
use Rattle.numbers.specs.declared.Refusal.{Refusal}
use Rattle.printable.specs.declared.Printable.{Printable}
use Rattle.sparse_pgo.specs.declared.Joined.{Joined}
use Rattle.std.specs.Prelude.{Err, Ok, Result}
use mathlib.Core.Path.{◌≡◌, refl, sym, ap, subst, ◌∙◌}
use mathlib.Core.Bool.{Bool, true, false}
use mathlib.Core.List.{List}
use borrow.Author.Tests.{eq-eqb, le-ltb}
use lib.Seq.{length-take-le}
use Rattle.io.specs.Counts.{IsPrefixLen}
use lib.ListN.{length, replicate, length-map, length-replicate}
use lib.Ieee.{Float, binary32, binary64, of_bits, to_bits}
use Rattle.numbers.specs.Notation.{num, if_then}
use Rattle.numbers.specs.Walks.{Ended, done, stopped}
use Rattle.numbers.proofs.Tables.{length_table}
use Rattle.graph.specs.Graph.{Links}
use Rattle.checks.specs.Input.{Input}
use Rattle.checks.specs.Table.{checks}
use Rattle.graph.specs.declared.Edge.{Edge}
use Rattle.graph.specs.declared.Manifold.{Manifold}
use Rattle.rows.specs.declared.Settings.{Settings}
use Rattle.decisions.specs.Machine.{moved_on, next_of, held_of, play}
use Rattle.decisions.specs.declared.Next.{Next}
use Rattle.decisions.specs.declared.Next.TheVariants as next
use Rattle.sparse_pgo.specs.Parts.{Parts, Found, step, no_step, numerics, step_to, moved_to, Whole, whole_from, whole}
use Rattle.trials.specs.Trials.{moved_numbers}
use Rattle.sparse_pgo.specs.Numerics.{parts_on}
use Rattle.sparse_pgo.specs.Optimize.{ran, given, after_checks, optimized}
use Rattle.job.specs.Format.{Job, Space, space, tally_of, settings_from, Reading, taken, refused, reading, size_of}
use Rattle.job.specs.Writer.{written_into}
use Rattle.job_records.specs.declared.Tally.{Tally}
use Rattle.job.specs.declared.SettingBits.{SettingBits}
use Rattle.job.proofs.Trips.{read_lengths, read_tally}
use Rattle.job.proofs.Writing.{misfit, written_whole, Within, written_within}
use Rattle.join_job.specs.Joining.{floats, patterns, ran_over, run_of, job_run, with_poses, report_as, report_from, report_of}
use Rattle.join_job.specs.Joining.{job_judged, written_with, joined_as, joined_with, joined_from, joined_into}
use Rattle.join_job.specs.declared.Report.{Report}

-- ---- a run holds as many numbers as it began with

module _ (m : Manifold) (n poses : ℕ) (set : Settings) (l : Links Edge) where
  abbrev p : Parts (List Float) (List Float) (ℕ → Float)
  p = parts_on m n poses set l

  step_long : (x : List Float) (f : Found (ℕ → Float)) → length (step_to p x f) ≡ length x
  unfolding parts_on moved_numbers
  step_long x no_step = refl
  step_long x (step d) = length_table _ (length x)

  moved_long : (x : List Float) (d : Float) (e : Ended (List Float)) → length (moved_to p x d e) ≡ length x
  moved_long x d (done s) = step_long x (p.solve s d)
  moved_long x d (stopped k why s) = refl

  either_long : (x y : List Float) (b : Bool) → length y ≡ length x → length (if_then b y x) ≡ length x
  unfolding if_then
  either_long x y true e = e
  either_long x y false e = refl

  held_long : (limit : ℕ) (tolerance : Float) (a : Next) (x : List Float) → length (held_of (numerics p) limit tolerance a x) ≡ length x
  unfolding held_of moved_on numerics
  held_long limit tolerance (next.On s) x = either_long x _ _ (moved_long x s.damping (p.assembled x))
  held_long limit tolerance (next.Over s e) x = refl

  play_long : (limit : ℕ) (tolerance : Float) (k : ℕ) (a : Next) (x : List Float) → length (play (numerics p) limit tolerance k a x).held ≡ length x
  unfolding play
  play_long limit tolerance zero a x = refl
  play_long limit tolerance (suc k) a x =
      play_long limit tolerance k (next_of (numerics p) limit tolerance a x) (held_of (numerics p) limit tolerance a x) ∙ held_long limit tolerance a x

  from_long : (x : List Float) (e : Ended Float) → length (whole_from p set x e).held ≡ length x
  from_long x (done c) = play_long _ _ _ _ x
  from_long x (stopped k why c) = refl

  whole_long : (x : List Float) → length (whole p set x).held ≡ length x
  unfolding whole
  whole_long x = from_long x (p.cost x)

-- ---- so does what it gives

given_long : (out : List Float) (w : Whole (List Float)) (a : Result Joined Refusal) → length w.held ≡ length out → length (given out w a) ≡ length out
given_long out w (Ok j) e = e
given_long out w (Err r) e = refl

after_long : (i : Input) (work32 work64 out : List Float) (c : Result Counts Refusal) → length i.poses ≡ length out
    → length (after_checks i work32 work64 out c).out ≡ length out
unfolding ran
after_long i work32 work64 out (Err r) e = refl
after_long i work32 work64 out (Ok c) e = given_long out (ran i) (ran i).answer (whole_long _ _ _ i.settings _ i.poses ∙ e)

optimized_long : (i : Input) (work32 work64 out : List Float) → length i.poses ≡ length out
    → length (optimized i work32 work64 out).out ≡ length out
unfolding optimized
optimized_long i work32 work64 out e = after_long i work32 work64 out (checks i).answer e

over_long : (t : SettingBits) (poses : List Float) (ends : List ℕ) (edges : List Float) (fixed : List ℕ) (out : List Float)
    → length poses ≡ length out → length (ran_over t poses ends edges fixed out).out ≡ length out
unfolding ran_over
over_long t poses ends edges fixed out e = optimized_long _ _ _ out e

run_long : (t : SettingBits) (l : Space) → length (run_of t l).out ≡ length l.poses
unfolding run_of
run_long t l =
    let a : length (floats binary64 l.poses) ≡ length l.poses = length-map l.poses (of_bits binary64) in
    let b : length (replicate (length l.poses) (num 0)) ≡ length l.poses = length-replicate (length l.poses) (num 0) in
    over_long t (floats binary64 l.poses) l.ends (floats binary32 l.edges) l.fixed (replicate (length l.poses) (num 0)) (a ∙ sym b) ∙ b

pub new_long : (j : Job) → length (patterns binary64 (job_run j).out) ≡ length j.poses
unfolding job_run
new_long j =
    length-map (job_run j).out (to_bits binary64) ∙ run_long (settings_from j.settings) (space j.poses j.ends j.edges j.fixed)

-- ---- what is said is what the run says

fits : (p e g : ℕ) → p % 12 ≡ 0 → e % 2 ≡ 0 → g ≡ 4 * e → misfit p e g ≡ false
fits p e g x y z = rw (eq-eqb (p % 12) 0 x, eq-eqb (e % 2) 0 y, eq-eqb g (4 * e) z)

module _ (room : Tally) (s : List ℕ) (out : List ℕ) (long : size_of room ≤ length out) where
  module _ (had : Tally) (j : Job) (e : reading room s ≡ taken had j) where
    abbrev moved : Job
    moved = with_poses j (patterns binary64 (job_run j).out)

    said_whole : (r : Result Report Refusal) → (written_with r (written_into moved out)).0 ≡ r
    said_whole r =
        let n = new_long j in
        let h = read_lengths room s had j e in
        let a = h.0 in let b = h.1 in let c = h.2 in let d = h.3 in
        let t = read_tally room s had j e in
        let x = t.1 in let y = t.2 in let z = t.3 in
        let u : misfit (length moved.poses) (length j.ends) (length j.edges) ≡ false =
        fits (length moved.poses) (length j.ends) (length j.edges) (omega arith) (omega arith) (omega arith) in
        let k : size_of (tally_of moved) ≤ length out = omega arith in
        ap (λ (w : Result ℕ Refusal × List ℕ). (written_with r w).0) (sym (written_whole moved out u (le-ltb _ _ k)))

    said_of : (a : Result (Joined × Printable) Refusal) → (joined_as had j out (job_run j) a).0 ≡ report_as had a
    said_of (Ok (x, p)) = said_whole (report_as had (Ok (x, p)))
    said_of (Err r) = refl

  said_from : (x : Reading) → reading room s ≡ x → (joined_from out x).0 ≡ report_from x
  unfolding joined_with
  said_from (taken had j) e = said_of had j e (job_judged j)
  said_from (refused r) e = refl

  pub joined_report : (joined_into room s out).0 ≡ report_of room s
  unfolding joined_into report_of
  joined_report = said_from (reading room s) refl

-- ---- as many bytes as `join` says stand in its output

within_said : (r : Result Report Refusal) (w : Result ℕ Refusal × List ℕ) → Within w → (written_with r w).1 ≤ length (written_with r w).2
within_said r (Ok n, out) h = h
within_said r (Err q, out) h = omega arith

module _ (room : Tally) (s out : List ℕ) where
  within_as : (had : Tally) (j : Job) (a : Result (Joined × Printable) Refusal) → (joined_as had j out (job_run j) a).1 ≤ length (joined_as had j out (job_run j) a).2
  within_as had j (Err r) = omega arith
  within_as had j (Ok (x, p)) =
      let moved = with_poses j (patterns binary64 (job_run j).out) in
      within_said (report_as had (Ok (x, p))) (written_into moved out) (written_within moved out)

  within_from : (x : Reading) → (joined_from out x).1 ≤ length (joined_from out x).2
  unfolding joined_with
  within_from (refused r) = omega arith
  within_from (taken had j) = within_as had j (job_judged j)

  pub joined_within : (joined_into room s out).1 ≤ length (joined_into room s out).2
  unfolding joined_into
  joined_within = within_from (reading room s)

  pub joined_counts : (r : Result Report Refusal) (n : ℕ) (after : List ℕ) → (r, n, after) ≡ joined_into room s out → IsPrefixLen n after
  joined_counts r n after e =
      let h : n ≤ length after = subst (λ (x : Result Report Refusal × ℕ × List ℕ). x.1 ≤ length x.2) (sym e) joined_within in
      (h, sym (length-take-le n after h))
