-- The poses of a trial one after the other, behind the accepted ones. Assumes nothing.
use Rattle.std.specs.Prelude.{Err, None, Ok, Option, Some}
use mathlib.Core.Path.{◌≡◌, refl, sym, ap, ◌∙◌}
use mathlib.Core.Bool.{Bool, true, false, ◌&&◌}
use mathlib.Core.Logic.{inl}
use mathlib.Core.List.{List}
use Prim.Native.Nat.{ℕ, ◌+◌, ◌-◌, ◌*◌, ◌/◌, ◌%◌, ◌<◌, ◌≤◌}
use native.Mathlib.Omega.{arith}
use native.Mathlib.Numerals.{add-one}
use lib.ListN.{length, get_or, take}
use borrow.Rule.Slice.PartMut.{put_mid}
use lib.Seq.{length-take-le}
use lib.Ieee.{Float, nan}
use Rattle.numbers.specs.Walks.{every, table}
use Rattle.numbers.specs.declared.Failure.{Failure}
use Rattle.numbers.proofs.Laying.{Laid, laid_none}
use Rattle.numbers.proofs.Parted.{first_kept}
use Rattle.numbers.proofs.Tables.{get_d_table}
use Rattle.rotations.specs.declared.Pose.{Pose}
use Rattle.pose_conversion.specs.Conversions.{restoring}
use Rattle.graph.specs.Lent.{dof_of, pose_from, pose_at, numbers_of}
use Rattle.graph.specs.declared.Manifold.{Manifold}
use Rattle.retraction.specs.Retraction.{retract_of}
use Rattle.trials.specs.declared.TrialPose.{TrialPose}
use Rattle.trials.specs.Trials.{part_of, moves_by, number_by, moves, moved_numbers, half}
use Rattle.trials.specs.forms.Passes.{Moves, Retracted}
use Rattle.trials.proofs.Behind.{laid_several, laid_is}

-- ---- one pose

numbers_from : (f : ℕ → Float) → numbers_of (pose_from f) ≡ table f 12
unfolding pose_from table
numbers_from f = refl

module _ (m : Manifold) (x : List Float) (δ : ℕ → Float) (p : ℕ) {pose : Pose} (e : pose ≡ pose_at x p) where
  as_it_is : (j : ℕ) → j < 12 → get_or (numbers_of pose) j nan ≡ get_or x (p * 12 + j) nan
  as_it_is j h =
      ap (λ (l : List Float). get_or l j nan) (ap (λ (z : Pose). numbers_of z) e ∙ numbers_from (λ i. get_or x (p * 12 + i) nan))
      ∙ get_d_table (λ i. get_or x (p * 12 + i) nan) 12 j nan h

  pub moves_fixed : {s : Option ℕ} → s ≡ None → Moves m x δ p s (record { pose = pose; well = true })
  moves_fixed q = record { answer = rw q; numbers = λ j h. rw q (as_it_is j h) }

  module _ {s : Option ℕ} {b : ℕ} (q : s ≡ Some b) {dof : ℕ} (f : dof ≡ dof_of m) {delta : List Float} (g : delta ≡ part_of dof δ b) where
    same : retract_of m pose delta ≡ retract_of m (pose_at x p) (part_of (dof_of m) δ b)
    same = rw (e, g, f)

    pub moves_into : {to : Pose} → retract_of m pose delta ≡ Ok to → Moves m x δ p s (record { pose = to; well = true })
    unfolding restoring
    moves_into r = let t = sym same ∙ r in record { answer = rw (q, t); numbers = λ j h. rw (q, t) }

    pub moves_bad : {why : Failure} → retract_of m pose delta ≡ Err why → Moves m x δ p s (record { pose = pose; well = false })
    unfolding restoring
    moves_bad r = let t = sym same ∙ r in record { answer = rw (q, t); numbers = λ j h. rw (q, t) (as_it_is j h) }

-- ---- the poses below p

module _ (m : Manifold) (slot : ℕ → Option ℕ) (δ : ℕ → Float) (w₀ : List Float) where
  abbrev held : List Float
  held = take (half w₀) w₀

  -- w is w₀ with the trial's poses below p
  pub record Tried (w : List Float) (well : Bool) (p : ℕ) : Type 0 where
    pub most : p ≤ length w₀ / 24
    pub laid : Laid nan (λ q. number_by m held δ (q / 12) (q % 12) (slot (q / 12))) (half w₀) w₀ w (p * 12)
    pub answer : well ≡ every (λ k. moves_by m held δ k (slot k)) p

  pub tried_none : Tried w₀ true 0
  unfolding every
  tried_none = record { most = omega arith; laid = laid_none nan _ _ _; answer = refl }

  pub tried_more : {w ns ys : List Float} {well : Bool} {p : ℕ} {r : TrialPose} → Tried w well p → p < length w₀ / 24 → Moves m (take (half w₀) w) δ p (slot p) r
      → ns ≡ numbers_of r.pose → ys ≡ ns → Tried (put_mid (half w₀ + p * 12) (half w₀ + p * 12 + 12 - (half w₀ + p * 12)) w ys) (well && r.well) (p + 1)
  unfolding every
  tried_more {w} {ns} {ys} {well} {p} {r} t l h e c =
      let n : p * 12 + 12 ≡ (p + 1) * 12 = omega arith in
      let s : length w ≡ length w₀ = t.laid.len in
      let k : length ns ≡ 12 = ap length e in
      record {
        most = omega arith;
        laid = rw (← n) (laid_several nan t.laid ns ys 12 k (omega arith) c (λ i q. number i q));
        answer = rw (add-one p, ← t.answer, ← kept) (ap (λ (z : Bool). well && z) h.answer);
      }
    where
      kept : take (half w₀) w ≡ held
      kept = first_kept nan (half w₀) w₀ w t.laid.len (λ q s. t.laid.outside q (inl s))

      number : (i : ℕ) → i < 12
          → get_or ns i nan ≡ number_by m held δ ((p * 12 + i) / 12) ((p * 12 + i) % 12) (slot ((p * 12 + i) / 12))
      number i q =
          let a : (p * 12 + i) / 12 ≡ p = omega arith in
          let b : (p * 12 + i) % 12 ≡ i = omega arith in
          rw (a, b, ← kept) (ap (λ (z : List Float). get_or z i nan) e ∙ h.numbers i q)

  pub tried_all : {w : List Float} {well : Bool} {p : ℕ} → Tried w well p → length w₀ / 24 ≤ p → Retracted m slot δ w₀ well w
  unfolding moves moved_numbers
  tried_all {w} {well} {p} t l =
      let b : p ≤ length w₀ / 24 = t.most in
      let e : p ≡ length w₀ / 24 = omega arith in
      let n : p * 12 ≡ half w₀ = ap (λ (z : ℕ). z * 12) e in
      let k : length held ≡ half w₀ = length-take-le (half w₀) w₀ (omega arith) in
      record {
        answer = t.answer ∙ ap (every (λ k. moves_by m held δ k (slot k))) e;
        poses = laid_is nan t.laid (omega arith) ∙ (rw (n, k));
      }
