-- The system of the accepted poses, and its gradient's norm. Assumes nothing.
use Rattle.assembly.specs.declared.AssemblyError.TheVariants as assembly_error
use Rattle.assembly.specs.declared.AssemblyError.{AssemblyError}
use Rattle.std.specs.Prelude.{Err, Ok, Result, ⊤}
use mathlib.Core.Path.{◌≡◌, refl, sym, ap, ap₂, ◌∙◌, subst}
use mathlib.Core.Bool.{true, false}
use mathlib.Core.List.{List, [], ◌++◌}
use Prim.Native.Nat.{ℕ, ◌+◌, ◌-◌, ◌*◌, ◌≤◌}
use native.Mathlib.Omega.{arith}
use native.Mathlib.Nat.{le_of_eq}
use borrow.Author.Tests.{le-ltb}
use lib.ListN.{length, get_or, take, drop, replicate, length-drop, drop_of_length-le}
use lib.Seq.{get_or-take, get_or-drop, drop-nil, length-take-le}
use lib.Ieee.{Float, nan, lt}
use Rattle.numbers.specs.Notation.{num, if_then}
use Rattle.numbers.specs.Walks.{Ended, done, stopped}
use Rattle.numbers.specs.Refusals.{refusal}
use Rattle.numbers.specs.declared.Failure.{Failure}
use Rattle.numbers.specs.declared.Failure.TheVariants.{Numerical}
use Rattle.numbers.proofs.Choices.{left}
use Rattle.rotations.specs.declared.Pose.{Pose}
use Rattle.graph.specs.Graph.{Links}
use Rattle.graph.specs.Lent.{dof_of, pose_at}
use Rattle.graph.specs.declared.Edge.{Edge}
use Rattle.graph.specs.declared.Manifold.{Manifold}
use Rattle.solve.specs.Rule.{nothing}
use Rattle.profile.specs.Layout.{need}
use Rattle.solve.specs.Work.{gradient_of, work_after}
use Rattle.assembly.specs.Assembly.{cleared, assembled_ends, assembled_from, assembled_of}
use Rattle.assembly.proofs.Walked.{Fits}
use Rattle.assembly.proofs.LeftBehind.{Clean, assembled_clean, clean_after}
use Rattle.decisions.specs.declared.Assembly.{Assembly}
use Rattle.decisions.specs.declared.Assembly.TheVariants as assembly
use Rattle.sparse_pgo.specs.declared.Setup.{Setup}
use Rattle.sparse_pgo.specs.Parts.{assembly_of}
use Rattle.trials.specs.Trials.{norm_of}
use Rattle.trials.proofs.Steps.{norm_same}
use Rattle.sparse_pgo.specs.Numerics.{parts_on}
use Rattle.sparse_pgo.specs.forms.Turns.{parts_in, Sized, Holds, assembly_in}

-- an assembly: its answer, and the system where it goes on
pub record Made (setup : Setup) (l : Links Edge) (x : List Float) (r : Assembly) (w32 : List Float) : Type 0 where
  pub long : length w32 ≡ need setup.n
  pub answer : r ≡ assembly_of (parts_in setup l) ((parts_in setup l).assembled x)
  pub holds : r ≡ assembly.Steep → Holds setup l x w32

-- work of exactly what is needed: what stood in it does not count
whole_work : (m : Manifold) (n : ℕ) (l : Links Edge) (pose : ℕ → Pose) (w : List Float) → length w ≡ need n → assembled_of m n l pose w ≡ assembled_from (assembled_ends m n l pose [])
unfolding assembled_of assembled_ends
whole_work m n l pose w e =
    let a : need n ≤ length w = omega arith in
    let b : length w ≤ need n = omega arith in
    let d : cleared n w ≡ cleared n [] = ap (λ (z : List Float). replicate (need n) (num 0) ++ z) (drop_of_length-le w b ∙ sym (drop-nil (need n))) in
    sym (left _ (le-ltb (length w) (need n) a) refl) ∙ (rw d)

-- the norm of a part
part_norm : (w : List Float) (n from to : ℕ) → to ≡ from + n → to ≤ length w → norm_of (λ i. get_or (take (to - from) (drop from w)) i nan) (length (take (to - from) (drop from w))) ≡ norm_of (λ i. get_or w (from + i) nan) n
part_norm w n from to e q =
    let m : to - from ≡ n = omega arith in
    let k : n ≤ length (drop from w) = rw length-drop (omega arith) in
    ap (λ (z : ℕ). norm_of (λ i. get_or (take z (drop from w)) i nan) (length (take z (drop from w)))) m
    ∙ ap (norm_of (λ i. get_or (take n (drop from w)) i nan)) (length-take-le n (drop from w) k)
    ∙ norm_same (λ i. get_or (take n (drop from w)) i nan) (λ i. get_or w (from + i) nan) n (λ i h. get_or-take n (drop from w) i nan h ∙ get_or-drop from w i nan)

-- ---- what the code says of an assembly

module _ (setup : Setup) (w32 : List Float) {made : Result ⊤ AssemblyError} where
  pub assembly_bad : {k : ℕ} {why : Failure} → made ≡ Err (assembly_error.BadEdge k why) → assembly.Refused (refusal 21 k) ≡ assembly_in setup made w32
  assembly_bad q = rw q

  pub assembly_short : made ≡ Err assembly_error.Short → assembly.Flat ≡ assembly_in setup made w32
  assembly_short q = rw q

  module _ (long : length w32 ≡ need setup.n) (q : made ≡ Ok tt) {norm tolerance : Float}
      (e : norm ≡ norm_of (λ i. get_or (take (setup.n * setup.n + setup.n + setup.n - (setup.n * setup.n + setup.n)) (drop (setup.n * setup.n + setup.n) w32)) i nan) (length (take (setup.n * setup.n + setup.n + setup.n - (setup.n * setup.n + setup.n)) (drop (setup.n * setup.n + setup.n) w32))))
      (u : tolerance ≡ setup.settings.gradient_tolerance) where
    flat_is : lt norm tolerance ≡ lt (norm_of (gradient_of w32 setup.n) setup.n) setup.settings.gradient_tolerance
    flat_is = ap₂ lt (e ∙ part_norm w32 setup.n (setup.n * setup.n + setup.n) (setup.n * setup.n + setup.n + setup.n) refl (omega (arith, long))) u

    pub assembly_flat : lt norm tolerance ≡ true → assembly.Flat ≡ assembly_in setup made w32
    unfolding if_then
    assembly_flat t = rw (q, sym flat_is ∙ t)

    pub assembly_steep : lt norm tolerance ≡ false → assembly.Steep ≡ assembly_in setup made w32
    unfolding if_then
    assembly_steep t = rw (q, sym flat_is ∙ t)

-- ---- and what an assembly is

module _ {setup : Setup} {free : ℕ} (l : Links Edge) (poses w32 : List Float) {w32' : List Float} {made : Result ⊤ AssemblyError}
    (lent : Sized setup free × (length w32 ≡ need setup.n))
    (h : (made, w32') ≡ assembled_of setup.manifold (dof_of setup.manifold * free) l (pose_at poses) w32) where
  abbrev found : Ended (List Float)
  found = (parts_in setup l).assembled poses

  made_is : (made, w32') ≡ assembled_from found
  unfolding parts_on
  made_is =
      h
      ∙ ap (λ (n : ℕ). assembled_of setup.manifold n l (pose_at poses) w32) (sym lent.0.unknowns)
      ∙ whole_work setup.manifold setup.n l (pose_at poses) w32 lent.1

  -- what is neither system nor rest is +0
  bare : Fits setup.manifold (dof_of setup.manifold * free) l → work_after w32' setup.n nothing ≡ w32'
  bare fits =
      let n : dof_of setup.manifold * free ≡ setup.n = sym lent.0.unknowns in
      let room : need (dof_of setup.manifold * free) ≤ length w32 = rw n (le_of_eq (sym lent.1)) in
      let left : Clean (dof_of setup.manifold * free) w32 w32'
      = subst (Clean (dof_of setup.manifold * free) w32) (ap (λ (z : Result ⊤ AssemblyError × List Float). z.1) (sym h)) (assembled_clean (dof_of setup.manifold * free) w32 room setup.manifold l (pose_at poses) fits) in
      ap (λ (k : ℕ). work_after w32' k nothing) (sym n) ∙ clean_after (dof_of setup.manifold * free) w32 w32' left

  module _ (long : length w32' ≡ length w32) {a : Assembly} (q : a ≡ assembly_in setup made w32') where
    sized : length w32' ≡ need setup.n
    sized = long ∙ lent.1

    -- the answer, and that the work is the system where it goes on
    by : (m : Result ⊤ AssemblyError) (e : Ended (List Float)) → (m, w32') ≡ assembled_from e → assembly_in setup m w32' ≡ assembly_of (parts_in setup l) e
    unfolding parts_on
    by (Ok _) (done s) c = let t : w32' ≡ s = ap (λ (z : Result ⊤ AssemblyError × List Float). z.1) c in ap (λ (z : List Float). assembly_in setup (Ok tt) z) t
    by (Ok _) (stopped j why s) c = let d = ap (λ (z : Result ⊤ AssemblyError × List Float). z.0) c in let z : ◌≡◌ {A = ℕ} 0 1 = cc in absurd (omega arith)
    by (Err assembly_error.Short) (done s) c = let d = ap (λ (z : Result ⊤ AssemblyError × List Float). z.0) c in let z : ◌≡◌ {A = ℕ} 0 1 = cc in absurd (omega arith)
    by (Err assembly_error.Short) (stopped j why s) c = let d = ap (λ (z : Result ⊤ AssemblyError × List Float). z.0) c in let z : ◌≡◌ {A = ℕ} 0 1 = cc in absurd (omega arith)
    by (Err (assembly_error.BadEdge k why)) (done s) c = let d = ap (λ (z : Result ⊤ AssemblyError × List Float). z.0) c in let z : ◌≡◌ {A = ℕ} 0 1 = cc in absurd (omega arith)
    by (Err (assembly_error.BadEdge k why)) (stopped j Numerical s) c = let d : Err (assembly_error.BadEdge k why) ≡ Err (assembly_error.BadEdge j Numerical) = ap (λ (z : Result ⊤ AssemblyError × List Float). z.0) c in let t : k ≡ j = cc in ap (λ (z : ℕ). assembly.Refused (refusal 21 z)) t

    answers : a ≡ assembly_of (parts_in setup l) found
    answers = q ∙ by made found made_is

    steep : (m : Result ⊤ AssemblyError) (e : Ended (List Float)) → (m, w32') ≡ assembled_from e → assembly_in setup m w32' ≡ assembly.Steep → e ≡ done w32'
    steep (Ok _) (done s) c b = ap done (sym (ap (λ (z : Result ⊤ AssemblyError × List Float). z.1) c))
    steep (Ok _) (stopped j why s) c b = let d = ap (λ (z : Result ⊤ AssemblyError × List Float). z.0) c in let z : ◌≡◌ {A = ℕ} 0 1 = cc in absurd (omega arith)
    steep (Err assembly_error.Short) e c b = let z : ◌≡◌ {A = ℕ} 0 1 = cc in absurd (omega arith)
    steep (Err (assembly_error.BadEdge k why)) e c b = let z : ◌≡◌ {A = ℕ} 0 1 = cc in absurd (omega arith)

    pub assembled_made : Fits setup.manifold (dof_of setup.manifold * free) l → Made setup l poses a w32'
    assembled_made fits =
        record {
          long = sized;
          answer = answers;
          holds = λ e. record { system = w32'; steps = nothing; is_system = steep made found made_is (sym q ∙ e); work = sym (bare fits) };
        }
