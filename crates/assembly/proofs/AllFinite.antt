-- Where an assembly is done every number of the system is a finite f32. Assumes nothing.
use Rattle.assembly.specs.declared.AssemblyError.TheVariants as assembly_error
use Rattle.assembly.specs.declared.AssemblyError.{AssemblyError}
use Rattle.std.specs.Prelude.{Err, Ok, Result, ⊤}
use mathlib.Core.Path.{◌≡◌, refl, ap, subst}
use mathlib.Core.Bool.{Bool, true, false}
use mathlib.Core.List.{List}
use Prim.Native.Nat.{ℕ, ◌+◌, ◌*◌, ◌<◌, ◌≤◌}
use native.Mathlib.Omega.{arith}
use lib.Arith.{digits_lt}
use lib.Dec.{T, eqb, ltb}
use lib.ListN.{length, get_or, set, drop, replicate, length-append, length-replicate, length-set}
use lib.Seq.{get_or-set_same, get_or-set_other}
use lib.Ieee.{Float, nan, binary32, fits}
use lib.Ieee.Fits.{add-fits}
use lib.Ieee.Scale.{finite}
use borrow.Author.Tests.{eqb-true, eqb-false}
use Rattle.numbers.specs.Notation.{◌⊞◌, ratio, num, if_then}
use Rattle.numbers.specs.Walks.{Ended, done, stopped, must_be_finite}
use Rattle.numbers.specs.declared.Failure.{Failure}
use Rattle.numbers.specs.declared.Failure.TheVariants.{Numerical}
use Rattle.rotations.specs.declared.Pose.{Pose}
use Rattle.graph.specs.Graph.{Links}
use Rattle.graph.specs.declared.Edge.{Edge}
use Rattle.graph.specs.declared.Manifold.{Manifold}
use Rattle.profile.specs.Layout.{need, hessian_of}
use Rattle.solve.specs.Work.{gradient_of}
use Rattle.additions.specs.Additions.{add_to}
use Rattle.assembly.specs.Assembly.{cleared, assembled_ends, assembled_from, assembled_of}
use Rattle.assembly.proofs.Laws.{cleared_zero}
use Rattle.numbers.proofs.Invariants.{Good, Over}
use Rattle.assembly.proofs.Walked.{Fits, edges_over}

-- ---- the first n (n + 3) numbers are there, finite and of the format
pub record Finite (n : ℕ) (y : List Float) : Type 0 where
  pub there : need n ≤ length y
  pub all_finite : (q : ℕ) → q < need n → finite (get_or y q nan) ≡ true
  pub all_fit : (q : ℕ) → q < need n → T (fits binary32 (get_or y q nan))

zero_finite : finite (num 0) ≡ true
unfolding ratio
zero_finite = refl

zero_fits : T (fits binary32 (num 0))
unfolding ratio fits
zero_fits = tt

abbrev Any : List Float → Type 0
Any y = Unit {0}

never_short : {X : Type 0} → ◌≡◌ {A = Result ⊤ AssemblyError} (Err assembly_error.Short) (Ok tt) → X
never_short e = let z : ◌≡◌ {A = ℕ} 0 1 = cc in absurd (omega arith)

never_bad : {X : Type 0} (k : ℕ) (why : Failure) → ◌≡◌ {A = Result ⊤ AssemblyError} (Err (assembly_error.BadEdge k why)) (Ok tt) → X
never_bad k why e = let z : ◌≡◌ {A = ℕ} 0 1 = cc in absurd (omega arith)

module _ (n : ℕ) where
  -- the places of the lower triangle and of the gradient
  entry_in : (i j : ℕ) → j ≤ i → i < n → j * n + i < need n
  entry_in i j h l = let z : j * n + i < n * n = digits_lt (omega arith) l in omega arith

  slope_in : (i : ℕ) → i < n → n * n + n + i < need n
  slope_in i l = omega arith

  -- what holds of all numbers holds with one more put among them
  stored : (P : Float → Type 0) (y : List Float) (p : ℕ) (v : Float) → p < length y → P v → ((q : ℕ) → q < need n → P (get_or y q nan))
      → (q : ℕ) → q < need n → P (get_or (set y p v) q nan)
  stored P y p v b h s q l = at (eqb q p) (eqb-true q p) (eqb-false q p)
    where
      at : (t : Bool) → (t ≡ true → q ≡ p) → (t ≡ false → q ≡ p → ⊥) → P (get_or (set y p v) q nan)
      at true e o = rw (e refl, get_or-set_same y p v nan b) h
      at false e o = rw (get_or-set_other y p q v nan (o refl)) (s q l)

  added : (y : List Float) (p : ℕ) (v : Float) → p < need n → Finite n y → Good (Finite n) Any (add_to y p v)
  unfolding add_to must_be_finite if_then
  added y p v b s = go (get_or y p nan ⊞ v) (finite (get_or y p nan ⊞ v)) refl (add-fits binary32 (get_or y p nan) v)
    where
      within : p < length y
      within = let t = s.there in omega arith

      go : (t : Float) (x : Bool) → finite t ≡ x → T (fits binary32 t) → Good (Finite n) Any (if_then x (Ok tt) (Err Numerical), set y p t)
      go t true e f =
          record {
            there = simp length-set s.there;
            all_finite = stored (λ z. finite z ≡ true) y p t within e s.all_finite;
            all_fit = stored (λ z. T (fits binary32 z)) y p t within f s.all_fit;
          }
      go t false e f = tt

  start : (w : List Float) → Finite n (cleared n w)
  start w =
      record {
        there = rw (length-append (replicate (need n) (num 0)) (drop (need n) w), length-replicate (need n) (num 0)) (omega arith);
        all_finite = λ q l. rw (cleared_zero n w q l) zero_finite;
        all_fit = λ q l. rw (cleared_zero n w q l) zero_fits;
      }

  module _ (m : Manifold) (l : Links Edge) (pose : ℕ → Pose) (w : List Float) (f : Fits m n l) where
    pub edges_finite : (y : List Float) → assembled_ends m n l pose w ≡ done y → Finite n y
    edges_finite y e =
        subst (Over (Finite n) Any) e
        (edges_over n (Finite n) Any (λ _ _. tt) (λ y i j v h b. added y (j * n + i) v (entry_in i j h b))
        (λ y i v b. added y (n * n + n + i) v (slope_in i b)) m l pose w f (start w))

    pub assembled_finite : (y : List Float) → assembled_of m n l pose w ≡ (Ok tt, y) → Finite n y
    unfolding assembled_of if_then
    assembled_finite y e = go (ltb (length w) (need n)) e
      where
        ended : (x : Ended (List Float)) → assembled_ends m n l pose w ≡ x → assembled_from x ≡ (Ok tt, y) → Finite n y
        ended (done z) h q = subst (Finite n) (ap (λ (x : Result ⊤ AssemblyError × List Float). x.1) q) (edges_finite z h)
        ended (stopped k why z) h q = never_bad k why (ap (λ (x : Result ⊤ AssemblyError × List Float). x.0) q)

        go : (t : Bool) → if_then t (Err assembly_error.Short, w) (assembled_from (assembled_ends m n l pose w)) ≡ (Ok tt, y) → Finite n y
        go true q = never_short (ap (λ (x : Result ⊤ AssemblyError × List Float). x.0) q)
        go false q = ended (assembled_ends m n l pose w) refl q

-- ---- as the solve reads them
module _ (n : ℕ) (y : List Float) (s : Finite n y) where
  pub matrix_finite : (i j : ℕ) → j ≤ i → i < n → finite (hessian_of y n i j) ≡ true
  matrix_finite i j h l = s.all_finite (j * n + i) (entry_in n i j h l)

  pub matrix_fits : (i j : ℕ) → j ≤ i → i < n → T (fits binary32 (hessian_of y n i j))
  matrix_fits i j h l = s.all_fit (j * n + i) (entry_in n i j h l)

  pub gradient_finite : (i : ℕ) → i < n → finite (gradient_of y n i) ≡ true
  gradient_finite i l = s.all_finite (n * n + n + i) (slope_in n i l)

  pub gradient_fits : (i : ℕ) → i < n → T (fits binary32 (gradient_of y n i))
  gradient_fits i l = s.all_fit (n * n + n + i) (slope_in n i l)
