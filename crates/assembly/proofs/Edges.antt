-- What one edge adds, by what could be had of it. Assumes nothing.
use Rattle.assembly.specs.declared.AssemblyError.TheVariants as assembly_error
use Rattle.rotations.specs.Formats.{Transform}
use Rattle.residual.specs.declared.Linked.{Linked}
use Rattle.assembly.specs.declared.AssemblyError.{AssemblyError}
use Rattle.std.specs.Prelude.{Err, None, Ok, Option, Result, Some, ⊤, is_some}
use mathlib.Core.Path.{◌≡◌, refl, sym, ap, ap₂, ◌∙◌}
use mathlib.Core.Bool.{Bool, true, false, not, ◌&&◌, ◌||◌}
use mathlib.Core.List.{List, ◌++◌}
use Prim.Native.Nat.{ℕ, ◌+◌, ◌*◌, ◌<◌, ◌≤◌}
use native.Mathlib.Nat.{suc-mul, mul_comm, mul-le-mul_right}
use native.Mathlib.Omega.{arith}
use lib.Dec.{ltb, leb}
use lib.ListN.{length, get_or, take, drop, replicate}
use lib.Ieee.{Float}
use borrow.Author.Tests.{ltb-true, leb-true, leb-false, lt-ltb, le-ltb, not-true, not-false}
use Rattle.numbers.specs.Notation.{num, if_then}
use Rattle.numbers.specs.Walks.{done, each, only, made, Went}
use Rattle.numbers.proofs.Choices.{taken, left}
use Rattle.numbers.proofs.Walking.{each_stop, each_end}
use Rattle.numbers.specs.declared.Failure.{Failure}
use Rattle.exp_log.specs.Formats.{Twist}
use Rattle.rotations.specs.declared.Pose.{Pose}
use Rattle.graph.specs.Graph.{Links}
use Rattle.graph.specs.Lent.{dof_of, pose_at, none, slot_in}
use Rattle.graph.specs.declared.Edge.{Edge}
use Rattle.graph.specs.declared.Manifold.{Manifold}
use Rattle.graph.specs.declared.Manifold.TheVariants.{Se3, Gravity}
use Rattle.graph.proofs.Degrees.{dof_most}
use Rattle.residual.specs.Residuals.{six_of}
use Rattle.residual.specs.declared.Link.{Link}
use Rattle.profile.specs.Layout.{need}
use Rattle.jacobians.specs.FromProbes.{jacobian_in}
use Rattle.assembly.specs.FromParts.{with_link, one_in, both_in}
use Rattle.additions.specs.Additions.{fits, lower_triangle, end_added, ends_added}
use Rattle.assembly.specs.Assembly.{with_jacobian, edge_of, add_at, edge_step, cleared, assembled_ends, assembled_from, assembled_of}
use Rattle.residual.specs.declared.EdgeEndpoint.{EdgeEndpoint}
use Rattle.residual.specs.declared.EdgeEndpoint.TheVariants.{A, B}
use Rattle.numbers.proofs.Walking.{made_ok, made_err}
use Rattle.additions.proofs.Ends.{answered}
use Rattle.additions.proofs.Fitting.{fit}
use Rattle.slices.proofs.Laws.{cleared_front}
use Rattle.assembly.proofs.Laws.{cleared_length}

-- ---- a block that has room among the n unknowns of the work
pub record BlockRoom (m : Manifold) (n : ℕ) (w : List Float) (i : ℕ) : Type 0 where
  pub inside : i * dof_of m + dof_of m ≤ n
  pub there : need n ≤ length w

pub dof_some : (m : Manifold) → 0 < dof_of m
dof_some Se3 = omega arith
dof_some (Gravity g) = omega arith

room_fits : (m : Manifold) (n : ℕ) (w : List Float) (i : ℕ) {dof : ℕ} → dof ≡ dof_of m → BlockRoom m n w i → fits n dof i (length w) ≡ true
room_fits m n w i e r = rw e (fit n (dof_of m) i (length w) r.there (dof_some m) (dof_most m) r.inside)

-- ---- an edge with one free end, by its parts
module _ (m : Manifold) (n : ℕ) (probe : ℕ → Bool → Result Transform Failure) (x : Result Linked Failure) (end : EdgeEndpoint) (i : ℕ) (w : List Float) where
  pub one_lost : {why : Failure} → x ≡ Err why → (Err why, w) ≡ one_in (dof_of m) n probe x end i w
  unfolding one_in with_link
  one_lost f = rw f

  module _ {l : Link} {d : Twist} (h : x ≡ Ok (record { link = l; six = d })) {J : Went × List (List Float)} (law : J ≡ jacobian_in (dof_of m) l end probe)
      {y : Result (List (List Float)) Failure} (f : y ≡ made J) where
    pub one_no_jacobian : {why : Failure} → y ≡ Err why → (Err why, w) ≡ one_in (dof_of m) n probe x end i w
    unfolding one_in with_link with_jacobian
    one_no_jacobian e = rw (h, ← law, made_err J (sym f ∙ e))

    pub one_had : {j : List (List Float)} {dof : ℕ} {r : List Float} {s : Went × List Float} → y ≡ Ok j → r ≡ six_of d → dof ≡ dof_of m → BlockRoom m n w i
        → s ≡ only (fits n dof i (length w)) (end_added lower_triangle n dof i j r) w → s ≡ one_in (dof_of m) n probe x end i w
    unfolding one_in with_link with_jacobian
    one_had {j} {dof} {r} e q p room z =
        rw (h, ← law, made_ok J (sym f ∙ e), ← q, ← p) (z ∙ ap (λ (t : Bool). only t (end_added lower_triangle n dof i j r) w) (room_fits m n w i p room))

-- ---- an edge with two
module _ (m : Manifold) (n : ℕ) (pa pb : ℕ → Bool → Result Transform Failure) (x : Result Linked Failure) (i k : ℕ) (w : List Float) where
  pub both_lost : {why : Failure} → x ≡ Err why → (Err why, w) ≡ both_in (dof_of m) n pa pb x i k w
  unfolding both_in with_link
  both_lost f = rw f

  module _ {l : Link} {d : Twist} (h : x ≡ Ok (record { link = l; six = d })) {J : Went × List (List Float)} (law : J ≡ jacobian_in (dof_of m) l A pa)
      {y : Result (List (List Float)) Failure} (f : y ≡ made J) where
    pub both_no_a : {why : Failure} → y ≡ Err why → (Err why, w) ≡ both_in (dof_of m) n pa pb x i k w
    unfolding both_in with_link with_jacobian
    both_no_a e = rw (h, ← law, made_err J (sym f ∙ e))

    module _ {ja : List (List Float)} (e : y ≡ Ok ja) {K : Went × List (List Float)} (law' : K ≡ jacobian_in (dof_of m) l B pb)
        {z : Result (List (List Float)) Failure} (f' : z ≡ made K) where
      pub both_no_b : {why : Failure} → z ≡ Err why → (Err why, w) ≡ both_in (dof_of m) n pa pb x i k w
      unfolding both_in with_link with_jacobian
      both_no_b e' = rw (h, ← law, made_ok J (sym f ∙ e), ← law', made_err K (sym f' ∙ e'))

      pub both_had : {jb : List (List Float)} {dof : ℕ} {r : List Float} {s : Went × List Float} → z ≡ Ok jb → r ≡ six_of d → dof ≡ dof_of m → BlockRoom m n w i → BlockRoom m n w k
          → s ≡ only (fits n dof i (length w) && fits n dof k (length w)) (ends_added lower_triangle n dof i k ja jb r) w
          → s ≡ both_in (dof_of m) n pa pb x i k w
      unfolding both_in with_link with_jacobian
      both_had {jb} {dof} {r} e' q p ri rk t =
          rw (h, ← law, made_ok J (sym f ∙ e), ← law', made_ok K (sym f' ∙ e'), ← q, ← p)
          (t ∙ ap₂ (λ (a b : Bool). only (a && b) (ends_added lower_triangle n dof i k ja jb r) w) (room_fits m n w i p ri) (room_fits m n w k p rk))

-- ---- an edge by its number

-- an edge that is not active adds nothing
pub idle : (m : Manifold) (n : ℕ) (a b : Pose) (e : Edge) (sa sb : Option ℕ) (w : List Float)
    → edge_of lower_triangle m n a b e sa sb w ≡ only (is_some sa || is_some sb) (edge_of lower_triangle m n a b e sa sb) w
unfolding edge_of
idle m n a b e None None w = refl
idle m n a b e None (Some k) w = refl
idle m n a b e (Some i) None w = refl
idle m n a b e (Some i) (Some k) w = refl

module _ (m : Manifold) (n : ℕ) (poses : List Float) (l : Links Edge) (k : ℕ) (w : List Float) where
  pub edge_added : {x y : ℕ} {sa sb : Option ℕ} {s : Went × List Float}
      → x ≡ l.a k → y ≡ l.b k → sa ≡ l.slot x → sb ≡ l.slot y
      → s ≡ edge_of lower_triangle m n (pose_at poses x) (pose_at poses y) (l.measured k) sa sb w
      → s ≡ edge_step lower_triangle m n l (pose_at poses) k w
  unfolding add_at
  edge_added p q f g t = t ∙ rw (f, g, p, q) (idle m n _ _ _ _ _ w)

-- a block below the free count has room
pub slot_fits : (m : Manifold) (blocks : List ℕ) (free x : ℕ) {n : ℕ} {s : Option ℕ} → n ≡ dof_of m * free → s ≡ slot_in blocks free x → (b : ℕ) → s ≡ Some b
    → b * dof_of m + dof_of m ≤ n
unfolding slot_in if_then
slot_fits m blocks free x {n} {s} size i b e = go (ltb (get_or blocks x none) free) refl (sym i ∙ e)
  where
    go : (t : Bool) → ltb (get_or blocks x none) free ≡ t → if_then t (Some (get_or blocks x none)) None ≡ Some b → b * dof_of m + dof_of m ≤ n
    go true p q =
        let h : b < free = rw (let h : b ≡ get_or blocks x none = cc in h) (ltb-true _ _ p) in
        omega (arith, mul-le-mul_right (dof_of m) h, suc-mul b (dof_of m), mul_comm (dof_of m) free)
    go false p q = absurd (let z : ◌≡◌ {A = ℕ} 0 1 = cc in omega arith)

-- ---- all edges

-- so many unknowns can be counted, and the work has room for them
pub unknowns : (d free : ℕ) → d ≤ 6 → d * free ≤ 6 * free
unknowns d free h = mul-le-mul_right free h

pub has_space : (a b : ℕ) {r : Bool} → r ≡ leb a b → not r ≡ false → a ≤ b
has_space a b {r} room h = leb-true a b (sym room ∙ not-false r h)

module _ (m : Manifold) (n : ℕ) (l : Links Edge) (pose : ℕ → Pose) (w : List Float) {r : Bool} (room : r ≡ leb (need n) (length w)) where
  pub too_short : not r ≡ true → (Err assembly_error.Short, w) ≡ assembled_of m n l pose w
  unfolding assembled_of
  too_short h =
      let t : length w < need n = leb-false (need n) (length w) (sym room ∙ not-true r h) in
      taken (assembled_from (assembled_ends m n l pose w)) (lt-ltb (length w) (need n) t) refl

  long_enough : not r ≡ false → ltb (length w) (need n) ≡ false
  long_enough h = le-ltb (length w) (need n) (has_space (need n) (length w) room h)

  pub assembled_by : not r ≡ false → {w₀ : List Float} → w₀ ≡ cleared n w → {z : Result ⊤ AssemblyError × List Float}
      → z ≡ assembled_from (each (edge_step lower_triangle m n l pose) l.edges w₀)
      → z ≡ assembled_of m n l pose w
  unfolding assembled_of assembled_ends
  assembled_by h clear q =
      left (Err assembly_error.Short, w) (long_enough h)
      (q ∙ ap (λ (w₀ : List Float). assembled_from (each (edge_step lower_triangle m n l pose) l.edges w₀)) clear)

-- the walk over the edges
module _ (f : ℕ → List Float → Went × List Float) (w₀ : List Float) (k n : ℕ) {s : List Float} (sofar : each f k w₀ ≡ done s) where
  pub bad_edge : {x : Went} {why : Failure} {t : List Float} → (x, t) ≡ f k s → x ≡ Err why → k < n → (Err (assembly_error.BadEdge k why), t) ≡ assembled_from (each f n w₀)
  bad_edge e h b = sym (ap assembled_from (each_stop f w₀ k n sofar (answered e h) b))

  pub all_edges : k ≡ n → (Ok tt, s) ≡ assembled_from (each f n w₀)
  all_edges q = sym (ap assembled_from (each_end f w₀ k n sofar q))

-- the work cleared at its front
pub cleared_first : (n : ℕ) (w : List Float) {last : List Float} → need n ≤ length w → last ≡ replicate (length (take (need n) w)) (num 0)
    → last ++ drop (need n) w ≡ cleared n w
cleared_first n w h e = ap (λ (l : List Float). l ++ drop (need n) w) e ∙ cleared_front (need n) w h

pub room_kept : (n : ℕ) (w : List Float) {w₀ : List Float} → w₀ ≡ cleared n w → need n ≤ length w → need n ≤ length w₀
room_kept n w e h = rw (e, cleared_length n w h) h
