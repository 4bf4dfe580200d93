-- An assembly that went well left the sums of JᵀJ and of Jᵀr over the active edges, entry by entry and in edge order; and they are the same sums where each
-- six products are added from −0, as the Rust adds them. Assumes nothing.
use Rattle.std.specs.Prelude.{Err, Ok}
use mathlib.Core.Path.{◌≡◌, refl, sym, ap, ap₂, subst, ◌∙◌}
use mathlib.Core.Bool.{◌&&◌}
use mathlib.Core.List.{List}
use Prim.Native.Nat.{ℕ, zero, suc, ◌+◌, ◌*◌, ◌<◌, ◌≤◌}
use native.Mathlib.Omega.{arith}
use lib.Arith.{digits_lt}
use lib.ListN.{length, get_or}
use lib.Ieee.{Float, nan, binary32, neg}
use Rattle.numbers.specs.Notation.{◌⊞◌, ◌⊠◌, num}
use Rattle.numbers.specs.Walks.{Ended, done, stopped, sum_of, step_end, step_on, each, Went}
use Rattle.rotations.specs.declared.Pose.{Pose}
use Rattle.graph.specs.Graph.{Links}
use Rattle.graph.specs.declared.Edge.{Edge}
use Rattle.graph.specs.declared.Manifold.{Manifold}
use Rattle.profile.specs.Layout.{need, hessian_of}
use Rattle.profile.proofs.Zeros.{literal_zero}
use Rattle.solve.specs.Work.{gradient_of}
use Rattle.additions.specs.Additions.{lower_triangle}
use Rattle.assembly.specs.Assembly.{cleared, add_at, edge_step, assembled_ends}
use Rattle.assembly.specs.Sums.{sum_from, sum_over, six_residuals, concerns, slope_at, hessian_part, gradient_part, IsSums}
use Rattle.assembly.proofs.Laws.{cleared_room, cleared_zero}
use Rattle.assembly.proofs.Edges.{idle}
use Rattle.assembly.proofs.Walked.{Fits}
use Rattle.assembly.proofs.WholeBlocks.{Apart}
use Rattle.assembly.proofs.OneEdge.{add_if, edge_changed}
use Rattle.assembly.proofs.MinusZero.{sums_alike}

-- +0 is where the six products start
sum_is : (f : ℕ → Float) (n : ℕ) → sum_of binary32 f n ≡ sum_from (num 0) f n
unfolding sum_of sum_from
sum_is f zero = literal_zero
sum_is f (suc n) = ap (λ x. x ⊞ f n) (sum_is f n)

-- what holds before step k of a row, and after it of k + 1 if it went well, holds at the end of a row that went well
each_counted : {S : Type 0} (I : ℕ → S → Type 0) (f : ℕ → S → Went × S) (n : ℕ) (s t : S)
    → ((k : ℕ) → k < n → (u v : S) → I k u → f k u ≡ (Ok tt, v) → I (suc k) v) → I 0 s → each f n s ≡ done t → I n t
unfolding each
each_counted I f zero s t h i e = let q : s ≡ t = cc in subst (I 0) q i
each_counted {S} I f (suc n) s t h i e = go (each f n s) (λ u. each_counted I f n s u (λ k l. h k (omega arith)) i) refl e
  where
    last : (x : Went × S) (u : S) → f n u ≡ x → I n u → step_end n x ≡ done t → I (suc n) t
    last (Ok _, v) u q i r = let p : v ≡ t = cc in subst (I (suc n)) p (h n (omega arith) u v i q)
    last (Err why, v) u q i r = absurd (let z : ◌≡◌ {A = ℕ} 0 1 = cc in omega arith)

    go : (x : Ended S) → ((u : S) → each f n s ≡ done u → I n u) → each f n s ≡ x → step_on x n f ≡ done t → I (suc n) t
    go (done u) g q r = last (f n u) u refl (g u q) r
    go (stopped k why u) g q r = absurd (let z : ◌≡◌ {A = ℕ} 0 1 = cc in omega arith)

-- ---- the sums over the first k edges
module _ (m : Manifold) (l : Links Edge) (pose : ℕ → Pose) where
  abbrev pub hessian_upto : Float → ℕ → ℕ → ℕ → Float
  hessian_upto z i j k = sum_over (λ k. concerns m l pose k i && concerns m l pose k j) (hessian_part m l pose z i j) k

  abbrev pub gradient_upto : Float → ℕ → ℕ → Float
  gradient_upto z i k = sum_over (λ k. concerns m l pose k i) (gradient_part m l pose z i) k

  -- every one of them is the same from −0
  pub hessian_alike : (i j k : ℕ) → hessian_upto (neg (num 0)) i j k ≡ hessian_upto (num 0) i j k
  unfolding hessian_part
  hessian_alike i j k = sums_alike (λ k. concerns m l pose k i && concerns m l pose k j) (λ k c. slope_at m l pose k i c ⊠ slope_at m l pose k j c) 6 k

  pub gradient_alike : (i k : ℕ) → gradient_upto (neg (num 0)) i k ≡ gradient_upto (num 0) i k
  unfolding gradient_part
  gradient_alike i k = sums_alike (λ k. concerns m l pose k i) (λ k c. slope_at m l pose k i c ⊠ get_or (six_residuals m l pose k) c nan) 6 k

  -- ---- they stand in the work after the first k edges
  record Upto (n k : ℕ) (y : List Float) : Type 0 where
    pub room : need n ≤ length y
    pub matrix : (i j : ℕ) → j ≤ i → i < n → hessian_of y n i j ≡ hessian_upto (num 0) i j k
    pub gradient : (i : ℕ) → i < n → gradient_of y n i ≡ gradient_upto (num 0) i k

  start : (n : ℕ) (w : List Float) → Upto n 0 (cleared n w)
  unfolding sum_over
  start n w =
      record {
        room = cleared_room n w;
        matrix = λ i j o h. cleared_zero n w (j * n + i) (let z : j * n + i < n * n = digits_lt (omega arith) h in omega arith);
        gradient = λ i h. cleared_zero n w (n * n + n + i) (omega arith);
      }

  step : (n : ℕ) → Fits m n l → Apart l → (k : ℕ) → k < l.edges → (w y : List Float) → Upto n k w → edge_step lower_triangle m n l pose k w ≡ (Ok tt, y)
      → Upto n (suc k) y
  unfolding add_at sum_over hessian_part gradient_part slope_at
  step n f o k h w y u e =
      let c = edge_changed m l pose (pose (l.a k)) (pose (l.b k)) (l.measured k) n (l.slot (l.a k)) (l.slot (l.b k)) w y u.room
      (f.a_fits k h) (f.b_fits k h) (o k h) (idle m n _ _ _ _ _ w ∙ e) in
      record {
        room = rw c.as_long u.room;
        matrix = λ i j p q. c.matrix i j p q ∙ ap₂ (λ v x. add_if (concerns m l pose k i && concerns m l pose k j) v x) (sum_is _ 6) (u.matrix i j p q);
        gradient = λ i q. c.gradient i q ∙ ap₂ (λ v x. add_if (concerns m l pose k i) v x) (sum_is _ 6) (u.gradient i q);
      }

-- ---- so they stand in the work that is left
pub entries_are_sums : (m : Manifold) (n : ℕ) (l : Links Edge) (pose : ℕ → Pose) (w v : List Float) → Fits m n l → Apart l
    → assembled_ends m n l pose w ≡ done v → IsSums m l pose (num 0) n v
unfolding assembled_ends
entries_are_sums m n l pose w v f o e =
    let u = each_counted (Upto m l pose n) (edge_step lower_triangle m n l pose) l.edges (cleared n w) v (step m l pose n f o) (start m l pose n w) e in
    record { matrix = u.matrix; gradient = u.gradient }

pub from_minus_zero : (m : Manifold) (n : ℕ) (l : Links Edge) (pose : ℕ → Pose) (w v : List Float) → Fits m n l → Apart l
    → assembled_ends m n l pose w ≡ done v → IsSums m l pose (neg (num 0)) n v
from_minus_zero m n l pose w v f o e =
    let s = entries_are_sums m n l pose w v f o e in
    record {
      matrix = λ i j h b. s.matrix i j h b ∙ sym (hessian_alike m l pose i j l.edges);
      gradient = λ i b. s.gradient i b ∙ sym (gradient_alike m l pose i l.edges);
    }
