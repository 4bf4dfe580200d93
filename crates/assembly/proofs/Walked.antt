-- What holds through every addition to a place of the system holds of the work that an assembly leaves; so does what relates the work of two assemblies
-- that keep different entries. Assumes nothing.
use Rattle.numbers.specs.declared.Failure.{Failure}
use Rattle.std.specs.Prelude.{Err, None, Ok, Option, Result, Some}
use mathlib.Core.Path.{◌≡◌, refl, sym, ap}
use mathlib.Core.Bool.{Bool, true, false}
use mathlib.Core.List.{List}
use Prim.Native.Nat.{ℕ, ◌+◌, ◌*◌, ◌<◌, ◌≤◌}
use native.Mathlib.Nat.{add_assoc}
use native.Mathlib.Omega.{arith}
use lib.Dec.{ltb, leb}
use lib.Ieee.{Float}
use borrow.Author.Tests.{leb-true, ltb-true, ltb-false}
use Rattle.numbers.specs.Notation.{if_then}
use Rattle.numbers.specs.Walks.{only, Went}
use Rattle.exp_log.specs.Formats.{Twist}
use Rattle.rotations.specs.declared.Pose.{Pose}
use Rattle.graph.specs.Graph.{Links, is_active}
use Rattle.graph.specs.Lent.{dof_of, lent_links, links_lent}
use Rattle.graph.specs.declared.LentLinks.{LentLinks}
use Rattle.graph.specs.declared.Edge.{Edge}
use Rattle.graph.specs.declared.Manifold.{Manifold}
use Rattle.residual.specs.Residuals.{six_of}
use Rattle.jacobians.specs.Jacobians.{with_six}
use Rattle.additions.specs.Additions.{dot_with, dot_of, add_to, gradient_added, on_part, lower_triangle, entry_added, row_added, block_added}
use Rattle.assembly.specs.Assembly.{with_jacobian, cleared, one_of, both_of, edge_of, add_at, ends_by, assembled_ends}
use Rattle.additions.specs.Additions.{end_added, cross_added, ends_added}
use Rattle.residual.specs.declared.EdgeEndpoint.{EdgeEndpoint}
use Rattle.residual.specs.declared.EdgeEndpoint.TheVariants.{A, B}
use Rattle.numbers.proofs.Invariants.{Together, Abreast, each_abreast, each_together, then_together, only_together, Good, Over, Twin, Lost, beside}
use Rattle.numbers.proofs.Invariants.{alone, each_good}
use Rattle.additions.proofs.Parts.{part_each}
use Rattle.assembly.proofs.Edges.{slot_fits}

-- ---- the blocks that the edges name lie within n unknowns
pub record Fits (m : Manifold) (n : ℕ) (l : Links Edge) : Type 0 where
  pub a_fits : (k : ℕ) → k < l.edges → (b : ℕ) → l.slot (l.a k) ≡ Some b → b * dof_of m + dof_of m ≤ n
  pub b_fits : (k : ℕ) → k < l.edges → (b : ℕ) → l.slot (l.b k) ≡ Some b → b * dof_of m + dof_of m ≤ n

-- with the slots of an array of blocks they do
pub lent_fits : (m : Manifold) (ends : List ℕ) (edges : List Float) (blocks : List ℕ) (free : ℕ) → Fits m (dof_of m * free) (lent_links ends edges blocks free)
lent_fits m ends edges blocks free =
    record { a_fits = λ k _. slot_fits m blocks free _ refl refl; b_fits = λ k _. slot_fits m blocks free _ refl refl }

pub links_fit : (m : Manifold) (l : LentLinks) → Fits m (dof_of m * l.free) (links_lent l)
links_fit m l = lent_fits m l.ends.now l.edges.now l.blocks.now l.free

-- ---- two assemblies side by side, which keep entries by two tests: P holds through each addition to the gradient, each diagonal block and each block
-- ---- below; `Level` is what is known where an edge has both ends in one block
module _ (keeps keeps' : ℕ → ℕ → Bool) (n : ℕ) (m : Manifold) (Level : Type 0) (P Q : List Float → List Float → Type 0)
    (weaker : (w v : List Float) → P w v → Q w v)
    (slope : (w v : List Float) (i : ℕ) (x : Float) → i < n → P w v → Together P Q (add_to w (n * n + n + i) x) (add_to v (n * n + n + i) x))
    (diagonal : (b : ℕ) (j : List (List Float)) (w v : List Float) → b * dof_of m + dof_of m ≤ n → P w v
    → Together P Q (block_added keeps n (dof_of m) b b j j w) (block_added keeps' n (dof_of m) b b j j v))
    (below : (rb cb : ℕ) (jr jc : List (List Float)) (w v : List Float) → cb ≤ rb → (rb ≡ cb → Level) → rb * dof_of m + dof_of m ≤ n → P w v
    → Together P Q (block_added keeps n (dof_of m) rb cb jr jc w) (block_added keeps' n (dof_of m) rb cb jr jc v)) where
  six_together : (r : Result Twist Failure) (w v : List Float) (f g : Twist → Went × List Float) → P w v → ((d : Twist) → Together P Q (f d) (g d))
      → Together P Q (with_six r f (λ why. (Err why, w))) (with_six r g (λ why. (Err why, v)))
  unfolding with_six
  six_together (Ok d) w v f g p h = h d
  six_together (Err why) w v f g p h = (refl, weaker w v p)

  jacobian_together : (x : Went × List (List Float)) (w v : List Float) (f g : List (List Float) → Went × List Float) → P w v
      → ((j : List (List Float)) → Together P Q (f j) (g j))
      → Together P Q (with_jacobian x w f) (with_jacobian x v g)
  unfolding with_jacobian
  jacobian_together (Ok _, j) w v f g p h = h j
  jacobian_together (Err why, j) w v f g p h = (refl, weaker w v p)

  gradient_together : (b : ℕ) (j : List (List Float)) (r w v : List Float) → b * dof_of m + dof_of m ≤ n → P w v
      → Together P Q (on_part (n * n + n + b * dof_of m) (gradient_added (dof_of m) j r) w) (on_part (n * n + n + b * dof_of m) (gradient_added (dof_of m) j r) v)
  unfolding gradient_added
  gradient_together b j r w v h p =
      rw (part_each (n * n + n + b * dof_of m) (λ c. dot_with j c r) (dof_of m) w, part_each (n * n + n + b * dof_of m) (λ c. dot_with j c r) (dof_of m) v)
      (each_together P Q _ _ (dof_of m) w v
      (λ c l y z q. rw (add_assoc (n * n + n) (b * dof_of m) c) (slope y z (b * dof_of m + c) (dot_with j c r) (omega arith) q)) p)

  end_together : (b : ℕ) (j : List (List Float)) (r w v : List Float) → b * dof_of m + dof_of m ≤ n → P w v
      → Together P Q (end_added keeps n (dof_of m) b j r w) (end_added keeps' n (dof_of m) b j r v)
  unfolding end_added
  end_together b j r w v h p = then_together P Q _ _ _ _ (gradient_together b j r w v h p) (λ y z q. diagonal b j y z h q)

  cross_together : (i k : ℕ) (ja jb : List (List Float)) (w v : List Float) → (i ≡ k → Level) → i * dof_of m + dof_of m ≤ n → k * dof_of m + dof_of m ≤ n → P w v
      → Together P Q (cross_added keeps n (dof_of m) i k ja jb w) (cross_added keeps' n (dof_of m) i k ja jb v)
  unfolding cross_added if_then
  cross_together i k ja jb w v o hi hk p = go (ltb i k) (ltb-true i k) (ltb-false i k)
    where
      go : (t : Bool) → (t ≡ true → i < k) → (t ≡ false → k ≤ i)
          → Together P Q (if_then t (block_added keeps n (dof_of m) k i jb ja w) (block_added keeps n (dof_of m) i k ja jb w))
          (if_then t (block_added keeps' n (dof_of m) k i jb ja v) (block_added keeps' n (dof_of m) i k ja jb v))
      go true f g = below k i jb ja w v (let l = f refl in omega arith) (λ e. o (sym e)) hk p
      go false f g = below i k ja jb w v (g refl) o hi p

  ends_together : (i k : ℕ) (ja jb : List (List Float)) (r w v : List Float) → (i ≡ k → Level) → i * dof_of m + dof_of m ≤ n → k * dof_of m + dof_of m ≤ n → P w v
      → Together P Q (ends_added keeps n (dof_of m) i k ja jb r w) (ends_added keeps' n (dof_of m) i k ja jb r v)
  unfolding ends_added
  ends_together i k ja jb r w v o hi hk p =
      then_together P Q _ _ _ _ (then_together P Q _ _ _ _ (end_together i ja r w v hi p) (λ y z q. end_together k jb r y z hk q))
      (λ y z q. cross_together i k ja jb y z o hi hk q)

  one_together : (a b : Pose) (e : Edge) (end : EdgeEndpoint) (i : ℕ) (w v : List Float) → i * dof_of m + dof_of m ≤ n → P w v
      → Together P Q (one_of keeps m n a b e end i w) (one_of keeps' m n a b e end i v)
  unfolding one_of
  one_together a b e end i w v h p = six_together _ w v _ _ p (λ r. jacobian_together _ w v _ _ p (λ j. end_together i j (six_of r) w v h p))

  both_together : (a b : Pose) (e : Edge) (i k : ℕ) (w v : List Float) → (i ≡ k → Level) → i * dof_of m + dof_of m ≤ n → k * dof_of m + dof_of m ≤ n → P w v
      → Together P Q (both_of keeps m n a b e i k w) (both_of keeps' m n a b e i k v)
  unfolding both_of
  both_together a b e i k w v o hi hk p =
      six_together _ w v _ _ p
      (λ r. jacobian_together _ w v _ _ p (λ ja. jacobian_together _ w v _ _ p (λ jb. ends_together i k ja jb (six_of r) w v o hi hk p)))

  edge_together : (a b : Pose) (e : Edge) (sa sb : Option ℕ) (w v : List Float)
      → ((i : ℕ) → sa ≡ Some i → i * dof_of m + dof_of m ≤ n) → ((i : ℕ) → sb ≡ Some i → i * dof_of m + dof_of m ≤ n)
      → ((i : ℕ) → sa ≡ Some i → sb ≡ Some i → Level)
      → P w v → Together P Q (edge_of keeps m n a b e sa sb w) (edge_of keeps' m n a b e sa sb v)
  unfolding edge_of
  edge_together a b e None None w v ha hb o p = p
  edge_together a b e (Some i) None w v ha hb o p = one_together a b e A i w v (ha i refl) p
  edge_together a b e None (Some k) w v ha hb o p = one_together a b e B k w v (hb k refl) p
  edge_together a b e (Some i) (Some k) w v ha hb o p = both_together a b e i k w v (λ q. o i refl (ap Some (sym q))) (ha i refl) (hb k refl) p

  -- and so through all edges
  pub edges_abreast : (l : Links Edge) (pose : ℕ → Pose) (w : List Float) → Fits m n l
      → ((k : ℕ) → k < l.edges → (b : ℕ) → l.slot (l.a k) ≡ Some b → l.slot (l.b k) ≡ Some b → Level)
      → P (cleared n w) (cleared n w) → Abreast P Q (ends_by keeps m n l pose w) (ends_by keeps' m n l pose w)
  unfolding add_at
  edges_abreast l pose w f o p =
      each_abreast P Q _ _ l.edges (cleared n w) (cleared n w)
      (λ k b y z q. only_together P Q (is_active l k) _ _ y z q
      (edge_together (pose (l.a k)) (pose (l.b k)) (l.measured k) (l.slot (l.a k)) (l.slot (l.b k)) y z (f.a_fits k b) (f.b_fits k b) (o k b) q)) p

-- ---- one assembly: P holds through every addition that goes well, to an entry of the lower triangle or of the gradient; Q after one that does not
module _ (n : ℕ) (P Q : List Float → Type 0) (weaker : (w : List Float) → P w → Q w)
    (entry : (w : List Float) (i j : ℕ) (v : Float) → j ≤ i → i < n → P w → Good P Q (add_to w (j * n + i) v))
    (slope : (w : List Float) (i : ℕ) (v : Float) → i < n → P w → Good P Q (add_to w (n * n + n + i) v)) where
  entry_good : (row col : ℕ) (v : Float) (w : List Float) → row < n → P w → Good P Q (only (leb col row) (λ w. add_to w (col * n + row) v) w)
  entry_good row col v w h p = go (leb col row) refl
    where
      go : (t : Bool) → leb col row ≡ t → Good P Q (only t (λ w. add_to w (col * n + row) v) w)
      go true e = entry w row col v (leb-true col row e) h p
      go false e = p

  block_good : (dof rb cb : ℕ) (jr jc : List (List Float)) (w : List Float) → rb * dof + dof ≤ n → P w → Good P Q (block_added lower_triangle n dof rb cb jr jc w)
  unfolding block_added row_added entry_added
  block_good dof rb cb jr jc w h p =
      each_good P Q (row_added lower_triangle n dof rb cb jr jc) dof w
      (λ r l y q. each_good P Q _ dof y (λ c _ z s. entry_good (rb * dof + r) (cb * dof + c) (dot_of jr r jc c) z (omega arith) s) q) p

  pub edges_over : (m : Manifold) (l : Links Edge) (pose : ℕ → Pose) (w : List Float) → Fits m n l → P (cleared n w) → Over P Q (assembled_ends m n l pose w)
  unfolding assembled_ends
  edges_over m l pose w f p =
      alone P Q (ends_by lower_triangle m n l pose w)
      (edges_abreast lower_triangle lower_triangle n m (Unit {0}) (Twin P Q) (Lost P Q) (λ y z q. weaker y q.0)
      (λ y z i x h q. beside P Q (λ y. add_to y (n * n + n + i) x) y z q (slope y i x h q.0))
      (λ b j y z h q. beside P Q (block_added lower_triangle n (dof_of m) b b j j) y z q (block_good (dof_of m) b b j j y h q.0))
      (λ rb cb jr jc y z _ _ h q. beside P Q (block_added lower_triangle n (dof_of m) rb cb jr jc) y z q (block_good (dof_of m) rb cb jr jc y h q.0))
      l pose w f (λ _ _ _ _ _. tt) (p, refl))
