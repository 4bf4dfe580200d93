-- The Rust fills whole blocks on the diagonal of the Hessian; here only its lower triangle is kept. Both assemblies are done with the same system, bit for bit,
-- or both stop at the same edge: a product of two columns of one Jacobian is the same in either order, so a block that was symmetric stays so. Assumes nothing.
use Rattle.std.specs.Prelude.{Err, None, Ok, Some}
use mathlib.Core.Path.{◌≡◌, refl, sym, ap, ap₂, subst, ◌∙◌}
use mathlib.Core.Bool.{Bool, true, false}
use mathlib.Core.List.{List}
use mathlib.Core.Logic.{⊎_elim}
use Prim.Native.Nat.{ℕ, ◌+◌, ◌-◌, ◌*◌, ◌/◌, ◌<◌, ◌≤◌}
use native.Mathlib.Nat.{suc-mul, mul-le-mul_right, eq-or-lt_of_le}
use native.Mathlib.Omega.{arith}
use lib.Arith.{digits_div, digits_lt}
use lib.Dec.{eqb, ltb, leb}
use lib.ListN.{length, get_or, set, length-set}
use lib.Seq.{get_or-set_same, get_or-set_other}
use lib.Ieee.{Float, nan}
use lib.Ieee.Scale.{finite}
use borrow.Author.Tests.{le-leb, leb-true, leb-false, ltb-true, ltb-false, eqb-true, eqb-false}
use Rattle.numbers.specs.Notation.{◌⊞◌, num, if_then}
use Rattle.numbers.specs.Walks.{Ended, done, stopped, every, count, only, must_be_finite, Went}
use Rattle.numbers.specs.declared.Failure.TheVariants.{Numerical}
use Rattle.numbers.proofs.Walking.{count_below, every_same}
use Rattle.rotations.specs.declared.Pose.{Pose}
use Rattle.graph.specs.Graph.{Graph, Links, is_free, slot_at, links_of}
use Rattle.graph.specs.Lent.{dof_of}
use Rattle.graph.specs.declared.Edge.{Edge}
use Rattle.graph.specs.declared.Manifold.{Manifold}
use Rattle.profile.specs.Layout.{need, hessian_of}
use Rattle.solve.specs.Work.{gradient_of}
use Rattle.additions.specs.Additions.{dot_of, add_to, lower_triangle, whole_blocks, entry_added, row_added, block_added}
use Rattle.assembly.specs.Assembly.{cleared, ends_by, assembled_ends}
use Rattle.assembly.proofs.Laws.{cleared_room, cleared_zero}
use Rattle.numbers.proofs.Invariants.{Together, Abreast, each_together}
use Rattle.assembly.proofs.Walked.{Fits, edges_abreast}
use Rattle.additions.proofs.Products.{dot_turned}
use Rattle.numbers.proofs.Rows.{told}
use Rattle.additions.proofs.DiagonalBlocks.{one_place, sum_at, asked, then_finite, if_finite, Added, block_added_lem}

-- ---- what is shown

-- the same system: H's lower triangle and the gradient, bit for bit
pub record SameSystem (n : ℕ) (w v : List Float) : Type 0 where
  pub matrix : (i j : ℕ) → j ≤ i → i < n → hessian_of w n i j ≡ hessian_of v n i j
  pub gradient : (i : ℕ) → i < n → gradient_of w n i ≡ gradient_of v n i

-- both done with the same system, or both stopped at the same edge for the same reason
abbrev pub Alike : ℕ → Ended (List Float) → Ended (List Float) → Type 0
Alike n (done w) (done v) = SameSystem n w v
Alike n (stopped k why w) (stopped i because v) = (k ≡ i) × (why ≡ because)
Alike n (done w) (stopped i because v) = ⊥
Alike n (stopped k why w) (done v) = ⊥

-- no edge has both its ends in one block
abbrev pub Apart : {M : Type 0} → Links M → Type 0
Apart l = (k : ℕ) → k < l.edges → (b : ℕ) → l.slot (l.a k) ≡ Some b → l.slot (l.b k) ≡ Some b → ⊥

-- ---- the two works: the same system, and in the Rust's every diagonal block is symmetric
record Mirrored (n dof : ℕ) (w v : List Float) : Type 0 where
  pub room : need n ≤ length w
  pub as_long : length w ≡ length v
  pub same : SameSystem n w v
  pub symmetric : (b r c : ℕ) → b * dof + dof ≤ n → r < dof → c < dof → hessian_of v n (b * dof + r) (b * dof + c) ≡ hessian_of v n (b * dof + c) (b * dof + r)

abbrev Any : List Float → List Float → Type 0
Any w v = Unit {0}

module _ (n dof : ℕ) where
  -- ---- an addition of both, to a place off the diagonal blocks
  abbrev Off : ℕ → Type 0
  Off q = (b r c : ℕ) → b * dof + dof ≤ n → r < dof → c < dof → (b * dof + c) * n + (b * dof + r) ≡ q → ⊥

  in_matrix : (i j : ℕ) → i < n → j < n → j * n + i < need n
  in_matrix i j l h = let z : j * n + i < n * n = digits_lt h l in omega arith

  stored : (w v : List Float) (q : ℕ) (x : Float) → q < need n → Off q → Mirrored n dof w v → Mirrored n dof (set w q x) (set v q x)
  stored w v q x l off s =
      record {
        room = simp length-set s.room;
        as_long = length-set w q x ∙ s.as_long ∙ sym (length-set v q x);
        same = record { matrix = λ i j h o. at (j * n + i) (s.same.matrix i j h o); gradient = λ i h. at (n * n + n + i) (s.same.gradient i h) };
        symmetric = λ b r c f h o. get_or-set_other v q _ x nan (off b r c f h o) ∙ s.symmetric b r c f h o ∙ sym (get_or-set_other v q _ x nan (off b c r f o h));
      }
    where
      at : (p : ℕ) → get_or w p nan ≡ get_or v p nan → get_or (set w q x) p nan ≡ get_or (set v q x) p nan
      at p e = go (eqb p q) (eqb-true p q) (eqb-false p q)
        where
          go : (t : Bool) → (t ≡ true → p ≡ q) → (t ≡ false → p ≡ q → ⊥) → get_or (set w q x) p nan ≡ get_or (set v q x) p nan
          go true i o =
              let f : q < length w = (let z = s.room in omega arith) in
              let g : q < length v = rw s.as_long at f in
              rw (i refl) (get_or-set_same w q x nan f ∙ sym (get_or-set_same v q x nan g))
          go false i o = get_or-set_other w q p x nan (o refl) ∙ e ∙ sym (get_or-set_other v q p x nan (o refl))

  added : (w v : List Float) (q : ℕ) (x : Float) → q < need n → Off q → get_or w q nan ≡ get_or v q nan → Mirrored n dof w v
      → Together (Mirrored n dof) Any (add_to w q x) (add_to v q x)
  unfolding add_to must_be_finite if_then
  added w v q x l off e s = rw (← e) (go (get_or w q nan ⊞ x) (finite (get_or w q nan ⊞ x)))
    where
      go : (y : Float) (t : Bool) → Together (Mirrored n dof) Any (if_then t (Ok tt) (Err Numerical), set w q y) (if_then t (Ok tt) (Err Numerical), set v q y)
      go y true = stored w v q y l off s
      go y false = (refl, tt)

  slope : (w v : List Float) (i : ℕ) (x : Float) → i < n → Mirrored n dof w v
      → Together (Mirrored n dof) Any (add_to w (n * n + n + i) x) (add_to v (n * n + n + i) x)
  slope w v i x l s =
      added w v (n * n + n + i) x (omega arith)
      (λ b r c f h o e. let z : (b * dof + c) * n + (b * dof + r) < n * n = digits_lt (omega arith) (omega arith) in omega arith)
      (s.same.gradient i l) s

  -- a block below the diagonal: all of it is kept by both
  below : (rb cb : ℕ) (jr jc : List (List Float)) (w v : List Float) → cb ≤ rb → (rb ≡ cb → ⊥) → rb * dof + dof ≤ n → Mirrored n dof w v
      → Together (Mirrored n dof) Any (block_added lower_triangle n dof rb cb jr jc w) (block_added whole_blocks n dof rb cb jr jc v)
  unfolding block_added row_added entry_added
  below rb cb jr jc w v h ne fits s =
      each_together (Mirrored n dof) Any _ _ dof w v
      (λ r lr y z p. each_together (Mirrored n dof) Any _ _ dof y z (λ c lc. entry r c lr lc) p) s
    where
      over : cb * dof + dof ≤ rb * dof
      over = ⊎_elim (λ (e : cb ≡ rb). absurd (ne (sym e))) (λ (l : cb < rb). omega (arith, mul-le-mul_right dof l, suc-mul cb dof)) (eq-or-lt_of_le h)

      off : (r c : ℕ) → r < dof → c < dof → Off ((cb * dof + c) * n + (rb * dof + r))
      off r c lr lc b r' c' f lr' lc' e =
          let p = one_place n (b * dof + r') (b * dof + c') (rb * dof + r) (cb * dof + c) (omega arith) (omega arith) e in
          ne (sym (digits_div rb lr) ∙ ap (λ q. q / dof) (sym p.0) ∙ digits_div b lr' ∙ sym (digits_div b lc') ∙ ap (λ q. q / dof) p.1 ∙ digits_div cb lc)

      entry : (r c : ℕ) → r < dof → c < dof → (y z : List Float) → Mirrored n dof y z
          → Together (Mirrored n dof) Any (only (leb (cb * dof + c) (rb * dof + r)) (λ w. add_to w ((cb * dof + c) * n + (rb * dof + r)) (dot_of jr r jc c)) y)
          (add_to z ((cb * dof + c) * n + (rb * dof + r)) (dot_of jr r jc c))
      entry r c lr lc y z p =
          let o : cb * dof + c ≤ rb * dof + r = (let q = over in omega arith) in
          rw (le-leb (cb * dof + c) (rb * dof + r) o)
          (added y z ((cb * dof + c) * n + (rb * dof + r)) (dot_of jr r jc c) (in_matrix (rb * dof + r) (cb * dof + c) (omega arith) (omega arith))
          (off r c lr lc)
          (p.same.matrix (rb * dof + r) (cb * dof + c) o (omega arith)) p)

  -- ---- a block on the diagonal
  told_together : (t : Bool) (x y : Went × List Float) → x.0 ≡ told t → y.0 ≡ told t → (t ≡ true → Mirrored n dof x.1 y.1)
      → Together (Mirrored n dof) Any x y
  unfolding if_then
  told_together t (x, w) (y, v) e f h =
      subst (λ (x : Went). Together (Mirrored n dof) Any (x, w) (y, v)) (sym e)
      (subst (λ (y : Went). Together (Mirrored n dof) Any (told t, w) (y, v)) (sym f) (go t h))
    where
      go : (t : Bool) → (t ≡ true → Mirrored n dof w v) → Together (Mirrored n dof) Any (told t, w) (told t, v)
      go true h = h refl
      go false h = (refl, tt)

  module _ (b : ℕ) (j : List (List Float)) (w v : List Float) (fits : b * dof + dof ≤ n) (s : Mirrored n dof w v) where
    wide : n * n ≤ length w
    wide = let z = s.room in omega arith

    wide' : n * n ≤ length v
    wide' = rw s.as_long at wide

    abbrev lower : ℕ → ℕ → Float
    lower r c = sum_at n dof b j w r c

    abbrev whole : ℕ → ℕ → Float
    whole r c = sum_at n dof b j v r c

    agree : (r c : ℕ) → c ≤ r → r < dof → lower r c ≡ whole r c
    agree r c h l = ap (λ x. x ⊞ dot_of j r j c) (s.same.matrix (b * dof + r) (b * dof + c) (omega arith) (omega arith))

    turned : (r c : ℕ) → r < dof → c < dof → whole r c ≡ whole c r
    turned r c h l = ap₂ (λ x y. x ⊞ y) (s.symmetric b r c fits h l) (dot_turned j r j c)

    -- every sum of the block is finite exactly if those on and below the diagonal are
    same_answer : every (asked n dof b j w lower_triangle) (dof * dof) ≡ every (asked n dof b j v whole_blocks) (dof * dof)
    same_answer = every_same _ _ (dof * dof) up down
      where
        up : ((k : ℕ) → k < dof * dof → asked n dof b j w lower_triangle k ≡ true) → (k : ℕ) → k < dof * dof → asked n dof b j v whole_blocks k ≡ true
        up h = if_finite n dof b j v whole_blocks (λ r c l o _. go r c l o (leb c r) (leb-true c r) (leb-false c r))
          where
            under : (r c : ℕ) → c ≤ r → r < dof → finite (whole r c) ≡ true
            under r c h' l =
                sym (ap finite (agree r c h' l)) ∙ then_finite n dof b j w lower_triangle h r c l (omega arith)
                (le-leb (b * dof + c) (b * dof + r) (omega arith))

            go : (r c : ℕ) → r < dof → c < dof → (t : Bool) → (t ≡ true → c ≤ r) → (t ≡ false → r < c) → finite (whole r c) ≡ true
            go r c l o true f g = under r c (f refl) l
            go r c l o false f g = ap finite (turned r c l o) ∙ under c r (let z = g refl in omega arith) o

        down : ((k : ℕ) → k < dof * dof → asked n dof b j v whole_blocks k ≡ true) → (k : ℕ) → k < dof * dof → asked n dof b j w lower_triangle k ≡ true
        down h =
            if_finite n dof b j w lower_triangle
            (λ r c l o t. let z = leb-true (b * dof + c) (b * dof + r) t in ap finite (agree r c (omega arith) l)
            ∙ then_finite n dof b j v whole_blocks h r c l o refl)

    -- the block added to both
    module _ (y z : List Float) (p : Added n dof b j w lower_triangle y) (q : Added n dof b j v whole_blocks z) where
      -- an entry of the block; then one of the whole lower triangle
      within : (r c : ℕ) → c ≤ r → r < dof → hessian_of y n (b * dof + r) (b * dof + c) ≡ hessian_of z n (b * dof + r) (b * dof + c)
      within r c h l =
          p.inside r c l (omega arith) (le-leb (b * dof + c) (b * dof + r) (omega arith)) ∙ agree r c h l ∙ sym (q.inside r c l (omega arith) refl)

      matrix : (i k : ℕ) → k ≤ i → i < n → hessian_of y n i k ≡ hessian_of z n i k
      matrix i k h l = go (leb (b * dof) k) (ltb i (b * dof + dof)) (leb-true _ _) (leb-false _ _) (ltb-true _ _) (ltb-false _ _)
        where
          without : ((r c : ℕ) → r < dof → c < dof → i ≡ b * dof + r → k ≡ b * dof + c → ⊥) → hessian_of y n i k ≡ hessian_of z n i k
          without o = p.outside (k * n + i) off ∙ s.same.matrix i k h l ∙ sym (q.outside (k * n + i) off)
            where
              off : (r c : ℕ) → r < dof → c < dof → k * n + i ≡ (b * dof + c) * n + (b * dof + r) → ⊥
              off r c lr lc e = let t = one_place n i k (b * dof + r) (b * dof + c) l (omega arith) e in o r c lr lc t.0 t.1

          go : (t u : Bool) → (t ≡ true → b * dof ≤ k) → (t ≡ false → k < b * dof) → (u ≡ true → i < b * dof + dof) → (u ≡ false → b * dof + dof ≤ i)
              → hessian_of y n i k ≡ hessian_of z n i k
          go true true f _ g _ =
              let fk = f refl in
              let gi = g refl in
              let ei : b * dof + (i - b * dof) ≡ i = omega arith in
              let ek : b * dof + (k - b * dof) ≡ k = omega arith in
              rw (ei, ek) at (within (i - b * dof) (k - b * dof) (omega arith) (omega arith))
          go true false _ _ _ g = without (λ r c lr lc ei ek. let gi = g refl in omega arith)
          go false true _ f _ _ = without (λ r c lr lc ei ek. let fk = f refl in omega arith)
          go false false _ f _ _ = without (λ r c lr lc ei ek. let fk = f refl in omega arith)

      still_symmetric : (b' r c : ℕ) → b' * dof + dof ≤ n → r < dof → c < dof
          → hessian_of z n (b' * dof + r) (b' * dof + c) ≡ hessian_of z n (b' * dof + c) (b' * dof + r)
      still_symmetric b' r c f h l = go (eqb b' b) (eqb-true b' b) (eqb-false b' b)
        where
          go : (t : Bool) → (t ≡ true → b' ≡ b) → (t ≡ false → b' ≡ b → ⊥)
              → hessian_of z n (b' * dof + r) (b' * dof + c) ≡ hessian_of z n (b' * dof + c) (b' * dof + r)
          go true e _ = rw (e refl) (q.inside r c h l refl ∙ turned r c h l ∙ sym (q.inside c r l h refl))
          go false _ o = other r c h l ∙ s.symmetric b' r c f h l ∙ sym (other c r l h)
            where
              other : (r c : ℕ) → r < dof → c < dof → hessian_of z n (b' * dof + r) (b' * dof + c) ≡ hessian_of v n (b' * dof + r) (b' * dof + c)
              other r c h l =
                  q.outside _
                  (λ x y lx ly e. let t = one_place n (b' * dof + r) (b' * dof + c) (b * dof + x) (b * dof + y) (omega arith) (omega arith) e in
                  o refl (sym (digits_div b' h) ∙ ap (λ i. i / dof) t.0 ∙ digits_div b lx))

      still : Mirrored n dof y z
      still =
          record {
            room = rw p.as_long s.room;
            as_long = p.as_long ∙ s.as_long ∙ sym q.as_long;
            same = record { matrix = matrix; gradient = λ i l. p.outside _ (past i) ∙ s.same.gradient i l ∙ sym (q.outside _ (past i)) };
            symmetric = still_symmetric;
          }
        where
          past : (i r c : ℕ) → r < dof → c < dof → n * n + n + i ≡ (b * dof + c) * n + (b * dof + r) → ⊥
          past i r c h l e = let z : (b * dof + c) * n + (b * dof + r) < n * n = digits_lt (omega arith) (omega arith) in omega arith

    diagonal : Together (Mirrored n dof) Any (block_added lower_triangle n dof b b j j w) (block_added whole_blocks n dof b b j j v)
    diagonal =
        let p = block_added_lem n dof b j w lower_triangle fits wide in
        let q = block_added_lem n dof b j v whole_blocks fits wide' in
        told_together _ _ _ p.0 (q.0 ∙ ap told (sym same_answer)) (λ e. still _ _ (p.1 e) (q.1 (sym same_answer ∙ e)))

  -- ---- both start from +0
  start : (w : List Float) → Mirrored n dof (cleared n w) (cleared n w)
  start w =
      record {
        room = cleared_room n w;
        as_long = refl;
        same = record { matrix = λ i j h l. refl; gradient = λ i l. refl };
        symmetric = λ b r c f h l. zero (b * dof + r) (b * dof + c) (omega arith) (omega arith)
            ∙ sym (zero (b * dof + c) (b * dof + r) (omega arith) (omega arith));
      }
    where
      zero : (i k : ℕ) → i < n → k < n → hessian_of (cleared n w) n i k ≡ num 0
      zero i k l h = cleared_zero n w (k * n + i) (in_matrix i k l h)

-- ---- so both are done with the same system, or stop at the same edge
pub whole_blocks_lem : (m : Manifold) (n : ℕ) (l : Links Edge) (pose : ℕ → Pose) (w : List Float) → Fits m n l → Apart l
    → Alike n (assembled_ends m n l pose w) (ends_by whole_blocks m n l pose w)
unfolding assembled_ends
whole_blocks_lem m n l pose w f o =
    go (ends_by lower_triangle m n l pose w) (ends_by whole_blocks m n l pose w)
    (edges_abreast lower_triangle whole_blocks n m ⊥ (Mirrored n (dof_of m)) Any (λ _ _ _. tt) (slope n (dof_of m)) (diagonal n (dof_of m)) (below n (dof_of m))
    l pose w f o (start n (dof_of m) w))
  where
    go : (x y : Ended (List Float)) → Abreast (Mirrored n (dof_of m)) Any x y → Alike n x y
    go (done w) (done v) s = s.same
    go (stopped k why w) (stopped i because v) e = (e.0, e.1)
    go (done w) (stopped i because v) e = e
    go (stopped k why w) (done v) e = e

-- where each edge of a graph joins two poses they are apart, since free poses have blocks of their own
pub graph_apart : {P M : Type 0} (g : Graph P M) → ((k : ℕ) → k < g.edges → g.a k ≡ g.b k → ⊥) → Apart (links_of g)
unfolding links_of slot_at if_then
graph_apart g two k l b ea eb = go (ltb (g.a k) (g.b k)) (ltb (g.b k) (g.a k)) (ltb-true _ _) (ltb-false _ _) (ltb-true _ _) (ltb-false _ _)
  where
    free : (x : ℕ) → slot_at g x ≡ Some b → (is_free g x ≡ true) × (count (is_free g) x ≡ b)
    free x e = at (is_free g x) refl e
      where
        at : (t : Bool) → is_free g x ≡ t → if_then t (Some (count (is_free g) x)) None ≡ Some b → (is_free g x ≡ true) × (count (is_free g) x ≡ b)
        at true f q = (f, cc)
        at false f q = absurd (let z : ◌≡◌ {A = ℕ} 0 1 = cc in omega arith)

    never : (x y : ℕ) → x < y → slot_at g x ≡ Some b → slot_at g y ≡ Some b → ⊥
    never x y h ex ey =
        let lower : count (is_free g) x < count (is_free g) y = count_below (is_free g) x y h (free x ex).0 in
        omega (arith, (free x ex).1, (free y ey).1)

    go : (t u : Bool) → (t ≡ true → g.a k < g.b k) → (t ≡ false → g.b k ≤ g.a k) → (u ≡ true → g.b k < g.a k) → (u ≡ false → g.a k ≤ g.b k) → ⊥
    go true u f _ _ _ = never (g.a k) (g.b k) (f refl) ea eb
    go false true _ _ f _ = never (g.b k) (g.a k) (f refl) eb ea
    go false false _ f _ h = two k l (let x = f refl in let y = h refl in omega arith)
