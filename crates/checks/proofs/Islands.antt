-- Row 26's test means the paths: `connected_means`, `reaches_means`, `loose_means`. Assumes nothing.
use Prim.Native.Nat.{ℕ, zero, suc, ◌<◌}
use native.Mathlib.Omega.{arith}
use native.Mathlib.Nat.{not-suc-le-zero, eq-or-lt_of_le, le_of_suc-le-suc}
use mathlib.Core.Path.{◌≡◌, refl, sym, subst, ◌∙◌}
use mathlib.Core.Logic.{⊎_elim}
use mathlib.Core.Bool.{Bool, true, false, not, ◌&&◌, ◌||◌, true≢false}
use borrow.Author.Tests.{eqb-true, eq-eqb}
use Rattle.numbers.proofs.Tests.{and_first, and_second, or_cases}
use Rattle.numbers.proofs.Walking.{some_hit}
use Rattle.numbers.proofs.Firsts.{some_found}
use Rattle.graph.specs.declared.Edge.{Edge}
use Rattle.graph.specs.Graph.{Graph, is_free}
use Rattle.checks.specs.Islands.{weighs, Path, here, along, against, Reaches, Loose, connected, reaches, is_loose}

module _ {P : Type 0} (g : Graph P Edge) where
  -- two paths, one after the other
  pub then_path : {x y z : ℕ} → Path g x y → Path g y z → Path g x z
  then_path here q = q
  then_path (along k l w p) q = along k l w (then_path p q)
  then_path (against k l w p) q = against k l w (then_path p q)

  -- ---- the test says only what paths say
  connected_path : (k : ℕ) → (k < suc g.edges) → (x y : ℕ) → connected g k x y ≡ true → Path g x y
  unfolding connected
  connected_path zero l x y e = subst (λ (z : ℕ). Path g x z) (eqb-true x y e) here
  connected_path (suc k) l x y e =
      ⊎_elim
      (λ (h : connected g k x y ≡ true). connected_path k (omega arith) x y h)
      (λ (h : (weighs g k && (connected g k x (g.a k) && connected g k (g.b k) y || connected g k x (g.b k) && connected g k (g.a k) y)) ≡ true).
      let w = and_first (weighs g k) _ h in
      ⊎_elim
      (λ (f : (connected g k x (g.a k) && connected g k (g.b k) y) ≡ true).
      then_path (connected_path k (omega arith) x (g.a k) (and_first _ _ f))
      (along k (omega arith) w (connected_path k (omega arith) (g.b k) y (and_second (connected g k x (g.a k)) _ f))))
      (λ (f : (connected g k x (g.b k) && connected g k (g.a k) y) ≡ true).
      then_path (connected_path k (omega arith) x (g.b k) (and_first _ _ f))
      (against k (omega arith) w (connected_path k (omega arith) (g.a k) y (and_second (connected g k x (g.b k)) _ f))))
      (or_cases _ _ (and_second (weighs g k) _ h)))
      (or_cases _ _ e)

  -- ---- and all of it
  connected_here : (k x : ℕ) → connected g k x x ≡ true
  unfolding connected
  connected_here zero x = eq-eqb x x refl
  connected_here (suc k) x = rw (connected_here k x)

  swap : (p q s t : Bool) → (p || (true && q || s && p)) ≡ (q || (t && q || true && p))
  swap true true s t = refl
  swap true false s true = refl
  swap true false s false = refl
  swap false true s t = refl
  swap false false true true = refl
  swap false false true false = refl
  swap false false false true = refl
  swap false false false false = refl

  -- the ends of an edge are connected to the same poses
  pub connected_ends : (n k : ℕ) → k < n → weighs g k ≡ true → (y : ℕ) → connected g n (g.a k) y ≡ connected g n (g.b k) y
  unfolding connected
  connected_ends zero k l w y = absurd (not-suc-le-zero l)
  connected_ends (suc n) k l w y =
      ⊎_elim
      (λ (e : k ≡ n). let v : weighs g n ≡ true = subst (λ (j : ℕ). weighs g j ≡ true) e w in
      rw (e, v, connected_here n (g.a n), connected_here n (g.b n))
      (swap (connected g n (g.a n) y) (connected g n (g.b n) y) (connected g n (g.a n) (g.b n)) (connected g n (g.b n) (g.a n))))
      (λ (h : k < n). rw (connected_ends n k h w y, connected_ends n k h w (g.a n), connected_ends n k h w (g.b n)))
      (eq-or-lt_of_le (le_of_suc-le-suc l))

  path_connected : {x y : ℕ} → Path g x y → connected g g.edges x y ≡ true
  path_connected {x} here = connected_here g.edges x
  path_connected {y = y} (along k l w p) = connected_ends g.edges k l w y ∙ path_connected p
  path_connected {y = y} (against k l w p) = sym (connected_ends g.edges k l w y) ∙ path_connected p

  pub connected_means : (x y : ℕ) → (connected g g.edges x y ≡ true → Path g x y) × (Path g x y → connected g g.edges x y ≡ true)
  connected_means x y = (connected_path g.edges (omega arith) x y, λ p. path_connected p)

  pub reaches_means : (x : ℕ) → (reaches g x ≡ true → Reaches g x) × (Reaches g x → reaches g x ≡ true)
  unfolding reaches
  reaches_means x = (
    λ e. let f = some_found (λ y. g.fixed y && connected g g.edges x y) g.poses e in
        let y = f.place in
        let h = f.first.holds in
        record { pose = y; below = f.first.below; fixed = and_first _ _ h; path = (connected_means x y).0 (and_second (g.fixed y) _ h) },
    λ r. some_hit (λ y. g.fixed y && connected g g.edges x y) r.pose g.poses r.below (rw r.fixed ((connected_means x r.pose).1 r.path)),
  )

  -- the law of row 26: the test holds exactly of the loose poses
  pub loose_means : (x : ℕ) → (is_loose g x ≡ true → Loose g x) × (Loose g x → is_loose g x ≡ true)
  unfolding is_loose
  loose_means x = (
    λ e. record { free = and_first _ _ e; no_path = λ r. no (is_free g x) (reaches g x) e ((reaches_means x).1 r) },
    λ l. yes (is_free g x) (reaches g x) l.free (λ r. l.no_path ((reaches_means x).0 r)),
  )
    where
      no : (f r : Bool) → (f && not r) ≡ true → r ≡ true → ⊥
      no true true e h = true≢false (sym e)
      no true false e h = true≢false (sym h)
      no false r e h = true≢false (sym e)

      yes : (f r : Bool) → f ≡ true → (r ≡ true → ⊥) → (f && not r) ≡ true
      yes true true e n = absurd (n refl)
      yes true false e n = refl
      yes false r e n = e
