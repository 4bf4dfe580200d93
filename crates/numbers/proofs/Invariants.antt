-- Two rows of steps side by side: what relates their states before each pair of steps that goes well relates them at the end; and beside itself one row,
-- so that what holds of its state before each such step holds at the end. Something weaker holds where a step does not go well. Assumes nothing.
use Rattle.std.proofs.Common.{◌≡◌, ℕ, zero, suc, ◌<◌, Bool, true, false, refl, subst, arith, Err, Ok}
use Rattle.numbers.specs.Walks.{Ended, done, stopped, step_end, step_on, each, well, only, and_then, Went}

-- ---- two rows
module _ {S : Type 0} (P Q : S → S → Type 0) where
  -- both steps say the same: P of what they leave that went well, Q of what any others leave
  abbrev pub Together : Went × S → Went × S → Type 0
  Together (Ok _, s) (Ok _, t) = P s t
  Together (Err why, s) (Err because, t) = (why ≡ because) × Q s t
  Together (Ok _, s) (Err because, t) = ⊥
  Together (Err why, s) (Ok _, t) = ⊥

  abbrev pub Abreast : Ended S → Ended S → Type 0
  Abreast (done s) (done t) = P s t
  Abreast (stopped k why s) (stopped i because t) = (k ≡ i) × (why ≡ because) × Q s t
  Abreast (done s) (stopped i because t) = ⊥
  Abreast (stopped k why s) (done t) = ⊥

  turn_abreast : (n : ℕ) (x y : Went × S) → Together x y → Abreast (step_end n x) (step_end n y)
  turn_abreast n (Ok _, s) (Ok _, t) p = p
  turn_abreast n (Err why, s) (Err because, t) q = (refl, q.0, q.1)
  turn_abreast n (Ok _, s) (Err because, t) z = z
  turn_abreast n (Err why, s) (Ok _, t) z = z

  pub each_abreast : (f g : ℕ → S → Went × S) (n : ℕ) (s t : S) → ((k : ℕ) → k < n → (s t : S) → P s t → Together (f k s) (g k t)) → P s t → Abreast (each f n s) (each g n t)
  unfolding each
  each_abreast f g zero s t h p = p
  each_abreast f g (suc n) s t h p = go (each f n s) (each g n t) (each_abreast f g n s t (λ k l. h k (omega arith)) p)
    where
      go : (x y : Ended S) → Abreast x y → Abreast (step_on x n f) (step_on y n g)
      go (done s) (done t) p = turn_abreast n (f n s) (g n t) (h n (omega arith) s t p)
      go (stopped k why s) (stopped i because t) q = q
      go (done s) (stopped i because t) z = absurd z
      go (stopped k why s) (done t) z = absurd z

  well_together : (x y : Ended S) → Abreast x y → Together (well x) (well y)
  well_together (done s) (done t) p = p
  well_together (stopped k why s) (stopped i because t) q = (q.1, q.2)
  well_together (done s) (stopped i because t) z = z
  well_together (stopped k why s) (done t) z = z

  pub each_together : (f g : ℕ → S → Went × S) (n : ℕ) (s t : S) → ((k : ℕ) → k < n → (s t : S) → P s t → Together (f k s) (g k t)) → P s t → Together (well (each f n s)) (well (each g n t))
  each_together f g n s t h p = well_together (each f n s) (each g n t) (each_abreast f g n s t h p)

  pub then_together : (x y : Went × S) (f g : S → Went × S) → Together x y → ((s t : S) → P s t → Together (f s) (g t)) → Together (and_then x f) (and_then y g)
  unfolding and_then
  then_together (Ok _, s) (Ok _, t) f g p h = h s t p
  then_together (Err why, s) (Err because, t) f g q h = q
  then_together (Ok _, s) (Err because, t) f g z h = absurd z
  then_together (Err why, s) (Ok _, t) f g z h = absurd z

  pub only_together : (b : Bool) (f g : S → Went × S) (s t : S) → P s t → Together (f s) (g t) → Together (only b f s) (only b g t)
  only_together true f g s t p h = h
  only_together false f g s t p h = p

-- ---- one row
module _ {S : Type 0} (P Q : S → Type 0) where
  -- P of what a step leaves that went well, Q of what any other leaves
  abbrev pub Good : Went × S → Type 0
  Good (Ok _, s) = P s
  Good (Err why, s) = Q s

  abbrev pub Over : Ended S → Type 0
  Over (done s) = P s
  Over (stopped k why s) = Q s

  -- beside itself
  abbrev pub Twin : S → S → Type 0
  Twin s t = P s × (s ≡ t)

  abbrev pub Lost : S → S → Type 0
  Lost s t = Q s

  pub beside : (f : S → Went × S) (s t : S) → Twin s t → Good (f s) → Together Twin Lost (f s) (f t)
  beside f s t p h = subst (λ (t : S). Together Twin Lost (f s) (f t)) p.1 (go (f s) h)
    where
      go : (x : Went × S) → Good x → Together Twin Lost x x
      go (Ok _, s) p = (p, refl)
      go (Err why, s) q = (refl, q)

  pub alone : (x : Ended S) → Abreast Twin Lost x x → Over x
  alone (done s) p = p.0
  alone (stopped k why s) q = q.2

  pub each_over : (f : ℕ → S → Went × S) (n : ℕ) (s : S) → ((k : ℕ) → k < n → (t : S) → P t → Good (f k t)) → P s → Over (each f n s)
  each_over f n s h p = alone (each f n s) (each_abreast Twin Lost f f n s s (λ k l t u q. beside (f k) t u q (h k l t q.0)) (p, refl))

  pub each_good : (f : ℕ → S → Went × S) (n : ℕ) (s : S) → ((k : ℕ) → k < n → (t : S) → P t → Good (f k t)) → P s → Good (well (each f n s))
  each_good f n s h p = go (each f n s) (each_over f n s h p)
    where
      go : (x : Ended S) → Over x → Good (well x)
      go (done s) p = p
      go (stopped k why s) q = q
