-- The cells fill up pose by pose, and an edge that reads them adds what the definitions say. Assumes nothing.
use Prim.Native.Nat.{ℕ, ◌+◌, ◌*◌, ◌<◌, ◌≤◌}
use Rattle.numbers.specs.Walks.{Went}
use Rattle.residual.specs.declared.Linked.{Linked}
use Rattle.numbers.specs.declared.Failure.{Failure}
use Rattle.rotations.specs.Formats.{Transform}
use Rattle.std.specs.Prelude.{None, Option, Result, Some, is_some}
use mathlib.Core.Path.{◌≡◌, refl, sym, ap, subst, ◌∙◌}
use mathlib.Core.Logic.{◌⊎◌, inl, inr}
use mathlib.Core.Bool.{Bool, true, false}
use mathlib.Core.List.{List}
use native.Mathlib.Omega.{arith}
use borrow.Author.Count.{below_more}
use borrow.Author.Tests.{ltb-true, ltb-false}
use lib.Dec.{ltb}
use lib.ListN.{length, get_or, get_or-eq_default}
use lib.Ieee.{Float}
use Rattle.numbers.specs.Notation.{if_then}
use Rattle.rotations.specs.declared.Pose.{Pose}
use Rattle.pose_conversion.specs.Conversions.{checked_transform}
use Rattle.graph.specs.Lent.{dof_of, pose_at, slot_in, links_lent, none}
use Rattle.graph.specs.declared.LentLinks.{LentLinks}
use Rattle.graph.proofs.Degrees.{dof_most}
use Rattle.graph.specs.declared.Edge.{Edge}
use Rattle.graph.specs.declared.Manifold.{Manifold}
use Rattle.graph.specs.declared.Manifold.TheVariants.{Se3, Gravity}
use Rattle.costs.specs.Stowed.{stowed_in, Stows, stowing, known_poses, with_bases, base_in, Based}
use Rattle.costs.proofs.Stowing.{stowing_stows, stowing_length, with_bases_lem, with_bases_length, known_small, base_based}
use Rattle.probes.specs.Probes.{probes_of}
use Rattle.probes.specs.Stances.{probing_of, stance_of, probe_by, probes_by}
use Rattle.exp_log.specs.declared.Both.{Both}
use Rattle.probes.specs.declared.Probing.{Probing}
use Rattle.probes.specs.declared.Stance.{Stance}
use Rattle.probes.proofs.Shared.{probe_shared, shifts_share}
use Rattle.residual.specs.EdgeParts.{linked_of}
use Rattle.additions.specs.Additions.{lower_triangle}
use Rattle.assembly.specs.Assembly.{one_of, both_of}
use Rattle.assembly.specs.FromParts.{one_in, both_in}
use Rattle.jacobians.specs.Cells.{spot, stowed_probes}
use Rattle.assembly.specs.Known.{Axis, Probed, Posed, Ready, FreePose, Shaped}
use Rattle.assembly.specs.declared.Shape.{Shape}
use Rattle.residual.specs.declared.EdgeEndpoint.{EdgeEndpoint}
use Rattle.jacobians.proofs.Parting.{end_pose}
use Rattle.assembly.proofs.Parting.{one_linked, both_linked}
use Rattle.assembly.proofs.Edges.{slot_fits}

-- ---- filling
module _ (probe : ℕ → Bool → Result Transform Failure) (x : ℕ) where
  axis_filled : (c : ℕ) {l l₁ l₂ : List Float} {y z : Result Transform Failure}
      → Stows l l₁ (256 + (x * 12 + c)) y → Stows l₁ l₂ (256 + (x * 12 + (6 + c))) z → y ≡ probe c true → z ≡ probe c false → Axis probe x c l l₂
  axis_filled c {l} {l₁} {l₂} h g e f =
      record {
        len = g.len ∙ h.len;
        there = both;
        rest = λ k a b. g.there k b ∙ h.there k a;
      }
    where
      both : (ahead : Bool) → stowed_in l₂ (spot x c ahead) ≡ probe c ahead
      both true = g.there (256 + (x * 12 + c)) (λ q. omega arith) ∙ h.here ∙ e
      both false = g.here ∙ f

  pub probed_none : (l : List Float) → Probed probe x 0 l l
  probed_none l = record { len = refl; there = λ c q. absurd (omega arith); rest = λ k _. refl }

  pub probed_more : (i : ℕ) {l l₁ l₂ : List Float} → Probed probe x i l l₁ → Axis probe x i l₁ l₂ → i < 6 → Probed probe x (i + 1) l l₂
  probed_more i {l} {l₁} {l₂} h g b =
      record {
        len = g.len ∙ h.len;
        there = below_more (λ c. (ahead : Bool) → stowed_in l₂ (spot x c ahead) ≡ probe c ahead) i earlier g.there;
        rest = λ k q. g.rest k (ahead k q) (behind k q) ∙ h.rest k q;
      }
    where
      earlier : (c : ℕ) → c < i → (ahead : Bool) → stowed_in l₂ (spot x c ahead) ≡ probe c ahead
      earlier c q true = g.rest (256 + (x * 12 + c)) (λ e. omega arith) (λ e. omega arith) ∙ h.there c q true
      earlier c q false = g.rest (256 + (x * 12 + (6 + c))) (λ e. omega arith) (λ e. omega arith) ∙ h.there c q false

      ahead : (k : ℕ) → (k < 256 + x * 12) ⊎ (256 + (x * 12 + 12) ≤ k) → k ≡ 256 + (x * 12 + i) → ⊥
      ahead k (inl q) e = omega arith
      ahead k (inr q) e = omega arith

      behind : (k : ℕ) → (k < 256 + x * 12) ⊎ (256 + (x * 12 + 12) ≤ k) → k ≡ 256 + (x * 12 + (6 + i)) → ⊥
      behind k (inl q) e = omega arith
      behind k (inr q) e = omega arith

  -- of another function that has the same probes
  probed_as : (other : ℕ → Bool → Result Transform Failure) (i : ℕ) {l l' : List Float} → ((c : ℕ) → c < i → (ahead : Bool) → probe c ahead ≡ other c ahead)
      → Probed probe x i l l' → Probed other x i l l'
  probed_as other i same h = record { len = h.len; there = λ c q ahead. h.there c q ahead ∙ same c q ahead; rest = h.rest }

  pub probed_all : {i n : ℕ} {l l' : List Float} → i ≡ n → Probed probe x i l l' → Probed probe x n l l'
  probed_all {l = l} {l' = l'} e h = subst (λ (i : ℕ). Probed probe x i l l') e h

  -- of a pose that is fixed, and of one that is free
  pub posed_fixed : (s : Option ℕ) (dof : ℕ) (l : List Float) → s ≡ None → Posed s probe x dof l l
  posed_fixed s dof l e = subst (λ (s : Option ℕ). Posed s probe x dof l l) (sym e) refl

  pub posed_free : (s : Option ℕ) (dof : ℕ) {k : ℕ} (l l' : List Float) → s ≡ Some k → Probed probe x dof l l' → Posed s probe x dof l l'
  posed_free s dof l l' e h = subst (λ (s : Option ℕ). Posed s probe x dof l l') (sym e) h

-- the cells along an axis, as the code writes them
pub axis_stowed : (s : Result Stance Failure) (x c : ℕ) (l : List Float) {l₁ l₂ : List Float} {r : Both (Result Transform Failure)} → x < 256 → c < 6 → length l ≡ 26624 → r ≡ probes_by s c
    → l₁ ≡ stowing l (256 + (x * 12 + c)) r.ahead → l₂ ≡ stowing l₁ (256 + (x * 12 + (6 + c))) r.behind → Axis (probe_by s) x c l l₂
unfolding probes_by
axis_stowed s x c l {l₁} {l₂} {r} b d n e h g =
    axis_filled (probe_by s) x c
    (subst (λ (m : List Float). Stows l m (256 + (x * 12 + c)) r.ahead) (sym h)
    (stowing_stows l (256 + (x * 12 + c)) r.ahead (omega arith)))
    (subst (λ (m : List Float). Stows l₁ m (256 + (x * 12 + (6 + c))) r.behind) (sym g)
    (stowing_stows l₁ (256 + (x * 12 + (6 + c))) r.behind (let k : length l₁ ≡ 26624 = ap length h ∙ stowing_length _ _ _ ∙ n in omega arith)))
    (ap (λ (r : Both (Result Transform Failure)). r.ahead) e)
    (ap (λ (r : Both (Result Transform Failure)). r.behind) e)

-- the transform that is read
pub base_known : (poses l : List Float) {n : ℕ} → Based poses l (known_poses (length poses)) → n ≡ known_poses (length poses)
    → (x : ℕ) {y : Result Transform Failure} → y ≡ base_in l n poses x → y ≡ checked_transform (pose_at poses x)
base_known poses l {n} b e x f = f ∙ base_based poses l n x (subst (Based poses l) (sym e) b)

-- the probes of a pose, from what they share
pub probed_stance : (m : Manifold) (poses l : List Float) (x : ℕ) {p : Pose} {n i : ℕ} {y : Result Transform Failure} {g : Probing} {s : Result Stance Failure} {l' : List Float}
    → Based poses l (known_poses (length poses)) → g ≡ probing_of m → n ≡ known_poses (length poses) → y ≡ base_in l n poses x → p ≡ pose_at poses x
    → s ≡ stance_of g p y → i ≡ dof_of m → Probed (probe_by s) x i l l' → Probed (probes_of m (pose_at poses x)) x (dof_of m) l l'
probed_stance m poses l x {p} {n} {i} {y} {g} {s} {l'} based eg en ey ep es ei h =
    probed_as (probe_by s) x (probes_of m (pose_at poses x)) (dof_of m)
    (λ c q ahead. ap (λ (s : Result Stance Failure). probe_by s c ahead) same ∙ probe_shared m (pose_at poses x) c q ahead)
    (probed_all (probe_by s) x ei h)
  where
    same : s ≡ stance_of (probing_of m) (pose_at poses x) (checked_transform (pose_at poses x))
    same =
        es ∙ ap (λ (g : Probing). stance_of g p y) eg ∙ ap (λ (p : Pose). stance_of (probing_of m) p y) ep
        ∙ ap (stance_of (probing_of m) (pose_at poses x)) (base_known poses l based en x ey)

pub dof_large : (m : Manifold) → 4 ≤ dof_of m
dof_large Se3 = omega arith
dof_large (Gravity g) = omega arith

-- one pose more
module _ (m : Manifold) (poses : List Float) (slot : ℕ → Option ℕ) (i : ℕ) {l : List Float} (h : Ready m poses slot l i) where
  -- the probes of pose x are known, if it is free
  abbrev known : List Float → ℕ → Type 0
  known l x = is_some (slot x) ≡ true → (c : ℕ) → c < dof_of m → (ahead : Bool) → stowed_in l (spot x c ahead) ≡ probes_of m (pose_at poses x) c ahead

  -- nothing changed
  ready_fixed : slot i ≡ None → Ready m poses slot l (i + 1)
  ready_fixed f =
      record {
        len = h.len;
        bases = h.bases;
        probes = below_more (known l) i
            h.probes
            (λ q. absurd (let z : false ≡ true = sym (ap is_some f) ∙ q in let z : ◌≡◌ {A = ℕ} 0 1 = cc in omega arith));
      }

  ready_free : {l' : List Float} → Probed (probes_of m (pose_at poses i)) i (dof_of m) l l' → Ready m poses slot l' (i + 1)
  ready_free {l'} g =
      record {
        len = g.len ∙ h.len;
        bases = λ x q. g.rest x (inl (omega (arith, known_small (length poses)))) ∙ h.bases x q;
        probes = below_more (known l') i
            (λ x q b c d ahead. g.rest (spot x c ahead) (inl (inside x c ahead q (omega (arith, dof_most m)))) ∙ h.probes x q b c d ahead)
            (λ b. g.there);
      }
    where
      inside : (x c : ℕ) (ahead : Bool) → x < i → c < 6 → spot x c ahead < 256 + i * 12
      inside x c true q d = omega arith
      inside x c false q d = omega arith

  pub ready_more : (s : Option ℕ) {l' : List Float} → s ≡ slot i → Posed s (probes_of m (pose_at poses i)) i (dof_of m) l l' → Ready m poses slot l' (i + 1)
  ready_more None e g = subst (λ (l : List Float). Ready m poses slot l (i + 1)) (sym g) (ready_fixed (sym e))
  ready_more (Some k) e g = ready_free g

ready_none : (m : Manifold) (poses : List Float) (slot : ℕ → Option ℕ) (l : List Float) → length l ≡ 26624 → Based poses l (known_poses (length poses))
    → Ready m poses slot l 0
ready_none m poses slot l h b = record { len = h; bases = b; probes = λ x q. absurd (omega arith) }

-- the transforms filled in
pub ready_first : (m : Manifold) (poses : List Float) (slot : ℕ → Option ℕ) (l : List Float) {l' : List Float}
    → length l ≡ 26624 → l' ≡ with_bases poses (known_poses (length poses)) l → Ready m poses slot l' 0
ready_first m poses slot l h e =
    let k = known_poses (length poses) in
    subst (λ (l : List Float). Ready m poses slot l 0) (sym e)
    (ready_none m poses slot (with_bases poses k l) (with_bases_length poses k l ∙ h)
    (with_bases_lem poses k l (omega (arith, h, known_small (length poses)))))

-- ---- a free pose is one of the first 256
slot_below : (blocks : List ℕ) (free x : ℕ) {b : ℕ} → length blocks ≡ 256 → free ≤ 4294967295 → slot_in blocks free x ≡ Some b → x < 256
unfolding slot_in if_then
slot_below blocks free x {b} n f e = go (ltb x 256) (ltb-true x 256) (ltb-false x 256)
  where
    far : (t : Bool) → ltb (get_or blocks x none) free ≡ t → get_or blocks x none ≡ none → if_then t (Some (get_or blocks x none)) None ≡ Some b → x < 256
    far true p q r = let l : get_or blocks x none < free = ltb-true _ _ p in absurd (omega arith)
    far false p q r = absurd (let z : ◌≡◌ {A = ℕ} 0 1 = cc in omega arith)

    go : (t : Bool) → (t ≡ true → x < 256) → (t ≡ false → 256 ≤ x) → x < 256
    go true p q = p refl
    go false p q = let h : 256 ≤ x = q refl in far (ltb (get_or blocks x none) free) refl (get_or-eq_default blocks none (omega arith)) e

pub free_known : {shape : Shape} {poses l : List Float} {links : LentLinks} {x : ℕ} {s : Option ℕ}
    → Shaped shape poses links l → s ≡ (links_lent links).slot x → {i : ℕ} → s ≡ Some i → FreePose shape.manifold shape.n poses l x i
free_known {shape} {poses} {l} {links} {x} h e {i} f =
    let m = shape.manifold in
    let b : x < 256 = slot_below links.blocks.now links.free x h.whole h.most (sym e ∙ f) in
    let known = h.ready.probes x b (ap is_some (sym e ∙ f)) in
    record {
      fits = slot_fits m links.blocks.now links.free x h.size e i f;
      below = b;
      len = h.ready.len;
      probes = known;
      shares = λ c ahead t u q g h.
          shifts_share m (pose_at poses x) c 0 ahead true q (omega arith)
          (sym (known c (omega (arith, dof_large m)) ahead) ∙ h)
          (sym (known 0 (omega (arith, dof_large m)) true) ∙ g);
    }

pub first_cell : (l : List Float) (x : ℕ) → stowed_probes l x 0 true ≡ stowed_in l (256 + x * 12)
first_cell l x = ap (stowed_in l) (omega arith)

-- ---- an edge
module _ (m : Manifold) (n : ℕ) (poses l : List Float) (x y : ℕ) (e : Edge) (w : List Float)
    {z : Result Linked Failure} (h : z ≡ linked_of (checked_transform (pose_at poses x)) (checked_transform (pose_at poses y)) e) where
  -- pose p at the end that is free
  pub one_known : (end : EdgeEndpoint) (p : ℕ) {i : ℕ} {s : Went × List Float} → pose_at poses p ≡ end_pose end (pose_at poses x) (pose_at poses y)
      → FreePose m n poses l p i → s ≡ one_in (dof_of m) n (stowed_probes l p) z end i w
      → s ≡ one_of lower_triangle m n (pose_at poses x) (pose_at poses y) e end i w
  one_known end p {i} q f g =
      g ∙ ap (λ (z : Result Linked Failure). one_in (dof_of m) n (stowed_probes l p) z end i w) h
      ∙ one_linked m n (pose_at poses x) (pose_at poses y) e w end i (stowed_probes l p)
      (λ c b s. f.probes c b s ∙ ap (λ (x : Pose). probes_of m x c s) q)

  pub both_known : {i k : ℕ} {s : Went × List Float} → FreePose m n poses l x i → FreePose m n poses l y k
      → s ≡ both_in (dof_of m) n (stowed_probes l x) (stowed_probes l y) z i k w
      → s ≡ both_of lower_triangle m n (pose_at poses x) (pose_at poses y) e i k w
  both_known {i} {k} f f' g =
      g ∙ ap (λ (z : Result Linked Failure). both_in (dof_of m) n (stowed_probes l x) (stowed_probes l y) z i k w) h
      ∙ both_linked m n (pose_at poses x) (pose_at poses y) e w i k (stowed_probes l x) (stowed_probes l y) f.probes f'.probes

pub ready_all : (m : Manifold) (poses : List Float) (slot : ℕ → Option ℕ) {l : List Float} (i : ℕ) → i ≡ 256 → Ready m poses slot l i → Ready m poses slot l 256
ready_all m poses slot {l} i e h = subst (λ (i : ℕ). Ready m poses slot l i) e h
