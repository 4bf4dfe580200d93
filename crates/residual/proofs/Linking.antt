-- The residual of an edge by its parts is its residual; with one end moved too. Reasons come in the order in which they did.
-- Assumes nothing.
use Rattle.residual.specs.declared.Linked.{Linked}
use Rattle.std.specs.Prelude.{Err, Ok, Result}
use mathlib.Core.Path.{◌≡◌, refl, sym, ap, ap₂, ◌∙◌}
use mathlib.Core.Bool.{Bool, true, false}
use Prim.Native.Nat.{ℕ}
use native.Mathlib.Omega.{arith}
use lib.Ieee.{Float}
use lib.Ieee.Scale.{finite}
use Rattle.numbers.specs.Notation.{if_then}
use Rattle.numbers.specs.declared.Failure.{Failure}
use Rattle.numbers.specs.declared.Failure.TheVariants.{Numerical}
use Rattle.rotations.specs.Rotation.{wide, finished, rounded_vec, rounded_quat, product, inverse}
use Rattle.exp_log.specs.ExpLog.{log_wide}
use Rattle.exp_log.specs.LogParts.{log_turn, log_at}
use Rattle.rotations.specs.Formats.{Transform}
use Rattle.exp_log.specs.Formats.{Twist}
use Rattle.rotations.specs.declared.Pose.{Pose}
use Rattle.pose_conversion.specs.Conversions.{valid_transform, checked_transform, converting}
use Rattle.graph.specs.declared.Edge.{Edge}
use Rattle.residual.specs.Residuals.{error_of, weighted, six_if_finite, residual_of}
use Rattle.residual.specs.EdgeParts.{undone_of, error_quat, carried, residual_in, link_of, tied_by, tied, link_from, linked_of, six_in}
use Rattle.residual.specs.EdgeParts.{end_at, hinge_by, hinge_of, between_at, residual_at}
use Rattle.residual.specs.declared.EdgeEndpoint.{EdgeEndpoint}
use Rattle.residual.specs.declared.EdgeEndpoint.TheVariants.{A, B}
use Rattle.residual.specs.declared.Link.{Link}

six_tied : (l : Link) (r : Result Twist Failure) → six_in (tied_by l r) ≡ r
six_tied l (Ok d) = refl
six_tied l (Err why) = refl

link_tied : (l₀ : Link) (r : Result Twist Failure) {l : Link} {d : Twist} → tied_by l₀ r ≡ Ok (record { link = l; six = d }) → l₀ ≡ l
link_tied l₀ (Ok d) {l} {d = b} h = let e : ◌≡◌ {A = Linked} (record { link = l₀; six = d }) (record { link = l; six = b }) = cc in ap (λ (x : Linked). x.link) e
link_tied l₀ (Err why) h = absurd (let z : ◌≡◌ {A = ℕ} 0 1 = cc in omega arith)

-- the three parts, then the residual
abbrev parts : Result Transform Failure → Result Transform Failure → Result Transform Failure → Float → Result Twist Failure
parts a b undone w =
    converting undone
    (λ u. converting b
    (λ to. converting a
    (λ from. residual_in (link_of from to u w))
    Err) Err) Err

six_parts : (a b undone : Result Transform Failure) (w : Float) → six_in (link_from a b undone w) ≡ parts a b undone w
unfolding link_from tied converting
six_parts a b (Err why) w = refl
six_parts a (Err why) (Ok u) w = refl
six_parts (Err why) (Ok to) (Ok u) w = refl
six_parts (Ok from) (Ok to) (Ok u) w = six_tied _ (residual_in (link_of from to u w))

-- a link's residual is the one of its transforms
in_link : (a b m : Transform) (w : Float) → residual_in (link_of a b (inverse m) w) ≡ six_if_finite (weighted w (log_wide (error_of a b m)))
unfolding residual_in error_quat carried error_of product inverse wide finished rounded_vec rounded_quat log_wide log_turn log_at
in_link a b m w = refl

asked : (a b m : Result Transform Failure) (w : Float) (f : Bool)
    → parts a b (if_then f (converting m (λ m. Ok (inverse m)) Err) (Err Numerical)) w
    ≡ if_then f
    (converting m
    (λ m. converting b
    (λ tb. converting a
    (λ ta. six_if_finite (weighted w (log_wide (error_of ta tb m))))
    Err) Err) Err)
    (Err Numerical)
unfolding if_then converting
asked (Ok a) (Ok b) (Ok m) w true = in_link a b m w
asked (Err why) (Ok b) (Ok m) w true = refl
asked a (Err why) (Ok m) w true = refl
asked a b (Err why) w true = refl
asked a b m w false = refl

parts_residual : (a b : Pose) (e : Edge) → parts (checked_transform a) (checked_transform b) (undone_of e) e.weight ≡ residual_of a b e
unfolding undone_of residual_of
parts_residual a b e = asked (checked_transform a) (checked_transform b) (valid_transform e.measured) e.weight (finite e.weight)

-- the residual by its parts
pub residual_linked : (a b : Pose) (e : Edge) → six_in (linked_of (checked_transform a) (checked_transform b) e) ≡ residual_of a b e
unfolding linked_of
residual_linked a b e = six_parts (checked_transform a) (checked_transform b) (undone_of e) e.weight ∙ parts_residual a b e

-- ---- an end moved: its residual by what its quaternion gives, then its translation
pub moved_residual_lem : (l : Link) (end : EdgeEndpoint) (t : Transform) → residual_at l end (hinge_of l end (wide t).q) (wide t).t ≡ residual_in (end_at l end t)
unfolding residual_at between_at hinge_of hinge_by residual_in error_quat carried inverse wide finished rounded_vec rounded_quat weighted log_at
moved_residual_lem l A t = refl
moved_residual_lem l B t = refl

-- ---- once an edge is linked: another transform at one of its ends
abbrev parts_at : EdgeEndpoint → Result Transform Failure → Result Transform Failure → Result Transform Failure → Result Transform Failure → Float → Result Twist Failure
parts_at A x a b undone w = parts x b undone w
parts_at B x a b undone w = parts a x undone w

parts_other : (end : EdgeEndpoint) (a b undone : Result Transform Failure) (w : Float) {l : Link} {d : Twist} → link_from a b undone w ≡ Ok (record { link = l; six = d })
    → (x : Result Transform Failure) → parts_at end x a b undone w ≡ converting x (λ t. residual_in (end_at l end t)) Err
unfolding link_from tied converting
parts_other end a b (Err why) w h x = absurd (let z : ◌≡◌ {A = ℕ} 0 1 = cc in omega arith)
parts_other end a (Err why) (Ok u) w h x = absurd (let z : ◌≡◌ {A = ℕ} 0 1 = cc in omega arith)
parts_other end (Err why) (Ok to) (Ok u) w h x = absurd (let z : ◌≡◌ {A = ℕ} 0 1 = cc in omega arith)
parts_other end (Ok from) (Ok to) (Ok u) w h x =
    here end
    ∙ ap (λ (l : Link). converting x (λ t. residual_in (end_at l end t)) Err) (link_tied _ (residual_in (link_of from to u w)) h)
  where
    here : (end : EdgeEndpoint) → parts_at end x (Ok from) (Ok to) (Ok u) w ≡ converting x (λ t. residual_in (end_at (link_of from to u w) end t)) Err
    here A = refl
    here B = refl

module _ (a b : Pose) (e : Edge) {l : Link} {d : Twist} (h : linked_of (checked_transform a) (checked_transform b) e ≡ Ok (record { link = l; six = d })) where
  pub linked_six : residual_of a b e ≡ Ok d
  linked_six = sym (residual_linked a b e) ∙ ap six_in h

  pub other_from : (x : Pose) → residual_of x b e ≡ converting (checked_transform x) (λ t. residual_in (end_at l A t)) Err
  unfolding linked_of
  other_from x =
      sym (parts_residual x b e) ∙ parts_other A (checked_transform a) (checked_transform b) (undone_of e) e.weight h (checked_transform x)

  pub other_to : (x : Pose) → residual_of a x e ≡ converting (checked_transform x) (λ t. residual_in (end_at l B t)) Err
  unfolding linked_of
  other_to x =
      sym (parts_residual a x e) ∙ parts_other B (checked_transform a) (checked_transform b) (undone_of e) e.weight h (checked_transform x)

pub linked_lost : (a b : Pose) (e : Edge) {why : Failure}
    → linked_of (checked_transform a) (checked_transform b) e ≡ Err why → residual_of a b e ≡ Err why
linked_lost a b e h = sym (residual_linked a b e) ∙ ap six_in h

-- ---- how the code goes by what could be had
module _ (l : Link) {r : Result Twist Failure} (e : r ≡ residual_in l) where
  pub tie_six : {d : Twist} → r ≡ Ok d → Ok (record { link = l; six = d }) ≡ tied l
  unfolding tied
  tie_six h = rw (← e, h)

  pub tie_failed : {why : Failure} → r ≡ Err why → Err why ≡ tied l
  unfolding tied
  tie_failed h = rw (← e, h)

module _ (a b : Result Transform Failure) (e : Edge) {x : Result Transform Failure} (p : x ≡ undone_of e) where
  pub no_measured : {why : Failure} → x ≡ Err why → Err why ≡ linked_of a b e
  unfolding linked_of link_from converting
  no_measured q = rw (← p, q)

  module _ {u : Transform} (q : x ≡ Ok u) where
    pub no_b : {why : Failure} → b ≡ Err why → Err why ≡ linked_of a b e
    unfolding linked_of link_from converting
    no_b f = rw (← p, q, f)

    module _ {to : Transform} (f : b ≡ Ok to) where
      pub no_a : {why : Failure} → a ≡ Err why → Err why ≡ linked_of a b e
      unfolding linked_of link_from converting
      no_a g = rw (← p, q, f, g)

      pub all_parts : {from : Transform} {r : Result Linked Failure} → a ≡ Ok from → r ≡ tied (link_of from to u e.weight) → r ≡ linked_of a b e
      unfolding linked_of link_from converting
      all_parts g i = rw (← p, q, f, g) i

-- the residual in a link
module _ {x : Result Linked Failure} where
  pub six_had : {l : Link} {d : Twist} → x ≡ Ok (record { link = l; six = d }) → Ok d ≡ six_in x
  six_had e = rw e

  pub six_lost : {why : Failure} → x ≡ Err why → Err why ≡ six_in x
  six_lost e = rw e

pub residual_by : (a b : Pose) (e : Edge) {x y : Result Transform Failure} {z : Result Linked Failure} {r : Result Twist Failure}
    → x ≡ checked_transform a → y ≡ checked_transform b → z ≡ linked_of x y e → r ≡ six_in z → r ≡ residual_of a b e
residual_by a b e p q r s = s ∙ ap six_in (r ∙ ap₂ (λ (x y : Result Transform Failure). linked_of x y e) p q) ∙ residual_linked a b e
