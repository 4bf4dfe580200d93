-- What an assembly leaves in the work, done or stopped: as many numbers; past n (n + 3) those that it found; and +0 in every place that is neither
-- in the lower triangle of H nor in the gradient, so that a solve finds its scratch and its step clear. Assumes nothing.
use Rattle.std.specs.Prelude.{Err, Ok}
use mathlib.Core.Path.{◌≡◌, refl, sym, ap, ◌∙◌}
use mathlib.Core.Bool.{Bool, true, false}
use mathlib.Core.List.{List}
use Prim.Native.Nat.{ℕ, ◌+◌, ◌*◌, ◌<◌, ◌≤◌}
use native.Mathlib.Omega.{arith}
use lib.Arith.{digits_lt}
use lib.Dec.{ltb}
use lib.ListN.{length, get_or, set, length-set}
use lib.Seq.{get_or-set_other}
use lib.Ieee.{Float, nan}
use borrow.Author.Tests.{le-ltb, ltb-true, ltb-false}
use Rattle.numbers.specs.Notation.{◌⊞◌, num, if_then}
use Rattle.numbers.specs.Walks.{Ended, done, stopped, must_be_finite, Went}
use Rattle.numbers.proofs.Tables.{is_table}
use Rattle.rotations.specs.declared.Pose.{Pose}
use Rattle.graph.specs.Graph.{Links}
use Rattle.graph.specs.declared.Edge.{Edge}
use Rattle.graph.specs.declared.Manifold.{Manifold}
use Rattle.solve.specs.Rule.{nothing}
use Rattle.profile.specs.Layout.{need}
use Rattle.solve.specs.Work.{Place, kept, scratch, step_at, place_of, after, work_after}
use Rattle.solve.proofs.Places.{at_system, at_gradient, at_rest}
use Rattle.additions.specs.Additions.{add_to}
use Rattle.assembly.specs.Assembly.{cleared, assembled_ends, assembled_from, assembled_of}
use Rattle.assembly.proofs.Laws.{cleared_length, cleared_zero, cleared_rest}
use Rattle.numbers.proofs.Invariants.{Good, Over}
use Rattle.assembly.proofs.Walked.{Fits, edges_over}

-- ---- what is left
pub record Clean (n : ℕ) (w y : List Float) : Type 0 where
  pub same_length : length y ≡ length w
  pub rest_as_found : (q : ℕ) → need n ≤ q → get_or y q nan ≡ get_or w q nan
  pub others_zero : (q : ℕ) → (place_of n q ≡ kept → ⊥) → get_or y q nan ≡ num 0

module _ (n : ℕ) (w : List Float) where
  -- a store to a place of the system
  stored : (y : List Float) (p : ℕ) (v : Float) → place_of n p ≡ kept → p < need n → Clean n w y → Clean n w (set y p v)
  stored y p v h b s =
      record {
        same_length = length-set y p v ∙ s.same_length;
        rest_as_found = λ q l. get_or-set_other y p q v nan (λ e. omega arith) ∙ s.rest_as_found q l;
        others_zero = λ q o. get_or-set_other y p q v nan (λ e. o (ap (place_of n) e ∙ h)) ∙ s.others_zero q o;
      }

  said : (x : Went) (y : List Float) → Clean n w y → Good (Clean n w) (Clean n w) (x, y)
  said (Ok _) y s = s
  said (Err why) y s = s

  added : (y : List Float) (p : ℕ) (v : Float) → place_of n p ≡ kept → p < need n → Clean n w y → Good (Clean n w) (Clean n w) (add_to y p v)
  unfolding add_to
  added y p v h b s = let t = get_or y p nan ⊞ v in said (must_be_finite t) (set y p t) (stored y p t h b s)

  module _ (room : need n ≤ length w) where
    start_clean : Clean n w (cleared n w)
    start_clean =
        record {
          same_length = cleared_length n w room;
          rest_as_found = cleared_rest n w;
          others_zero = λ q o. cleared_zero n w q (below q (ltb q (need n)) refl o);
        }
      where
        below : (q : ℕ) (t : Bool) → ltb q (need n) ≡ t → (place_of n q ≡ kept → ⊥) → q < need n
        below q true e o = ltb-true q (need n) e
        below q false e o = absurd (o (at_rest n q (ltb-false q (need n) e)))

    -- done or stopped
    pub edges_clean : (m : Manifold) (l : Links Edge) (pose : ℕ → Pose) → Fits m n l → Over (Clean n w) (Clean n w) (assembled_ends m n l pose w)
    edges_clean m l pose f =
        edges_over n (Clean n w) (Clean n w) (λ _ s. s)
        (λ y i j v h b s. added y (j * n + i) v (at_system n i j h b) (let z : j * n + i < n * n = digits_lt (omega arith) b in omega arith) s)
        (λ y i v b s. added y (n * n + n + i) v (at_gradient n (n * n + n + i) (omega arith) (omega arith)) (omega arith) s)
        m l pose w f start_clean

    pub assembled_clean : (m : Manifold) (l : Links Edge) (pose : ℕ → Pose) → Fits m n l → Clean n w (assembled_of m n l pose w).1
    unfolding assembled_of if_then
    assembled_clean m l pose f = rw (le-ltb (length w) (need n) room) (go (assembled_ends m n l pose w) (edges_clean m l pose f))
      where
        go : (e : Ended (List Float)) → Over (Clean n w) (Clean n w) e → Clean n w (assembled_from e).1
        go (done y) s = s
        go (stopped k why y) s = s

-- a solve that failed would leave it as it is
pub clean_after : (n : ℕ) (w y : List Float) → Clean n w y → work_after y n nothing ≡ y
unfolding work_after
clean_after n w y s = sym (is_table nan y (λ q. after nothing (get_or y q nan) (place_of n q)) (length y) refl (λ q _. at q (place_of n q) refl))
  where
    at : (q : ℕ) (p : Place) → place_of n q ≡ p → get_or y q nan ≡ after nothing (get_or y q nan) p
    at q kept e = refl
    at q scratch e = s.others_zero q (λ h. let z : ◌≡◌ {A = ℕ} 0 1 = cc in omega arith)
    at q (step_at i) e = s.others_zero q (λ h. let z : ◌≡◌ {A = ℕ} 0 1 = cc in omega arith)
