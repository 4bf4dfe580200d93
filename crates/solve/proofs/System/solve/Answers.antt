use mathlib.Core.Path.{◌≡◌, refl, ◌∙◌}
use mathlib.Core.Bool.{Bool, true, false}
use mathlib.Core.List.{List}
use Prim.Native.Nat.{ℕ}
use lib.Ieee.{Float}
use lib.Ieee.Scale.{finite}
use Rattle.std.specs.Bool.{then_some}
use Rattle.std.specs.Option.{is_some}
use Rattle.numbers.specs.Walks.{every}
use Rattle.solve.specs.forms.Profile.{step_of, rows_from, forward_from, backward_from, substitute_from, solved_from}
use Rattle.solve.proofs.System.solve.Goals as goal

module _ (w x : List Float) (n : ℕ) (f : List ℕ) (d : Float) where
  fails : (false, x) ≡ rows_from w n f d 0 n → (false, x) ≡ solved_from w n f d
  unfolding solved_from
  fails e = rw (← e)

  -- n₁, n₂, n₃ are n, and f₁, f₂ are f, after each step
  goes : (true, x) ≡ rows_from w n f d 0 n → (y z : List Float) (b : Bool) (n₁ n₂ n₃ : ℕ) (f₁ f₂ : List ℕ) → n₁ ≡ n → n₂ ≡ n → n₃ ≡ n → f₁ ≡ f → f₂ ≡ f
      → y ≡ forward_from x n₁ f₁ n₁ → z ≡ backward_from y n₂ f₂ n₂ → b ≡ every (λ i. finite (step_of z n₃ i)) n₃ → (b, z) ≡ solved_from w n f d
  unfolding solved_from substitute_from
  goes e y z b n₁ n₂ n₃ f₁ f₂ e₁ e₂ e₃ g₁ g₂ hy hz hb = rw (← e, hb, e₃, hz, e₂, g₂, hy, e₁, g₁)

told : (b : Bool) → is_some (then_some b (tt {0})) ≡ b
told true = refl
told false = refl

pub returns-in_err-factor : goal.returns-in_err-factor
returns-in_err-factor c =
    let s = c.args.self.now in
    let h = c.in_err-factor.ensures in
    record { value = rw c.from_residual.ensures (fails s.w.now c.factor.new.self.w.now s.n s.f c.args.damping h.value); same = h.same }

pub returns : goal.returns
returns c =
    let s = c.args.self.now in
    let h = c.in_ok-factor.ensures in
    let a = c.forward.ensures in
    let b = c.backward.ensures in
    record {
      value =
          rw (c.then_some.ensures, told) (goes s.w.now c.factor.new.self.w.now s.n s.f c.args.damping h.value c.forward.new.self.w.now c.backward.new.self.w.now c.is_finite.result
          c.factor.new.self.n c.forward.new.self.n c.backward.new.self.n c.factor.new.self.f c.forward.new.self.f
          h.same.1 (a.same.1 ∙ h.same.1) (b.same.1 ∙ a.same.1 ∙ h.same.1) h.same.2 (a.same.2 ∙ h.same.2) a.value b.value c.is_finite.ensures);
      same = (b.same.0 ∙ a.same.0 ∙ h.same.0, b.same.1 ∙ a.same.1 ∙ h.same.1, b.same.2 ∙ a.same.2 ∙ h.same.2);
    }
