use mathlib.Core.Path.{◌≡◌, refl, sym, ◌∙◌}
use mathlib.Core.Bool.{Bool, true, false}
use mathlib.Core.List.{List}
use Prim.Native.Nat.{ℕ, suc, ◌+◌, ◌-◌, ◌*◌, ◌<◌}
use native.Mathlib.Nat.{sub-zero}
use native.Mathlib.Omega.{arith}
use lib.ListN.{set}
use lib.Ieee.{Float}
use Rattle.roots.specs.Roots.{root32}
use Rattle.profile.specs.Starts.{first_of}
use Rattle.solve.specs.Rule.{serves}
use Rattle.solve.specs.forms.Profile.{row_from, pivot_from, onward, whole_row, rows_from}
use Rattle.solve.proofs.System.factor.Goals as goal

-- n₁ and f₁ are n and f before the row is made, n₂ is n after it
whole : (w v : List Float) (n n₁ n₂ : ℕ) (f f₁ : List ℕ) (i s : ℕ) (d p x : Float) (r : Bool) → n₁ ≡ n → f₁ ≡ f → n₂ ≡ n → s ≡ first_of f₁ i → v ≡ row_from w n₁ f₁ i (i - s) → p ≡ pivot_from v n₂ d i s
    → x ≡ root32 p → r ≡ serves p → (r, set v (n₂ * n₂ + i) x) ≡ whole_row w n f d i
unfolding whole_row
whole w v n n₁ n₂ f f₁ i s d p x r e₁ g e₂ hs hv hp hx hr = rw (hr, hx, hp, e₂, hv, hs, e₁, g)

-- a turn: what is left to do is the next row, and then the rest
turn : (w v : List Float) (n : ℕ) (f : List ℕ) (d : Float) (i : ℕ) (r b : Bool) → i < n → (r, v) ≡ whole_row w n f d i → r ≡ b
    → rows_from w n f d i (n - i) ≡ onward (b, v) (λ u. rows_from u n f d (i + 1) (n - (i + 1)))
unfolding rows_from
turn w v n f d i r b h e g =
    let k : n - i ≡ suc (n - (i + 1)) = omega arith in
    let l : i + 1 ≡ suc i = omega arith in
    rw (k, l, ← e, g)

pub loop-i-init : goal.loop-i-init
loop-i-init c = ((refl, refl, refl), rw sub-zero)

pub returns-then-not-serves : goal.returns-then-not-serves
returns-then-not-serves c =
    let s = c.args.self.now in
    let t = c.loop-i.self in
    let u = c.row_from.new.self in
    let i = c.loop-i.i in
    let q = c.loop-i.invariant.0 in
    let k = c.row_from.ensures.same in
    record {
      value =
          sym (c.loop-i.invariant.1 ∙ turn t.w.now (set u.w.now (u.n * u.n + i) c.sqrt32.result) s.n s.f c.args.damping i c.serves.result false (omega arith)
          (whole t.w.now u.w.now s.n t.n u.n s.f t.f i c.first_of-s.result c.args.damping c.pivot_from-p.result c.sqrt32.result c.serves.result
          q.1 q.2 (k.1 ∙ q.1) c.first_of-s.ensures c.row_from.ensures.value c.pivot_from-p.ensures c.sqrt32.ensures c.serves.ensures) c.if-not-serves.true);
      same = (k.0 ∙ q.0, k.1 ∙ q.1, k.2 ∙ q.2);
    }

pub loop-i-preserved : goal.loop-i-preserved
loop-i-preserved c =
    let s = c.args.self.now in
    let t = c.loop-i.self in
    let u = c.row_from.new.self in
    let i = c.loop-i.i in
    let q = c.loop-i.invariant.0 in
    let k = c.row_from.ensures.same in (
      (k.0 ∙ q.0, k.1 ∙ q.1, k.2 ∙ q.2),
      c.loop-i.invariant.1 ∙ turn t.w.now (set u.w.now (u.n * u.n + i) c.sqrt32.result) s.n s.f c.args.damping i c.serves.result true (omega arith)
          (whole t.w.now u.w.now s.n t.n u.n s.f t.f i c.first_of-s.result c.args.damping c.pivot_from-p.result c.sqrt32.result c.serves.result
          q.1 q.2 (k.1 ∙ q.1) c.first_of-s.ensures c.row_from.ensures.value c.pivot_from-p.ensures c.sqrt32.ensures c.serves.ensures) c.if-not-serves.false,
    )

pub returns-clause-value : goal.returns-clause-value
unfolding rows_from
returns-clause-value c =
    let e : c.args.self.now.n - c.loop-i.i ≡ 0 = omega arith in
    rw (c.loop-i.invariant.1, e)
