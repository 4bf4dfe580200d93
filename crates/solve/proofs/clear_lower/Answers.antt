use mathlib.Core.Path.{◌≡◌, ◌∙◌}
use mathlib.Core.List.{List}
use Prim.Native.Nat.{ℕ, ◌*◌, ◌≤◌}
use lib.ListN.{length}
use lib.Ieee.{Float}
use Rattle.profile.specs.Layout.{need}
use Rattle.solve.specs.Work.{work_after}
use Rattle.solve.specs.forms.Profile.{step_of, cleared_at, cleared_rows}
use Rattle.solve.proofs.Places.{cleared_lower}
use Rattle.solve.proofs.clear_lower.Goals as goal

both : (w u v : List Float) (n : ℕ) → need n ≤ length w → u ≡ cleared_rows w n n → v ≡ cleared_at u (n * n) n → v ≡ work_after w n (step_of w n)
both w u v n long e h = h ∙ rw e (cleared_lower w n long)

pub returns : goal.returns
returns c = both c.args.w.now c.clear_rows.new.w c.clear.new.w c.args.n c.requires c.clear_rows.ensures c.clear.ensures
