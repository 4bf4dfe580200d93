use Rattle.decisions.specs.Run.{heard}
use Rattle.decisions.proofs.hear.Goals as goal

pub returns-in-Failed : goal.returns-in-Failed
unfolding heard
returns-in-Failed c = simp c.in-Failed.is

pub returns-in-Small : goal.returns-in-Small
unfolding heard
returns-in-Small c = simp c.in-Small.is

pub returns-in-Priced : goal.returns-in-Priced
unfolding heard
returns-in-Priced c = simp (c.judge.ensures, c.in-Priced.is)

pub returns-in-Numerical : goal.returns-in-Numerical
unfolding heard
returns-in-Numerical c = simp c.in-Numerical.is
