use mathlib.Core.Path.{◌≡◌}
use borrow.Author.Rules.{rules}
use Rattle.additions.proofs.Fitting.{within, nothing_added, one_added}
use Rattle.additions.proofs.add_end.Goals as goal

pub returns-then-not-block_fits : goal.returns-then-not-block_fits
returns-then-not-block_fits c = nothing_added _ _ c.block_fits.ensures c.if-not-block_fits.true-raw

pub end_within-requires : goal.end_within-requires
end_within-requires c =
    (within _ _ _ _ c.block_fits.ensures c.if-not-block_fits.false-raw).inside

pub returns : goal.returns
returns c =
    let w : c.w-1.given.0 ≡ c.end_within.new.self.w.now = search rules in
    rw w (one_added _ _ c.block_fits.ensures c.if-not-block_fits.false-raw c.end_within.ensures.value)
