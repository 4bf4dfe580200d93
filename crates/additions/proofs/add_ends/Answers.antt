use mathlib.Core.Path.{◌≡◌}
use borrow.Author.Rules.{rules}
use Rattle.additions.proofs.Fitting.{within, first_outside, second_outside, both_added}
use Rattle.additions.proofs.add_ends.Goals as goal

pub returns-then-not-block_fits : goal.returns-then-not-block_fits
returns-then-not-block_fits c = first_outside _ _ _ c.block_fits.ensures c.if-not-block_fits.true-raw

pub returns-then-not-block_fits-2 : goal.returns-then-not-block_fits-2
returns-then-not-block_fits-2 c = second_outside _ _ c.block_fits.ensures c.if-not-block_fits.false-raw c.block_fits-2.ensures c.if-not-block_fits-2.true-raw

pub ends_within-requires : goal.ends_within-requires
ends_within-requires c =
    let f = within _ _ _ _ c.block_fits.ensures c.if-not-block_fits.false-raw in
    let g = within _ _ _ _ c.block_fits-2.ensures c.if-not-block_fits-2.false-raw in
    (f.inside, g.inside)

pub returns : goal.returns
returns c =
    let w : c.w-1.given.0 ≡ c.ends_within.new.self.w.now = search rules in
    rw w (both_added _ _ c.block_fits.ensures c.if-not-block_fits.false-raw c.block_fits-2.ensures c.if-not-block_fits-2.false-raw c.ends_within.ensures.value)
