use Rattle.std.proofs.Common.{ap, ◌∙◌, length, take, replicate}
use Rattle.std.proofs.lemmas.Slice.Zip.{AllZip-map}
use lib.Ieee.{binary32, binary64, of_bits, to_bits}
use Rattle.numbers.specs.Notation.{num}
use Rattle.sparse_pgo.specs.Optimize.{After}
use Rattle.join_job.specs.Lent.{space_in}
use Rattle.join_job.specs.Joining.{patterns}
use Rattle.join_job.proofs.Patterns.{take_replicate, zero64, run_is, judged_is}
use Rattle.join_job.proofs.run_job.Goals as goal

pub returns : goal.returns
returns c =
    let j = c.args.j in
    let n = length j.poses.now in
    let l = space_in j in
    let p = AllZip-map (of_bits binary64) j.poses.now c.convert.new.to c.convert.ensures in
    let q = AllZip-map (of_bits binary32) j.edges.now c.convert-2.new.to c.convert-2.ensures in
    let r = ap (take n) (c.blank-zeros.ensures.value ∙ ap (replicate 3072) zero64) ∙ take_replicate n 3072 (num 0) c.requires.0 in record {
      value = c.judge_over-a.ensures.value ∙ judged_is j.settings l _ _ _ p q r;
      value_2 =
          AllZip-map (to_bits binary64) c.judge_over-a.new.out c.convert-3.new.to c.convert-3.ensures
          ∙ ap (patterns binary64) (c.judge_over-a.ensures.out_value ∙ ap (λ (y : After). y.out) (run_is j.settings l _ _ _ p q r));
    }
