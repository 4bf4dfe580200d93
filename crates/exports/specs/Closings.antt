-- What the exported closing of a scan's loops gives back and writes, and a float's text: document 02, Wish 2. A slice of another length than named gets
-- 4294967295 back, and nothing is changed. Definitions only.
use Rattle.pose_graph.specs.declared.PgoResult.{PgoResult}
use Rattle.numbers.specs.declared.Refusal.{Refusal}
use Rattle.sparse_pgo.specs.declared.Joined.{Joined}
use Rattle.std.specs.Prelude.{ℕ, List, ◌++◌, eqb, length, drop, Float, Err, Ok, Result}
use Rattle.numbers.specs.Notation.{if_then}
use Rattle.graph.specs.declared.Manifold.{Manifold}
use Rattle.graph.specs.declared.Manifold.TheVariants.{Se3, Gravity}
use Rattle.rows.specs.declared.Settings.{Settings}
use Rattle.scans.specs.Scans.{Scan}
use Rattle.pose_graph.specs.Closing.{Closing, loops_closed}
use Rattle.pose_graph.specs.declared.PgoConfig.{PgoConfig}
use Rattle.line.specs.FloatText.{float_text}
use Rattle.telling.specs.Telling.{judged_nine, refused_nine, measures_four, fits_closing}
use Rattle.exports.specs.Layers.{unfit_number, three}
use Rattle.exports.specs.Exported.{number_of, costs_of}

-- ---- pgo_close_loops

-- all that is lent to be written
pub record LentScan : Type 0 where
  pub work32 : List Float
  pub work64 : List Float
  pub original : List Float
  pub out : List Float
  pub answer : List ℕ
  pub costs : List Float
  pub measures : List Float

abbrev pub scan_lists : List Float → List Float → List Float → List Float → List ℕ → List Float → List Float → LentScan
scan_lists work32 work64 original out a c m =
    record { work32 = work32; work64 = work64; original = original; out = out; answer = a; costs = c; measures = m }

-- no number: no gravity
unfoldable pub gravity_of : List Float → Manifold
gravity_of g = if_then (eqb (length g) 0) Se3 (Gravity (three g))

-- the run's answer in it
abbrev pub run_answer : Result PgoResult Refusal → Result Joined Refusal
run_answer (Ok x) = Ok x.run
run_answer (Err r) = Err r

abbrev pub closed_nine : Result PgoResult Refusal → List ℕ
closed_nine (Ok x) = judged_nine x.run x.usable
closed_nine (Err r) = refused_nine r

-- the four measures, as found where refused
abbrev pub closed_measures : List Float → Result PgoResult Refusal → List Float
closed_measures found (Ok x) = measures_four x.measures
closed_measures found (Err r) = found

-- the number given back; the run's eight numbers, then whether it is usable; its costs; the measures
abbrev pub closed_told : List Float → List Float → Result PgoResult Refusal → ℕ × List ℕ × List Float × List Float
closed_told costs measures a = (number_of (run_answer a), closed_nine a, costs_of costs (run_answer a), closed_measures measures a)

abbrev pub closed_with : LentScan → Closing → ℕ × LentScan
closed_with l c =
    let told = closed_told l.costs l.measures c.answer in
    (told.0, scan_lists c.work32 c.work64 c.original c.out told.1 told.2 told.3)

unfoldable pub close_out : ℕ → PgoConfig → Scan → LentScan → ℕ × LentScan
close_out gravity c s l =
    if_then (fits_closing gravity (length l.answer) (length l.costs) (length l.measures))
    (closed_with l (loops_closed c s l.work32 l.work64 l.original l.out))
    (unfit_number, l)

-- a scan's loops closed with such settings and gravity
abbrev pub loops_out : Settings → List Float → Scan → LentScan → ℕ × LentScan
loops_out set g s = close_out (length g) (record { loop_edge_weight = s.weight; settings = set; manifold = gravity_of g }) s

-- ---- pgo_float_text: how many bytes, and these at the start of the sixteen lent

unfoldable pub text_out : Float → List ℕ → ℕ × List ℕ
text_out x out = if_then (eqb (length out) 16) (length (float_text x), float_text x ++ drop (length (float_text x)) out) (unfit_number, out)
