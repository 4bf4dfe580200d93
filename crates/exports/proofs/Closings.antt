-- What is told of a scan whose loops were closed, and a float's text in the lent bytes. Assumes nothing.
use Prim.Native.Nat.{ℕ, ◌≤◌}
use native.Mathlib.Omega.{arith}
use Rattle.std.specs.Prelude.{Err, Ok, Result}
use mathlib.Core.Path.{◌≡◌, refl, sym, ap, ◌∙◌}
use mathlib.Core.Bool.{true, ◌||◌}
use mathlib.Core.List.{List, ◌++◌}
use borrow.Author.Tests.{eqb-true, eq-eqb}
use lib.Dec.{eqb}
use lib.ListN.{length, take, drop, length-append, take-append-drop}
use lib.Seq.{take-length}
use lib.Ieee.{Float}
use Rattle.numbers.specs.declared.Refusal.{Refusal}
use Rattle.numbers.proofs.Choices.{taken}
use Rattle.numbers.proofs.Tests.{and_first, and_second}
use Rattle.graph.specs.declared.Manifold.{Manifold}
use Rattle.rows.specs.declared.Settings.{Settings}
use Rattle.slices.specs.Slices.{copied}
use Rattle.scans.specs.Scans.{Scan}
use Rattle.pose_graph.specs.Closing.{loops_closed}
use Rattle.pose_graph.specs.declared.PgoConfig.{PgoConfig}
use Rattle.pose_graph.specs.declared.PgoResult.{PgoResult}
use Rattle.line.specs.Text.{empty, with_text}
use Rattle.line.specs.FloatText.{float_text}
use Rattle.line.specs.declared.Line.{Line}
use Rattle.line.proofs.Lines.{shown_whole, used_whole}
use Rattle.line.proofs.FloatSamples.{float_length}
use Rattle.telling.specs.Telling.{joined_costs, measures_four, fits_closing}
use Rattle.exports.specs.Closings.{LentScan, scan_lists, gravity_of, closed_nine, closed_told, closed_with, text_out}
use Rattle.slices.proofs.Laws.{copied_as}

-- ---- a scan's loops closed

pub fit_closing : (g a c m : ℕ) → fits_closing g a c m ≡ true → (a ≡ 9) × (c ≡ 2) × (m ≡ 4)
fit_closing g a c m h =
    let all = and_second (eqb g 0 || eqb g 3) _ h in
    let two = and_second (eqb a 9) _ all in
    (eqb-true _ _ (and_first (eqb a 9) _ all), eqb-true _ _ (and_first (eqb c 2) _ two), eqb-true _ _ (and_second (eqb c 2) _ two))

pub nine_long : (a : Result PgoResult Refusal) → length (closed_nine a) ≡ 9
nine_long (Ok x) = refl
nine_long (Err r) = refl

-- nine numbers and, of a scan whose run was joined, costs and measures, each copied-as over what was found
module _ (a : Result PgoResult Refusal) (found : List ℕ) (costs measures : List Float) {nine last : List ℕ}
    (h : length found ≡ 9) (e : nine ≡ closed_nine a) (p : last ≡ copied nine found) where
  whole : last ≡ closed_nine a
  whole = copied_as (closed_nine a) found e (h ∙ sym (nine_long a)) p

  pub closed_ran : {x : PgoResult} {two c four m : List Float} → a ≡ Ok x → length costs ≡ 2 → two ≡ joined_costs x.run → c ≡ copied two costs
      → length measures ≡ 4 → four ≡ measures_four x.measures → m ≡ copied four measures → (0, last, c, m) ≡ closed_told costs measures a
  closed_ran {x} g k t q k4 f s = rw (whole, copied_as (joined_costs x.run) costs t k q, copied_as (measures_four x.measures) measures f k4 s, g)

  pub closed_refused : {r : Refusal} → a ≡ Err r → (r.number, last, costs, measures) ≡ closed_told costs measures a
  closed_refused g = rw (whole, g)

abbrev config_of : Float → Settings → Manifold → PgoConfig
config_of weight set m = record { loop_edge_weight = weight; settings = set; manifold = m }

pub closed_told_lem : (weight : Float) (set : Settings) (g : List Float) (s : Scan) (l : LentScan) {m : Manifold} {a : Result PgoResult Refusal} {w32 w64 original out : List Float}
    {r : ℕ} {nine : List ℕ} {costs measures : List Float}
    → m ≡ gravity_of g
    → record { answer = a; work32 = w32; work64 = w64; original = original; out = out }
    ≡ loops_closed (config_of weight set m) s l.work32 l.work64 l.original l.out
    → (r, nine, costs, measures) ≡ closed_told l.costs l.measures a
    → (r, scan_lists w32 w64 original out nine costs measures)
    ≡ closed_with l (loops_closed (config_of weight set (gravity_of g)) s l.work32 l.work64 l.original l.out)
closed_told_lem weight set g s l {m} {a} {w32} {w64} {original} {out} em e t =
    ap (λ (z : ℕ × List ℕ × List Float × List Float). (z.0, scan_lists w32 w64 original out z.1 z.2 z.3)) t
    ∙ ap (closed_with l) (e ∙ ap (λ (z : Manifold). loops_closed (config_of weight set z) s l.work32 l.work64 l.original l.out) em)

-- ---- a float's text

module _ (x : Float) (blank l : Line) (b : blank ≡ empty) (e : l ≡ with_text blank (float_text x)) where
  short : length (float_text x) ≤ 256
  short = let h = float_length x in omega arith

  made : l ≡ with_text empty (float_text x)
  made = e ∙ ap (λ (z : Line). with_text z (float_text x)) b

  text_used : l.used ≡ length (float_text x)
  text_used = ap (λ (z : Line). z.used) made ∙ used_whole (float_text x) short

  text_shown : take l.used l.bytes ≡ float_text x
  text_shown = ap (λ (z : Line). take z.used z.bytes) made ∙ shown_whole (float_text x) short

  pub text_count : l.used ≡ length (take l.used l.bytes)
  text_count = text_used ∙ sym (ap length text_shown)

  pub text_few : l.used ≤ 13
  text_few = let h = float_length x in let u = text_used in omega arith

  pub text_inside : l.used ≤ length l.bytes
  text_inside =
      let n = text_count in
      omega (arith, length-append (take l.used l.bytes) (drop l.used l.bytes), ap length (take-append-drop l.used l.bytes))

  module _ (found : List ℕ) (h : length found ≡ 16) where
    pub text_fits : length (take l.used l.bytes) ≤ length found
    text_fits = let n = text_count in let f = text_few in omega arith

    pub text_told : {left : List ℕ} → (let s = take l.used l.bytes in left ≡ take (length s) s ++ drop (length s) found)
        → (l.used, left) ≡ text_out x found
    unfolding text_out
    text_told g = taken _ (eq-eqb _ _ h) (rw (g, text_shown, text_used, take-length (float_text x)))
