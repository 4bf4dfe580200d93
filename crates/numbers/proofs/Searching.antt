-- A search in rising order through a row of the table of refusals: what has been passed, and what a hit settles. Assumes nothing.
use Rattle.std.proofs.Common.{◌≡◌, ℕ, ◌+◌, ◌<◌, List, sym, ◌∙◌, add-one, Err, Ok}
use native.Mathlib.Decide.{le_ind}
use Rattle.numbers.specs.declared.Refusal.{Refusal}
use Rattle.numbers.specs.Refusals.{Fault, or_else, says, lowest, Verdict}

module _ (fs : List Fault) where
  pub lowest_more : (n : ℕ) → lowest fs n ≡ Ok tt → says fs n ≡ Ok tt → lowest fs (n + 1) ≡ Ok tt
  lowest_more n e h = rw (add-one, e) h

  hit : (i n : ℕ) (r : Refusal) → i < n → lowest fs i ≡ Ok tt → says fs i ≡ Err r → lowest fs n ≡ Err r
  hit i n r l e h = le_ind (λ (m : ℕ). lowest fs m ≡ Err r) (rw e h) (λ m _ g. rw g) n l

  -- a place that speaks, with nothing said before, settles the row
  pub lowest_hit : (v s : Verdict) (i n : ℕ) {r : Refusal} → v ≡ Ok tt → lowest fs i ≡ Ok tt → s ≡ says fs i → s ≡ Err r → i < n → s ≡ or_else v (lowest fs n)
  lowest_hit v s i n {r} u e h g l = rw u (g ∙ sym (hit i n r l e (sym h ∙ g)))

  -- all places passed
  pub lowest_end : (v : Verdict) (i n : ℕ) → v ≡ Ok tt → lowest fs i ≡ Ok tt → i ≡ n → Ok tt ≡ or_else v (lowest fs n)
  lowest_end v i n u e h = rw (u, ← h) (sym e)
