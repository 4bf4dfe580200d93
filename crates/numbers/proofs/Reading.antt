-- What it says that a table of refusals says nothing: no row, no place and no fault of it does. Assumes nothing.
use Rattle.std.proofs.Common.{◌≡◌, ℕ, zero, suc, ◌<◌, Bool, true, false, List, [], ◌∷◌, get_or, refl, ap, ◌∙◌, ⊎_elim, le_of_suc-le-suc, not-suc-le-zero, eq-or-lt_of_le, arith, Err, Ok}
use Rattle.numbers.specs.declared.Refusal.{Refusal}
use Rattle.numbers.specs.Refusals.{or_else, ask, Fault, fault, ask_all, says, lowest, Row, placed, read, Verdict}

pub refused_not_fine : {r : Refusal} → ◌≡◌ {A = Verdict} (Err r) (Ok tt) → ⊥
refused_not_fine e = let z : ◌≡◌ {A = ℕ} 0 1 = cc in omega arith

pub or_first : (v w : Verdict) → or_else v w ≡ Ok tt → v ≡ Ok tt
or_first (Ok _) w e = refl
or_first (Err r) w e = e

pub or_second : (v w : Verdict) → or_else v w ≡ Ok tt → w ≡ Ok tt
or_second (Ok _) w e = e
or_second (Err r) w e = absurd (refused_not_fine e)

pub ask_fine : (b : Bool) (n p : ℕ) → ask b n p ≡ Ok tt → b ≡ false
ask_fine true n p e = absurd (refused_not_fine e)
ask_fine false n p e = refl

pub asked_before : (v : Verdict) (fs : List Fault) (p : ℕ) → ask_all v fs p ≡ Ok tt → v ≡ Ok tt
asked_before v [] p e = e
asked_before v (f ∷ fs) p e = or_first v _ (asked_before (or_else v (ask (f.has p) f.number p)) fs p e)

-- the n-th fault of a place that says nothing is not there
pub fault_at : (v : Verdict) (fs : List Fault) (n p : ℕ) → ask_all v fs p ≡ Ok tt → (get_or fs n (fault 0 (λ _. false))).has p ≡ false
fault_at v [] n p e = refl
fault_at v (f ∷ fs) zero p e = ask_fine (f.has p) f.number p (or_second v _ (asked_before (or_else v (ask (f.has p) f.number p)) fs p e))
fault_at v (f ∷ fs) (suc n) p e = fault_at (or_else v (ask (f.has p) f.number p)) fs n p e

pub place_at : (fs : List Fault) (n k : ℕ) → k < n → lowest fs n ≡ Ok tt → says fs k ≡ Ok tt
place_at fs zero k l e = absurd (not-suc-le-zero l)
place_at fs (suc n) k l e =
    ⊎_elim
    (λ (i : k ≡ n). ap (says fs) i ∙ or_second (lowest fs n) (says fs n) e)
    (λ (i : k < n). place_at fs n k i (or_first (lowest fs n) (says fs n) e))
    (eq-or-lt_of_le (le_of_suc-le-suc l))

-- the same of a place of a row
pub row_fault : (fs : List Fault) (n j k : ℕ) → lowest fs n ≡ Ok tt → k < n → (get_or fs j (fault 0 (λ _. false))).has k ≡ false
row_fault fs n j k e l = fault_at (Ok tt) fs j k (place_at fs n k l e)

pub read_before : (v : Verdict) (rs : List Row) → read v rs ≡ Ok tt → v ≡ Ok tt
read_before v [] e = e
read_before v (r ∷ rs) e = or_first v _ (read_before (or_else v (lowest r.faults r.places)) rs e)

-- the n-th row of a table that says nothing says nothing
pub row_at : (v : Verdict) (rs : List Row) (n : ℕ) → read v rs ≡ Ok tt → lowest (get_or rs n (placed 0 [])).faults (get_or rs n (placed 0 [])).places ≡ Ok tt
row_at v [] n e = refl
row_at v (r ∷ rs) zero e = or_second v _ (read_before (or_else v (lowest r.faults r.places)) rs e)
row_at v (r ∷ rs) (suc n) e = row_at (or_else v (lowest r.faults r.places)) rs n e
