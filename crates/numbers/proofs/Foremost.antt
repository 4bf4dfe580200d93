-- A table of refusals says a refusal exactly where that refusal is the foremost of the table, and says nothing exactly where the table is silent.
-- Assumes nothing.
use Rattle.std.proofs.Common.{◌≡◌, ℕ, zero, suc, ◌<◌, Bool, true, false, List, [], ◌∷◌, ◌++◌, sym, refl, ap, ◌∙◌, subst, arith, Err, Ok}
use Rattle.numbers.specs.declared.Refusal.{Refusal}
use Rattle.numbers.specs.Refusals.{refusal, or_else, ask, Fault, ask_all, says, lowest, Row, read, verdict, Verdict}
use Rattle.numbers.specs.Foremost.{NoneAt, Silent, Foremost}
use Rattle.numbers.proofs.Reading.{refused_not_fine, or_second, ask_fine, asked_before, place_at, read_before}
use Rattle.numbers.proofs.Searching.{lowest_hit}
use Rattle.numbers.proofs.Speaking.{same_refusal, read_refused, row_speaks}

or_fine : (v : Verdict) → or_else v (Ok tt) ≡ v
or_fine (Ok _) = refl
or_fine (Err r) = refl

-- ---- the faults of a place

asked_none : (v : Verdict) (fs : List Fault) (p : ℕ) → NoneAt fs p → ask_all v fs p ≡ v
asked_none v [] p h = refl
asked_none v (f ∷ fs) p h = rw (h.0, or_fine v) (asked_none v fs p h.1)

none_asked : (v : Verdict) (fs : List Fault) (p : ℕ) → ask_all v fs p ≡ Ok tt → NoneAt fs p
none_asked v [] p e = tt
none_asked v (f ∷ fs) p e =
    let w = or_else v (ask (f.has p) f.number p) in
    (ask_fine (f.has p) f.number p (or_second v _ (asked_before w fs p e)), none_asked w fs p e)

asked_refused : (q : Refusal) (fs : List Fault) (p : ℕ) → ask_all (Err q) fs p ≡ Err q
asked_refused q [] p = refl
asked_refused q (f ∷ fs) p = asked_refused q fs p

asked_join : (v : Verdict) (fs gs : List Fault) (p : ℕ) → ask_all v (fs ++ gs) p ≡ ask_all (ask_all v fs p) gs p
asked_join v [] gs p = refl
asked_join v (f ∷ fs) gs p = asked_join (or_else v (ask (f.has p) f.number p)) fs gs p

-- the first fault of a place speaks
fault_speaks : (before : List Fault) (f : Fault) (after : List Fault) (q : Refusal)
    → NoneAt before q.place → f.has q.place ≡ true → f.number ≡ q.number → says (before ++ (f ∷ after)) q.place ≡ Err q
fault_speaks before f after q none there number =
    let e : ask_all (ask_all (Ok tt) before q.place) (f ∷ after) q.place ≡ Err q =
    rw (asked_none (Ok tt) before q.place none, there, number) (asked_refused q after q.place) in
    asked_join (Ok tt) before (f ∷ after) q.place ∙ e

-- the fault that spoke at a place p, and what stands about it
record Spoke (fs : List Fault) (p : ℕ) (q : Refusal) : Type 0 where
  before : List Fault
  its_fault : Fault
  after : List Fault
  faults_are : fs ≡ before ++ (its_fault ∷ after)
  number : its_fault.number ≡ q.number
  place : p ≡ q.place
  there : its_fault.has p ≡ true
  none_before : NoneAt before p

spoke_later : (f : Fault) (fs : List Fault) (p : ℕ) (q : Refusal) → f.has p ≡ false → Spoke fs p q → Spoke (f ∷ fs) p q
spoke_later f fs p q h s =
    record {
      before = f ∷ s.before;
      its_fault = s.its_fault;
      after = s.after;
      faults_are = ap (λ (gs : List Fault). f ∷ gs) s.faults_are;
      number = s.number;
      place = s.place;
      there = s.there;
      none_before = (h, s.none_before);
    }

fault_spoke : (fs : List Fault) (p : ℕ) (q : Refusal) → says fs p ≡ Err q → Spoke fs p q
fault_spoke [] p q e = absurd (refused_not_fine (sym e))
fault_spoke (f ∷ fs) p q e = go (λ h. fault_spoke fs p q h) (f.has p) refl e
  where
    go : (says fs p ≡ Err q → Spoke fs p q) → (b : Bool) → f.has p ≡ b → ask_all (ask b f.number p) fs p ≡ Err q → Spoke (f ∷ fs) p q
    go rec false h s = spoke_later f fs p q h (rec s)
    go rec true h s =
        let same = same_refusal (sym (asked_refused (refusal f.number p) fs p) ∙ s) in
        record {
          before = [];
          its_fault = f;
          after = fs;
          faults_are = refl;
          number = ap (λ (r : Refusal). r.number) same;
          place = ap (λ (r : Refusal). r.place) same;
          there = h;
          none_before = tt;
        }

-- ---- the places of a row

lowest_none : (fs : List Fault) (n : ℕ) → ((p : ℕ) → p < n → NoneAt fs p) → lowest fs n ≡ Ok tt
lowest_none fs zero h = refl
lowest_none fs (suc n) h = rw (lowest_none fs n (λ p l. h p (omega arith))) (asked_none (Ok tt) fs n (h n (omega arith)))

none_lowest : (fs : List Fault) (n : ℕ) → lowest fs n ≡ Ok tt → (p : ℕ) → p < n → NoneAt fs p
none_lowest fs n e p l = none_asked (Ok tt) fs p (place_at fs n p l e)

-- the place p of a row that spoke first, and its fault
record Lowest (fs : List Fault) (n p : ℕ) (q : Refusal) : Type 0 where
  below : p < n
  earlier : (k : ℕ) → k < p → NoneAt fs k
  spoke : Spoke fs p q

lowest_spoke : (fs : List Fault) (n : ℕ) (q : Refusal) → lowest fs n ≡ Err q → Lowest fs n q.place q
lowest_spoke fs zero q e = absurd (refused_not_fine (sym e))
lowest_spoke fs (suc n) q e = go (λ h. lowest_spoke fs n q h) (lowest fs n) refl e
  where
    go : (lowest fs n ≡ Err q → Lowest fs n q.place q) → (v : Verdict)
        → lowest fs n ≡ v → or_else v (says fs n) ≡ Err q → Lowest fs (suc n) q.place q
    go rec (Err r) h s =
        let f = rec (h ∙ s) in
        let l = f.below in
        record { below = omega arith; earlier = f.earlier; spoke = f.spoke }
    go rec (Ok _) h s =
        let f = fault_spoke fs n q s in
        subst (λ (p : ℕ). Lowest fs (suc n) p q) f.place (record { below = omega arith; earlier = none_lowest fs n h; spoke = f })

-- ---- the rows of a table

read_silent : (v : Verdict) (t : List Row) → Silent t → read v t ≡ v
read_silent v [] h = refl
read_silent v (r ∷ rs) h = rw (lowest_none r.faults r.places h.0, or_fine v) (read_silent v rs h.1)

silent_read : (v : Verdict) (t : List Row) → read v t ≡ Ok tt → Silent t
silent_read v [] e = tt
silent_read v (r ∷ rs) e =
    let w = or_else v (lowest r.faults r.places) in
    (none_lowest r.faults r.places (or_second v _ (read_before w rs e)), silent_read w rs e)

pub silent_fine : (t : List Row) → Silent t → verdict t ≡ Ok tt
silent_fine t h = read_silent (Ok tt) t h

pub fine_silent : (t : List Row) → verdict t ≡ Ok tt → Silent t
fine_silent t e = silent_read (Ok tt) t e

pub foremost_speaks : (t : List Row) (r : Refusal) → Foremost t r → verdict t ≡ Err r
foremost_speaks t r f =
    let fs = f.its_row.faults in
    let s : says fs r.place ≡ Err r =
    ap (λ (gs : List Fault). says gs r.place) f.faults_are
    ∙ fault_speaks f.faults_before f.its_fault f.faults_after r f.no_fault_before f.there f.number in
    let e : Err r ≡ lowest fs f.its_row.places =
    lowest_hit fs (Ok tt) (Err r) r.place f.its_row.places refl (lowest_none fs r.place f.no_place_before) (sym s) refl f.place in
    ap verdict f.table_is ∙ row_speaks f.rows_before f.its_row f.rows_after r (silent_fine f.rows_before f.no_row_before) (sym e)

-- the first row spoke, or a later one
row_foremost : (row : Row) (rows : List Row) (r : Refusal) → Lowest row.faults row.places r.place r → Foremost (row ∷ rows) r
row_foremost row rows r l =
    record {
      rows_before = [];
      its_row = row;
      rows_after = rows;
      table_is = refl;
      faults_before = l.spoke.before;
      its_fault = l.spoke.its_fault;
      faults_after = l.spoke.after;
      faults_are = l.spoke.faults_are;
      number = l.spoke.number;
      place = l.below;
      there = l.spoke.there;
      no_row_before = tt;
      no_place_before = l.earlier;
      no_fault_before = l.spoke.none_before;
    }

later_foremost : (row : Row) (rows : List Row) (r : Refusal) → ((p : ℕ) → p < row.places → NoneAt row.faults p) → Foremost rows r → Foremost (row ∷ rows) r
later_foremost row rows r h f =
    record {
      rows_before = row ∷ f.rows_before;
      its_row = f.its_row;
      rows_after = f.rows_after;
      table_is = ap (λ (t : List Row). row ∷ t) f.table_is;
      faults_before = f.faults_before;
      its_fault = f.its_fault;
      faults_after = f.faults_after;
      faults_are = f.faults_are;
      number = f.number;
      place = f.place;
      there = f.there;
      no_row_before = (h, f.no_row_before);
      no_place_before = f.no_place_before;
      no_fault_before = f.no_fault_before;
    }

pub speaks_foremost : (t : List Row) (r : Refusal) → verdict t ≡ Err r → Foremost t r
speaks_foremost [] r e = absurd (refused_not_fine (sym e))
speaks_foremost (row ∷ rows) r e = go (λ h. speaks_foremost rows r h) (lowest row.faults row.places) refl e
  where
    go : (verdict rows ≡ Err r → Foremost rows r) → (v : Verdict)
        → lowest row.faults row.places ≡ v → read v rows ≡ Err r → Foremost (row ∷ rows) r
    go rec (Ok _) h s = later_foremost row rows r (none_lowest row.faults row.places h) (rec s)
    go rec (Err q) h s = row_foremost row rows r (lowest_spoke row.faults row.places r (h ∙ (sym (read_refused q rows) ∙ s)))
