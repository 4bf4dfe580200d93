-- Which row of a table of refusals speaks: a row whose number stands in no other gives its refusal exactly where the rows before it say nothing and the
-- first of its places that has the fault is the refusal's. Assumes nothing.
use Rattle.std.proofs.Common.{◌≡◌, ℕ, zero, suc, ◌<◌, Bool, true, false, ◌||◌, eqb, List, [], ◌∷◌, ◌++◌, sym, refl, ap, ◌∙◌, subst, true≢false, arith, eq-eqb, Err, Ok}
use Rattle.numbers.specs.declared.Refusal.{Refusal}
use Rattle.numbers.specs.Refusals.{refusal, or_else, ask, Fault, fault, ask_all, says, lowest, Row, read, verdict, Verdict}
use Rattle.numbers.proofs.Tests.{neither_first, neither_second}
use Rattle.numbers.proofs.Reading.{refused_not_fine, row_fault}
use Rattle.numbers.proofs.Searching.{lowest_hit}
use Rattle.numbers.proofs.Firsts.{First}

-- ---- numbers that stand in a table

-- one of the faults has the number n
abbrev pub among_faults : ℕ → List Fault → Bool
among_faults n [] = false
among_faults n (f ∷ fs) = eqb f.number n || among_faults n fs

-- one of the rows has a fault of the number n
abbrev pub among_rows : ℕ → List Row → Bool
among_rows n [] = false
among_rows n (r ∷ rs) = among_faults n r.faults || among_rows n rs

pub same_refusal : {r q : Refusal} → ◌≡◌ {A = Verdict} (Err r) (Err q) → r ≡ q
same_refusal e = cc

ask_number : (b : Bool) (n p : ℕ) (q : Refusal) → ask b n p ≡ Err q → n ≡ q.number
ask_number true n p q e = ap (λ (r : Refusal). r.number) (same_refusal e)
ask_number false n p q e = absurd (refused_not_fine (sym e))

or_other : (v w : Verdict) (q : Refusal) → or_else v w ≡ Err q → (w ≡ Err q → ⊥) → v ≡ Err q
or_other (Ok _) w q e n = absurd (n e)
or_other (Err r) w q e n = e

-- a refusal whose number stands not among the faults was there before
all_other : (v : Verdict) (fs : List Fault) (p : ℕ) (q : Refusal) → among_faults q.number fs ≡ false → ask_all v fs p ≡ Err q → v ≡ Err q
all_other v [] p q n e = e
all_other v (f ∷ fs) p q n e =
    or_other v _ q (all_other _ fs p q (neither_second (eqb f.number q.number) _ n) e)
    (λ h. true≢false (sym (eq-eqb f.number q.number (ask_number (f.has p) f.number p q h)) ∙ neither_first _ (among_faults q.number fs) n))

lowest_other : (fs : List Fault) (n : ℕ) (q : Refusal) → among_faults q.number fs ≡ false → lowest fs n ≡ Err q → ⊥
lowest_other fs zero q h e = refused_not_fine (sym e)
lowest_other fs (suc n) q h e = lowest_other fs n q h (or_other (lowest fs n) (says fs n) q e (λ s. refused_not_fine (sym (all_other (Ok tt) fs n q h s))))

read_other : (v : Verdict) (rs : List Row) (q : Refusal) → among_rows q.number rs ≡ false → read v rs ≡ Err q → v ≡ Err q
read_other v [] q h e = e
read_other v (r ∷ rs) q h e =
    or_other v _ q (read_other _ rs q (neither_second (among_faults q.number r.faults) _ h) e)
    (lowest_other r.faults r.places q (neither_first _ (among_rows q.number rs) h))

-- ---- rows before and after one

pub read_refused : (q : Refusal) (rs : List Row) → read (Err q) rs ≡ Err q
read_refused q [] = refl
read_refused q (r ∷ rs) = read_refused q rs

read_join : (v : Verdict) (rs ss : List Row) → read v (rs ++ ss) ≡ read (read v rs) ss
read_join v [] ss = refl
read_join v (r ∷ rs) ss = read_join (or_else v (lowest r.faults r.places)) rs ss

module _ (before : List Row) (r : Row) (after : List Row) (q : Refusal) where
  pub row_speaks : verdict before ≡ Ok tt → lowest r.faults r.places ≡ Err q → verdict (before ++ (r ∷ after)) ≡ Err q
  row_speaks h s =
      let e : read (verdict before) (r ∷ after) ≡ Err q = rw (h, s) (read_refused q after) in
      read_join (Ok tt) before (r ∷ after) ∙ e

  pub row_spoke : among_rows q.number before ≡ false → among_rows q.number after ≡ false
      → verdict (before ++ (r ∷ after)) ≡ Err q → (verdict before ≡ Ok tt) × (lowest r.faults r.places ≡ Err q)
  row_spoke other other' e = go (verdict before) refl (read_other _ after q other' (sym (read_join (Ok tt) before (r ∷ after)) ∙ e))
    where
      go : (v : Verdict) → verdict before ≡ v → or_else (verdict before) (lowest r.faults r.places) ≡ Err q
          → (verdict before ≡ Ok tt) × (lowest r.faults r.places ≡ Err q)
      go (Ok _) h s = (h, ap (λ (v : Verdict). or_else v (lowest r.faults r.places)) (sym h) ∙ s)
      go (Err p) h s =
          let g : Err p ≡ Err q = ap (λ (v : Verdict). or_else v (lowest r.faults r.places)) (sym h) ∙ s in
          absurd (refused_not_fine (sym (read_other (Ok tt) before q other (h ∙ g))))

-- ---- rows that look for one fault

-- which is at the same places
pub lowest_ext : (c : ℕ) (t u : ℕ → Bool) (n : ℕ) → ((x : ℕ) → t x ≡ u x) → lowest (fault c t ∷ []) n ≡ lowest (fault c u ∷ []) n
lowest_ext c t u zero h = refl
lowest_ext c t u (suc n) h = rw (lowest_ext c t u n h, h n)

-- whose first place speaks
module _ (c : ℕ) (t : ℕ → Bool) where
  pub none_earlier : (n : ℕ) → ((q : ℕ) → q < n → t q ≡ false) → lowest (fault c t ∷ []) n ≡ Ok tt
  none_earlier zero h = refl
  none_earlier (suc n) h = rw (none_earlier n (λ q l. h q (omega arith)), h n (omega arith))

  pub first_lowest : (n p : ℕ) → First t n p → lowest (fault c t ∷ []) n ≡ Err (refusal c p)
  first_lowest n p f =
      let s : says (fault c t ∷ []) p ≡ Err (refusal c p) = rw f.holds in
      sym (lowest_hit (fault c t ∷ []) (Ok tt) (Err (refusal c p)) p n refl (none_earlier p f.earlier) (sym s) refl f.below)

  pub lowest_first : (n p : ℕ) → lowest (fault c t ∷ []) n ≡ Err (refusal c p) → First t n p
  lowest_first zero p e = absurd (refused_not_fine (sym e))
  lowest_first (suc n) p e = go (λ h. lowest_first n p h) (lowest (fault c t ∷ []) n) (t n) refl refl e
    where
      go : (lowest (fault c t ∷ []) n ≡ Err (refusal c p) → First t n p)
          → (v : Verdict) (b : Bool) → lowest (fault c t ∷ []) n ≡ v → t n ≡ b → or_else v (ask b c n) ≡ Err (refusal c p) → First t (suc n) p
      go rec (Err r) b h s d = let f = rec (h ∙ d) in record { below = let l = f.below in omega arith; holds = f.holds; earlier = f.earlier }
      go rec (Ok _) false h s d = absurd (refused_not_fine (sym d))
      go rec (Ok _) true h s d =
          let z : n ≡ p = ap (λ (r : Refusal). r.place) (same_refusal d) in
          subst (First t (suc n)) z (record { below = omega arith; holds = s; earlier = λ q l. row_fault (fault c t ∷ []) n 0 q h l })
