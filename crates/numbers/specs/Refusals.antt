-- How a table of refusals is read (document 01, "What is turned down, and in what order"): its rows in order; in a row its places, rising; at a place its
-- faults, in order. The first that is there speaks. Definitions only.
use Rattle.std.specs.Prelude.{ℕ, zero, suc, Bool, true, false, List, [], ◌∷◌, Result, Ok, Err, ⊤}
use Rattle.numbers.specs.declared.Refusal.{Refusal}

-- what a table of refusals says: nothing, or a refusal
abbrev pub Verdict : Type 0
Verdict = Result ⊤ Refusal

abbrev pub refusal : ℕ → ℕ → Refusal
refusal n p = record { number = n; place = p }

-- what was said, or where nothing was, the next
abbrev pub or_else : Verdict → Verdict → Verdict
or_else (Ok _) w = w
or_else (Err r) w = Err r

-- number n at place p, if the test says that the fault is there
abbrev pub ask : Bool → ℕ → ℕ → Verdict
ask true n p = Err (refusal n p)
ask false n p = Ok tt

-- a fault: its number in the paper, and which places have it
pub record Fault : Type 0 where
  pub number : ℕ
  pub has : ℕ → Bool

abbrev pub fault : ℕ → (ℕ → Bool) → Fault
fault n t = record { number = n; has = t }

-- a place is asked for each fault in order, after what was said before
abbrev pub ask_all : Verdict → List Fault → ℕ → Verdict
ask_all v [] p = v
ask_all v (f ∷ fs) p = ask_all (or_else v (ask (f.has p) f.number p)) fs p

abbrev pub says : List Fault → ℕ → Verdict
says fs p = ask_all (Ok tt) fs p

-- what the places 0, 1, .. below a count say: the lowest that says anything speaks
abbrev pub lowest : List Fault → ℕ → Verdict
lowest fs zero = Ok tt
lowest fs (suc n) = or_else (lowest fs n) (says fs n)

-- a row of the table: how many places it looks at, and the faults that it looks for at each
pub record Row : Type 0 where
  pub places : ℕ
  pub faults : List Fault

-- a row that looks at the input as a whole, and gives place 0
abbrev pub row : ℕ → Bool → Row
row n bad = record { places = 1; faults = fault n (λ _. bad) ∷ [] }

-- rows that go place by place
abbrev pub placed : ℕ → List Fault → Row
placed n fs = record { places = n; faults = fs }

-- the rows in order, after what was said before
abbrev pub read : Verdict → List Row → Verdict
read v [] = v
read v (r ∷ rs) = read (or_else v (lowest r.faults r.places)) rs

abbrev pub verdict : List Row → Verdict
verdict rs = read (Ok tt) rs
