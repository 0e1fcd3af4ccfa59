-- A text taken line by line, whatever takes it: the first faulty line stops the run.
use Rattle.std.specs.Prelude.{◌≡◌, ℕ, suc, ◌<◌, ◌≤◌, Bool, true, false, cond, List, [], ◌∷◌, length, Ok, Err, Result, nat_lt}
use Rattle.systems.specs.declared.refusal.Refusal.{Refusal}
use Rattle.systems.specs.declared.refusal.Refusal.TheVariants.{Length, Form}
use Rattle.text.specs.Lines.{Line, lines}
use Rattle.listings.specs.declared.rejection.Rejection.{Rejection}

abbrev pub Verdict : Type 0
Verdict = Result (Unit {0}) Rejection

abbrev pub rejected : Refusal → ℕ → Rejection
rejected e n = record { refusal = e; line = n }

-- the bytes that a paper may have
abbrev pub longest_paper : ℕ
longest_paper = 32768

-- What becomes of a parser, from p to q, and of the lines ls, the first of which has the number n,
-- where `takes` says what one line with its number makes of a parser and answers, and `complete`
-- where a text may end.
pub data Judged {P : Type 0} (takes : P → ℕ → List ℕ → P → Verdict → Type 0) (complete : P → Bool) : ℕ → List Line → P → P → Verdict → Type 0 where
  ended : {n : ℕ} {p : P} → complete p ≡ true → Judged takes complete n [] p p (Ok tt)
  -- a text that ends early is refused at the line after its last
  early : {n : ℕ} {p : P} → complete p ≡ false → Judged takes complete n [] p p (Err (rejected Form n))
  -- a line that is not ended is refused whatever it holds
  open_line : {n : ℕ} {p : P} {l : Line} {ls : List Line} → l.ended ≡ false → Judged takes complete n (l ∷ ls) p p (Err (rejected Form n))
  refused : {n : ℕ} {p q : P} {l : Line} {ls : List Line} {e : Rejection} → l.ended ≡ true → takes p n l.bytes q (Err e) → Judged takes complete n (l ∷ ls) p q (Err e)
  next : {n : ℕ} {p q r : P} {l : Line} {ls : List Line} {v : Verdict} → l.ended ≡ true → takes p n l.bytes q (Ok tt) → Judged takes complete (suc n) ls q r v → Judged takes complete n (l ∷ ls) p r v

-- a text that is too long is refused at line 0, and any other is judged from line 1 on
pub data Run {P : Type 0} (takes : P → ℕ → List ℕ → P → Verdict → Type 0) (complete : P → Bool) (t : List ℕ) : P → P → Verdict → Type 0 where
  too_long : {p : P} → longest_paper < length t → Run takes complete t p p (Err (rejected Length 0))
  judged : {p q : P} {v : Verdict} → length t ≤ longest_paper → Judged takes complete 1 (lines t) p q v → Run takes complete t p q v

-- Where a line leads by a step that is a function: to what is read so far then, or to a refusal.
abbrev pub Step : Type 0 → Type 0
Step P = Result P Refusal

-- a refused line changes nothing
abbrev pub next_of : {P : Type 0} → Step P → P → P
next_of (Ok q) p = q
next_of (Err e) p = p

-- what is answered to a line of the number n
abbrev pub verdict_at : {P : Type 0} → ℕ → Step P → Verdict
verdict_at n (Ok q) = Ok tt
verdict_at n (Err e) = Err (rejected e n)

-- one line, taken as the step says
pub record Took {P : Type 0} (step : P → List ℕ → Step P) (p : P) (n : ℕ) (l : List ℕ) (q : P) (v : Verdict) : Type 0 where
  pub answer : v ≡ verdict_at n (step p l)
  pub next : q ≡ next_of (step p l) p

-- How far the lines of a text are read, the first of which has the number n, or why it is refused, and
-- at which line: the first faulty one stops the reading.
abbrev pub lines_read : {P : Type 0} → (P → List ℕ → Step P) → (P → Bool) → P → ℕ → List Line → Result P Rejection
lines_read step complete p n [] = cond (complete p) (Ok p) (Err (rejected Form n))
lines_read step complete p n (l ∷ ls) =
    cond l.ended (elim (step p l.bytes) [ Ok q ↦ lines_read step complete q (suc n) ls | Err e ↦ Err (rejected e n) ]) (Err (rejected Form n))

abbrev pub text_read : {P : Type 0} → (P → List ℕ → Step P) → (P → Bool) → P → List ℕ → Result P Rejection
text_read step complete p t = cond (nat_lt longest_paper (length t)) (Err (rejected Length 0)) (lines_read step complete p 1 (lines t))

-- the answer to a whole text
abbrev pub verdict_of : {P : Type 0} → Result P Rejection → Verdict
verdict_of (Ok p) = Ok tt
verdict_of (Err e) = Err e
