-- What a run over a text comes to where a step that is a function takes its lines.
use Rattle.std.proofs.Common.{◌≡◌, ℕ, suc, Bool, List, length, Ok, Err, Result, sym, refl}
use Rattle.std.proofs.lemmas.Bool.{lt-ltb, le-ltb}
use Rattle.text.specs.Lines.{Line}
use Rattle.listings.specs.Runs.{Judged, Run, Verdict, Step, Took, next_of, verdict_at, verdict_of, lines_read, text_read, rejected, longest_paper, ended, early, open_line, refused, next, too_long, judged}
use Rattle.listings.specs.declared.rejection.Rejection.{Rejection}

-- a verdict with how far was read agrees with an outcome
abbrev pub Fits : {P : Type 0} → Verdict → P → Result P Rejection → Type 0
Fits v q (Ok o) = (v ≡ Ok tt) × (q ≡ o)
Fits v q (Err e) = v ≡ Err e

module _ {P : Type 0} (step : P → List ℕ → Step P) (complete : P → Bool) where
  -- what follows a line, where its step is s
  abbrev on : ℕ → List Line → Step P → Result P Rejection
  on n ls s = elim s [ Ok q ↦ lines_read step complete q (suc n) ls | Err e ↦ Err (rejected e n) ]

  stopped_by : (s : Step P) (n : ℕ) (ls : List Line) (e : Rejection) (q : P) → Err e ≡ verdict_at n s → Fits (Err e) q (on n ls s)
  stopped_by (Ok p) n ls e q is = absurd (cc)
  stopped_by (Err f) n ls e q is = is

  gone_on : (s : Step P) (n : ℕ) (ls : List Line) (p q r : P) (v : Verdict) → Ok tt ≡ verdict_at n s → q ≡ next_of s p → Fits v r (lines_read step complete q (suc n) ls) → Fits v r (on n ls s)
  gone_on (Ok o) n ls p q r v is went rest = rw (sym went) rest
  gone_on (Err f) n ls p q r v is went rest = absurd (cc)

  module _ {Q : Type 0} (progress : Q → P) where
    abbrev pub takes : Q → ℕ → List ℕ → Q → Verdict → Type 0
    takes p n l q v = Took step (progress p) n l (progress q) v

    abbrev pub ends : Q → Bool
    ends p = complete (progress p)

    judged_fits : {n : ℕ} {ls : List Line} {p q : Q} {v : Verdict} → Judged takes ends n ls p q v → Fits v (progress q) (lines_read step complete (progress p) n ls)
    judged_fits (ended done) = rw done (refl, refl)
    judged_fits (early not_yet) = rw not_yet refl
    judged_fits (open_line left_open) = rw left_open refl
    judged_fits (refused {p = p} {l = l} is-ended took) = rw is-ended (stopped_by (step (progress p) l.bytes) _ _ _ _ took.answer)
    judged_fits (next {p = p} {l = l} is-ended took rest) = rw is-ended (gone_on (step (progress p) l.bytes) _ _ _ _ _ _ took.answer took.next (judged_fits rest))

    pub run_fits : {t : List ℕ} {p q : Q} {v : Verdict} → Run takes ends t p q v → Fits v (progress q) (text_read step complete (progress p) t)
    run_fits {t} (too_long long) = rw (lt-ltb longest_paper (length t) long) refl
    run_fits {t} (judged short rest) = rw (le-ltb longest_paper (length t) short) (judged_fits rest)

-- what is answered, by the outcome that fits
pub answer_fits : {P : Type 0} (v : Verdict) (q : P) (o : Result P Rejection) → Fits v q o → v ≡ verdict_of o
answer_fits v q (Ok x) fit = fit.0
answer_fits v q (Err e) fit = fit
