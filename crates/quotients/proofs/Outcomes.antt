-- What a whole text comes to, by the run of a parser over it.
use Rattle.std.proofs.Common.{◌≡◌, List, ℕ, Ok, Err, sym, ap}
use Rattle.listings.proofs.Outcomes.{Fits, run_fits}
use Rattle.listings.specs.Runs.{Run, Verdict}
use Rattle.listings.specs.declared.rejection.Rejection.{Rejection}
use Rattle.systems.specs.Entries.{MoveEntry, LightEntry}
use Rattle.quotients.specs.contracts.takes.QuotientParserLineParser.TheImpl as parsers
use Rattle.quotients.specs.declared.parser.QuotientParser.{QuotientParser}
use Rattle.quotients.specs.Outcomes.{Outcome, complete}
use Rattle.quotients.specs.Progress.{progress_of}
use Rattle.quotients.specs.Quotients.{first, reading_into}
use Rattle.quotients.specs.Steps.{Progress, step}

refused : (e : Rejection) (q : Progress) (o : Outcome) → Fits (Err e) q o → o ≡ Err e
refused e q (Ok x) fit = absurd (let z : Err e ≡ Ok tt = fit.0 in cc)
refused e q (Err f) fit = ap Err (let z : Err f ≡ Err e = sym fit in cc)

taken : (q : Progress) (o : Outcome) → Fits (Ok tt) q o → o ≡ Ok q
taken q (Ok x) fit = ap Ok (sym fit.1)
taken q (Err f) fit = absurd (let z : Ok tt ≡ Err f = fit in cc)

module _ (ms : List MoveEntry) (ls : List LightEntry) (t : List ℕ) (p q : QuotientParser) (starts : progress_of p ≡ first ms ls) where
  -- the parser's own words for what it takes
  abbrev Ran : Verdict → Type 0
  Ran v = Run parsers.takes-value.it parsers.complete-value.it t p q v

  fits : (v : Verdict) → Ran v → Fits v (progress_of q) (reading_into ms ls t)
  fits v ran = rw (← starts) (run_fits step complete progress_of ran)

  pub text_refused : (e : Rejection) → Ran (Err e) → reading_into ms ls t ≡ Err e
  text_refused e ran = refused e (progress_of q) (reading_into ms ls t) (fits (Err e) ran)

  pub text_taken : Ran (Ok tt) → reading_into ms ls t ≡ Ok (progress_of q)
  text_taken ran = taken (progress_of q) (reading_into ms ls t) (fits (Ok tt) ran)
