use Rattle.std.proofs.Common.{◌≡◌, ℕ, Ok, Err, MatchResult, IsErrAnd, ap, arith}
use Rattle.listings.specs.Runs.{Step, Verdict, rejected, verdict_at}
use Rattle.listings.specs.declared.rejection.Rejection.{Rejection}
use Rattle.systems.specs.Edits.{Answer}
use Rattle.systems.specs.declared.refusal.Refusal.{Refusal}
use Rattle.quotients.specs.Steps.{Progress, step, answer_of}
use Rattle.quotients.specs.Progress.{progress_of}
use Rattle.quotients.proofs.takes.QuotientParserLineParser.take.Goals as goal

-- a refusal that is given its line
at_line : {P : Refusal → Rejection → Type 0} (n : ℕ) (s : Step Progress) (r : Answer) (v : Verdict) → r ≡ answer_of s → MatchResult r (λ u. v ≡ Ok u) (λ e. IsErrAnd v (P e)) → ((e : Refusal) (d : Rejection) → P e d → d ≡ rejected e n) → v ≡ verdict_at n s
at_line n (Ok q) r v is found learns = rw is at found
at_line n (Err e) r (Ok u) is found learns = absurd (rw is at found)
at_line n (Err e) r (Err d) is found learns = ap Err (learns e d (rw is at found))

pub returns : goal.returns
returns c = record {
  answer = at_line c.args.number (step (progress_of c.args.self.now) c.args.line.now) c.take_line.result c.map_err.result c.take_line.ensures.answer c.map_err.ensures.cases (λ e d learnt. grind arith);
  next = c.take_line.ensures.after;
}
