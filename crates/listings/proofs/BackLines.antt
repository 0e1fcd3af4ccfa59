-- Texts that lead a reading from one place to another.
use Rattle.std.proofs.Common.{◌≡◌, ℕ, suc, ◌≤◌, List, [], ◌∷◌, ◌++◌, length, Ok, Err, Result, sym, ap, ◌∙◌, append_assoc, append-nil}
use Rattle.std.proofs.lemmas.Bool.{le-ltb}
use Rattle.systems.specs.Making.{Making}
use Rattle.text.proofs.Before.{Without}
use Rattle.text.proofs.Feeds.{lines_feed}
use Rattle.text.specs.Lines.{Line, lines}
use Rattle.listings.specs.Parts.{Step, step}
use Rattle.listings.specs.Readings.{Progress, line_step, complete, made_of, reading}
use Rattle.listings.specs.Runs.{lines_read, rejected, longest_paper}
use Rattle.listings.specs.declared.rejection.Rejection.{Rejection}
use Rattle.listings.specs.declared.part.Stage.{Stage}
use Rattle.listings.specs.declared.part.Stage.TheVariants.{SizesNames, Lights}

-- the lines from a stage on, with what is made so far, where the first has the number n
abbrev pub reading_from : Stage → Making → ℕ → List Line → Result Progress Rejection
reading_from st m n ls = lines_read line_step complete (st, m) n ls

-- The text t takes the reading from one stage and what is made to others, whatever comes after it.
-- The number of the next line matters to refusals alone, so it is left open.
pub record Leads (st : Stage) (m : Making) (t : List ℕ) (st' : Stage) (m' : Making) : Type 0 where
  pub lead : (n : ℕ) (rest : List ℕ) → (k : ℕ) × (reading_from st m n (lines (t ++ rest)) ≡ reading_from st' m' k (lines rest))

pub leads_none : {st : Stage} {m m' : Making} → m ≡ m' → Leads st m [] st m'
leads_none {st} {m} {m'} same = record { lead = λ n rest. (n, ap (λ (x : Making). reading_from st x n (lines rest)) same) }

-- the same places under other names
pub leads_as : {st st' : Stage} {m₀ m m' m'' : Making} {t : List ℕ} → m₀ ≡ m → m' ≡ m'' → Leads st m t st' m' → Leads st m₀ t st' m''
leads_as from to leads = rw (from, sym to) leads

pub leads_both : {st st' st'' : Stage} {m m' m'' : Making} {t u : List ℕ} → Leads st m t st' m' → Leads st' m' u st'' m'' → Leads st m (t ++ u) st'' m''
leads_both {st} {st'} {st''} {m} {m'} {m''} {t} {u} first second = record {
  lead = λ n rest.
      let p = first.lead n (u ++ rest) in
      let q = second.lead p.0 rest in
      (q.0, ap (λ xs. reading_from st m n (lines xs)) (append_assoc t u rest) ∙ p.1 ∙ q.1);
}

-- one line with its feed
on : ℕ → List Line → Step → Result Progress Rejection
on n ls s = elim s [ Ok p ↦ reading_from p.0 p.1 (suc n) ls | Err e ↦ Err (rejected e n) ]

pub leads_line : {st st' : Stage} {m m' : Making} (u : List ℕ) → Without 10 u → step st m u ≡ Ok (st', m') → Leads st m (u ++ (10 ∷ [])) st' m'
unfolding on
leads_line {st} {st'} {m} {m'} u no-feed goes = record {
  lead = λ n rest. (suc n, ap (λ xs. reading_from st m n (lines xs)) (append_assoc u (10 ∷ []) rest) ∙ ap (reading_from st m n) (lines_feed u rest no-feed) ∙ ap (on n (lines rest)) goes);
}

-- a text that leads to the lights of m' is read as m'
pub leads_reads : (m m' : Making) (t : List ℕ) → length t ≤ longest_paper → Leads SizesNames m t Lights m' → reading m t ≡ Ok m'
leads_reads m m' t short leads =
    rw (le-ltb longest_paper (length t) short) (ap made_of (ap (λ xs. reading_from SizesNames m 1 (lines xs)) (sym (append-nil t)) ∙ (leads.lead 1 []).1))
